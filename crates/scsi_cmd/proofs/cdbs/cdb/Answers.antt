-- The CDB has the bytes of `cdb_bytes`, which ask for the operation.
use Rattle.scsi_cmd.specs.Laws.{asked-cdb_bytes}
use Rattle.scsi_cmd.proofs.cdbs.cdb.Goals as goal

pub returns-clause-means : goal.returns-clause-means
returns-clause-means c = λ blocks. rw c.encoded.ensures.text (asked-cdb_bytes _ blocks)

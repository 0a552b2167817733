use Rattle.host_sense.proofs.Lengths.{plain_kept, tells_length}
use Rattle.host_sense.proofs.laws.sense_tells_its_length.Goals as goal

pub returns-clause-length : goal.returns-clause-length
returns-clause-length c = tells_length

pub returns-clause-plain : goal.returns-clause-plain
returns-clause-plain c = plain_kept

use Rattle.std.proofs.Common.{refl}
use Rattle.scsi_cmd.specs.Op.{cdb_bytes}
use Rattle.uas_iu.specs.Units.{unit_text}
use Rattle.disk_requests.proofs.laws.rows_are_written.Goals as goal

pub returns-clause-read : goal.returns-clause-read
unfolding cdb_bytes unit_text
returns-clause-read c = refl

pub returns-clause-short_read : goal.returns-clause-short_read
unfolding cdb_bytes unit_text
returns-clause-short_read c = refl

pub returns-clause-far_write : goal.returns-clause-far_write
unfolding cdb_bytes unit_text
returns-clause-far_write c = refl

pub returns-clause-unmap : goal.returns-clause-unmap
unfolding cdb_bytes unit_text
returns-clause-unmap c = refl

pub returns-clause-unmap_list : goal.returns-clause-unmap_list
unfolding cdb_bytes unit_text
returns-clause-unmap_list c = refl

pub returns-clause-page : goal.returns-clause-page
unfolding cdb_bytes unit_text
returns-clause-page c = refl

pub returns-clause-capacity : goal.returns-clause-capacity
unfolding cdb_bytes unit_text
returns-clause-capacity c = refl

pub returns-clause-abort : goal.returns-clause-abort
unfolding cdb_bytes unit_text
returns-clause-abort c = refl

use Rattle.std.proofs.Common.{refl}
use Rattle.scsi_cmd.specs.Data.{inquiry_bytes}
use Rattle.disk_requests.proofs.laws.rows_are_read.Goals as goal

pub returns-clause-attention : goal.returns-clause-attention
returns-clause-attention c = refl

pub returns-clause-response : goal.returns-clause-response
returns-clause-response c = refl

pub returns-clause-short_sense : goal.returns-clause-short_sense
returns-clause-short_sense c = refl

pub returns-clause-blocks : goal.returns-clause-blocks
returns-clause-blocks c = refl

pub returns-clause-ask_long : goal.returns-clause-ask_long
returns-clause-ask_long c = refl

pub returns-clause-long_capacity : goal.returns-clause-long_capacity
returns-clause-long_capacity c = refl

pub returns-clause-block_length : goal.returns-clause-block_length
returns-clause-block_length c = refl

pub returns-clause-readiness : goal.returns-clause-readiness
returns-clause-readiness c = (refl, refl, refl, refl, refl, refl, refl)

pub returns-clause-inquiry : goal.returns-clause-inquiry
unfolding inquiry_bytes
returns-clause-inquiry c = refl

pub returns-clause-no_unit : goal.returns-clause-no_unit
unfolding inquiry_bytes
returns-clause-no_unit c = refl

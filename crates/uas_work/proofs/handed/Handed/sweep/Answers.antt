use Rattle.std.proofs.Common.{rules}
use Rattle.uas_work.proofs.Later.{later_swept}
use Rattle.uas_work.proofs.handed.Handed.sweep.Goals as goal

pub invariant_of-self : goal.invariant_of-self
invariant_of-self g c = record { later = later_swept _ _ _ _ c.sweep.result c.sweep.ensures.swept c.sweep.ensures.some (search rules) }

use Rattle.std.proofs.Common.{◌≡◌, take, length}
use Rattle.uas_tasks.specs.Soundness.{AreCounted}
use Rattle.uas_tasks.proofs.stale.count_anew.Given as goal

-- the slots so far are counted
abbrev pub invariant-loop-slot : goal.invariant-loop-slot
invariant-loop-slot l = record { len : length l.stale ≡ length l.initial.stale; counts : AreCounted l.stale (take l.slot-index l.slots) }

use Rattle.uas_tasks.proofs.Kept.{AreStill}
use Rattle.uas_tasks.proofs.Tasks.has_request_out.Given as goal

-- the slots so far have no request out
abbrev pub invariant-loop-slot : goal.invariant-loop-slot
invariant-loop-slot l = AreStill l.slot-index l.slot-items

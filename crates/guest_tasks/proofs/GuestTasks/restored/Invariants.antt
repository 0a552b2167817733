use Rattle.guest_tasks.proofs.Restored.{MarkedBelow}
use Rattle.guest_tasks.proofs.GuestTasks.restored.Given as goal

abbrev pub invariant-loop-tag : goal.invariant-loop-tag
invariant-loop-tag l = MarkedBelow l.tag l.fn.tasks l.fn.marks l.device

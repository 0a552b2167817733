use Rattle.std.proofs.Common.{◌≡◌, take}
use Rattle.solo_model.specs.Solo.{tickets_of}
use Rattle.solo_model.proofs.machine.tickets_in.Given as goal

abbrev pub invariant-loop-task : goal.invariant-loop-task
invariant-loop-task l = l.tickets.items ≡ tickets_of (take l.task-index l.tasks)

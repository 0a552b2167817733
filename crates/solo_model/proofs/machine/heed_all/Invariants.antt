use Rattle.std.proofs.Common.{◌≡◌, ◌++◌, take, drop}
use Rattle.std.specs.Prelude.{map, option_map}
use Rattle.solo_model.specs.TaggedTask.{after_notes}
use Rattle.solo_model.proofs.machine.heed_all.Given as goal

abbrev pub invariant-loop-task : goal.invariant-loop-task
invariant-loop-task l = l.tasks ≡ map (option_map (after_notes l.noted)) (take l.task-index l.initial.tasks) ++ drop l.task-index l.initial.tasks

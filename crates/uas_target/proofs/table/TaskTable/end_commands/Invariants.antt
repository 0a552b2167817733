use Rattle.std.proofs.Common.{◌≡◌}
use Rattle.uas_target.specs.Tasks.{spared}
use Rattle.uas_target.proofs.Managed.{changed}
use Rattle.uas_target.proofs.table.TaskTable.end_commands.Given as goal

-- the tasks of the tags so far are spared or gone, and all others are as they were
abbrev pub invariant-loop-slot : goal.invariant-loop-slot
invariant-loop-slot l = l.self ≡ changed (spared l.number) l.slot l.initial.self

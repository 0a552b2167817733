use Rattle.std.proofs.Common.{◌≡◌, ◌++◌, map, take, drop}
use Rattle.uas_tasks.specs.Machine.{without_its_task}
use Rattle.uas_tasks.proofs.management.end_all.Given as goal

-- the slots so far are changed, and the others are as they were
abbrev pub invariant-loop-slot : goal.invariant-loop-slot
invariant-loop-slot l =
    l.slots ≡ map without_its_task (take l.slot-index l.initial.slots) ++ drop l.slot-index l.initial.slots

use Rattle.std.proofs.Common.{◌≡◌, ◌++◌, map, take, drop}
use Rattle.uas_tasks.specs.Slots.{spared_slot}
use Rattle.uas_tasks.proofs.management.end_commands.Given as goal

-- the slots so far are changed, and the others are as they were
abbrev pub invariant-loop-slot : goal.invariant-loop-slot
invariant-loop-slot l =
    l.slots ≡ map (spared_slot l.number) (take l.slot-index l.initial.slots) ++ drop l.slot-index l.initial.slots

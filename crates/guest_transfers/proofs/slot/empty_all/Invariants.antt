use Rattle.std.proofs.Common.{◌≡◌, ◌++◌, map, take, drop}
use Rattle.guest_transfers.specs.Orders.{emptied}
use Rattle.guest_transfers.proofs.slot.empty_all.Given as goal

-- the slots so far are changed, and the others are as they were
abbrev pub invariant-loop-slot : goal.invariant-loop-slot
invariant-loop-slot l =
    l.slots ≡ map emptied (take l.slot-index l.initial.slots) ++ drop l.slot-index l.initial.slots

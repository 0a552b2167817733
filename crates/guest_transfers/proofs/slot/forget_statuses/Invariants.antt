use Rattle.std.proofs.Common.{◌≡◌, ◌++◌, map, take, drop}
use Rattle.guest_transfers.specs.Orders.{status_forgotten}
use Rattle.guest_transfers.proofs.slot.forget_statuses.Given as goal

-- the slots so far are changed, and the others are as they were
abbrev pub invariant-loop-slot : goal.invariant-loop-slot
invariant-loop-slot l =
    l.slots ≡ map status_forgotten (take l.slot-index l.initial.slots) ++ drop l.slot-index l.initial.slots

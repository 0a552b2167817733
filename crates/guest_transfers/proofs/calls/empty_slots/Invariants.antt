use Rattle.std.proofs.Common.{◌≡◌, replicate}
use Rattle.guest_transfers.specs.State.{empty_slot}
use Rattle.guest_transfers.proofs.calls.empty_slots.Given as goal

abbrev pub invariant-loop-count : goal.invariant-loop-count
invariant-loop-count l = l.slots.items ≡ replicate l.count empty_slot

use Rattle.std.proofs.Common.{◌≡◌, replicate}
use Rattle.uas_tasks.specs.Slots.{fresh_slot}
use Rattle.uas_tasks.proofs.calls.fresh_slots.Given as goal

abbrev pub invariant-loop-tag : goal.invariant-loop-tag
invariant-loop-tag l = l.slots.items ≡ replicate l._tag (fresh_slot l.chunk l.room)

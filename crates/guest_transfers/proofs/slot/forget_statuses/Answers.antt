use Rattle.std.proofs.Common.{ap, sym, ◌∙◌, slice_set}
use Rattle.std.proofs.lemmas.List.Edits.{map_over_more}
use Rattle.guest_transfers.specs.Orders.{status_forgotten}
use Rattle.guest_transfers.proofs.Places.{map-all}
use Rattle.guest_transfers.proofs.slot.forget_statuses.Goals as goal

pub loop-slot-preserved : goal.loop-slot-preserved
loop-slot-preserved c =
    ap (slice_set c.loop-slot.slots c.loop-slot.slot-index) (c.forget_status.ensures ∙ ap status_forgotten (sym c.slot-item.is))
    ∙ map_over_more status_forgotten c.args.slots.now c.loop-slot.slots c.loop-slot.slot-index c.slot-item.result c.loop-slot-test.true
    c.loop-slot.invariant c.slot-item.is

pub returns : goal.returns
returns c = map-all status_forgotten c.args.slots.now c.loop-slot.slots c.loop-slot.slot-index c.loop-slot.invariant c.loop-slot-test.false

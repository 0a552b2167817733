-- The consumer's end is moved exactly where the ring may have it.
use Rattle.std.proofs.Common.{◌∙◌}
use Rattle.stream_array.specs.Map.{places_of}
use Rattle.stream_array.specs.Rings.{ring_of, with_ring}
use Rattle.xhci_ctl.proofs.Dequeues.{moved-dequeued}
use Rattle.xhci_ctl.proofs.engine.move_dequeue.Goals as goal

pub returns-clause-moved : goal.returns-clause-moved
returns-clause-moved c =
    let told = c.move_dequeue.ensures in
    c.is_ok.ensures.value ∙ (moved-dequeued c.addresses_name_items.ensures.items_named c.addresses_name_items.ensures.items_only (places_of c.args.pipe) c.args.pointer
    (ring_of c.args.lines.now c.args.pipe c.args.stream) c.args.cycle c.args.lines.now _ (with_ring c.args.lines.now c.args.pipe c.args.stream)
    c.move_dequeue.result c.room.ensures.standing told.accepted (λ place. (told.enqueue place).1) told.set told.refused).0

pub returns-clause-lines : goal.returns-clause-lines
returns-clause-lines c =
    let told = c.move_dequeue.ensures in
    (moved-dequeued c.addresses_name_items.ensures.items_named c.addresses_name_items.ensures.items_only (places_of c.args.pipe) c.args.pointer
    (ring_of c.args.lines.now c.args.pipe c.args.stream) c.args.cycle c.args.lines.now _ (with_ring c.args.lines.now c.args.pipe c.args.stream)
    c.move_dequeue.result c.room.ensures.standing told.accepted (λ place. (told.enqueue place).1) told.set told.refused).1

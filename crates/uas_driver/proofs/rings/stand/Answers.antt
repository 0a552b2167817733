use Rattle.std.proofs.Common.{◌≡◌, false, sym, ◌∙◌}
use Rattle.stream_array.specs.Map.{places_of}
use Rattle.stream_array.specs.Rings.{ring_of, with_ring}
use Rattle.uas_driver.proofs.Pending.{HasPending, refused-nowhere, refused-told, stood}
use Rattle.uas_driver.proofs.rings.stand.Goals as goal

pub returns-clause-stands : goal.returns-clause-stands
returns-clause-stands c =
    let lines = c.args.lines.now in
    let ring = ring_of lines c.args.pipe c.args.stream in
    let n = places_of c.args.pipe in
    let laws = c.addresses_name_items.ensures in
    let no = sym c.is_ok.ensures.value ∙ c.if-is_ok.false in
    let same : c.set_dequeue.new.self ≡ lines = refused-told c.set_dequeue.result _ no c.set_dequeue.ensures.refused in
    c.is_ok-2.ensures.value ∙ (stood laws.items_named laws.items_only n c.args.pointer ring lines c.set_dequeue-2.new.self
    (with_ring lines c.args.pipe c.args.stream) c.set_dequeue-2.result c.room.ensures.standing
    (refused-nowhere c.set_dequeue.result (HasPending n ring c.args.pointer false) no c.set_dequeue.ensures.accepted)
    (rw same at c.set_dequeue-2.ensures.accepted) (rw same at c.set_dequeue-2.ensures.set) (rw same at c.set_dequeue-2.ensures.refused)).0

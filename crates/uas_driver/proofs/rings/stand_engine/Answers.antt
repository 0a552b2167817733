use Rattle.std.proofs.Common.{◌≡◌, false, sym, ◌∙◌}
use Rattle.stream_array.specs.Rings.{with_engine}
use Rattle.uas_profile.specs.declared.TheConstants.{ENGINE_RING_PLACES}
use Rattle.uas_driver.proofs.Pending.{HasPending, refused-nowhere, refused-told, stood}
use Rattle.uas_driver.proofs.rings.stand_engine.Goals as goal

pub returns-clause-stands : goal.returns-clause-stands
returns-clause-stands c =
    let lines = c.args.lines.now in
    let laws = c.addresses_name_items.ensures in
    let no = sym c.is_ok.ensures.value ∙ c.if-is_ok.false in
    let same : c.set_dequeue_engine.new.self ≡ lines = refused-told c.set_dequeue_engine.result _ no c.set_dequeue_engine.ensures.refused in
    c.is_ok-2.ensures.value ∙ (stood laws.items_named laws.items_only ENGINE_RING_PLACES c.args.pointer lines.engine lines
    c.set_dequeue_engine-2.new.self (with_engine lines) c.set_dequeue_engine-2.result c.room_engine.ensures.standing
    (refused-nowhere c.set_dequeue_engine.result (HasPending ENGINE_RING_PLACES lines.engine c.args.pointer false) no
    c.set_dequeue_engine.ensures.accepted)
    (rw same at c.set_dequeue_engine-2.ensures.accepted) (rw same at c.set_dequeue_engine-2.ensures.set)
    (rw same at c.set_dequeue_engine-2.ensures.refused)).0

pub returns-clause-lines : goal.returns-clause-lines
returns-clause-lines c =
    let lines = c.args.lines.now in
    let laws = c.addresses_name_items.ensures in
    let no = sym c.is_ok.ensures.value ∙ c.if-is_ok.false in
    let same : c.set_dequeue_engine.new.self ≡ lines = refused-told c.set_dequeue_engine.result _ no c.set_dequeue_engine.ensures.refused in
    (stood laws.items_named laws.items_only ENGINE_RING_PLACES c.args.pointer lines.engine lines
    c.set_dequeue_engine-2.new.self (with_engine lines) c.set_dequeue_engine-2.result c.room_engine.ensures.standing
    (refused-nowhere c.set_dequeue_engine.result (HasPending ENGINE_RING_PLACES lines.engine c.args.pointer false) no
    c.set_dequeue_engine.ensures.accepted)
    (rw same at c.set_dequeue_engine-2.ensures.accepted) (rw same at c.set_dequeue_engine-2.ensures.set)
    (rw same at c.set_dequeue_engine-2.ensures.refused)).1

-- The bytes of the first event decode to it.
use Rattle.std.proofs.Common.{sym, ◌∙◌}
use Rattle.ring_ends.specs.HeldLaws.{same_trb}
use Rattle.event_ring.specs.Events.{trb_of}
use Rattle.event_ring.proofs.Segment.{text-front}
use Rattle.event_ring.proofs.EventRing.front.Goals as goal

pub returns-in-Ok : goal.returns-in-Ok
returns-in-Ok g c =
    let pending = c.is_pending.ensures.0 c.if-not-is_pending.false in
    let first = text-front g.row.E _ _ _ _ _ (rw c.self.view_is at c.self.invariant) pending c.index.ensures in
    let decoded = c.decode.ensures.every_text (trb_of first.0) c.self.inside.dequeue.cycle first.3 first.2 in
    c.event_of.ensures first.0 (same_trb c.decode.result _ _ _ _ c.in-Ok.is decoded) ∙ sym first.1

pub returns-in-Err : goal.returns-in-Err
returns-in-Err g c =
    let pending = c.is_pending.ensures.0 c.if-not-is_pending.false in
    let first = text-front g.row.E _ _ _ _ _ (rw c.self.view_is at c.self.invariant) pending c.index.ensures in
    absurd (cc (c.decode.ensures.every_text (trb_of first.0) c.self.inside.dequeue.cycle first.3 first.2, c.in-Err.is))

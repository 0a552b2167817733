-- The event is written behind the others.
use Rattle.std.proofs.Common.{refl, ◌∙◌, arith}
use Rattle.std.proofs.lemmas.Bool.{false≢true}
use Rattle.ring_ends.specs.Held.{trb_form}
use Rattle.ring_ends.specs.HeldLaws.{IsText-written}
use Rattle.event_ring.proofs.Segment.{IsSegment-posted, shown-segment, shows-segment, distance-segment, room-segment}
use Rattle.event_ring.proofs.EventRing.post.Goals as goal

pub returns-then-distance-clause-room : goal.returns-then-distance-clause-room
returns-then-distance-clause-room g c =
    let count = distance-segment g.row.E _ _ _ _ (rw c.self.view_is at c.self.invariant) in
    (λ e. absurd (false≢true e), λ less. absurd (omega (arith, count, c.distance.ensures, c.if-distance.true)))

pub returns-clause-room : goal.returns-clause-room
returns-clause-room g c =
    (λ _. room-segment g.row.E _ _ _ _ (rw c.self.view_is at c.self.invariant) (λ full. c.if-distance.false (c.distance.ensures ∙ full)), λ _. refl)

pub invariant_of-self : goal.invariant_of-self
invariant_of-self g c =
    let text = IsText-written trb_form c.trb-trb.result c.encode.result _ c.encode.ensures.text c.text_reads_back.ensures.trb c.text_reads_back.ensures.cycle in
    let new = IsSegment-posted g.row.E _ _ _ _ c.args.event _ (rw c.self.view_is at c.self.invariant) ((returns-clause-room g c).0 refl)
    c.requires (rw (c.trb-trb.ensures) at text) in
    rw (c.next-self-inside.ensures) (shows-segment g.row.E _ _ _ _ new)

pub returns-clause-posted : goal.returns-clause-posted
returns-clause-posted g c =
    let text = IsText-written trb_form c.trb-trb.result c.encode.result _ c.encode.ensures.text c.text_reads_back.ensures.trb c.text_reads_back.ensures.cycle in
    let new = IsSegment-posted g.row.E _ _ _ _ c.args.event _ (rw c.self.view_is at c.self.invariant) ((returns-clause-room g c).0 refl)
    c.requires (rw (c.trb-trb.ensures) at text) in
    rw (c.next-self-inside.ensures) (shown-segment g.row.E _ _ _ _ new)

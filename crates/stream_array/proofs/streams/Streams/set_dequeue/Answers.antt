-- The stream's context names the end that was found.
use Rattle.std.proofs.Common.{◌≡◌, ◌↔◌, ℕ, true, false, Err, subst, sym, rules, refl}
use Rattle.std.proofs.lemmas.Bool.{false≢true}
use Rattle.cycle_ring.specs.Ring.{IsPending}
use Rattle.cycle_ring.specs.Items.{ItemRing}
use Rattle.uas_profile.specs.declared.TheConstants.{STREAM_RING_PLACES}
use Rattle.stream_array.specs.Rings.{HasPending}
use Rattle.stream_array.proofs.Named.{AtStream-read, ring-end, rings-moved}
use Rattle.stream_array.proofs.Marking.{marked-kept, pending-before}
use Rattle.stream_array.proofs.streams.Streams.set_dequeue.Goals as goal

pub returns-in_err-pending-clause-accepted : goal.returns-in_err-pending-clause-accepted
returns-in_err-pending-clause-accepted c =
    let at = AtStream-read c.self.inside.segments.items c.self.inside.contexts c.args.self.now c.args.stream c.index-segment.result.now c.self.invariant.0
    c.self.view_is c.requires.some c.requires.last c.index-segment.ensures in
    let ring = ring-end _ _ _ _ _ at c.consumer-end.result c.consumer-end.ensures.end in
    let given : c.from_residual.result ≡ Err c.in_err-pending.field-0.0 = search rules in
    let Accepted : ItemRing → Type 0 = λ r. (false ≡ true) ↔ ((k : ℕ) × IsPending STREAM_RING_PLACES r k c.args.pointer c.args.cycle) in
    rw given (subst Accepted (sym ring) c.in_err-pending.ensures.accepted)

pub returns-in_err-pending-clause-set : goal.returns-in_err-pending-clause-set
returns-in_err-pending-clause-set c k pending =
    let at = AtStream-read c.self.inside.segments.items c.self.inside.contexts c.args.self.now c.args.stream c.index-segment.result.now c.self.invariant.0
    c.self.view_is c.requires.some c.requires.last c.index-segment.ensures in
    let ring = ring-end _ _ _ _ _ at c.consumer-end.result c.consumer-end.ensures.end in
    let Pending : ItemRing → Type 0 = λ r. IsPending STREAM_RING_PLACES r k c.args.pointer c.args.cycle in
    absurd (false≢true (c.in_err-pending.ensures.accepted.1 (k, subst Pending ring pending)))

pub invariant_of-self : goal.invariant_of-self
invariant_of-self c =
    let at = AtStream-read c.self.inside.segments.items c.self.inside.contexts c.args.self.now c.args.stream c.index-segment.result.now c.self.invariant.0
    c.self.view_is c.requires.some c.requires.last c.index-segment.ensures in
    let ring = ring-end _ _ _ _ _ at c.consumer-end.result c.consumer-end.ensures.end in
    let moved = rings-moved _ _ _ _ _ _ c.in_ok-pending.pending at c.in_ok-pending.ensures.consumer c.keep.ensures in
    let place = c.in_ok-pending.ensures.accepted.0 refl in
    let now = moved.1 place.0 (c.in_ok-pending.ensures.set place.0 place.1) in
    let before = pending-before _ _ _ _ place.1 in
    (moved.0, marked-kept _ _ _ _ _ _ _ _ at c.self.invariant.1 now (λ pending. subst HasPending (sym ring) before))

pub returns-clause-accepted : goal.returns-clause-accepted
returns-clause-accepted c =
    let at = AtStream-read c.self.inside.segments.items c.self.inside.contexts c.args.self.now c.args.stream c.index-segment.result.now c.self.invariant.0
    c.self.view_is c.requires.some c.requires.last c.index-segment.ensures in
    let ring = ring-end _ _ _ _ _ at c.consumer-end.result c.consumer-end.ensures.end in
    let Accepted : ItemRing → Type 0 = λ r. (true ≡ true) ↔ ((k : ℕ) × IsPending STREAM_RING_PLACES r k c.args.pointer c.args.cycle) in
    subst Accepted (sym ring) c.in_ok-pending.ensures.accepted

pub returns-clause-set : goal.returns-clause-set
returns-clause-set c k pending =
    let at = AtStream-read c.self.inside.segments.items c.self.inside.contexts c.args.self.now c.args.stream c.index-segment.result.now c.self.invariant.0
    c.self.view_is c.requires.some c.requires.last c.index-segment.ensures in
    let ring = ring-end _ _ _ _ _ at c.consumer-end.result c.consumer-end.ensures.end in
    let Pending : ItemRing → Type 0 = λ r. IsPending STREAM_RING_PLACES r k c.args.pointer c.args.cycle in
    let moved = rings-moved _ _ _ _ _ _ c.in_ok-pending.pending at c.in_ok-pending.ensures.consumer c.keep.ensures in
    moved.1 k (c.in_ok-pending.ensures.set k (subst Pending ring pending))

-- The stream's context names the end that was found.
use Rattle.std.proofs.Common.{◌≡◌, ◌↔◌, ◌⊎◌, ℕ, true, false, Err, subst, sym, rules, inl, inr, length, ap, ◌∙◌, refl, arith}
use Rattle.std.proofs.lemmas.Bool.{false≢true}
use Rattle.cycle_ring.specs.Ring.{IsPending, IsEnqueuePlace}
use Rattle.cycle_ring.specs.Items.{ItemRing}
use Rattle.uas_profile.specs.declared.TheConstants.{STREAM_RING_PLACES}
use Rattle.stream_array.specs.Rings.{HasPending}
use Rattle.stream_array.proofs.Named.{AtStream-read, ring-end, rings-moved}
use Rattle.stream_array.proofs.Marking.{marked-kept, pending-before}
use Rattle.stream_array.proofs.streams.Streams.move_dequeue.Goals as goal

pub returns-in_err-moved-clause-accepted : goal.returns-in_err-moved-clause-accepted
returns-in_err-moved-clause-accepted c =
    let at = AtStream-read c.self.inside.segments.items c.self.inside.contexts c.args.self.now c.args.stream c.index-segment.result.now c.self.invariant.0
    c.self.view_is c.requires.some c.requires.last c.index-segment.ensures in
    let ring = ring-end _ _ _ _ _ at c.consumer-end.result c.consumer-end.ensures.end in
    let given : c.from_residual.result ≡ Err c.in_err-moved.field-0.0 = search rules in
    let Accepted : ItemRing → Type 0 = λ r. (false ≡ true) ↔ (IsEnqueuePlace STREAM_RING_PLACES r c.args.pointer c.args.cycle ⊎ ((k : ℕ) × IsPending STREAM_RING_PLACES r k c.args.pointer c.args.cycle)) in
    rw given (subst Accepted (sym ring) c.in_err-moved.ensures.accepted)

pub returns-in_err-moved-clause-enqueue : goal.returns-in_err-moved-clause-enqueue
returns-in_err-moved-clause-enqueue c place =
    let at = AtStream-read c.self.inside.segments.items c.self.inside.contexts c.args.self.now c.args.stream c.index-segment.result.now c.self.invariant.0
    c.self.view_is c.requires.some c.requires.last c.index-segment.ensures in
    let ring = ring-end _ _ _ _ _ at c.consumer-end.result c.consumer-end.ensures.end in
    let Place : ItemRing → Type 0 = λ r. IsEnqueuePlace STREAM_RING_PLACES r c.args.pointer c.args.cycle in
    absurd (false≢true (c.in_err-moved.ensures.accepted.1 (inl (subst Place ring place))))

pub returns-in_err-moved-clause-set : goal.returns-in_err-moved-clause-set
returns-in_err-moved-clause-set c k pending =
    let at = AtStream-read c.self.inside.segments.items c.self.inside.contexts c.args.self.now c.args.stream c.index-segment.result.now c.self.invariant.0
    c.self.view_is c.requires.some c.requires.last c.index-segment.ensures in
    let ring = ring-end _ _ _ _ _ at c.consumer-end.result c.consumer-end.ensures.end in
    let Pending : ItemRing → Type 0 = λ r. IsPending STREAM_RING_PLACES r k c.args.pointer c.args.cycle in
    absurd (false≢true (c.in_err-moved.ensures.accepted.1 (inr (k, subst Pending ring pending))))

pub invariant_of-self : goal.invariant_of-self
invariant_of-self c =
    let at = AtStream-read c.self.inside.segments.items c.self.inside.contexts c.args.self.now c.args.stream c.index-segment.result.now c.self.invariant.0
    c.self.view_is c.requires.some c.requires.last c.index-segment.ensures in
    let ring = ring-end _ _ _ _ _ at c.consumer-end.result c.consumer-end.ensures.end in
    let count = ap (λ (r : ItemRing). length r.put) ring in
    let moved = rings-moved _ _ _ _ _ _ c.in_ok-moved.moved at c.in_ok-moved.ensures.consumer c.keep.ensures in (
      moved.0,
      elim (c.in_ok-moved.ensures.accepted.0 refl) [
        | inl place ↦
            let stands = c.in_ok-moved.ensures.enqueue place in
            let now = moved.1 _ (stands ∙ ap (λ (got : ℕ). record c.index-segment.result.now { got = got }) (sym count)) in
            marked-kept _ _ _ _ _ _ _ _ at c.self.invariant.1 now (λ pending. absurd (omega (arith, pending)))
        | inr place ↦
            let now = moved.1 place.0 (c.in_ok-moved.ensures.set place.0 place.1) in
            let before = pending-before _ _ _ _ place.1 in
            marked-kept _ _ _ _ _ _ _ _ at c.self.invariant.1 now (λ pending. subst HasPending (sym ring) before)
      ],
    )

pub returns-clause-accepted : goal.returns-clause-accepted
returns-clause-accepted c =
    let at = AtStream-read c.self.inside.segments.items c.self.inside.contexts c.args.self.now c.args.stream c.index-segment.result.now c.self.invariant.0
    c.self.view_is c.requires.some c.requires.last c.index-segment.ensures in
    let ring = ring-end _ _ _ _ _ at c.consumer-end.result c.consumer-end.ensures.end in
    let Accepted : ItemRing → Type 0 = λ r. (true ≡ true) ↔ (IsEnqueuePlace STREAM_RING_PLACES r c.args.pointer c.args.cycle ⊎ ((k : ℕ) × IsPending STREAM_RING_PLACES r k c.args.pointer c.args.cycle)) in
    subst Accepted (sym ring) c.in_ok-moved.ensures.accepted

pub returns-clause-enqueue : goal.returns-clause-enqueue
returns-clause-enqueue c place =
    let at = AtStream-read c.self.inside.segments.items c.self.inside.contexts c.args.self.now c.args.stream c.index-segment.result.now c.self.invariant.0
    c.self.view_is c.requires.some c.requires.last c.index-segment.ensures in
    let ring = ring-end _ _ _ _ _ at c.consumer-end.result c.consumer-end.ensures.end in
    let Place : ItemRing → Type 0 = λ r. IsEnqueuePlace STREAM_RING_PLACES r c.args.pointer c.args.cycle in
    let stands = c.in_ok-moved.ensures.enqueue (subst Place ring place) in
    let count = ap (λ (r : ItemRing). length r.put) ring in
    let moved = rings-moved _ _ _ _ _ _ c.in_ok-moved.moved at c.in_ok-moved.ensures.consumer c.keep.ensures in
    moved.1 _ (stands ∙ ap (λ (got : ℕ). record c.index-segment.result.now { got = got }) (sym count))

pub returns-clause-set : goal.returns-clause-set
returns-clause-set c k pending =
    let at = AtStream-read c.self.inside.segments.items c.self.inside.contexts c.args.self.now c.args.stream c.index-segment.result.now c.self.invariant.0
    c.self.view_is c.requires.some c.requires.last c.index-segment.ensures in
    let ring = ring-end _ _ _ _ _ at c.consumer-end.result c.consumer-end.ensures.end in
    let Pending : ItemRing → Type 0 = λ r. IsPending STREAM_RING_PLACES r k c.args.pointer c.args.cycle in
    let moved = rings-moved _ _ _ _ _ _ c.in_ok-moved.moved at c.in_ok-moved.ensures.consumer c.keep.ensures in
    moved.1 k (c.in_ok-moved.ensures.set k (subst Pending ring pending))

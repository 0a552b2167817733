-- The stream's context names the end behind the first pending TRB.
use Rattle.std.proofs.Common.{◌+◌, ◌<◌, ℕ, length, subst, sym, ap, ◌∙◌, arith}
use Rattle.cycle_ring.specs.Items.{ItemRing}
use Rattle.stream_array.proofs.Named.{AtStream-read, ring-end, rings-moved}
use Rattle.stream_array.proofs.Marking.{marked-kept}
use Rattle.stream_array.proofs.streams.Streams.advance.Goals as goal

pub advance-next-requires : goal.advance-next-requires
advance-next-requires c =
    let at = AtStream-read c.self.inside.segments.items c.self.inside.contexts c.args.self.now c.args.stream c.index-segment.result.now c.self.invariant.0
    c.self.view_is c.requires.some c.requires.last c.index-segment.ensures in
    let ring = ring-end _ _ _ _ _ at c.consumer-end.result c.consumer-end.ensures.end in
    let Pending : ItemRing → Type 0 = λ r. r.got < length r.put in
    (omega arith, (c.consumer-end.ensures.consumer, subst Pending ring c.requires.pending))

pub invariant_of-self : goal.invariant_of-self
invariant_of-self c =
    let at = AtStream-read c.self.inside.segments.items c.self.inside.contexts c.args.self.now c.args.stream c.index-segment.result.now c.self.invariant.0
    c.self.view_is c.requires.some c.requires.last c.index-segment.ensures in
    let ring = ring-end _ _ _ _ _ at c.consumer-end.result c.consumer-end.ensures.end in
    let next = ap (λ (r : ItemRing). r.got + 1) ring in
    let moved = rings-moved _ _ _ _ _ _ c.advance-next.result at c.advance-next.ensures.consumer c.keep.ensures in
    let now = moved.1 _ (c.advance-next.ensures.advanced ∙ ap (λ (got : ℕ). record c.index-segment.result.now { got = got }) (sym next)) in
    (moved.0, marked-kept _ _ _ _ _ _ _ _ at c.self.invariant.1 now (λ pending. c.requires.pending))

pub returns : goal.returns
returns c =
    let at = AtStream-read c.self.inside.segments.items c.self.inside.contexts c.args.self.now c.args.stream c.index-segment.result.now c.self.invariant.0
    c.self.view_is c.requires.some c.requires.last c.index-segment.ensures in
    let ring = ring-end _ _ _ _ _ at c.consumer-end.result c.consumer-end.ensures.end in
    let next = ap (λ (r : ItemRing). r.got + 1) ring in
    let moved = rings-moved _ _ _ _ _ _ c.advance-next.result at c.advance-next.ensures.consumer c.keep.ensures in
    moved.1 _ (c.advance-next.ensures.advanced ∙ ap (λ (got : ℕ). record c.index-segment.result.now { got = got }) (sym next))

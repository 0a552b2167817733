-- The segment is without its first TRBs, and its context names the consumer's end as before.
use Rattle.std.proofs.Common.{◌+◌, ◌-◌, slice_set, sym, ap, ◌∙◌, arith}
use Rattle.cycle_ring.specs.Ring.{reclaimed}
use Rattle.cycle_ring.specs.Items.{ItemRing}
use Rattle.uas_profile.specs.declared.TheConstants.{STREAM_RING_PLACES}
use Rattle.stream_array.proofs.Named.{AreStreams-with, AtStream-read, item-at, named-at, ring-at}
use Rattle.stream_array.proofs.Marking.{marked-kept, pending-freed}
use Rattle.stream_array.proofs.streams.Streams.reclaim.Goals as goal

pub reclaim-requires : goal.reclaim-requires
reclaim-requires c =
    let at = AtStream-read c.self.inside.segments.items c.self.inside.contexts c.args.self.now c.args.stream c.index_mut-segment.result.now c.self.invariant.0 c.self.view_is
    c.requires.some c.requires.last c.index_mut-segment.ensures.value in
    (omega arith, (c.requires.consumed.0, (item-at _ _ _ _ _ c.requires.consumed.0 c.args.pointer at c.requires.consumed.1).1))

pub invariant_of-self : goal.invariant_of-self
invariant_of-self c =
    let at = AtStream-read c.self.inside.segments.items c.self.inside.contexts c.args.self.now c.args.stream c.index_mut-segment.result.now c.self.invariant.0 c.self.view_is
    c.requires.some c.requires.last c.index_mut-segment.ensures.value in
    let k = c.requires.consumed.0 in
    let item = item-at _ _ _ _ _ k c.args.pointer at c.requires.consumed.1 in
    let base = ap (λ (r : ItemRing). r.base) (c.reclaim.ensures.freed k item.1) in
    let kept = c.reclaim.ensures.consumer k _ (named-at _ _ _ _ _ at).consumer item.0 in
    let with = AreStreams-with _ _ _ _ _ c.reclaim.new.self at base kept.0 in
    let brings = pending-freed c.args.self.now c.args.stream _ _ k _ (ring-at _ _ _ _ _ at) kept.1 item.0 in
    (with.0, marked-kept _ _ _ _ _ _ _ _ at c.self.invariant.1 with.1 brings)

pub returns : goal.returns
returns c k consumed =
    let at = AtStream-read c.self.inside.segments.items c.self.inside.contexts c.args.self.now c.args.stream c.index_mut-segment.result.now c.self.invariant.0 c.self.view_is
    c.requires.some c.requires.last c.index_mut-segment.ensures.value in
    let item = item-at _ _ _ _ _ k c.args.pointer at consumed in
    let base = ap (λ (r : ItemRing). r.base) (c.reclaim.ensures.freed k item.1) in
    let kept = c.reclaim.ensures.consumer k _ (named-at _ _ _ _ _ at).consumer item.0 in
    (AreStreams-with _ _ _ _ _ c.reclaim.new.self at base kept.0).1
    ∙ ap (slice_set c.args.self.now (c.args.stream - 1)) kept.1
    ∙ ap (λ (r : ItemRing). slice_set c.args.self.now (c.args.stream - 1) (reclaimed STREAM_RING_PLACES (k + 1) r)) (sym (ring-at _ _ _ _ _ at))

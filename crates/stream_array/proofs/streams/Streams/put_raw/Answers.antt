-- The bytes are on the stream's segment, and its context names the consumer's end as before.
use Rattle.std.proofs.Common.{◌≡◌, ◌↔◌, ◌-◌, ◌<◌, [], ◌∷◌, length, IsOk, IfOk, subst, sym}
use Rattle.cycle_ring.specs.Ring.{pointer_of}
use Rattle.cycle_ring.specs.Items.{ItemRing, item_read}
use Rattle.uas_profile.specs.declared.TheConstants.{STREAM_RING_PLACES}
use Rattle.stream_array.proofs.Named.{AreStreams-with, AtStream-read, base-pushed, named-at, ring-at, rings-pushed}
use Rattle.stream_array.proofs.Marking.{marked-set}
use Rattle.stream_array.proofs.streams.Streams.put_raw.Goals as goal

pub invariant_of-self : goal.invariant_of-self
invariant_of-self c =
    let at = AtStream-read c.self.inside.segments.items c.self.inside.contexts c.args.self.now c.args.stream c.index_mut-segment.result.now c.self.invariant.0 c.self.view_is
    c.requires.some c.requires.last c.index_mut-segment.ensures.value in
    let base = base-pushed _ _ _ c.put_raw.result c.put_raw.ensures.put c.put_raw.ensures.full in
    let with = AreStreams-with _ _ _ _ _ c.put_raw.new.self at base (c.put_raw.ensures.consumer _ (named-at _ _ _ _ _ at).consumer) in
    (with.0, marked-set _ _ _ _ _ _ _ _ _ at c.self.invariant.1 with.1 c.set.ensures.here c.set.ensures.others)

pub returns-clause-room : goal.returns-clause-room
returns-clause-room c =
    let at = AtStream-read c.self.inside.segments.items c.self.inside.contexts c.args.self.now c.args.stream c.index_mut-segment.result.now c.self.invariant.0 c.self.view_is
    c.requires.some c.requires.last c.index_mut-segment.ensures.value in
    let Room : ItemRing → Type 0 = λ r. IsOk c.put_raw.result ↔ (length r.put < STREAM_RING_PLACES - 2) in
    subst Room (sym (ring-at _ _ _ _ _ at)) c.put_raw.ensures.room

pub returns-clause-put : goal.returns-clause-put
returns-clause-put c =
    let at = AtStream-read c.self.inside.segments.items c.self.inside.contexts c.args.self.now c.args.stream c.index_mut-segment.result.now c.self.invariant.0 c.self.view_is
    c.requires.some c.requires.last c.index_mut-segment.ensures.value in
    let base = base-pushed _ _ _ c.put_raw.result c.put_raw.ensures.put c.put_raw.ensures.full in
    let changed = (AreStreams-with _ _ _ _ _ c.put_raw.new.self at base (c.put_raw.ensures.consumer _ (named-at _ _ _ _ _ at).consumer)).1 in
    rings-pushed _ _ _ _ _ c.put_raw.new.self (item_read c.args.bytes.now ∷ []) c.put_raw.result at changed c.put_raw.ensures.put

pub returns-clause-address : goal.returns-clause-address
returns-clause-address c =
    let at = AtStream-read c.self.inside.segments.items c.self.inside.contexts c.args.self.now c.args.stream c.index_mut-segment.result.now c.self.invariant.0 c.self.view_is
    c.requires.some c.requires.last c.index_mut-segment.ensures.value in
    let Told : ItemRing → Type 0 = λ r. IfOk c.put_raw.result (λ address. address ≡ pointer_of STREAM_RING_PLACES r (length r.put)) in
    subst Told (sym (ring-at _ _ _ _ _ at)) c.put_raw.ensures.address

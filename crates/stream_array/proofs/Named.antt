-- Rings whose consumers' ends stand in contexts: what one ring is, and what a change of one segment and its context is of them.
use Rattle.std.proofs.Common.{◌≡◌, ◌≢◌, ℕ, Bool, zero, suc, ◌+◌, ◌-◌, ◌*◌, ◌/◌, ◌<◌, ◌≤◌, List, [], ◌∷◌, ◌++◌, length, set, get_or, length-set, get_or-set_same}
use Rattle.std.proofs.Common.{get_or-set_other, slice_set, Option, Some, None, Result, Ok, Err, OnOk, OnErr, refl, subst, sym, ap, ◌∙◌, arith, inl, inr}
use Rattle.std.proofs.lemmas.Bool.{cases_eq}
use Rattle.std.proofs.lemmas.List.{ext_get_or, get_or_read, set-get_or}
use Rattle.ring_ends.specs.declared.End.{End}
use Rattle.cycle_ring.specs.Ring.{IsConsumed, opening}
use Rattle.cycle_ring.specs.Items.{Item, ItemRing, IsItemRing}
use Rattle.cycle_ring.specs.Segment.{IsConsumer, IsItem, with_consumer}
use Rattle.uas_profile.specs.declared.TheConstants.{STREAMS, STREAM_RING_PLACES}
use Rattle.stream_array.specs.declared.Dequeue.{Dequeue}
use Rattle.stream_array.specs.Contexts.{Contexts, entry_of}
use Rattle.stream_array.specs.Rings.{IsShown, consumer_end, stream_ring}
use Rattle.stream_array.specs.Consumers.{AreStreams, NamesEnd, dequeue_at, end_in, ring_in, rings_from, rings_of}

-- ONE RING

pub length-rings_from : (stream : ℕ) (segments : List ItemRing) (contexts : Contexts) → length (rings_from stream segments contexts) ≡ length segments
unfolding rings_from
length-rings_from stream [] contexts = refl
length-rings_from stream (segment ∷ others) contexts = ap suc (length-rings_from (stream + 1) others contexts)

get_or-rings_from : (stream : ℕ) (segments : List ItemRing) (contexts : Contexts) (k : ℕ) → k < length segments
    → get_or (rings_from stream segments contexts) k (opening 0) ≡ ring_in (get_or segments k (opening 0)) (entry_of contexts (stream + k))
unfolding rings_from
get_or-rings_from stream [] contexts k within = absurd (omega arith)
get_or-rings_from stream (segment ∷ others) contexts zero within = ap (λ (s : ℕ). ring_in segment (entry_of contexts s)) (omega arith)
get_or-rings_from stream (segment ∷ others) contexts (suc k) within =
    get_or-rings_from (stream + 1) others contexts k (omega arith)
    ∙ ap (λ (s : ℕ). ring_in (get_or others k (opening 0)) (entry_of contexts s)) (omega arith)

pub stream_ring-rings_of : (segments : List ItemRing) (contexts : Contexts) (stream : ℕ) → length segments ≡ STREAMS → 0 < stream → stream ≤ STREAMS
    → stream_ring (rings_of segments contexts) stream ≡ ring_in (stream_ring segments stream) (entry_of contexts stream)
stream_ring-rings_of segments contexts stream count some last =
    let same : 1 + (stream - 1) ≡ stream = omega arith in
    get_or-rings_from 1 segments contexts (stream - 1) (omega arith)
    ∙ ap (λ (s : ℕ). ring_in (stream_ring segments stream) (entry_of contexts s)) same

-- WHAT THE CONTEXTS SHOW

same_dequeue : (base place there : ℕ) (cycle state : Bool) → place ≡ there → cycle ≡ state
    → ◌≡◌ {A = Option Dequeue} (Some (record { pointer = base + 16 * place; cycle = cycle })) (Some (record { pointer = base + 16 * there; cycle = state }))
same_dequeue base place there cycle state p q = rw (p, q) refl

-- a context that names an end shows the consumer's end of the ring
consumer_end-ring_in : (segment : ItemRing) (entry : Option Dequeue) → NamesEnd segment entry → entry ≡ Some (consumer_end (ring_in segment entry))
consumer_end-ring_in segment entry named =
    let stands = named.consumer.stands in
    named.written ∙ same_dequeue segment.base _ _ _ _ stands.place stands.cycle

pub IsShown-streams : (segments : List ItemRing) (contexts : Contexts) → AreStreams segments contexts → IsShown (rings_of segments contexts) contexts
IsShown-streams segments contexts streams = record {
  rings = length-rings_from 1 segments contexts ∙ streams.count;
  entries = streams.entries;
  reserved = streams.reserved;
  ring = λ stream some last.
      consumer_end-ring_in (stream_ring segments stream) (entry_of contexts stream) (streams.named stream some last)
      ∙ ap (λ (r : ItemRing). Some (consumer_end r)) (sym (stream_ring-rings_of segments contexts stream streams.count some last));
  none = streams.none;
}

-- A CHANGE OF ONE SEGMENT AND ITS CONTEXT

pub stream_ring-set : (segments : List ItemRing) (stream other : ℕ) (segment : ItemRing) → 0 < stream → 0 < other → other ≢ stream
    → stream_ring (set segments (stream - 1) segment) other ≡ stream_ring segments other
stream_ring-set segments stream other segment some also differs =
    get_or-set_other segments (stream - 1) (other - 1) segment (opening 0) (λ same. differs (omega arith))

AreStreams-set : (segments : List ItemRing) (contexts : Contexts) (stream : ℕ) (segment : ItemRing) (entry : Option Dequeue) → AreStreams segments contexts
    → 0 < stream → stream ≤ STREAMS → NamesEnd segment entry
    → AreStreams (set segments (stream - 1) segment) (set contexts stream entry)
AreStreams-set segments contexts stream segment entry streams some last named = record {
  count = length-set segments (stream - 1) segment ∙ streams.count;
  entries = length-set contexts stream entry ∙ streams.entries;
  reserved = get_or-set_other contexts stream 0 entry None (λ zero. absurd (omega arith)) ∙ streams.reserved;
  named = λ other also within. elim (cases_eq other stream) [
    | inl same ↦ rw (
      same,
      get_or-set_same segments (stream - 1) segment (opening 0) (omega (arith, streams.count)),
      get_or-set_same contexts stream entry None (omega (arith, streams.entries)),
    ) named
    | inr differs ↦ rw (stream_ring-set segments stream other segment some also differs, get_or-set_other contexts stream other entry None differs)
        (streams.named other also within)
  ];
  none = λ other past. get_or-set_other contexts stream other entry None (λ same. absurd (omega arith)) ∙ streams.none other past;
}

rings_of-set : (segments : List ItemRing) (contexts : Contexts) (stream : ℕ) (segment : ItemRing) (entry : Option Dequeue) → AreStreams segments contexts
    → 0 < stream → stream ≤ STREAMS
    → rings_of (set segments (stream - 1) segment) (set contexts stream entry) ≡ slice_set (rings_of segments contexts) (stream - 1) (ring_in segment entry)
rings_of-set segments contexts stream segment entry streams some last =
    let count = length-set segments (stream - 1) segment in
    let new = length-rings_from 1 (set segments (stream - 1) segment) (set contexts stream entry) in
    let old = length-rings_from 1 segments contexts in
    let written = length-set (rings_of segments contexts) (stream - 1) (ring_in segment entry) in
    ext_get_or (opening 0) _ _ (omega arith) (λ i within. elim (cases_eq i (stream - 1)) [
      | inl same ↦ rw (
        same,
        get_or-rings_from 1 (set segments (stream - 1) segment) (set contexts stream entry) (stream - 1) (omega (arith, streams.count)),
        get_or-set_same segments (stream - 1) segment (opening 0) (omega (arith, streams.count)),
        get_or-set_same (rings_of segments contexts) (stream - 1) (ring_in segment entry) (opening 0) (omega (arith, streams.count)),
      ) (ap (λ (e : Option Dequeue). ring_in segment e) (at_stream entry))
      | inr differs ↦
          let beside : 1 + i ≢ stream = λ e. differs (omega arith) in
          rw (
            get_or-rings_from 1 (set segments (stream - 1) segment) (set contexts stream entry) i (omega arith),
            get_or-set_other segments (stream - 1) i segment (opening 0) differs,
            get_or-set_other contexts stream (1 + i) entry None beside,
            get_or-set_other (rings_of segments contexts) (stream - 1) i (ring_in segment entry) (opening 0) differs,
            get_or-rings_from 1 segments contexts i (omega arith),
          ) refl
    ])
  where
    at_stream : (entry : Option Dequeue) → entry_of (set contexts stream entry) (1 + (stream - 1)) ≡ entry
    at_stream entry =
        let same : 1 + (stream - 1) ≡ stream = omega arith in
        ap (entry_of (set contexts stream entry)) same ∙ get_or-set_same contexts stream entry None (omega (arith, streams.entries))

-- the segment alone
pub AreStreams-segment : (segments : List ItemRing) (contexts : Contexts) (stream : ℕ) (segment : ItemRing) → AreStreams segments contexts
    → 0 < stream → stream ≤ STREAMS → NamesEnd segment (entry_of contexts stream)
    → AreStreams (set segments (stream - 1) segment) contexts
    × (rings_of (set segments (stream - 1) segment) contexts ≡ slice_set (rings_of segments contexts) (stream - 1) (ring_in segment (entry_of contexts stream)))
AreStreams-segment segments contexts stream segment streams some last named =
    let kept : set contexts stream (entry_of contexts stream) ≡ contexts = set-get_or contexts stream None in (
      rw kept at (AreStreams-set segments contexts stream segment (entry_of contexts stream) streams some last named),
      rw kept at (rings_of-set segments contexts stream segment (entry_of contexts stream) streams some last),
    )

-- the consumer's end alone, in its context
end_in-dequeue_at : (base : ℕ) (end : End) → end_in base (Some (dequeue_at base end)) ≡ end
end_in-dequeue_at base end =
    let place : (base + 16 * end.place - base) / 16 ≡ end.place = omega arith in
    ap (λ (p : ℕ). record { place = p; cycle = end.cycle }) place

pub NamesEnd-dequeue_at : (segment : ItemRing) (end : End) → IsConsumer STREAM_RING_PLACES segment end → NamesEnd segment (Some (dequeue_at segment.base end))
NamesEnd-dequeue_at segment end consumer =
    let same = end_in-dequeue_at segment.base end in
    record {
      written = ap (λ (e : End). Some (dequeue_at segment.base e)) (sym same);
      consumer = let Is : End → Type 0 = λ e. IsConsumer STREAM_RING_PLACES segment e in subst Is (sym same) consumer;
    }

pub AreStreams-moved : (segments : List ItemRing) (contexts : Contexts) (stream : ℕ) (segment : ItemRing) (end : End) → AreStreams segments contexts
    → 0 < stream → stream ≤ STREAMS → segment ≡ stream_ring segments stream → IsConsumer STREAM_RING_PLACES segment end
    → AreStreams segments (slice_set contexts stream (Some (dequeue_at segment.base end)))
    × (rings_of segments (slice_set contexts stream (Some (dequeue_at segment.base end)))
    ≡ slice_set (rings_of segments contexts) (stream - 1) (with_consumer STREAM_RING_PLACES segment end))
AreStreams-moved segments contexts stream segment end streams some last is consumer =
    let entry : Option Dequeue = Some (dequeue_at segment.base end) in
    let kept : set segments (stream - 1) segment ≡ segments = ap (set segments (stream - 1)) is ∙ set-get_or segments (stream - 1) (opening 0) in
    let named = NamesEnd-dequeue_at segment end consumer in
    let ends = rings_of-set segments contexts stream segment entry streams some last in
    let same = ap (λ (e : End). slice_set (rings_of segments contexts) (stream - 1) (with_consumer STREAM_RING_PLACES segment e))
    (end_in-dequeue_at segment.base end) in (
      rw kept at (AreStreams-set segments contexts stream segment entry streams some last named),
      rw kept at ends ∙ same,
    )

-- A CALL ON ONE STREAM'S RING

-- a pipe's segments and contexts, the rings that they are, and the segment of a stream
pub record AtStream (segments : List ItemRing) (contexts : Contexts) (rings : List ItemRing) (stream : ℕ) (segment : ItemRing) : Type 0 where
  pub streams : AreStreams segments contexts
  pub view : rings_of segments contexts ≡ rings
  pub some : 0 < stream
  pub last : stream ≤ STREAMS
  pub there : segment ≡ stream_ring segments stream

pub AtStream-read : (segments : List ItemRing) (contexts : Contexts) (rings : List ItemRing) (stream : ℕ) (segment : ItemRing) → AreStreams segments contexts
    → rings_of segments contexts ≡ rings → 0 < stream → stream ≤ STREAMS → segment ≡ get_or segments (stream - 1) segment
    → AtStream segments contexts rings stream segment
AtStream-read segments contexts rings stream segment streams view some last read = record {
  streams = streams;
  view = view;
  some = some;
  last = last;
  there = get_or_read segments (stream - 1) segment (omega (arith, streams.count)) read (opening 0);
}

-- its ring, and the end that its context names
pub ring-at : (segments : List ItemRing) (contexts : Contexts) (rings : List ItemRing) (stream : ℕ) (segment : ItemRing)
    → AtStream segments contexts rings stream segment → stream_ring rings stream ≡ ring_in segment (entry_of contexts stream)
ring-at segments contexts rings stream segment at =
    ap (λ (all : List ItemRing). stream_ring all stream) (sym at.view)
    ∙ stream_ring-rings_of segments contexts stream at.streams.count at.some at.last
    ∙ ap (λ (s : ItemRing). ring_in s (entry_of contexts stream)) (sym at.there)

pub ring-end : (segments : List ItemRing) (contexts : Contexts) (rings : List ItemRing) (stream : ℕ) (segment : ItemRing)
    → AtStream segments contexts rings stream segment → (end : End) → end ≡ end_in segment.base (entry_of contexts stream)
    → stream_ring rings stream ≡ with_consumer STREAM_RING_PLACES segment end
ring-end segments contexts rings stream segment at end is =
    ring-at segments contexts rings stream segment at ∙ ap (λ (e : End). with_consumer STREAM_RING_PLACES segment e) (sym is)

pub named-at : (segments : List ItemRing) (contexts : Contexts) (rings : List ItemRing) (stream : ℕ) (segment : ItemRing)
    → AtStream segments contexts rings stream segment → NamesEnd segment (entry_of contexts stream)
named-at segments contexts rings stream segment at =
    let Named : ItemRing → Type 0 = λ s. NamesEnd s (entry_of contexts stream) in
    subst Named (sym at.there) (at.streams.named stream at.some at.last)

pub standing-at : (segments : List ItemRing) (contexts : Contexts) (rings : List ItemRing) (stream : ℕ) (segment : ItemRing)
    → AtStream segments contexts rings stream segment → IsItemRing STREAM_RING_PLACES (stream_ring rings stream)
standing-at segments contexts rings stream segment at =
    let Stands : ItemRing → Type 0 = λ r. IsItemRing STREAM_RING_PLACES r in
    subst Stands (sym (ring-at segments contexts rings stream segment at)) (named-at segments contexts rings stream segment at).consumer.ring

-- a consumed TRB of its ring is one of its segment
pub item-at : (segments : List ItemRing) (contexts : Contexts) (rings : List ItemRing) (stream : ℕ) (segment : ItemRing) (k pointer : ℕ)
    → AtStream segments contexts rings stream segment → IsConsumed STREAM_RING_PLACES (stream_ring rings stream) k pointer
    → IsConsumed STREAM_RING_PLACES (ring_in segment (entry_of contexts stream)) k pointer × IsItem STREAM_RING_PLACES segment k pointer
item-at segments contexts rings stream segment k pointer at consumed =
    let Consumed : ItemRing → Type 0 = λ r. IsConsumed STREAM_RING_PLACES r k pointer in
    let here = subst Consumed (ring-at segments contexts rings stream segment at) consumed in
    let within = (named-at segments contexts rings stream segment at).consumer.ring.consumed in
    (here, (omega (arith, here.0), here.1))

-- another segment at the same address whose consumer's end the context still names
NamesEnd-with : (old new : ItemRing) (entry : Option Dequeue) → new.base ≡ old.base → IsConsumer STREAM_RING_PLACES new (end_in old.base entry)
    → NamesEnd old entry → NamesEnd new entry
NamesEnd-with old new entry base consumer named =
    let Written : ℕ → Type 0 = λ b. entry ≡ Some (dequeue_at b (end_in b entry)) in
    let Consumer : ℕ → Type 0 = λ b. IsConsumer STREAM_RING_PLACES new (end_in b entry) in
    record { written = subst Written (sym base) named.written; consumer = subst Consumer (sym base) consumer }

pub AreStreams-with : (segments : List ItemRing) (contexts : Contexts) (rings : List ItemRing) (stream : ℕ) (segment new : ItemRing)
    → AtStream segments contexts rings stream segment → new.base ≡ segment.base
    → IsConsumer STREAM_RING_PLACES new (end_in segment.base (entry_of contexts stream))
    → AreStreams (set segments (stream - 1) new) contexts
    × (rings_of (set segments (stream - 1) new) contexts
    ≡ slice_set rings (stream - 1) (with_consumer STREAM_RING_PLACES new (end_in segment.base (entry_of contexts stream))))
AreStreams-with segments contexts rings stream segment new at base consumer =
    let entry = entry_of contexts stream in
    let named = NamesEnd-with segment new entry base consumer (named-at segments contexts rings stream segment at) in
    let both = AreStreams-segment segments contexts stream new at.streams at.some at.last named in (
      both.0,
      both.1
          ∙ ap (λ (all : List ItemRing). slice_set all (stream - 1) (ring_in new entry)) at.view
          ∙ ap (λ (b : ℕ). slice_set rings (stream - 1) (with_consumer STREAM_RING_PLACES new (end_in b entry))) base,
    )

-- items that are put
pub base-pushed : {T E : Type 0} (old new : ItemRing) (put : List Item) (result : Result T E) → OnOk result (new ≡ record old { put = put })
    → OnErr result (new ≡ old) → new.base ≡ old.base
base-pushed old new put (Ok td) longer same = ap (λ (r : ItemRing). r.base) longer
base-pushed old new put (Err full) longer same = ap (λ (r : ItemRing). r.base) same

pub rings-pushed : {T E : Type 0} (segments : List ItemRing) (contexts : Contexts) (rings : List ItemRing) (stream : ℕ) (segment new : ItemRing) (items : List Item)
    (result : Result T E) → AtStream segments contexts rings stream segment
    → rings_of (set segments (stream - 1) new) contexts
    ≡ slice_set rings (stream - 1) (with_consumer STREAM_RING_PLACES new (end_in segment.base (entry_of contexts stream)))
    → OnOk result (new ≡ record segment { put = segment.put ++ items })
    → OnOk result (rings_of (set segments (stream - 1) new) contexts
    ≡ slice_set rings (stream - 1) (record (stream_ring rings stream) { put = (stream_ring rings stream).put ++ items }))
rings-pushed segments contexts rings stream segment new items (Ok td) at changed longer =
    changed
    ∙ ap (λ (r : ItemRing). slice_set rings (stream - 1) (with_consumer STREAM_RING_PLACES r (end_in segment.base (entry_of contexts stream)))) longer
    ∙ ap (λ (r : ItemRing). slice_set rings (stream - 1) (record r { put = r.put ++ items })) (sym (ring-at segments contexts rings stream segment at))
rings-pushed segments contexts rings stream segment new items (Err full) at changed longer = longer

-- a consumer's end that is moved to item k
pub rings-moved : (segments : List ItemRing) (contexts new : Contexts) (rings : List ItemRing) (stream : ℕ) (segment : ItemRing) (end : End)
    → AtStream segments contexts rings stream segment → IsConsumer STREAM_RING_PLACES segment end
    → new ≡ slice_set contexts stream (Some (dequeue_at segment.base end))
    → AreStreams segments new
    × ((k : ℕ) → with_consumer STREAM_RING_PLACES segment end ≡ record segment { got = k }
    → rings_of segments new ≡ slice_set rings (stream - 1) (record (stream_ring rings stream) { got = k }))
rings-moved segments contexts new rings stream segment end at consumer written =
    let both = AreStreams-moved segments contexts stream segment end at.streams at.some at.last at.there consumer in
    let Are : Contexts → Type 0 = λ c. AreStreams segments c in (
      subst Are (sym written) both.0,
      λ k stands.
          ap (rings_of segments) written ∙ both.1
          ∙ ap (λ (all : List ItemRing). slice_set all (stream - 1) (with_consumer STREAM_RING_PLACES segment end)) at.view
          ∙ ap (slice_set rings (stream - 1)) stands
          ∙ ap (λ (r : ItemRing). slice_set rings (stream - 1) (record r { got = k })) (sym (ring-at segments contexts rings stream segment at)),
    )

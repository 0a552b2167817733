-- What memory holds stays where something is written apart from it.
use Rattle.std.proofs.Common.{◌≡◌, ◌≢◌, ℕ, ◌+◌, ◌-◌, ◌*◌, ◌%◌, ◌<◌, ◌≤◌, ◌⊎◌, List, length, refl, sym, ap, ◌∙◌, arith, inl, inr}
use Rattle.std.proofs.Math.Nat.{mod-lt}
use Rattle.std.proofs.lemmas.Bool.{cases_eq}
use Rattle.uas_profile.specs.declared.Pipe.{Pipe}
use Rattle.uas_profile.specs.declared.Pipe.TheVariants.{Command, Status, DataIn, DataOut}
use Rattle.uas_profile.specs.declared.TheConstants.{COMMAND_BUFFERS, EVENT_RING, EVENT_RING_PLACES, PIPE_SPAN, RINGS, STREAMS, WINDOWS}
use Rattle.uas_profile.specs.Pipes.{number_of}
use Rattle.cycle_ring.specs.Items.{ItemRing}
use Rattle.event_ring.specs.Events.{Events}
use Rattle.stream_array.specs.Map.{HasRing, places_of}
use Rattle.stream_array.specs.Rings.{IsLines, LinesState, ring_of}
use Rattle.frame_store.specs.declared.Buffer.{Buffer}
use Rattle.frame_store.specs.declared.Buffer.TheVariants.{Command as CommandBuffer, Status as StatusBuffer, Window}
use Rattle.frame_store.specs.declared.TagBuffers.{TagBuffers}
use Rattle.frame_store.specs.Buffers.{IsWhole, bytes_of, front_of}
use Rattle.frame_store.specs.Places.{address_of, room_of}
use Rattle.frame_store.proofs.FramesLaws.{bytes_of-room}
use Rattle.guest_memory.specs.Bytes.{Memory, written}
use Rattle.guest_memory.specs.declared.rings.context.Home.{Home}
use Rattle.guest_memory.specs.rings.Ends.{home_at, home_size}
use Rattle.guest_memory.specs.rings.Events.{EventEnd, enqueue_pointer}
use Rattle.guest_profile.specs.Rings.{HasPlaces, HoldsRing, IsBeforeLink}
use Rattle.guest_profile.specs.Events.{HoldsEventRing, IsProducer}
use Rattle.guest_profile.specs.Layout.{AreApart, HoldsFrames, IsBeside, IsLayout, KeepsEnd, Layout, buffers_size, contexts_of, contexts_size, kept_at, rings_size, windows_size}
use Rattle.guest_profile.proofs.Ranges.{less_or_more, written-apart}

-- WHAT STAYS

HasPlaces-apart : (memory : Memory) (at : ℕ) (bytes : List ℕ) (base n : ℕ) (places : List (List ℕ)) → length places ≤ n → AreApart base (16 * n) at (length bytes)
    → HasPlaces memory base places → HasPlaces (written memory at bytes) base places
HasPlaces-apart memory at bytes base n places most apart there k below =
    written-apart memory at bytes (base + 16 * k) 16 (by_side apart) ∙ there k below
  where
    by_side : AreApart base (16 * n) at (length bytes) → AreApart (base + 16 * k) 16 at (length bytes)
    by_side (inl before) = inl (omega (arith, before, below, most))
    by_side (inr behind) = inr (omega (arith, behind))

pub HoldsRing-apart : (memory : Memory) (at : ℕ) (bytes : List ℕ) (n : ℕ) (r : ItemRing) → AreApart r.base (16 * n) at (length bytes)
    → HoldsRing n r memory → HoldsRing n r (written memory at bytes)
HoldsRing-apart memory at bytes n r apart holds = record {
  ring = holds.ring;
  places = holds.places;
  items = holds.items;
  there = HasPlaces-apart memory at bytes r.base n holds.places (omega (arith, holds.items.size)) apart holds.there;
}

pub HoldsEventRing-apart : (memory : Memory) (at : ℕ) (bytes : List ℕ) (n base : ℕ) (r : Events) → AreApart base (16 * n) at (length bytes)
    → HoldsEventRing n base r memory → HoldsEventRing n base r (written memory at bytes)
HoldsEventRing-apart memory at bytes n base r apart holds = record {
  ring = holds.ring;
  places = holds.places;
  events = holds.events;
  there = HasPlaces-apart memory at bytes base n holds.places (omega (arith, holds.events.size)) apart holds.there;
}

pub IsBeforeLink-apart : (memory : Memory) (at : ℕ) (bytes : List ℕ) (n : ℕ) (r : ItemRing) (k : ℕ) → 4 ≤ n → AreApart r.base (16 * n) at (length bytes)
    → IsBeforeLink n r k memory → IsBeforeLink n r k (written memory at bytes)
IsBeforeLink-apart memory at bytes n r k some ring before = record {
  first = before.first;
  chain = before.chain;
  link = written-apart memory at bytes (r.base + 16 * (n - 1)) 16 (by_side ring) ∙ before.link;
}
  where
    by_side : AreApart r.base (16 * n) at (length bytes) → AreApart (r.base + 16 * (n - 1)) 16 at (length bytes)
    by_side (inl before) = inl (omega (arith, before, some))
    by_side (inr behind) = inr (omega (arith, behind))

pub KeepsEnd-apart : (memory : Memory) (at : ℕ) (bytes : List ℕ) (n : ℕ) (r : ItemRing) (home : Home) → 4 ≤ n → AreApart r.base (16 * n) at (length bytes)
    → AreApart (home_at home) (home_size home) at (length bytes) → KeepsEnd n r home memory → KeepsEnd n r home (written memory at bytes)
KeepsEnd-apart memory at bytes n r home some ring beside (inl item) = inl (written-apart memory at bytes (home_at home) (home_size home) beside ∙ item)
KeepsEnd-apart memory at bytes n r home some ring beside (inr link) = inr (record {
  kept = written-apart memory at bytes (home_at home) (home_size home) beside ∙ link.kept;
  before = IsBeforeLink-apart memory at bytes n r r.got some ring link.before;
})

pub HoldsFrames-apart : (memory : Memory) (at : ℕ) (bytes : List ℕ) (frames : List TagBuffers)
    → ((buffer : Buffer) (tag : ℕ) → 1 ≤ tag → tag ≤ STREAMS
    → AreApart (address_of (front_of buffer tag)) (length (bytes_of frames (front_of buffer tag))) at (length bytes))
    → HoldsFrames frames memory → HoldsFrames frames (written memory at bytes)
HoldsFrames-apart memory at bytes frames apart holds buffer tag some most =
    written-apart memory at bytes _ _ (apart buffer tag some most) ∙ holds buffer tag some most

-- WHERE THE PARTS OF THE MAP LIE

-- the bounds of all rings of the pipes
pub record RingBounds (n base : ℕ) : Type 0 where
  pub least : 4 ≤ n
  pub first : RINGS + PIPE_SPAN ≤ base
  pub last : base + 16 * n ≤ RINGS + 5 * PIPE_SPAN

pub ring_bounds : (lines : LinesState) (pipe : Pipe) (stream : ℕ) → IsLines lines → HasRing pipe stream
    → RingBounds (places_of pipe) (ring_of lines pipe stream).base
ring_bounds lines Command stream are has = let is = are.base Command stream has in record { least = omega arith; first = omega arith; last = omega arith }
ring_bounds lines Status stream are has = let is = are.base Status stream has in record { least = omega arith; first = omega arith; last = omega arith }
ring_bounds lines DataIn stream are has = let is = are.base DataIn stream has in record { least = omega arith; first = omega arith; last = omega arith }
ring_bounds lines DataOut stream are has = let is = are.base DataOut stream has in record { least = omega arith; first = omega arith; last = omega arith }

-- the enqueue place of the event ring
pub enqueue_bounds : (r : Events) (end : EventEnd) → IsProducer EVENT_RING_PLACES EVENT_RING r end
    → (EVENT_RING ≤ enqueue_pointer end) × (enqueue_pointer end + 16 ≤ EVENT_RING + 16 * EVENT_RING_PLACES)
enqueue_bounds r end is =
    let below : (r.at + length r.pending) % EVENT_RING_PLACES < EVENT_RING_PLACES = mod-lt (r.at + length r.pending) (omega arith) in
    (omega (arith, is.base_is), omega (arith, is.base_is, is.place, below))

-- a buffer that is there
pub frame_bounds : (frames : List TagBuffers) (buffer : Buffer) (tag : ℕ) → IsWhole frames → 1 ≤ tag → tag ≤ STREAMS
    → length (bytes_of frames (front_of buffer tag)) ≤ room_of buffer
frame_bounds frames buffer tag whole some most = bytes_of-room frames (front_of buffer tag) whole some most

-- what is beside the map is apart from each buffer
pub frame_beside : (frames : List TagBuffers) (at n : ℕ) (buffer : Buffer) (tag : ℕ) → IsWhole frames → IsBeside at n → 1 ≤ tag → tag ≤ STREAMS
    → AreApart (address_of (front_of buffer tag)) (length (bytes_of frames (front_of buffer tag))) at n
frame_beside frames at n CommandBuffer tag whole beside some most =
    let short = frame_bounds frames CommandBuffer tag whole some most in
    elim beside.buffers [ inl before ↦ inr (omega (arith, before)) | inr behind ↦ inl (omega (arith, behind, short, most)) ]
frame_beside frames at n StatusBuffer tag whole beside some most =
    let short = frame_bounds frames StatusBuffer tag whole some most in
    elim beside.buffers [ inl before ↦ inr (omega (arith, before)) | inr behind ↦ inl (omega (arith, behind, short, most)) ]
frame_beside frames at n Window tag whole beside some most =
    let short = frame_bounds frames Window tag whole some most in
    elim beside.windows [ inl before ↦ inr (omega (arith, before)) | inr behind ↦ inl (omega (arith, behind, short, most)) ]

-- and so is the event ring
pub frame_off_events : (frames : List TagBuffers) (at n : ℕ) (buffer : Buffer) (tag : ℕ) → IsWhole frames → EVENT_RING ≤ at
    → at + n ≤ EVENT_RING + 16 * EVENT_RING_PLACES → 1 ≤ tag → tag ≤ STREAMS
    → AreApart (address_of (front_of buffer tag)) (length (bytes_of frames (front_of buffer tag))) at n
frame_off_events frames at n CommandBuffer tag whole from to some most =
    let short = frame_bounds frames CommandBuffer tag whole some most in inl (omega arith)
frame_off_events frames at n StatusBuffer tag whole from to some most =
    let short = frame_bounds frames StatusBuffer tag whole some most in inl (omega arith)
frame_off_events frames at n Window tag whole from to some most = inr (omega arith)

-- what is beside the map is apart from the rings, and from the event ring
pub ring_beside : (n base at size : ℕ) → RingBounds n base → IsBeside at size → AreApart base (16 * n) at size
ring_beside n base at size bounds beside =
    elim beside.rings [ inl before ↦ inr (omega (arith, before, bounds.first)) | inr behind ↦ inl (omega (arith, behind, bounds.last)) ]

pub events_beside : (at size : ℕ) → IsBeside at size → AreApart EVENT_RING (16 * EVENT_RING_PLACES) at size
events_beside at size beside = elim beside.rings [ inl before ↦ inr (omega (arith, before)) | inr behind ↦ inl (omega (arith, behind)) ]

-- CONTEXTS

-- a ring's end is kept in its pipe's contexts
pub record KeptWithin (layout : Layout) (pipe : Pipe) (stream : ℕ) : Type 0 where
  pub first : contexts_of layout pipe ≤ home_at (kept_at layout pipe stream)
  pub last : home_at (kept_at layout pipe stream) + home_size (kept_at layout pipe stream) ≤ contexts_of layout pipe + contexts_size pipe

pub kept_within : (layout : Layout) (pipe : Pipe) (stream : ℕ) → HasRing pipe stream → KeptWithin layout pipe stream
kept_within layout Command stream has = record { first = omega arith; last = omega arith }
kept_within layout Status stream has = record { first = omega arith; last = omega (arith, has) }
kept_within layout DataIn stream has = record { first = omega arith; last = omega (arith, has) }
kept_within layout DataOut stream has = record { first = omega arith; last = omega (arith, has) }

-- a part of what is beside the map is beside it
within_apart : (a n b m c k : ℕ) → b ≤ c → c + k ≤ b + m → AreApart b m a n → AreApart c k a n
within_apart a n b m c k from to (inl before) = inl (omega arith)
within_apart a n b m c k from to (inr behind) = inr (omega arith)

pub part_beside : (at n part size : ℕ) → at ≤ part → part + size ≤ at + n → IsBeside at n → IsBeside part size
part_beside at n part size from to beside = record {
  buffers = within_apart COMMAND_BUFFERS buffers_size at n part size from to beside.buffers;
  rings = within_apart RINGS rings_size at n part size from to beside.rings;
  windows = within_apart WINDOWS windows_size at n part size from to beside.windows;
}

pub kept_beside : (layout : Layout) (pipe : Pipe) (stream : ℕ) → IsLayout layout → HasRing pipe stream
    → IsBeside (home_at (kept_at layout pipe stream)) (home_size (kept_at layout pipe stream))
kept_beside layout pipe stream is has =
    let within = kept_within layout pipe stream has in
    part_beside (contexts_of layout pipe) (contexts_size pipe) _ _ within.first within.last (is.beside pipe)

-- a pipe by its number
pub same_number : (p q : Pipe) → number_of p ≡ number_of q → p ≡ q
same_number Command Command e = refl
same_number Status Status e = refl
same_number DataIn DataIn e = refl
same_number DataOut DataOut e = refl
same_number p q e = absurd (omega arith)

-- two rings are one, or have different pipes or streams
pub same_ring : (pipe other : Pipe) (stream another : ℕ) → ((pipe ≡ other) × (stream ≡ another)) ⊎ (pipe ≡ other → stream ≢ another)
same_ring pipe other stream another = elim (cases_eq (number_of pipe) (number_of other)) [
  | inl number ↦ elim (cases_eq stream another) [
    | inl same ↦ inl (same_number pipe other number, same)
    | inr differs ↦ inr (λ _. differs)
  ]
  | inr differs ↦ inr (λ same. absurd (differs (ap number_of same)))
]

-- two contexts of an array
apart_in : (array stream another : ℕ) → stream ≢ another → AreApart (array + 16 * another) 16 (array + 16 * stream) 16
apart_in array stream another differs = elim (less_or_more stream another differs) [
  | inl less ↦ inr (omega (arith, less))
  | inr more ↦ inl (omega (arith, more))
]

-- the ends of two rings are kept apart
apart_on : (layout : Layout) (pipe : Pipe) (stream another : ℕ) → HasRing pipe stream → HasRing pipe another → stream ≢ another
    → AreApart (home_at (kept_at layout pipe another)) (home_size (kept_at layout pipe another)) (home_at (kept_at layout pipe stream)) (home_size (kept_at layout pipe stream))
apart_on layout Command stream another has also differs = absurd (differs (has ∙ sym also))
apart_on layout Status stream another has also differs = apart_in layout.status stream another differs
apart_on layout DataIn stream another has also differs = apart_in layout.data_in stream another differs
apart_on layout DataOut stream another has also differs = apart_in layout.data_out stream another differs

pub kept_apart : (layout : Layout) (pipe other : Pipe) (stream another : ℕ) → IsLayout layout → HasRing pipe stream → HasRing other another
    → (pipe ≡ other → stream ≢ another)
    → AreApart (home_at (kept_at layout other another)) (home_size (kept_at layout other another)) (home_at (kept_at layout pipe stream)) (home_size (kept_at layout pipe stream))
kept_apart layout pipe other stream another is has also differs = elim (cases_eq (number_of pipe) (number_of other)) [
  | inl number ↦
      let same : pipe ≡ other = same_number pipe other number in
      let there : HasRing pipe another = rw same also in
      rw (← same) (apart_on layout pipe stream another has there (differs same))
  | inr apart ↦
      let here = kept_within layout pipe stream has in
      let there = kept_within layout other another also in
      elim (is.apart pipe other (λ same. apart (ap number_of same))) [
        | inl before ↦ inr (omega (arith, before, here.last, there.first))
        | inr behind ↦ inl (omega (arith, behind, here.first, there.last))
      ]
]

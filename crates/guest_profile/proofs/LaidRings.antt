-- A TRB is put on a ring over a memory that is laid out.
use Rattle.std.proofs.Common.{◌≡◌, ◌≢◌, ℕ, zero, suc, ◌+◌, ◌-◌, ◌*◌, ◌<◌, ◌≤◌, List, [], ◌∷◌, length, set, All, refl, ◌∙◌, arith, inl, inr}
use Rattle.std.proofs.lemmas.Bool.{cases_eq}
use Rattle.uas_profile.specs.declared.Pipe.{Pipe}
use Rattle.uas_profile.specs.declared.Pipe.TheVariants.{Command, Status, DataIn, DataOut}
use Rattle.uas_profile.specs.declared.TheConstants.{EVENT_RING, EVENT_RING_PLACES, PIPE_SPAN, RINGS, STREAMS}
use Rattle.uas_profile.specs.Pipes.{number_of}
use Rattle.xhci_trb.specs.declared.Trb.{Trb}
use Rattle.xhci_trb.specs.Text.{HasText, text}
use Rattle.ring_ends.specs.Held.{IsText}
use Rattle.cycle_ring.specs.Ring.{cycle_of, place_of, pointer_of}
use Rattle.cycle_ring.specs.Items.{HasBytes, ItemRing, item_form, known}
use Rattle.cycle_ring.proofs.Chains.{IsRing-put}
use Rattle.cycle_ring.proofs.Held.{HoldsItems-put}
use Rattle.cycle_ring.proofs.Read.{item_read-text}
use Rattle.stream_array.specs.Map.{HasRing, places_of}
use Rattle.stream_array.specs.Rings.{LinesState, ring_of, with_ring}
use Rattle.stream_array.proofs.Frames.{IsLines-with_ring, ring_of-others, ring_of_with_ring}
use Rattle.frame_store.specs.declared.Buffer.{Buffer}
use Rattle.frame_store.specs.declared.Buffer.TheVariants.{Command as CommandBuffer, Status as StatusBuffer, Window}
use Rattle.frame_store.specs.declared.TagBuffers.{TagBuffers}
use Rattle.frame_store.specs.Buffers.{IsWhole, bytes_of, front_of}
use Rattle.frame_store.specs.Places.{address_of}
use Rattle.guest_memory.specs.Bytes.{Memory, written}
use Rattle.guest_memory.specs.declared.rings.context.Home.{Home}
use Rattle.guest_memory.specs.rings.Ends.{home_at, home_size}
use Rattle.guest_memory.specs.rings.Events.{EventEnd}
use Rattle.guest_profile.specs.Rings.{HoldsRing}
use Rattle.guest_profile.specs.Layout.{AreApart, IsBeside, IsLaid, IsLayout, KeepsEnd, Layout, kept_at}
use Rattle.guest_profile.specs.Host.{TrbIsPut, with_trb}
use Rattle.guest_profile.proofs.Apart.{HoldsEventRing-apart, HoldsFrames-apart, HoldsRing-apart, KeepsEnd-apart, RingBounds, frame_bounds, kept_beside, ring_bounds, same_number, same_ring}
use Rattle.guest_profile.proofs.Events.{HasPlaces-set, length-text}
use Rattle.guest_profile.proofs.LaidEnds.{events_kept}
use Rattle.guest_profile.proofs.Ranges.{less_or_more, written-apart}
use Rattle.guest_profile.proofs.Rings.{cycle_in-text}

-- a range inside a ring
pub record IsInside (lines : LinesState) (pipe : Pipe) (stream at size : ℕ) : Type 0 where
  pub first : (ring_of lines pipe stream).base ≤ at
  pub last : at + size ≤ (ring_of lines pipe stream).base + 16 * places_of pipe

-- the bounds of a pipe's rings
record PipeBounds (lines : LinesState) (pipe : Pipe) (stream : ℕ) : Type 0 where
  first : RINGS + PIPE_SPAN * number_of pipe + 4096 * stream ≡ (ring_of lines pipe stream).base
  size : 16 * places_of pipe ≤ 4096
  stream_most : stream ≤ STREAMS

pipe_bounds : (layout : Layout) (lines : LinesState) (frames : List TagBuffers) (memory : Memory) (end : EventEnd) (pipe : Pipe) (stream : ℕ)
    → IsLaid layout lines frames memory end → HasRing pipe stream → PipeBounds lines pipe stream
pipe_bounds layout lines frames memory end Command stream laid has =
    let is = laid.lines_are.base Command stream has in record { first = omega arith; size = omega arith; stream_most = omega arith }
pipe_bounds layout lines frames memory end Status stream laid has =
    let is = laid.lines_are.base Status stream has in record { first = omega arith; size = omega arith; stream_most = omega arith }
pipe_bounds layout lines frames memory end DataIn stream laid has =
    let is = laid.lines_are.base DataIn stream has in record { first = omega arith; size = omega arith; stream_most = omega arith }
pipe_bounds layout lines frames memory end DataOut stream laid has =
    let is = laid.lines_are.base DataOut stream has in record { first = omega arith; size = omega arith; stream_most = omega arith }

-- two rings lie apart
rings_apart : (lines : LinesState) (pipe other : Pipe) (stream another at size : ℕ) → PipeBounds lines pipe stream → PipeBounds lines other another
    → IsInside lines pipe stream at size → (pipe ≡ other → stream ≢ another) → AreApart (ring_of lines other another).base (16 * places_of other) at size
rings_apart lines pipe other stream another at size here there inside differs = elim (cases_eq (number_of pipe) (number_of other)) [
  | inl number ↦ elim (less_or_more stream another (differs (same_number pipe other number))) [
    | inl less ↦ inr (omega (arith, here.first, here.size, there.first, inside.last, number))
    | inr more ↦ inl (omega (arith, here.first, there.size, there.first, inside.first, number))
  ]
  | inr apart ↦ elim (less_or_more (number_of pipe) (number_of other) apart) [
    | inl less ↦ inr (omega (arith, here.first, here.size, here.stream_most, there.first, inside.last))
    | inr more ↦ inl (omega (arith, here.first, there.size, there.stream_most, there.first, inside.first))
  ]
]

-- a range inside a ring is apart from what is beside the map, from the event ring and from each buffer
pub inside_beside : (n base at size part len : ℕ) → RingBounds n base → base ≤ part → part + len ≤ base + 16 * n → IsBeside at size → AreApart at size part len
inside_beside n base at size part len bounds from to beside = elim beside.rings [
  | inl before ↦ inl (omega (arith, before, bounds.first))
  | inr behind ↦ inr (omega (arith, behind, bounds.last))
]

inside_frames : (frames : List TagBuffers) (n base part len : ℕ) (buffer : Buffer) (tag : ℕ) → IsWhole frames → RingBounds n base → base ≤ part
    → part + len ≤ base + 16 * n → 1 ≤ tag → tag ≤ STREAMS
    → AreApart (address_of (front_of buffer tag)) (length (bytes_of frames (front_of buffer tag))) part len
inside_frames frames n base part len CommandBuffer tag whole bounds from to some most =
    let short = frame_bounds frames CommandBuffer tag whole some most in inl (omega (arith, bounds.first))
inside_frames frames n base part len StatusBuffer tag whole bounds from to some most =
    let short = frame_bounds frames StatusBuffer tag whole some most in inl (omega (arith, bounds.first))
inside_frames frames n base part len Window tag whole bounds from to some most = inr (omega (arith, bounds.last))

pub laid_ring : (layout : Layout) (lines : LinesState) (frames : List TagBuffers) (memory : Memory) (end : EventEnd) (pipe : Pipe) (stream : ℕ) (r : ItemRing) (at : ℕ) (bytes : List ℕ)
    → IsLayout layout → IsLaid layout lines frames memory end → HasRing pipe stream → r.base ≡ (ring_of lines pipe stream).base
    → IsInside lines pipe stream at (length bytes) → HoldsRing (places_of pipe) r (written memory at bytes)
    → KeepsEnd (places_of pipe) r (kept_at layout pipe stream) (written memory at bytes)
    → IsLaid layout (with_ring lines pipe stream r) frames (written memory at bytes) end
laid_ring layout lines frames memory end pipe stream r at bytes is laid has base inside holds kept = record {
  lines_are = IsLines-with_ring lines pipe stream r laid.lines_are has (base ∙ laid.lines_are.base pipe stream has);
  whole = laid.whole;
  rings = ring_by;
  ends = end_by;
  events = rw (events_kept lines pipe stream r) (HoldsEventRing-apart memory at bytes EVENT_RING_PLACES EVENT_RING lines.events
      (inr (omega (arith, (ring_bounds lines pipe stream laid.lines_are has).last, inside.last))) laid.events);
  producer = rw (events_kept lines pipe stream r) laid.producer;
  buffers = HoldsFrames-apart memory at bytes frames
      (λ buffer tag some most. inside_frames frames (places_of pipe) _ at (length bytes) buffer tag laid.whole (ring_bounds lines pipe stream laid.lines_are has)
      inside.first inside.last some most) laid.buffers;
}
  where
    off : (other : Pipe) (another : ℕ) → HasRing other another → (pipe ≡ other → stream ≢ another)
        → AreApart (ring_of lines other another).base (16 * places_of other) at (length bytes)
    off other another also differs = rings_apart lines pipe other stream another at (length bytes) (pipe_bounds layout lines frames memory end pipe stream laid has)
        (pipe_bounds layout lines frames memory end other another laid also) inside differs

    ring_by : (other : Pipe) (another : ℕ) → HasRing other another
        → HoldsRing (places_of other) (ring_of (with_ring lines pipe stream r) other another) (written memory at bytes)
    ring_by other another also = elim (same_ring pipe other stream another) [
      | inl same ↦ rw (← same.0, ← same.1, ring_of_with_ring lines pipe stream r laid.lines_are has) holds
      | inr differs ↦ rw (ring_of-others lines pipe other stream another r has also differs)
          (HoldsRing-apart memory at bytes (places_of other) (ring_of lines other another) (off other another also differs) (laid.rings other another also))
    ]

    end_by : (other : Pipe) (another : ℕ) → HasRing other another
        → KeepsEnd (places_of other) (ring_of (with_ring lines pipe stream r) other another) (kept_at layout other another) (written memory at bytes)
    end_by other another also = elim (same_ring pipe other stream another) [
      | inl same ↦ rw (← same.0, ← same.1, ring_of_with_ring lines pipe stream r laid.lines_are has) kept
      | inr differs ↦ rw (ring_of-others lines pipe other stream another r has also differs)
          (KeepsEnd-apart memory at bytes (places_of other) (ring_of lines other another) (kept_at layout other another)
          ((ring_bounds lines other another laid.lines_are also).least) (off other another also differs)
          (inside_beside (places_of pipe) (ring_of lines pipe stream).base _ _ at (length bytes) (ring_bounds lines pipe stream laid.lines_are has) inside.first inside.last
          (kept_beside layout other another is also)) (laid.ends other another also))
    ]

pub All-one : (trb : Trb) → HasText trb → All HasBytes (known trb ∷ [])
All-one trb has zero d below = has
All-one trb has (suc k) d below = absurd (omega (arith, below))

holds_put : (n : ℕ) (r : ItemRing) (memory : Memory) (trb : Trb) → HoldsRing n r memory → length r.put < n - 2 → place_of n r (length r.put) + 1 < n - 1 → HasText trb
    → HoldsRing n (with_trb r trb) (written memory (pointer_of n r (length r.put)) (text trb (cycle_of n r (length r.put))))
holds_put n r memory trb holds room inside has =
    let least = holds.ring.least_places in
    let bytes = text trb (cycle_of n r (length r.put)) in
    let is_text : IsText item_form bytes (known trb) (cycle_of n r (length r.put)) = record {
      bytes_are = refl;
      reads = item_read-text trb (cycle_of n r (length r.put)) has;
      bit = cycle_in-text trb (cycle_of n r (length r.put)) has;
    } in
    record {
      ring = IsRing-put n r (known trb ∷ []) holds.ring (All-one trb has) (omega (arith, room));
      places = set holds.places (place_of n r (length r.put)) bytes;
      items = HoldsItems-put n r.base holds.places r.at r.put (known trb) bytes
          (record { place = place_of n r (length r.put); cycle = cycle_of n r (length r.put) }) least holds.items room (record { place = refl; cycle = refl }) is_text inside;
      there = HasPlaces-set memory r.base holds.places (place_of n r (length r.put)) bytes holds.there (omega (arith, inside, holds.items.size)) (length-text trb _);
    }

keeps_put : (n : ℕ) (r : ItemRing) (memory : Memory) (home : Home) (trb : Trb) → 4 ≤ n → place_of n r (length r.put) + 1 < n - 1
    → AreApart (home_at home) (home_size home) (pointer_of n r (length r.put)) 16 → KeepsEnd n r home memory
    → KeepsEnd n (with_trb r trb) home (written memory (pointer_of n r (length r.put)) (text trb (cycle_of n r (length r.put))))
keeps_put n r memory home trb least inside beside (inl item) =
    inl (written-apart memory _ (text trb (cycle_of n r (length r.put))) (home_at home) (home_size home) (rw (length-text trb (cycle_of n r (length r.put))) beside) ∙ item)
keeps_put n r memory home trb least inside beside (inr link) = inr (record {
  kept = written-apart memory _ (text trb (cycle_of n r (length r.put))) (home_at home) (home_size home) (rw (length-text trb (cycle_of n r (length r.put))) beside) ∙ link.kept;
  before = record {
    first = link.before.first;
    chain = link.before.chain;
    link = written-apart memory _ (text trb (cycle_of n r (length r.put))) (r.base + 16 * (n - 1)) 16
        (inr (omega (arith, length-text trb (cycle_of n r (length r.put)), inside))) ∙ link.before.link;
  };
})

pub trb_is_put : TrbIsPut
trb_is_put layout lines frames memory end pipe stream trb is laid has room inside text_has =
    let ring = laid.rings pipe stream has in
    let bounds = ring_bounds lines pipe stream laid.lines_are has in
    let size = length-text trb (cycle_of (places_of pipe) (ring_of lines pipe stream) (length (ring_of lines pipe stream).put)) in
    laid_ring layout lines frames memory end pipe stream (with_trb (ring_of lines pipe stream) trb) _ _ is laid has refl
    (record { first = omega arith; last = omega (arith, size, inside, bounds.least) })
    (holds_put (places_of pipe) (ring_of lines pipe stream) memory trb ring room inside text_has)
    (keeps_put (places_of pipe) (ring_of lines pipe stream) memory (kept_at layout pipe stream) trb bounds.least inside
    (inside_beside (places_of pipe) (ring_of lines pipe stream).base _ _ _ 16 bounds (omega arith) (omega (arith, inside, bounds.least)) (kept_beside layout pipe stream is has))
    (laid.ends pipe stream has))

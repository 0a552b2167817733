-- A ring's end is written over a memory that is laid out.
use Rattle.std.proofs.Common.{◌≡◌, ℕ, ◌*◌, ◌≤◌, List, length, refl, inl, inr}
use Rattle.uas_profile.specs.declared.Pipe.{Pipe}
use Rattle.uas_profile.specs.declared.Pipe.TheVariants.{Command, Status, DataIn, DataOut}
use Rattle.uas_profile.specs.declared.TheConstants.{EVENT_RING, EVENT_RING_PLACES}
use Rattle.cycle_ring.specs.Items.{ItemRing}
use Rattle.stream_array.specs.Map.{HasRing, places_of}
use Rattle.stream_array.specs.Rings.{LinesState, ring_of, with_ring}
use Rattle.stream_array.proofs.Frames.{IsLines-with_ring, ring_of-others, ring_of_with_ring}
use Rattle.frame_store.specs.declared.TagBuffers.{TagBuffers}
use Rattle.guest_memory.specs.Bytes.{Memory, written}
use Rattle.guest_memory.specs.rings.Ends.{home_at, home_size}
use Rattle.guest_memory.specs.rings.Events.{EventEnd}
use Rattle.guest_profile.specs.Rings.{HoldsRing}
use Rattle.guest_profile.specs.Layout.{AreApart, IsLaid, IsLayout, KeepsEnd, Layout, kept_at}
use Rattle.guest_profile.proofs.Apart.{HoldsEventRing-apart, HoldsFrames-apart, HoldsRing-apart, KeepsEnd-apart, events_beside, frame_beside, kept_apart, kept_beside, ring_beside, ring_bounds, same_ring}

-- the same ring with another consumer's end
pub HoldsRing-got : (n got : ℕ) (r : ItemRing) (memory : Memory) → got ≤ length r.put → HoldsRing n r memory → HoldsRing n (record r { got = got }) memory
HoldsRing-got n got r memory within holds = record {
  ring = record {
    least_places = holds.ring.least_places;
    most_places = holds.ring.most_places;
    base_aligned = holds.ring.base_aligned;
    base_below = holds.ring.base_below;
    at_below = holds.ring.at_below;
    consumed = within;
    room_left = holds.ring.room_left;
    texts = holds.ring.texts;
  };
  places = holds.places;
  items = holds.items;
  there = holds.there;
}

-- the event ring stays beside a ring
pub events_kept : (lines : LinesState) (pipe : Pipe) (stream : ℕ) (r : ItemRing) → (with_ring lines pipe stream r).events ≡ lines.events
events_kept lines Command stream r = refl
events_kept lines Status stream r = refl
events_kept lines DataIn stream r = refl
events_kept lines DataOut stream r = refl

pub laid_stood : (layout : Layout) (lines : LinesState) (frames : List TagBuffers) (memory : Memory) (end : EventEnd) (pipe : Pipe) (stream got : ℕ) (bytes : List ℕ)
    → IsLayout layout → IsLaid layout lines frames memory end → HasRing pipe stream → got ≤ length (ring_of lines pipe stream).put
    → length bytes ≡ home_size (kept_at layout pipe stream)
    → KeepsEnd (places_of pipe) (record (ring_of lines pipe stream) { got = got }) (kept_at layout pipe stream) (written memory (home_at (kept_at layout pipe stream)) bytes)
    → IsLaid layout (with_ring lines pipe stream (record (ring_of lines pipe stream) { got = got })) frames
    (written memory (home_at (kept_at layout pipe stream)) bytes) end
laid_stood layout lines frames memory end pipe stream got bytes is laid has within size kept = record {
  lines_are = IsLines-with_ring lines pipe stream (record (ring_of lines pipe stream) { got = got }) laid.lines_are has (laid.lines_are.base pipe stream has);
  whole = laid.whole;
  rings = ring_by;
  ends = end_by;
  events = rw (events_kept lines pipe stream (record (ring_of lines pipe stream) { got = got }))
      (HoldsEventRing-apart memory _ bytes EVENT_RING_PLACES EVENT_RING lines.events
      (rw size (events_beside _ _ (kept_beside layout pipe stream is has))) laid.events);
  producer = rw (events_kept lines pipe stream (record (ring_of lines pipe stream) { got = got })) laid.producer;
  buffers = HoldsFrames-apart memory _ bytes frames
      (λ buffer tag some most. rw size (frame_beside frames _ _ buffer tag laid.whole (kept_beside layout pipe stream is has) some most)) laid.buffers;
}
  where
    off : (other : Pipe) (another : ℕ) → HasRing other another
        → AreApart (ring_of lines other another).base (16 * places_of other) (home_at (kept_at layout pipe stream)) (length bytes)
    off other another also = rw size
        (ring_beside (places_of other) (ring_of lines other another).base _ _ (ring_bounds lines other another laid.lines_are also) (kept_beside layout pipe stream is has))

    ring_by : (other : Pipe) (another : ℕ) → HasRing other another
        → HoldsRing (places_of other) (ring_of (with_ring lines pipe stream (record (ring_of lines pipe stream) { got = got })) other another)
        (written memory (home_at (kept_at layout pipe stream)) bytes)
    ring_by other another also = elim (same_ring pipe other stream another) [
      | inl same ↦ rw (← same.0, ← same.1, ring_of_with_ring lines pipe stream (record (ring_of lines pipe stream) { got = got }) laid.lines_are has)
          (HoldsRing-got (places_of pipe) got (ring_of lines pipe stream) _ within
          (HoldsRing-apart memory _ bytes (places_of pipe) (ring_of lines pipe stream) (off pipe stream has) (laid.rings pipe stream has)))
      | inr differs ↦ rw (ring_of-others lines pipe other stream another (record (ring_of lines pipe stream) { got = got }) has also differs)
          (HoldsRing-apart memory _ bytes (places_of other) (ring_of lines other another) (off other another also) (laid.rings other another also))
    ]

    end_by : (other : Pipe) (another : ℕ) → HasRing other another
        → KeepsEnd (places_of other) (ring_of (with_ring lines pipe stream (record (ring_of lines pipe stream) { got = got })) other another)
        (kept_at layout other another) (written memory (home_at (kept_at layout pipe stream)) bytes)
    end_by other another also = elim (same_ring pipe other stream another) [
      | inl same ↦ rw (← same.0, ← same.1, ring_of_with_ring lines pipe stream (record (ring_of lines pipe stream) { got = got }) laid.lines_are has) kept
      | inr differs ↦ rw (ring_of-others lines pipe other stream another (record (ring_of lines pipe stream) { got = got }) has also differs)
          (KeepsEnd-apart memory _ bytes (places_of other) (ring_of lines other another) (kept_at layout other another)
          ((ring_bounds lines other another laid.lines_are also).least) (off other another also)
          (rw size (kept_apart layout pipe other stream another is has also differs)) (laid.ends other another also))
    ]

-- An event is posted over a memory that is laid out.
use Rattle.std.proofs.Common.{◌≡◌, ℕ, ◌+◌, ◌-◌, ◌*◌, ◌<◌, ◌≤◌, Bool, List, length, arith, inl, inr}
use Rattle.uas_profile.specs.declared.TheConstants.{EVENT_RING, EVENT_RING_PLACES}
use Rattle.xhci_trb.specs.Text.{text}
use Rattle.event_ring.specs.declared.Event.{Event}
use Rattle.event_ring.specs.Events.{IsWritable, trb_of}
use Rattle.stream_array.specs.Map.{places_of}
use Rattle.stream_array.specs.Rings.{LinesState, ring_of, with_events}
use Rattle.stream_array.proofs.Frames.{with_events-kept}
use Rattle.frame_store.specs.declared.TagBuffers.{TagBuffers}
use Rattle.guest_memory.specs.Bytes.{Memory, written}
use Rattle.guest_memory.specs.rings.Ends.{home_at, home_size}
use Rattle.guest_memory.specs.rings.Events.{EventEnd, enqueue_pointer, enqueued}
use Rattle.guest_profile.specs.Events.{with_event}
use Rattle.guest_profile.specs.Layout.{AreApart, IsBeside, IsLaid, IsLayout, Layout, kept_at}
use Rattle.guest_profile.proofs.Apart.{HoldsFrames-apart, HoldsRing-apart, KeepsEnd-apart, RingBounds, enqueue_bounds, frame_off_events, kept_beside, ring_bounds}
use Rattle.guest_profile.proofs.Events.{event_is_posted, length-text}

-- the enqueue place is apart from each ring, and from what is beside the map
ring_off : (n base at : ℕ) → RingBounds n base → EVENT_RING ≤ at → AreApart base (16 * n) at 16
ring_off n base at bounds from = inl (omega (arith, bounds.last, from))

beside_off : (at size place : ℕ) → IsBeside at size → EVENT_RING ≤ place → place + 16 ≤ EVENT_RING + 16 * EVENT_RING_PLACES → AreApart at size place 16
beside_off at size place beside from to =
    elim beside.rings [ inl before ↦ inl (omega (arith, before, from)) | inr behind ↦ inr (omega (arith, behind, to)) ]

pub laid_posted : (layout : Layout) (lines : LinesState) (frames : List TagBuffers) (memory : Memory) (end : EventEnd) (event : Event) (quiet : Bool)
    → IsLayout layout → IsLaid layout lines frames memory end → length lines.events.pending < EVENT_RING_PLACES - 1 → IsWritable event
    → IsLaid layout (with_events lines (with_event lines.events event)) frames (written memory (enqueue_pointer end) (text (trb_of event) end.cycle))
    (enqueued end quiet)
laid_posted layout lines frames memory end event quiet is laid room writable =
    let at = enqueue_pointer end in
    let bytes = text (trb_of event) end.cycle in
    let size : length bytes ≡ 16 = length-text (trb_of event) end.cycle in
    let place = enqueue_bounds lines.events end laid.producer in
    let kept = with_events-kept lines (with_event lines.events event) laid.lines_are in
    let told = event_is_posted EVENT_RING_PLACES EVENT_RING lines.events event memory end quiet laid.events laid.producer room writable in
    record {
      lines_are = kept.0;
      whole = laid.whole;
      rings = λ pipe stream has. rw (kept.1 pipe stream)
          (HoldsRing-apart memory at bytes (places_of pipe) (ring_of lines pipe stream)
          (rw size (ring_off (places_of pipe) _ at (ring_bounds lines pipe stream laid.lines_are has) place.0)) (laid.rings pipe stream has));
      ends = λ pipe stream has. rw (kept.1 pipe stream)
          (KeepsEnd-apart memory at bytes (places_of pipe) (ring_of lines pipe stream) (kept_at layout pipe stream)
          ((ring_bounds lines pipe stream laid.lines_are has).least)
          (rw size (ring_off (places_of pipe) _ at (ring_bounds lines pipe stream laid.lines_are has) place.0))
          (rw size (beside_off (home_at (kept_at layout pipe stream)) (home_size (kept_at layout pipe stream)) at (kept_beside layout pipe stream is has) place.0 place.1))
          (laid.ends pipe stream has));
      events = told.holds;
      producer = told.producer;
      buffers = HoldsFrames-apart memory at bytes frames
          (λ buffer tag some most. frame_off_events frames at (length bytes) buffer tag laid.whole place.0 (omega (arith, size, place.1)) some most) laid.buffers;
    }

-- What the profile's host puts on a ring, in memory.
use Rattle.std.specs.Prelude.{◌≡◌, ℕ, ◌+◌, ◌-◌, ◌<◌, ◌≤◌, List, [], ◌∷◌, ◌++◌, length}
use Rattle.uas_profile.specs.declared.Pipe.{Pipe}
use Rattle.xhci_trb.specs.declared.Trb.{Trb}
use Rattle.xhci_trb.specs.Text.{HasText, has_chain, text}
use Rattle.cycle_ring.specs.Ring.{cycle_of, link_with, place_of, pointer_of, reclaimed}
use Rattle.cycle_ring.specs.Items.{ItemRing, known}
use Rattle.stream_array.specs.Map.{HasRing, places_of}
use Rattle.stream_array.specs.Rings.{LinesState, ring_of, with_events, with_ring}
use Rattle.uas_profile.specs.declared.TheConstants.{EVENT_RING_PLACES}
use Rattle.event_ring.specs.Events.{taken}
use Rattle.frame_store.specs.declared.Place.{Place}
use Rattle.frame_store.specs.Buffers.{Names}
use Rattle.frame_store.specs.Buffers.{written as frames_written}
use Rattle.frame_store.specs.declared.TagBuffers.{TagBuffers}
use Rattle.guest_memory.specs.Bytes.{Memory, written}
use Rattle.guest_memory.specs.rings.Events.{EventEnd}
use Rattle.guest_profile.specs.Layout.{IsLaid, IsLayout, Layout}

-- the ring with one more TRB
abbrev pub with_trb : ItemRing → Trb → ItemRing
with_trb r trb = record r { put = r.put ++ known trb ∷ [] }

-- the bytes of a TRB that is put last before the Link, and of the Link
abbrev pub last_texts : ℕ → ItemRing → Trb → List ℕ
last_texts n r trb = text trb (cycle_of n r (length r.put)) ++ text (link_with r.base (has_chain trb)) (cycle_of n r (length r.put))

-- A TRB is put at the enqueue place, which isn't the last one before the Link: its 16 bytes are written there.
abbrev pub TrbIsPut : Type 0
TrbIsPut =
    (layout : Layout) (lines : LinesState) (frames : List TagBuffers) (memory : Memory) (end : EventEnd) (pipe : Pipe) (stream : ℕ) (trb : Trb) → IsLayout layout
    → IsLaid layout lines frames memory end → HasRing pipe stream → length (ring_of lines pipe stream).put < places_of pipe - 2
    → place_of (places_of pipe) (ring_of lines pipe stream) (length (ring_of lines pipe stream).put) + 1 < places_of pipe - 1 → HasText trb
    → IsLaid layout (with_ring lines pipe stream (with_trb (ring_of lines pipe stream) trb)) frames
    (written memory (pointer_of (places_of pipe) (ring_of lines pipe stream) (length (ring_of lines pipe stream).put))
    (text trb (cycle_of (places_of pipe) (ring_of lines pipe stream) (length (ring_of lines pipe stream).put))))
    end

-- At the last place before the Link: its 16 bytes and behind them the Link's, with the same Cycle bit and the TRB's Chain bit.
abbrev pub TrbIsPutLast : Type 0
TrbIsPutLast =
    (layout : Layout) (lines : LinesState) (frames : List TagBuffers) (memory : Memory) (end : EventEnd) (pipe : Pipe) (stream : ℕ) (trb : Trb) → IsLayout layout
    → IsLaid layout lines frames memory end → HasRing pipe stream → length (ring_of lines pipe stream).put < places_of pipe - 2
    → place_of (places_of pipe) (ring_of lines pipe stream) (length (ring_of lines pipe stream).put) ≡ places_of pipe - 2 → HasText trb
    → IsLaid layout (with_ring lines pipe stream (with_trb (ring_of lines pipe stream) trb)) frames
    (written memory (pointer_of (places_of pipe) (ring_of lines pipe stream) (length (ring_of lines pipe stream).put))
    (last_texts (places_of pipe) (ring_of lines pipe stream) trb))
    end

-- bytes are written to a tag's buffer, at the same address
abbrev pub BytesAreWritten : Type 0
BytesAreWritten =
    (layout : Layout) (lines : LinesState) (frames : List TagBuffers) (memory : Memory) (end : EventEnd) (address len : ℕ) (new : List ℕ) (place : Place)
    → IsLayout layout → IsLaid layout lines frames memory end → Names frames address len place → length new ≡ len
    → IsLaid layout lines (frames_written frames address len new) (written memory address new) end

-- The first items of a ring that are consumed are freed: memory stays as it is.
abbrev pub ItemsAreFreed : Type 0
ItemsAreFreed =
    (layout : Layout) (lines : LinesState) (frames : List TagBuffers) (memory : Memory) (end : EventEnd) (pipe : Pipe) (stream count : ℕ) → IsLayout layout
    → IsLaid layout lines frames memory end → HasRing pipe stream → count ≤ (ring_of lines pipe stream).got
    → IsLaid layout (with_ring lines pipe stream (reclaimed (places_of pipe) count (ring_of lines pipe stream))) frames memory end

-- The first event is taken: memory stays as it is, and one place more is free.
abbrev pub EventIsTaken : Type 0
EventIsTaken =
    (layout : Layout) (lines : LinesState) (frames : List TagBuffers) (memory : Memory) (end : EventEnd) → IsLaid layout lines frames memory end
    → 0 < length lines.events.pending
    → IsLaid layout (with_events lines (taken EVENT_RING_PLACES lines.events)) frames memory (record end { free = end.free + 1 })

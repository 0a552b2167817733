-- The rings of a pipe with streams: segments, and contexts that name the consumers' ends (xHCI 1.2, 4.12 and 6.2.4.1).
use Rattle.std.specs.Prelude.{◌≡◌, ℕ, ◌+◌, ◌-◌, ◌*◌, ◌/◌, ◌<◌, ◌≤◌, true, List, [], ◌∷◌, length, Option, Some, None}
use Rattle.ring_ends.specs.declared.End.{End}
use Rattle.cycle_ring.specs.Items.{ItemRing}
use Rattle.cycle_ring.specs.Segment.{IsConsumer, with_consumer}
use Rattle.uas_profile.specs.declared.TheConstants.{STREAMS, STREAM_ENTRIES, STREAM_RING_PLACES}
use Rattle.stream_array.specs.declared.Dequeue.{Dequeue}
use Rattle.stream_array.specs.Contexts.{Contexts, entry_of}
use Rattle.stream_array.specs.Rings.{stream_ring, HasPending}
use Rattle.marks.specs.Marks.{is_marked}

-- The consumer's end that an entry names, of a ring at this address.
-- Worked: 43012030h with cycle state 1 is place 3 of the ring at 43012000h, come to with cycle state 1.
abbrev pub end_in : ℕ → Option Dequeue → End
end_in base None = record { place = 0; cycle = true }
end_in base (Some dequeue) = record { place = (dequeue.pointer - base) / 16; cycle = dequeue.cycle }

-- the dequeue pointer and cycle state of an end
abbrev pub dequeue_at : ℕ → End → Dequeue
dequeue_at base end = record { pointer = base + 16 * end.place; cycle = end.cycle }

-- a segment and the entry of its context, as a ring
abbrev pub ring_in : ItemRing → Option Dequeue → ItemRing
ring_in segment entry = with_consumer STREAM_RING_PLACES segment (end_in segment.base entry)

-- the rings of the streams from this one on
unfoldable pub rings_from : ℕ → List ItemRing → Contexts → List ItemRing
rings_from stream [] contexts = []
rings_from stream (segment ∷ others) contexts = ring_in segment (entry_of contexts stream) ∷ rings_from (stream + 1) others contexts

-- the rings of a pipe, stream 1 first
abbrev pub rings_of : List ItemRing → Contexts → List ItemRing
rings_of segments contexts = rings_from 1 segments contexts

-- an entry names an end of its ring's consumer
pub record NamesEnd (segment : ItemRing) (entry : Option Dequeue) : Type 0 where
  pub written : entry ≡ Some (dequeue_at segment.base (end_in segment.base entry))
  pub consumer : IsConsumer STREAM_RING_PLACES segment (end_in segment.base entry)

-- the segments of a pipe with streams, and contexts that name an end of each, and nothing elsewhere
pub record AreStreams (segments : List ItemRing) (contexts : Contexts) : Type 0 where
  pub count : length segments ≡ STREAMS
  pub entries : length contexts ≡ STREAM_ENTRIES
  pub reserved : entry_of contexts 0 ≡ None
  pub named : (stream : ℕ) → 0 < stream → stream ≤ STREAMS → NamesEnd (stream_ring segments stream) (entry_of contexts stream)
  pub none : (stream : ℕ) → STREAMS < stream → entry_of contexts stream ≡ None

-- every stream with something pending is marked by its number, and no place that isn't a stream's is marked
pub record AreMarked (marks : List ℕ) (rings : List ItemRing) : Type 0 where
  pub pending : (stream : ℕ) → 0 < stream → stream ≤ STREAMS → HasPending (stream_ring rings stream) → is_marked marks stream ≡ true
  pub streams : (place : ℕ) → is_marked marks place ≡ true → (0 < place) × (place ≤ STREAMS)

-- A memory that holds the profile's event ring, and its producer that writes to that memory (xHCI 1.2, 4.9.4 and 6.4.2).
use Rattle.std.specs.Prelude.{◌≡◌, ℕ, ◌+◌, ◌≤◌, ◌<◌, ◌-◌, Bool, true, false, List, [], ◌∷◌, ◌++◌, length}
use Rattle.uas_profile.specs.declared.TheConstants.{SLOT}
use Rattle.xhci_trb.specs.Text.{text}
use Rattle.event_ring.specs.declared.Event.{Event}
use Rattle.event_ring.specs.declared.Event.TheVariants.{Transfer}
use Rattle.event_ring.specs.Events.{Events, IsRing, IsWritable, cycle_of, place_of, trb_of}
use Rattle.event_ring.specs.Segment.{HoldsEvents}
use Rattle.guest_memory.specs.Bytes.{Memory, written}
use Rattle.guest_memory.specs.declared.rings.event.Event.TheVariants.{Transfer as TransferTold}
use Rattle.guest_memory.specs.rings.Events.{EventEnd, enqueue_pointer, enqueued, event_bytes, has_room}
use Rattle.guest_profile.specs.Rings.{HasPlaces}

-- memory holds an event ring of n places: at each the 16 bytes that its segment has
pub record HoldsEventRing (n base : ℕ) (r : Events) (memory : Memory) : Type 0 where
  pub ring : IsRing n r
  pub places : List (List ℕ)
  pub events : HoldsEvents n places r
  pub there : HasPlaces memory base places

-- the producer behind the last event; one place always stays empty
pub record IsProducer (n base : ℕ) (r : Events) (end : EventEnd) : Type 0 where
  pub base_is : end.base ≡ base
  pub places : end.places ≡ n
  pub place : end.place ≡ place_of n r (length r.pending)
  pub cycle : end.cycle ≡ cycle_of n r (length r.pending)
  pub free : end.free + length r.pending + 1 ≡ n

-- the ring with one more event
abbrev pub with_event : Events → Event → Events
with_event r event = record r { pending = r.pending ++ event ∷ [] }

-- an event is posted: its 16 bytes are written at the enqueue place, and the producer goes on
pub record IsPosted (n base : ℕ) (r : Events) (event : Event) (memory : Memory) (end : EventEnd) (quiet : Bool) : Type 0 where
  pub holds : HoldsEventRing n base (with_event r event) (written memory (enqueue_pointer end) (text (trb_of event) end.cycle))
  pub producer : IsProducer n base (with_event r event) (enqueued end quiet)

-- LAWS

-- both write the same bytes for an event of a transfer
abbrev pub EventsAreAlike : Type 0
EventsAreAlike =
    (pointer residual code endpoint : ℕ) (cycle : Bool) → IsWritable (Transfer pointer residual code endpoint SLOT)
    → event_bytes (TransferTold pointer residual code endpoint false) cycle ≡ text (trb_of (Transfer pointer residual code endpoint SLOT)) cycle

-- where there is room the segment of the ring with one more event is what memory then holds
abbrev pub EventIsPosted : Type 0
EventIsPosted =
    (n base : ℕ) (r : Events) (event : Event) (memory : Memory) (end : EventEnd) (quiet : Bool) → HoldsEventRing n base r memory → IsProducer n base r end
    → length r.pending < n - 1 → IsWritable event → IsPosted n base r event memory end quiet

-- two places are free where as many less one are pending at most
abbrev pub RoomIsCounted : Type 0
RoomIsCounted = (n base : ℕ) (r : Events) (end : EventEnd) → IsProducer n base r end → length r.pending + 3 ≤ n → has_room end ≡ true

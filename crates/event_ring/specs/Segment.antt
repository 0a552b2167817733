-- The bytes of an event ring's segment, and the events that they hold (xHCI 1.2, 4.9.4).
use Rattle.std.specs.Prelude.{◌≡◌, ℕ, ◌+◌, List, length, map}
use Rattle.xhci_trb.specs.declared.Trb.{Trb}
use Rattle.xhci_trb.specs.declared.Trb.TheVariants.{TransferEvent, CommandEvent}
use Rattle.event_ring.specs.declared.Event.{Event}
use Rattle.event_ring.specs.declared.Event.TheVariants.{Transfer, Command}
use Rattle.ring_ends.specs.declared.End.{End}
use Rattle.event_ring.specs.Events.{Events, IsRing, trb_of}
use Rattle.ring_ends.specs.Counted.{counted, distance, IsEnd}
use Rattle.ring_ends.specs.Held.{trb_form, items_from, Holds}

-- the event of a TRB that is one (6.4.2.1, 6.4.2.2)
abbrev pub event_of : Trb → Event
event_of (TransferEvent pointer residual code endpoint slot) = Transfer pointer residual code endpoint slot
event_of (CommandEvent pointer code slot) = Command pointer code slot
event_of _ = Command 0 0 0

-- the events between the two ends
abbrev pub shown : ℕ → List (List ℕ) → End → End → Events
shown n places dequeue enqueue = record {
  at = counted n dequeue;
  pending = map event_of (items_from trb_form n places (counted n dequeue) (distance n dequeue.place enqueue.place));
}

-- the bytes hold a ring's events, each as its TRB
pub record HoldsEvents (n : ℕ) (places : List (List ℕ)) (r : Events) : Type 0 where
  pub size : length places ≡ n
  pub trbs : Holds trb_form n places r.at (map trb_of r.pending)

-- bytes and ends of a ring: the consumer's at its first event, the producer's behind its last
pub record IsSegment (n : ℕ) (places : List (List ℕ)) (dequeue enqueue : End) (r : Events) : Type 0 where
  pub ring : IsRing n r
  pub holds : HoldsEvents n places r
  pub consumer : IsEnd n r.at dequeue
  pub producer : IsEnd n (r.at + length r.pending) enqueue

-- An event ring of n places in one segment (xHCI 1.2, 4.9.4), as a counted list.
use Rattle.std.specs.Prelude.{◌≡◌, ℕ, ◌+◌, ◌-◌, ◌*◌, ◌/◌, ◌%◌, ◌<◌, ◌≤◌, Bool, List, [], length, drop, Option, slice_get, option_map, ◌==◌, All}
use Rattle.xhci_trb.specs.declared.Trb.{Trb}
use Rattle.xhci_trb.specs.declared.Trb.TheVariants.{TransferEvent, CommandEvent}
use Rattle.xhci_trb.specs.Text.{HasText, text}
use Rattle.event_ring.specs.declared.Event.{Event}
use Rattle.event_ring.specs.declared.Event.TheVariants.{Transfer, Command}

-- the counted place of the first pending event, below 2 n, and the events that are pending
pub record Events : Type 0 where
  pub at : ℕ
  pub pending : List Event

-- a ring of zeros at its first place, both cycle states 1 (4.9.4)
abbrev pub opening : Events
opening = record { at = 0; pending = [] }

-- The place of event k; there is no Link.
-- Worked: n = 16 and at = 15: events 0 and 1 stand at 15 and 0.
abbrev pub place_of : ℕ → Events → ℕ → ℕ
place_of n r k = (r.at + k) % n

-- the Cycle bit of event k: 1 on even turns
abbrev pub cycle_of : ℕ → Events → ℕ → Bool
cycle_of n r k = (r.at + k) / n % 2 == 0

-- the TRB of an event (6.4.2.1, 6.4.2.2)
abbrev pub trb_of : Event → Trb
trb_of (Transfer pointer residual code endpoint slot) = TransferEvent pointer residual code endpoint slot
trb_of (Command pointer code slot) = CommandEvent pointer code slot

-- each field fits its bits
abbrev pub IsWritable : Event → Type 0
IsWritable event = HasText (trb_of event)

-- the ring without its first event
abbrev pub taken : ℕ → Events → Events
taken n r = record { at = (r.at + 1) % (2 * n); pending = drop 1 r.pending }

-- event i of the new ring is event i + 1 of the old one: same place, same Cycle bit
pub record IsShifted (n : ℕ) (old new : Events) (i : ℕ) : Type 0 where
  pub place : place_of n new i ≡ place_of n old (1 + i)
  pub cycle : cycle_of n new i ≡ cycle_of n old (1 + i)

-- the bytes of event k, where it is pending
abbrev pub event_image : ℕ → Events → ℕ → Option (List ℕ)
event_image n r k = option_map (λ event. text (trb_of event) (cycle_of n r k)) (slice_get r.pending k)

-- event k is pending at this place
abbrev pub IsInUse : ℕ → Events → ℕ → ℕ → Type 0
IsInUse n r k place = (k < length r.pending) × (place ≡ place_of n r k)

-- what holds of every event ring of n places
pub record IsRing (n : ℕ) (r : Events) : Type 0 where
  pub least_places : 16 ≤ n
  pub most_places : n ≤ 4096
  pub at_below : r.at < 2 * n
  pub room_left : length r.pending ≤ n - 1
  pub writable : All IsWritable r.pending

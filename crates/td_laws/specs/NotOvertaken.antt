-- NO EVENT IS OVERTAKEN: none that the driver hasn't freed is written over.
use Rattle.std.specs.Prelude.{◌≡◌, ℕ, ◌-◌, ◌≤◌, false, ◌<◌, Bool, true, List, [], ◌∷◌}
use Rattle.std.specs.List.{AllByRecursion}
use Rattle.guest_memory.specs.Bytes.{bytes_from}
use Rattle.guest_memory.specs.rings.Events.{EventEnd, enqueued, has_room}
use Rattle.guest_tags.specs.Devices.{Kind}
use Rattle.guest_transfers.specs.State.{TransfersWorld}
use Rattle.td_laws.specs.Places.{AreApart, IsOutside, event_range}
use Rattle.td_laws.specs.Turns.{Turn, Frees, all_turned, turned, written_by}
use Rattle.td_laws.specs.Unfreed.{IsFreedTo, IsUnfreed, place_range}

-- of a new ring all places but one are free
abbrev pub NewRingIsFreed : Type 0
NewRingIsFreed = (base places : ℕ) → 1 ≤ places
    → IsFreedTo (record { base = base; places = places; place = 0; cycle = true; free = places - 1; asks = false }) 0

-- the next event's place is none of those whose events the driver hasn't freed
abbrev pub NextIsFreed : Type 0
NextIsFreed = (ring : EventEnd) (dequeue place : ℕ) → IsUnfreed ring dequeue place → AreApart (place_range ring place) (event_range ring)

-- an event is posted where two places are free; then it isn't freed, no other was lost, and the free places still are counted from
-- the driver's dequeue place
pub record IsPosted (ring : EventEnd) (quiet : Bool) (dequeue : ℕ) : Type 0 where
  pub itself : IsUnfreed (enqueued ring quiet) dequeue ring.place
  pub others : (place : ℕ) → IsUnfreed ring dequeue place → IsUnfreed (enqueued ring quiet) dequeue place
  pub counts : IsFreedTo (enqueued ring quiet) dequeue

abbrev pub PostsKeepUnfreed : Type 0
PostsKeepUnfreed = (ring : EventEnd) (quiet : Bool) (dequeue : ℕ) → IsFreedTo ring dequeue → has_room ring ≡ true → IsPosted ring quiet dequeue

module _ {D : Type 0} (kind : Kind D) where
  -- a turn writes nothing outside the next event's place and the ranges that it may write
  abbrev pub TurnsLeaveElse : Type 0
  TurnsLeaveElse =
      (w : TransfersWorld D) (turn : Turn) (a : ℕ) → AllByRecursion (IsOutside a) (event_range w.events ∷ written_by kind w turn)
      → (turned kind w turn).memory a ≡ w.memory a

  -- a turn doesn't free the event of a place, and no buffer is there, nor is a ring's end kept there
  abbrev pub IsSpared : ℕ → TransfersWorld D → Turn → Type 0
  IsSpared place w (Frees dequeue) = (dequeue < w.events.places) × IsUnfreed w.events dequeue place
  IsSpared place w turn = AllByRecursion (AreApart (place_range w.events place)) (written_by kind w turn)

  abbrev pub AreSpared : ℕ → TransfersWorld D → List Turn → Type 0
  AreSpared place w [] = Unit {0}
  AreSpared place w (turn ∷ turns) = IsSpared place w turn × AreSpared place (turned kind w turn) turns

  -- THE LAW: an event stands as it was posted until the driver frees it, whatever the pipes do meanwhile
  abbrev pub UnfreedStand : Type 0
  UnfreedStand =
      (w : TransfersWorld D) (turns : List Turn) (dequeue place : ℕ) → IsFreedTo w.events dequeue → IsUnfreed w.events dequeue place
      → AreSpared place w turns
      → bytes_from (all_turned kind w turns).memory (place_range w.events place).at 16 ≡ bytes_from w.memory (place_range w.events place).at 16

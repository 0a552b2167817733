-- Which item of a ring stands at a place.
use Rattle.std.proofs.Common.{◌≡◌, ◌∙◌, ℕ, ◌+◌, ◌-◌, ◌%◌, ◌<◌, sym, ap, arith, inl, inr}
use Rattle.std.proofs.lemmas.Bool.{cases_lt}
use Rattle.cycle_ring.specs.Ring.{item_in, place_of}
use Rattle.cycle_ring.specs.Items.{ItemRing}
use Rattle.event_ring.specs.Events.{Events, place_of as event_place_of}
use Rattle.ring_ends.specs.Counted.{distance}
use Rattle.ring_ends.specs.EndLaws.{distance-place}

pub item_below : (n : ℕ) (ring : ItemRing) (place : ℕ) → place < n - 1 → item_in (n - 1) (ring.at % (n - 1)) place < n - 1
item_below n ring place below = (distance-place (n - 1) ring.at place below).0

pub item_stands : (n : ℕ) (ring : ItemRing) (place : ℕ) → place < n - 1 → place ≡ place_of n ring (item_in (n - 1) (ring.at % (n - 1)) place)
item_stands n ring place below = sym (distance-place (n - 1) ring.at place below).1

pub event_below : (n : ℕ) (events : Events) (place : ℕ) → place < n → distance n (events.at % n) place < n
event_below n events place below = (distance-place n events.at place below).0

pub event_stands : (n : ℕ) (events : Events) (place : ℕ) → place < n → place ≡ event_place_of n events (distance n (events.at % n) place)
event_stands n events place below = sym (distance-place n events.at place below).1

-- PLACES THAT ARE PASSED

-- a place that was passed, and those before it
pub passed_more : (n from place passed : ℕ) → ((k : ℕ) → k < passed → (from + k) % n ≡ place → ⊥) → ((from + passed) % n ≡ place → ⊥)
    → (k : ℕ) → k < passed + 1 → (from + k) % n ≡ place → ⊥
passed_more n from place passed before here k below same = elim (cases_lt k passed) [
  | inl less ↦ before k less same
  | inr more ↦ here (ap (λ (j : ℕ). (from + j) % n) (omega arith) ∙ same)
]

-- the places of one turn from any place on are all places, so a place that is looked for is met
pub is_met : (n from place : ℕ) → place < n → ((k : ℕ) → k < n → (from + k) % n ≡ place → ⊥) → ⊥
is_met n from place below none =
    let stands = distance-place n from place below in
    none (distance n (from % n) place) stands.0 stands.1

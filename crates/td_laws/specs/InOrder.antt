-- BYTES IN ORDER: the buffers of a data-in TD, in the order in which they were filled, hold the bytes that the device gave.
use Rattle.std.specs.Prelude.{◌≡◌, ℕ, false, List, [], ◌∷◌, ◌++◌, Option, unwrap_or}
use Rattle.std.specs.List.{AllByRecursion}
use Rattle.guest_memory.specs.Bytes.{Memory, bytes_from}
use Rattle.guest_memory.specs.declared.rings.context.Home.{Home}
use Rattle.guest_memory.specs.declared.rings.wanting.Range.{Range}
use Rattle.guest_memory.specs.rings.Wanted.{home_range}
use Rattle.guest_tags.specs.Devices.{Kind}
use Rattle.guest_tags.specs.Tags.{TagWorld}
use Rattle.td_laws.specs.Noting.{Noted, noting}
use Rattle.td_laws.specs.Places.{AreApart, event_range}
use Rattle.td_laws.specs.Runs.{Others, Steps, TagTurn, all_stepped, part_filled, parts_filled, stepped}

-- what a part of a buffer holds
abbrev pub held_in : Memory → Range → Option (List ℕ)
held_in memory part = bytes_from memory part.at part.count

-- what parts hold, one behind another
abbrev pub held_by : Memory → List Range → List ℕ
held_by memory [] = []
held_by memory (part ∷ parts) = unwrap_or (held_in memory part) [] ++ held_by memory parts

module _ {D : Type 0} (kind : Kind D) (number : ℕ) (home : Home) where
  abbrev Tags : Type 0
  Tags = TagWorld (Noted D)

  abbrev step : Tags → Tags
  step w = stepped (noting kind) number home w

  abbrev part : Tags → Range
  part w = part_filled (noting kind) number home w

  -- others leave what is left of the tag's chunk, what was given on it, and the parts that were filled
  pub record AreLeft (parts : List Range) (w other : Tags) : Type 0 where
    pub chunk : other.tag.chunk ≡ w.tag.chunk
    pub drops : other.tag.drops ≡ w.tag.drops
    pub given : other.device.given ≡ w.device.given
    pub bytes : AllByRecursion (λ filled. held_in other.ring.memory filled ≡ held_in w.ring.memory filled) parts

  -- no step fills a part again, and no event and no ring's end is written there
  pub record AreSpared (parts : List Range) (w : Tags) : Type 0 where
    pub refilled : AllByRecursion (λ earlier. AreApart earlier (part w)) parts
    pub events : AllByRecursion (λ filled. AreApart filled (event_range w.ring.events)) (part w ∷ parts)
    pub ends : AllByRecursion (λ filled. AreApart filled (home_range home)) (part w ∷ parts)

  -- behind the parts that are filled already
  abbrev pub StayFilled : List Range → Tags → List (TagTurn Tags) → Type 0
  StayFilled parts w [] = Unit {0}
  StayFilled parts w (Steps ∷ turns) = AreSpared parts w × StayFilled (part w ∷ parts) (step w) turns
  StayFilled parts w (Others other ∷ turns) = AreLeft parts w other × StayFilled parts other turns

  -- THE LAW: where the bytes that were given are noted from the TD's beginning on, with what was left of the chunk, they stand in the
  -- parts of buffers in order, but for what is left of the chunk now; unless a buffer wasn't there, and what the task gives is dropped
  abbrev pub GivenInOrder : Type 0
  GivenInOrder =
      (w : Tags) (turns : List (TagTurn Tags)) → StayFilled [] w turns → w.tag.chunk ≡ w.device.given
      → (all_stepped (noting kind) number home w turns).tag.drops ≡ false
      → held_by (all_stepped (noting kind) number home w turns).ring.memory (parts_filled (noting kind) number home w turns)
      ++ (all_stepped (noting kind) number home w turns).tag.chunk ≡ (all_stepped (noting kind) number home w turns).device.given

-- THE PARTS ARE THE BUFFERS: what steps of data-in fill part by part are the buffers of the ring's TRBs, in its order.
use Rattle.std.specs.Prelude.{◌≡◌, ℕ, zero, suc, ◌+◌, ◌==◌, false, if◌then◌else◌, List, [], ◌∷◌, ◌++◌, Option, Some, None, IfSome}
use Rattle.guest_memory.specs.Bytes.{◌>>=◌}
use Rattle.guest_memory.specs.declared.rings.context.Home.{Home}
use Rattle.guest_memory.specs.declared.rings.wanting.Range.{Range}
use Rattle.guest_memory.specs.rings.Ends.{looked}
use Rattle.guest_memory.specs.rings.Wanted.{home_range}
use Rattle.guest_tags.specs.declared.buffer.Buffer.{Buffer}
use Rattle.guest_tags.specs.Devices.{Kind}
use Rattle.guest_tags.specs.Tags.{TagWorld}
use Rattle.guest_tags.specs.Wanted.{moving}
use Rattle.td_laws.specs.Places.{AreApart, buffer_in_front, event_range, nowhere}
use Rattle.td_laws.specs.Runs.{Others, Steps, TagTurn, all_stepped, part_filled, parts_filled, stepped}
use Rattle.td_laws.specs.Told.{moved_with}

-- the addresses of a range, and of several ranges one behind another
unfoldable pub addresses_from : ℕ → ℕ → List ℕ
addresses_from at zero = []
addresses_from at (suc n) = at ∷ addresses_from (at + 1) n

abbrev pub addresses : Range → List ℕ
addresses range = addresses_from range.at range.count

abbrev pub all_addresses : List Range → List ℕ
all_addresses [] = []
all_addresses (range ∷ ranges) = addresses range ++ all_addresses ranges

-- the first so many bytes of a buffer
abbrev pub front_part : Option Buffer → ℕ → Range
front_part None count = nowhere
front_part (Some buffer) count = record { at = buffer.pointer; count = count }

module _ {D : Type 0} (kind : Kind D) (number : ℕ) (home : Home) where
  -- what has moved of the TRB where the consumer stands
  abbrev pub begun_part : TagWorld D → Range
  begun_part w = front_part (looked w.ring.memory home >>= moving w.ring.consumer) w.ring.consumer.progress.moved

  -- what a step leaves behind: so many bytes of a buffer that isn't in front any more
  abbrev pub left_behind : TagWorld D → Range
  left_behind w =
      let moved = moved_with w.ring (part_filled kind number home w) in
      if (stepped kind number home w).ring.consumer.progress.moved == moved then nowhere else front_part (buffer_in_front w.ring home) moved

  abbrev pub all_left_behind : TagWorld D → List (TagTurn (TagWorld D)) → List Range
  all_left_behind w [] = []
  all_left_behind w (Steps ∷ turns) = left_behind w ∷ all_left_behind (stepped kind number home w) turns
  all_left_behind w (Others other ∷ turns) = all_left_behind other turns

  -- the buffer in front is there; it isn't where the ring's end is kept, nor where the TRB is, and no event goes to the ring's end
  pub record IsClear (w : TagWorld D) : Type 0 where
    pub there : (stepped kind number home w).tag.drops ≡ false
    pub end : AreApart (home_range home) (part_filled kind number home w)
    pub trb : IfSome (looked w.ring.memory home) (λ front. AreApart (record { at = front.cursor.place; count = 16 }) (part_filled kind number home w))
    pub event : AreApart (event_range w.ring.events) (home_range home)

  -- others leave what has moved of the TRB in front, and that TRB
  pub record AreBeside (w other : TagWorld D) : Type 0 where
    pub progress : other.ring.consumer.progress ≡ w.ring.consumer.progress
    pub front : looked other.ring.memory home ≡ looked w.ring.memory home

  abbrev pub StayClear : TagWorld D → List (TagTurn (TagWorld D)) → Type 0
  StayClear w [] = Unit {0}
  StayClear w (Steps ∷ turns) = IsClear w × StayClear (stepped kind number home w) turns
  StayClear w (Others other ∷ turns) = AreBeside w other × StayClear other turns

  -- THE LAW: from a TRB's beginning on, the parts that are filled are, address for address, what was left behind of each buffer, and what
  -- has moved of the one in front. A TRB that is left behind was filled, or the TD ended in it as a short packet (ResidualsAddUp)
  abbrev pub PartsAreBuffers : Type 0
  PartsAreBuffers =
      (w : TagWorld D) (turns : List (TagTurn (TagWorld D))) → StayClear w turns → w.ring.consumer.progress.moved ≡ 0
      → all_addresses (parts_filled kind number home w turns)
      ≡ all_addresses (all_left_behind w turns) ++ addresses (begun_part (all_stepped kind number home w turns))

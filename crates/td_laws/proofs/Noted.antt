-- A step of data-in, of a device that notes what it gives: where the bytes go, and what is left of the chunk.
use Rattle.std.proofs.Common.{◌≡◌, ℕ, ◌+◌, ◌-◌, ◌≤◌, ◌==◌, Bool, true, false, List, [], ◌∷◌, ◌++◌, length as list_length, take, drop, Option, Some, None, refl, sym, ap, subst, ◌∙◌, arith, append_assoc, append-nil, take-append-drop, true≢false}
use Rattle.std.specs.Prelude.{min, nat_le, not, ◌&&◌, if◌then◌else◌, unwrap_or, is_some}
use Rattle.std.proofs.lemmas.Bool.{eqb-true, leb-true, not-false}
use Rattle.std.proofs.lemmas.List.{length-take-le}
use Rattle.guest_memory.specs.Bytes.{Memory, bytes_from, is_there, ◌>>=◌}
use Rattle.guest_memory.specs.Ranges.{from_each, written_ahead}
use Rattle.guest_memory.specs.declared.rings.context.Home.{Home}
use Rattle.guest_memory.specs.declared.rings.context.Front.{Front}
use Rattle.guest_memory.specs.declared.rings.context.Found.{Found}
use Rattle.guest_memory.specs.declared.rings.context.Found.TheVariants.{WrongKind, NotYet, Item}
use Rattle.guest_memory.specs.declared.rings.trb.PipeTrb.TheVariants.{Normal, Link, NoOp, EventData, Foreign}
use Rattle.guest_memory.specs.declared.rings.wanting.Range.{Range}
use Rattle.guest_memory.specs.rings.Events.{has_room}
use Rattle.guest_memory.specs.rings.Wanted.{home_range}
use Rattle.guest_pipes.specs.declared.acted.Acted.TheVariants.{Worked}
use Rattle.guest_pipes.specs.declared.consumer.Consumer.{Consumer}
use Rattle.guest_pipes.specs.declared.progress.Ending.{Ending}
use Rattle.guest_pipes.specs.declared.progress.Ending.TheVariants.{Runs, Told, Owed}
use Rattle.guest_pipes.specs.Gate.{after}
use Rattle.guest_pipes.specs.Progress.{runs}
use Rattle.guest_pipes.specs.Step.{World, filled, filled_if, poured}
use Rattle.guest_tags.specs.declared.device.Phase.{Phase}
use Rattle.guest_tags.specs.declared.device.Phase.TheVariants.{Absent, Gives, Takes, Ended}
use Rattle.guest_tags.specs.declared.buffer.Buffer.{Buffer}
use Rattle.guest_tags.specs.Devices.{Kind}
use Rattle.guest_tags.specs.Tags.{TagWorld}
use Rattle.guest_tags.specs.DataIn.{acted, acted_at, closed, closed_if, ends_td, filled_ring, gave_by, given_to, has_chunk, is_status, lost, moved_count, moved_if, moved_in, normal, ran, refilled, stepped_in, with_ring}
use Rattle.guest_tags.specs.Wanted.{buffer_of, moving}
use Rattle.td_laws.specs.Noting.{Noted, noting}
use Rattle.td_laws.specs.Places.{AreApart, coming, event_range, given_by, nowhere, part_in, part_of, where_there}
use Rattle.td_laws.specs.InOrder.{held_in}
use Rattle.td_laws.proofs.Fronts.{by_front}
use Rattle.td_laws.proofs.RingElse.{filled_if-keeps}

nothing_held : (memory : Memory) (part : Range) → part.count ≡ 0 → held_in memory part ≡ Some []
unfolding bytes_from
nothing_held memory part none = ap (λ (n : ℕ). bytes_from memory part.at n) none

pub nothing_there : (memory : Memory) (range : Range) → range.count ≡ 0 → (where_there memory range).count ≡ 0
nothing_there memory range none = by_there (is_there memory range.at range.count)
  where
    by_there : (there : Bool) → (if there then range else nowhere).count ≡ 0
    by_there true = none
    by_there false = refl

nothing_of : (memory : Memory) (consumer : Consumer) (n : ℕ) (moves : Bool) → (part_of memory consumer n (if moves then None else None)).count ≡ 0
nothing_of memory consumer n true = refl
nothing_of memory consumer n false = refl

pub empty_chunk : (xs : List ℕ) → not (list_length xs == 0) ≡ false → xs ≡ []
empty_chunk [] empty = refl
empty_chunk (x ∷ xs) empty =
    let none : list_length (x ∷ xs) ≡ 0 = eqb-true (list_length (x ∷ xs)) 0 (not-false (list_length (x ∷ xs) == 0) empty) in
    absurd (omega (arith, none))

module _ {D : Type 0} (kind : Kind D) where
  abbrev Tags : Type 0
  Tags = TagWorld (Noted D)

  -- what a step made of the tag, with the part of a buffer that it filled
  pub record Orders (w new : Tags) (home : Home) (part : Range) : Type 0 where
    pub drops : new.tag.drops ≡ false → w.tag.drops ≡ false
    pub there : new.tag.drops ≡ false → AreApart part (event_range w.ring.events) → AreApart part (home_range home) → is_some (held_in new.ring.memory part) ≡ true
    pub order : new.tag.drops ≡ false → AreApart part (event_range w.ring.events) → AreApart part (home_range home)
        → (before : List ℕ) → before ++ w.tag.chunk ≡ w.device.given
        → (before ++ unwrap_or (held_in new.ring.memory part) []) ++ new.tag.chunk ≡ new.device.given

  -- nothing moved
  still : (w new : Tags) (home : Home) (part : Range) → part.count ≡ 0 → new.tag.chunk ≡ w.tag.chunk → new.device.given ≡ w.device.given
      → new.tag.drops ≡ w.tag.drops → Orders w new home part
  still w new home part none chunk given drops = record {
    drops = λ kept. sym drops ∙ kept;
    there = λ kept events ends. ap (λ (held : Option (List ℕ)). is_some held) (nothing_held new.ring.memory part none);
    order = λ kept events ends before is.
        ap (λ (held : Option (List ℕ)). (before ++ unwrap_or held []) ++ new.tag.chunk) (nothing_held new.ring.memory part none)
        ∙ ap (λ (b : List ℕ). b ++ new.tag.chunk) (append-nil before) ∙ ap (λ (c : List ℕ). before ++ c) chunk ∙ is ∙ sym given;
  }

  abbrev part_here : Tags → ℕ → Buffer → Range
  part_here w count buffer = record { at = buffer.pointer + w.ring.consumer.progress.moved; count = min count (buffer.length - w.ring.consumer.progress.moved) }

  -- bytes of the chunk moved
  gone : (w : Tags) (front : Front) (buffer : Buffer) (full : Bool) → has_room w.ring.events ≡ true
      → Orders w (filled_ring (noting kind) full (given_to (noting kind) w (buffer.pointer + w.ring.consumer.progress.moved) (moved_count (noting kind) w buffer)) front buffer)
      front.home (part_here w (list_length w.tag.chunk) buffer)
  unfolding given_to poured
  gone w front buffer full room =
      let to = buffer.pointer + w.ring.consumer.progress.moved in
      let count = moved_count (noting kind) w buffer in
      let bytes = take count w.tag.chunk in
      let v = poured w.ring to bytes in
      let new = filled_if full v front buffer.flags in
      let size : list_length (take count w.tag.chunk) ≡ count = length-take-le count w.tag.chunk (omega arith) in
      let kept = filled_if-keeps full v front buffer.flags room in
      let held : AreApart (part_here w (list_length w.tag.chunk) buffer) (event_range w.ring.events) → AreApart (part_here w (list_length w.tag.chunk) buffer) (home_range front.home)
      → held_in new.memory (part_here w (list_length w.tag.chunk) buffer) ≡ Some bytes = λ events ends. from_each new.memory to count bytes size (λ k below.
      kept.others (to + k) (events k below) (ends k below) ∙ written_ahead w.ring.memory to bytes k (omega (arith, size))) in
      record {
        drops = λ same. same;
        there = λ same events ends. ap (λ (h : Option (List ℕ)). is_some h) (held events ends);
        order = λ same events ends before is.
            ap (λ (h : Option (List ℕ)). (before ++ unwrap_or h []) ++ drop count w.tag.chunk) (held events ends)
            ∙ append_assoc before bytes (drop count w.tag.chunk) ∙ ap (λ (c : List ℕ). before ++ c) (take-append-drop count w.tag.chunk) ∙ is;
      }

  moved_in-orders : (w : Tags) (front : Front) (buffer : Buffer) → has_room w.ring.events ≡ true
      → Orders w (moved_in (noting kind) w front buffer) front.home (where_there w.ring.memory (part_here w (list_length w.tag.chunk) buffer))
  unfolding moved_in lost
  moved_in-orders w front buffer room =
      by_there (is_there w.ring.memory (buffer.pointer + w.ring.consumer.progress.moved) (moved_count (noting kind) w buffer))
    where
      by_there : (there : Bool) → Orders w
          (if there then filled_ring (noting kind) (w.ring.consumer.progress.moved + moved_count (noting kind) w buffer == buffer.length) (given_to (noting kind) w (buffer.pointer + w.ring.consumer.progress.moved) (moved_count (noting kind) w buffer)) front buffer
          else lost (noting kind) w front buffer) front.home
          (if there then part_here w (list_length w.tag.chunk) buffer else nowhere)
      by_there true = gone w front buffer (w.ring.consumer.progress.moved + moved_count (noting kind) w buffer == buffer.length) room
      by_there false = record { drops = λ kept. absurd (true≢false kept); there = λ kept events ends. absurd (true≢false kept); order = λ kept events ends before is. absurd (true≢false kept) }

  -- the device gives its next chunk
  refilled-orders : (w : Tags) (number : ℕ) (new : Tags) (home : Home) (part : Range) → has_chunk w.tag ≡ false
      → Orders (refilled (noting kind) w number) new home part → Orders w new home part
  unfolding refilled
  refilled-orders w number new home part empty orders = record {
    drops = orders.drops;
    there = orders.there;
    order = λ kept events ends before is.
        let none : before ≡ w.device.given = sym (append-nil before) ∙ sym (ap (λ (c : List ℕ). before ++ c) (empty_chunk w.tag.chunk empty)) ∙ is in
        orders.order kept events ends before (ap (λ (b : List ℕ). b ++ unwrap_or (kind.given w.device.device number) []) none);
  }

  moved_if-orders : (some : Bool) (w : Tags) (front : Front) (buffer : Buffer) → has_room w.ring.events ≡ true → has_chunk w.tag ≡ some
      → Orders w (moved_if (noting kind) some w front buffer) front.home (where_there w.ring.memory (part_here w (list_length w.tag.chunk) buffer))
  moved_if-orders true w front buffer room some = moved_in-orders w front buffer room
  moved_if-orders false w front buffer room empty =
      let none : list_length w.tag.chunk ≡ 0 = ap (λ (xs : List ℕ). list_length xs) (empty_chunk w.tag.chunk empty) in
      still w w front.home _ (nothing_there w.ring.memory (part_here w (list_length w.tag.chunk) buffer) (omega (arith, none))) refl refl refl

  closed_if-orders : (closes : Bool) (w : Tags) (front : Front) (buffer : Buffer) (part : Range) → part.count ≡ 0
      → Orders w (closed_if (noting kind) closes w front buffer).0 front.home part
  unfolding closed
  closed_if-orders true w front buffer part none = still w _ front.home part none refl refl refl
  closed_if-orders false w front buffer part none = still w _ front.home part none refl refl refl

  nothing_here : (w : Tags) (buffer : Buffer) → (where_there w.ring.memory (part_here w 0 buffer)).count ≡ 0
  nothing_here w buffer = nothing_there w.ring.memory (part_here w 0 buffer) (omega arith)

  gave_by-orders : (phase : Phase) (w : Tags) (number : ℕ) (front : Front) (buffer : Buffer) → has_room w.ring.events ≡ true → has_chunk w.tag ≡ false
      → Orders w (gave_by (noting kind) phase w number front buffer).0 front.home
      (where_there w.ring.memory (part_here w (list_length (given_by phase (kind.given w.device.device number))) buffer))
  unfolding refilled
  gave_by-orders Absent w number front buffer room empty = still w w front.home _ (nothing_here w buffer) refl refl refl
  gave_by-orders (Gives count) w number front buffer room empty =
      let v = refilled (noting kind) w number in
      refilled-orders w number _ front.home _ empty (moved_if-orders (has_chunk v.tag) v front buffer room refl)
  gave_by-orders (Takes count) w number front buffer room empty = still w w front.home _ (nothing_here w buffer) refl refl refl
  gave_by-orders (Ended end) w number front buffer room empty =
      closed_if-orders (is_status end && ends_td w.tag w.ring.consumer.progress.fed) w front buffer _ (nothing_here w buffer)

  ran-orders : (w : Tags) (number : ℕ) (front : Front) (buffer : Buffer) → has_room w.ring.events ≡ true
      → Orders w (ran (noting kind) w number front buffer).0 front.home
      (part_of w.ring.memory w.ring.consumer (list_length (coming (noting kind) w number)) (Some buffer))
  unfolding ran
  ran-orders w number front buffer room = by_tests (nat_le buffer.length w.ring.consumer.progress.moved) (has_chunk w.tag) refl refl
    where
      by_tests : (full some : Bool) → nat_le buffer.length w.ring.consumer.progress.moved ≡ full → has_chunk w.tag ≡ some → Orders w
          (if full then (with_ring (noting kind) w (filled w.ring front buffer.flags), Worked)
          else if some then (moved_in (noting kind) w front buffer, Worked)
          else gave_by (noting kind) (kind.phase w.device.device number) w number front buffer).0 front.home
          (where_there w.ring.memory (part_here w (list_length (if some then w.tag.chunk else given_by (kind.phase w.device.device number) (kind.given w.device.device number))) buffer))
      by_tests true some full has =
          let past : buffer.length ≤ w.ring.consumer.progress.moved = leb-true buffer.length w.ring.consumer.progress.moved full in
          still w _ front.home _ (nothing_there w.ring.memory (part_here w (list_length (if some then w.tag.chunk else given_by (kind.phase w.device.device number) (kind.given w.device.device number))) buffer) (omega (arith, past))) refl refl refl
      by_tests false true full has = moved_in-orders w front buffer room
      by_tests false false full has = gave_by-orders (kind.phase w.device.device number) w number front buffer room has

  normal-orders : (ending : Ending) (w : Tags) (number : ℕ) (front : Front) (buffer : Buffer) → has_room w.ring.events ≡ true
      → Orders w (normal (noting kind) ending w number front buffer).0 front.home
      (part_of w.ring.memory w.ring.consumer (list_length (coming (noting kind) w number)) (if runs ending then Some buffer else None))
  normal-orders Runs w number front buffer room = ran-orders w number front buffer room
  normal-orders (Told code) w number front buffer room = still w _ front.home nowhere refl refl refl refl
  normal-orders Owed w number front buffer room = still w _ front.home nowhere refl refl refl refl

  abbrev part_found : Tags → ℕ → Found → Range
  part_found w number found =
      part_of w.ring.memory w.ring.consumer (list_length (coming (noting kind) w number)) (if runs w.ring.consumer.progress.ending then buffer_of found else None)

  other : (w : Tags) (number : ℕ) (ring : World) (home : Home) (moves : Bool)
      → Orders w (with_ring (noting kind) w ring) home (part_of w.ring.memory w.ring.consumer (list_length (coming (noting kind) w number)) (if moves then None else None))
  other w number ring home moves = still w _ home _ (nothing_of w.ring.memory w.ring.consumer (list_length (coming (noting kind) w number)) moves) refl refl refl

  acted-orders : (found : Found) (w : Tags) (number : ℕ) (front : Front) → has_room w.ring.events ≡ true
      → Orders w (acted (noting kind) w number front found).0 front.home (part_found w number found)
  acted-orders WrongKind w number front room = other w number _ front.home (runs w.ring.consumer.progress.ending)
  acted-orders NotYet w number front room = other w number _ front.home (runs w.ring.consumer.progress.ending)
  acted-orders (Item (Normal pointer length flags)) w number front room =
      normal-orders w.ring.consumer.progress.ending w number front (record { pointer = pointer; length = length; flags = flags }) room
  acted-orders (Item (Link pointer toggle flags)) w number front room = other w number _ front.home (runs w.ring.consumer.progress.ending)
  acted-orders (Item (NoOp flags)) w number front room = other w number _ front.home (runs w.ring.consumer.progress.ending)
  acted-orders (Item (EventData parameter flags)) w number front room = other w number _ front.home (runs w.ring.consumer.progress.ending)
  acted-orders (Item Foreign) w number front room = other w number _ front.home (runs w.ring.consumer.progress.ending)

  pub step-orders : (w : Tags) (number : ℕ) (home : Home) → Orders w (after w (stepped_in (noting kind) w number home)).0 home (part_in (noting kind) w number home)
  step-orders w number home =
      by_front w w.ring home (acted_at (noting kind) w number)
      (λ (new : Tags) (f : Option Front). Orders w new home (part_of w.ring.memory w.ring.consumer (list_length (coming (noting kind) w number)) (f >>= moving w.ring.consumer)))
      (still w w home nowhere refl refl refl refl)
      (λ front there room. subst (λ (h : Home). Orders w (acted_at (noting kind) w number front).0 h (part_found w number front.found)) there
      (acted-orders front.found w number front room))

-- What a step of data-in tells.
use Rattle.std.proofs.Common.{◌≡◌, ℕ, ◌+◌, ◌-◌, ◌%◌, ◌^◌, ◌<◌, ◌≤◌, ◌==◌, Bool, true, false, List, length as list_length, take, Option, Some, None, refl, sym, ap, subst, ◌∙◌, arith, add-zero}
use Rattle.std.specs.Prelude.{min, nat_le, ◌&&◌, if◌then◌else◌}
use Rattle.std.proofs.Math.Nat.{mod-mod}
use Rattle.std.proofs.lemmas.Bool.{eqb-false, eqb-true, leb-false, leb-true}
use Rattle.std.proofs.lemmas.List.{length-take-le}
use Rattle.std.proofs.lemmas.Option.{none-some, same_Some}
use Rattle.guest_memory.specs.Ranges.{written_beside}
use Rattle.guest_memory.specs.Bytes.{is_there, ◌>>=◌}
use Rattle.guest_memory.specs.declared.rings.context.Home.{Home}
use Rattle.guest_memory.specs.declared.rings.context.Front.{Front}
use Rattle.guest_memory.specs.declared.rings.context.Found.{Found}
use Rattle.guest_memory.specs.declared.rings.context.Found.TheVariants.{WrongKind, NotYet, Item}
use Rattle.guest_memory.specs.declared.rings.trb.PipeTrb.{PipeTrb}
use Rattle.guest_memory.specs.declared.rings.trb.PipeTrb.TheVariants.{Normal, Link, NoOp, EventData, Foreign}
use Rattle.guest_memory.specs.declared.rings.wanting.Range.{Range}
use Rattle.guest_memory.specs.rings.Wanted.{home_range}
use Rattle.guest_pipes.specs.declared.acted.Acted.{Acted}
use Rattle.guest_pipes.specs.declared.acted.Acted.TheVariants.{Worked}
use Rattle.guest_pipes.specs.declared.progress.Ending.{Ending}
use Rattle.guest_pipes.specs.declared.progress.Ending.TheVariants.{Runs, Told, Owed}
use Rattle.guest_pipes.specs.Progress.{runs}
use Rattle.guest_pipes.specs.Step.{World, filled, poured, used_up}
use Rattle.guest_tags.specs.declared.device.Phase.{Phase}
use Rattle.guest_tags.specs.declared.device.Phase.TheVariants.{Absent, Gives, Takes, Ended}
use Rattle.guest_tags.specs.declared.buffer.Buffer.{Buffer}
use Rattle.guest_tags.specs.Devices.{IsEnded, Kind}
use Rattle.guest_tags.specs.Tags.{TagWorld}
use Rattle.guest_tags.specs.DataIn.{acted, acted_at, closed, closed_if, ends_td, filled_ring, gave_by, given_to, has_chunk, is_status, lost, moved_count, moved_if, moved_in, normal, ran, refilled, with_ring}
use Rattle.guest_tags.specs.Wanted.{buffer_of, moving}
use Rattle.td_laws.specs.Places.{AreApart, coming, event_range, front_of, given_by, nowhere, part_of, where_there}
use Rattle.td_laws.specs.Runs.{stepped}
use Rattle.td_laws.specs.Told.{AnEventEach, Ends, Fails, Fills, Goes, IsDropped, IsOver, IsTold, NoneWithoutATrb, ResidualsAddUp}
use Rattle.td_laws.proofs.Fronts.{by_front, on_front}
use Rattle.td_laws.proofs.Noted.{empty_chunk, nothing_there}
use Rattle.td_laws.proofs.RingElse.{sized}
use Rattle.td_laws.proofs.RingTells.{TellsOf, failed-tells, filled-counts, filled-tells, no_buffer, other-tells, shortened-counts, shortened-tells, skipped-edtla, skipped-tells}

poured_since : (edtla n count : ℕ) → n ≡ count → ((edtla + n) % 2 ^ 24) % 2 ^ 24 ≡ (edtla + count) % 2 ^ 24
poured_since edtla n count size = mod-mod (edtla + n) (2 ^ 24) ∙ ap (λ (k : ℕ). (edtla + k) % 2 ^ 24) size

module _ {D : Type 0} (kind : Kind D) where
  -- what a step that left this told, of a buffer of which it filled a part
  abbrev AddsUp : TagWorld D → TagWorld D → ℕ → Front → Buffer → ℕ → Range → Type 0
  AddsUp w new number front buffer n part = IsTold w.ring new.ring front.cursor.place buffer part (IsOver kind new number) (IsDropped kind w n buffer new)

  abbrev part_here : TagWorld D → ℕ → Buffer → Range
  part_here w count buffer = record { at = buffer.pointer + w.ring.consumer.progress.moved; count = min count (buffer.length - w.ring.consumer.progress.moved) }

  same_since : (edtla count : ℕ) → count ≡ 0 → edtla % 2 ^ 24 ≡ (edtla + count) % 2 ^ 24
  same_since edtla count none = ap (λ (n : ℕ). n % 2 ^ 24) (sym (add-zero edtla) ∙ ap (λ (n : ℕ). edtla + n) (sym none))

  -- the TRB waits, with nothing moved
  waits : (w new : TagWorld D) (number : ℕ) (front : Front) (buffer : Buffer) (n : ℕ) (part : Range) → new.ring ≡ w.ring → part.count ≡ 0
      → w.ring.consumer.progress.moved < buffer.length → AddsUp w new number front buffer n part
  waits w new number front buffer n part same none room =
      let moved : w.ring.consumer.progress.moved ≡ w.ring.consumer.progress.moved + part.count = omega (arith, none) in
      subst (λ (ring : World). IsTold w.ring ring front.cursor.place buffer part (IsOver kind new number) (IsDropped kind w n buffer new)) (sym same)
      (Goes (omega (arith, none)) (record { others = λ a outside. refl; events = refl; ending = refl })
      (record { in_trb = moved; since = same_since w.ring.consumer.progress.edtla part.count none }))

  -- it is full, and nothing moved
  was_full : (w new : TagWorld D) (number : ℕ) (front : Front) (buffer : Buffer) (n : ℕ) (part : Range) → new.ring ≡ filled w.ring front buffer.flags → part.count ≡ 0
      → w.ring.consumer.progress.moved ≡ buffer.length → AreApart (event_range w.ring.events) (home_range front.home) → AddsUp w new number front buffer n part
  was_full w new number front buffer n part same none full apart =
      subst (λ (ring : World). IsTold w.ring ring front.cursor.place buffer part (IsOver kind new number) (IsDropped kind w n buffer new)) (sym same)
      (Fills (omega (arith, none)) (filled-tells w.ring front buffer.flags apart)
      (filled-counts w.ring front buffer.flags (w.ring.consumer.progress.edtla + part.count) (same_since w.ring.consumer.progress.edtla part.count none)))

  -- so many bytes moved, and the TRB is full with them or not
  went : (full : Bool) (w : TagWorld D) (number : ℕ) (front : Front) (buffer : Buffer) → (w.ring.consumer.progress.moved + moved_count kind w buffer == buffer.length) ≡ full
      → w.ring.consumer.progress.moved < buffer.length → AreApart (event_range w.ring.events) (home_range front.home)
      → AddsUp w (filled_ring kind full (given_to kind w (buffer.pointer + w.ring.consumer.progress.moved) (moved_count kind w buffer)) front buffer) number front buffer
      (list_length w.tag.chunk) (part_here w (list_length w.tag.chunk) buffer)
  unfolding given_to poured
  went full w number front buffer is room apart = by_full full is (length-take-le (moved_count kind w buffer) w.tag.chunk (omega arith))
    where
      by_full : (f : Bool) → (w.ring.consumer.progress.moved + moved_count kind w buffer == buffer.length) ≡ f
          → list_length (take (moved_count kind w buffer) w.tag.chunk) ≡ moved_count kind w buffer
          → AddsUp w (filled_ring kind f (given_to kind w (buffer.pointer + w.ring.consumer.progress.moved) (moved_count kind w buffer)) front buffer) number front buffer
          (list_length w.tag.chunk) (part_here w (list_length w.tag.chunk) buffer)
      by_full true is size =
          let v = poured w.ring (buffer.pointer + w.ring.consumer.progress.moved) (take (moved_count kind w buffer) w.tag.chunk) in
          Fills (eqb-true (w.ring.consumer.progress.moved + moved_count kind w buffer) buffer.length is) (filled-tells v front buffer.flags apart)
          (filled-counts v front buffer.flags (w.ring.consumer.progress.edtla + moved_count kind w buffer)
          (poured_since w.ring.consumer.progress.edtla _ (moved_count kind w buffer) size))
      by_full false is size =
          let other = eqb-false (w.ring.consumer.progress.moved + moved_count kind w buffer) buffer.length is in
          let below : w.ring.consumer.progress.moved + moved_count kind w buffer < buffer.length = omega (arith, other) in
          let to = buffer.pointer + w.ring.consumer.progress.moved in
          let bytes = take (moved_count kind w buffer) w.tag.chunk in
          Goes below
          (record { others = λ a outside. written_beside w.ring.memory to bytes a (sized to (moved_count kind w buffer) bytes a size outside); events = refl; ending = refl })
          (record {
            in_trb = ap (λ (n : ℕ). w.ring.consumer.progress.moved + n) size;
            since = poured_since w.ring.consumer.progress.edtla (list_length bytes) (moved_count kind w buffer) size;
          })

  moved_in-told : (w : TagWorld D) (number : ℕ) (front : Front) (buffer : Buffer) → w.ring.consumer.progress.moved < buffer.length
      → AreApart (event_range w.ring.events) (home_range front.home)
      → AddsUp w (moved_in kind w front buffer) number front buffer (list_length w.tag.chunk) (where_there w.ring.memory (part_here w (list_length w.tag.chunk) buffer))
  unfolding moved_in lost
  moved_in-told w number front buffer room apart = by_there (is_there w.ring.memory (buffer.pointer + w.ring.consumer.progress.moved) (moved_count kind w buffer)) refl
    where
      by_there : (there : Bool) → is_there w.ring.memory (buffer.pointer + w.ring.consumer.progress.moved) (moved_count kind w buffer) ≡ there → AddsUp w
          (if there then filled_ring kind (w.ring.consumer.progress.moved + moved_count kind w buffer == buffer.length) (given_to kind w (buffer.pointer + w.ring.consumer.progress.moved) (moved_count kind w buffer)) front buffer
          else lost kind w front buffer) number front buffer (list_length w.tag.chunk)
          (if there then part_here w (list_length w.tag.chunk) buffer else nowhere)
      by_there true is = went (w.ring.consumer.progress.moved + moved_count kind w buffer == buffer.length) w number front buffer refl room apart
      by_there false is = Fails (failed-tells w.ring front buffer.length buffer.flags apart) (is, refl, refl)

  moved_if-told : (some : Bool) (w : TagWorld D) (number : ℕ) (front : Front) (buffer : Buffer) → has_chunk w.tag ≡ some
      → w.ring.consumer.progress.moved < buffer.length → AreApart (event_range w.ring.events) (home_range front.home)
      → AddsUp w (moved_if kind some w front buffer) number front buffer (list_length w.tag.chunk) (where_there w.ring.memory (part_here w (list_length w.tag.chunk) buffer))
  moved_if-told true w number front buffer some room apart = moved_in-told w number front buffer room apart
  moved_if-told false w number front buffer empty room apart =
      let none : list_length w.tag.chunk ≡ 0 = ap (λ (xs : List ℕ). list_length xs) (empty_chunk w.tag.chunk empty) in
      waits w w number front buffer (list_length w.tag.chunk) _ refl (nothing_there w.ring.memory (part_here w (list_length w.tag.chunk) buffer) (omega (arith, none))) room

  nothing_here : (w : TagWorld D) (buffer : Buffer) → (where_there w.ring.memory (part_here w 0 buffer)).count ≡ 0
  nothing_here w buffer = nothing_there w.ring.memory (part_here w 0 buffer) (omega arith)

  closed_if-told : (closes : Bool) (w : TagWorld D) (number : ℕ) (front : Front) (buffer : Buffer) (n : ℕ) (part : Range) → part.count ≡ 0 → IsOver kind w number
      → w.ring.consumer.progress.moved < buffer.length → AreApart (event_range w.ring.events) (home_range front.home)
      → AddsUp w (closed_if kind closes w front buffer).0 number front buffer n part
  unfolding closed
  closed_if-told true w number front buffer n part none over room apart =
      let left = buffer.length - w.ring.consumer.progress.moved in
      Ends left (omega (arith, none)) (omega arith) (over.0, over.1) (shortened-tells w.ring front left buffer.flags apart)
      (shortened-counts w.ring front left buffer.flags (w.ring.consumer.progress.edtla + part.count) (same_since w.ring.consumer.progress.edtla part.count none))
  closed_if-told false w number front buffer n part none over room apart = waits w w number front buffer n part refl none room

  gave_by-told : (phase : Phase) (w : TagWorld D) (number : ℕ) (front : Front) (buffer : Buffer) → kind.phase w.device number ≡ phase → has_chunk w.tag ≡ false
      → w.ring.consumer.progress.moved < buffer.length → AreApart (event_range w.ring.events) (home_range front.home)
      → AddsUp w (gave_by kind phase w number front buffer).0 number front buffer (list_length (given_by phase (kind.given w.device number)))
      (where_there w.ring.memory (part_here w (list_length (given_by phase (kind.given w.device number))) buffer))
  unfolding refilled
  gave_by-told Absent w number front buffer is empty room apart = waits w w number front buffer 0 _ refl (nothing_here w buffer) room
  gave_by-told (Gives count) w number front buffer is empty room apart =
      let v = refilled kind w number in
      moved_if-told (has_chunk v.tag) v number front buffer refl room apart
  gave_by-told (Takes count) w number front buffer is empty room apart = waits w w number front buffer 0 _ refl (nothing_here w buffer) room
  gave_by-told (Ended end) w number front buffer is empty room apart =
      let over : IsOver kind w number = (empty_chunk w.tag.chunk empty, subst (λ (phase : Phase). IsEnded phase) (sym is) tt) in
      closed_if-told (is_status end && ends_td w.tag w.ring.consumer.progress.fed) w number front buffer 0 _ (nothing_here w buffer) over room apart

  ran-told : (w : TagWorld D) (number : ℕ) (front : Front) (buffer : Buffer) → w.ring.consumer.progress.moved ≤ buffer.length
      → AreApart (event_range w.ring.events) (home_range front.home)
      → AddsUp w (ran kind w number front buffer).0 number front buffer (list_length (coming kind w number)) (part_of w.ring.memory w.ring.consumer (list_length (coming kind w number)) (Some buffer))
  unfolding ran
  ran-told w number front buffer within apart = by_tests (nat_le buffer.length w.ring.consumer.progress.moved) (has_chunk w.tag) refl refl
    where
      by_tests : (full some : Bool) → nat_le buffer.length w.ring.consumer.progress.moved ≡ full → has_chunk w.tag ≡ some → AddsUp w
          (if full then (with_ring kind w (filled w.ring front buffer.flags), Worked)
          else if some then (moved_in kind w front buffer, Worked)
          else gave_by kind (kind.phase w.device number) w number front buffer).0 number front buffer (list_length (if some then w.tag.chunk else given_by (kind.phase w.device number) (kind.given w.device number)))
          (where_there w.ring.memory (part_here w (list_length (if some then w.tag.chunk else given_by (kind.phase w.device number) (kind.given w.device number))) buffer))
      by_tests true some is has =
          let past : buffer.length ≤ w.ring.consumer.progress.moved = leb-true buffer.length w.ring.consumer.progress.moved is in
          was_full w (with_ring kind w (filled w.ring front buffer.flags)) number front buffer (list_length (if some then w.tag.chunk else given_by (kind.phase w.device number) (kind.given w.device number))) _ refl (nothing_there w.ring.memory (part_here w (list_length (if some then w.tag.chunk else given_by (kind.phase w.device number) (kind.given w.device number))) buffer) (omega (arith, past))) (omega (arith, past, within)) apart
      by_tests false true is has = moved_in-told w number front buffer (leb-false buffer.length w.ring.consumer.progress.moved is) apart
      by_tests false false is has =
          gave_by-told (kind.phase w.device number) w number front buffer refl has (leb-false buffer.length w.ring.consumer.progress.moved is) apart

  normal-told : (ending : Ending) (w : TagWorld D) (number : ℕ) (front : Front) (buffer moved : Buffer) → (if runs ending then Some buffer else None) ≡ Some moved
      → w.ring.consumer.progress.moved ≤ moved.length → AreApart (event_range w.ring.events) (home_range front.home)
      → AddsUp w (normal kind ending w number front buffer).0 number front moved (list_length (coming kind w number))
      (part_of w.ring.memory w.ring.consumer (list_length (coming kind w number)) (if runs ending then Some buffer else None))
  normal-told Runs w number front buffer moved is within apart =
      let same : buffer ≡ moved = same_Some buffer moved is in
      subst (λ (b : Buffer). w.ring.consumer.progress.moved ≤ b.length → AddsUp w (ran kind w number front buffer).0 number front b (list_length (coming kind w number)) (part_of w.ring.memory w.ring.consumer (list_length (coming kind w number)) (Some buffer)))
      same (λ within. ran-told w number front buffer within apart) within
  normal-told (Told code) w number front buffer moved is within apart = absurd (none-some moved is)
  normal-told Owed w number front buffer moved is within apart = absurd (none-some moved is)

  acted-told : (found : Found) (w : TagWorld D) (number : ℕ) (front : Front) (buffer : Buffer)
      → (if runs w.ring.consumer.progress.ending then buffer_of found else None) ≡ Some buffer
      → w.ring.consumer.progress.moved ≤ buffer.length → AreApart (event_range w.ring.events) (home_range front.home)
      → AddsUp w (acted kind w number front found).0 number front buffer (list_length (coming kind w number))
      (part_of w.ring.memory w.ring.consumer (list_length (coming kind w number)) (if runs w.ring.consumer.progress.ending then buffer_of found else None))
  acted-told WrongKind w number front buffer is within apart = no_buffer (runs w.ring.consumer.progress.ending) buffer is
  acted-told NotYet w number front buffer is within apart = no_buffer (runs w.ring.consumer.progress.ending) buffer is
  acted-told (Item (Normal pointer length flags)) w number front buffer is within apart =
      normal-told w.ring.consumer.progress.ending w number front (record { pointer = pointer; length = length; flags = flags }) buffer is within apart
  acted-told (Item (Link pointer toggle flags)) w number front buffer is within apart = no_buffer (runs w.ring.consumer.progress.ending) buffer is
  acted-told (Item (NoOp flags)) w number front buffer is within apart = no_buffer (runs w.ring.consumer.progress.ending) buffer is
  acted-told (Item (EventData parameter flags)) w number front buffer is within apart = no_buffer (runs w.ring.consumer.progress.ending) buffer is
  acted-told (Item Foreign) w number front buffer is within apart = no_buffer (runs w.ring.consumer.progress.ending) buffer is

  -- a step that is let through is taken on what was found
  pub stepped_on : (w : TagWorld D) (number : ℕ) (home : Home) (front : Front) (P : TagWorld D → Option Front → Type 0) → front_of w.ring home ≡ Some front
      → (front.home ≡ home → P (acted_at kind w number front).0 (Some front))
      → P (stepped kind number home w) (front_of w.ring home)
  stepped_on w number home front P found holds = on_front w w.ring home (acted_at kind w number) P front found holds

  -- and one that is held back does nothing
  pub held_back : (number : ℕ) (home : Home) (w : TagWorld D) → front_of w.ring home ≡ None → stepped kind number home w ≡ w
  held_back number home w none =
      by_front w w.ring home (acted_at kind w number) (λ (new : TagWorld D) (f : Option Front). f ≡ None → new ≡ w) (λ is. refl)
      (λ front there room is. absurd (none-some front (sym is))) none

  pub residuals_add_up : ResidualsAddUp kind
  residuals_add_up w number home front buffer found is within apart =
      stepped_on w number home front
      (λ (new : TagWorld D) (f : Option Front). AddsUp w new number front buffer (list_length (coming kind w number)) (part_of w.ring.memory w.ring.consumer (list_length (coming kind w number)) (f >>= moving w.ring.consumer)))
      found (λ same. acted-told front.found w number front buffer is within
      (subst (λ (h : Home). AreApart (event_range w.ring.events) (home_range h)) (sym same) apart))

  pub skips : (ending : Ending) (w : TagWorld D) (number : ℕ) (front : Front) (buffer : Buffer) → (if runs ending then Some buffer else None) ≡ None
      → normal kind ending w number front buffer ≡ normal kind (Told 2) w number front buffer
  skips Runs w number front buffer is = absurd (none-some buffer (sym is))
  skips (Told code) w number front buffer is = refl
  skips Owed w number front buffer is = refl

  acted-tells : (trb : PipeTrb) (w : TagWorld D) (number : ℕ) (front : Front) → (if runs w.ring.consumer.progress.ending then buffer_of (Item trb) else None) ≡ None
      → AreApart (event_range w.ring.events) (home_range front.home) → TellsOf trb w.ring front (acted kind w number front (Item trb)).0.ring
  acted-tells (Normal pointer length flags) w number front is apart =
      let buffer : Buffer = record { pointer = pointer; length = length; flags = flags } in
      subst (λ (done : TagWorld D × Acted). TellsOf (Normal pointer length flags) w.ring front done.0.ring)
      (sym (skips w.ring.consumer.progress.ending w number front buffer is)) (skipped-tells w.ring front length flags apart, skipped-edtla w.ring front length flags)
  acted-tells (Link pointer toggle flags) w number front is apart = other-tells (Link pointer toggle flags) w.ring front refl apart
  acted-tells (NoOp flags) w number front is apart = other-tells (NoOp flags) w.ring front refl apart
  acted-tells (EventData parameter flags) w number front is apart = other-tells (EventData parameter flags) w.ring front refl apart
  acted-tells Foreign w number front is apart = other-tells Foreign w.ring front refl apart

  pub an_event_each : AnEventEach kind
  an_event_each w number home front trb found is moves apart =
      stepped_on w number home front (λ (new : TagWorld D) (f : Option Front). TellsOf trb w.ring front new.ring) found
      (λ same.
      let apart_here = subst (λ (h : Home). AreApart (event_range w.ring.events) (home_range h)) (sym same) apart in
      subst (λ (f : Found). TellsOf trb w.ring front (acted kind w number front f).0.ring) (sym is)
      (acted-tells trb w number front (sym (ap (λ (f : Found). if runs w.ring.consumer.progress.ending then buffer_of f else None) is) ∙ moves) apart_here))

  pub none_without_a_trb : NoneWithoutATrb kind
  none_without_a_trb w number home = (
    held_back number home w,
    λ front found is.
        stepped_on w number home front (λ (new : TagWorld D) (f : Option Front). new.ring ≡ used_up w.ring) found
        (λ same. ap (λ (f : Found). (acted kind w number front f).0.ring) is),
  )

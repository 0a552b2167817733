-- What a step of status tells.
use Rattle.std.proofs.Common.{◌≡◌, ℕ, ◌+◌, ◌-◌, ◌%◌, ◌^◌, ◌≤◌, ◌==◌, ◌⊎◌, Bool, true, false, length as list_length, take, Option, Some, None, refl, sym, ap, subst, ◌∙◌, arith, add-zero, inl, inr, length-drop}
use Rattle.std.specs.Prelude.{nat_le, nat_lt, not, ◌&&◌, if◌then◌else◌}
use Rattle.std.proofs.Math.Nat.{mod-mod}
use Rattle.std.proofs.lemmas.Bool.{eqb-true, leb-false, leb-true, ltb-false, ltb-true, not-false}
use Rattle.std.proofs.lemmas.List.{length-take-le}
use Rattle.std.proofs.lemmas.Option.{none-some, same_Some}
use Rattle.guest_memory.specs.Bytes.{is_there, ◌>>=◌}
use Rattle.guest_memory.specs.declared.rings.context.Home.{Home}
use Rattle.guest_memory.specs.declared.rings.context.Front.{Front}
use Rattle.guest_memory.specs.declared.rings.context.Found.{Found}
use Rattle.guest_memory.specs.declared.rings.context.Found.TheVariants.{WrongKind, NotYet, Item}
use Rattle.guest_memory.specs.declared.rings.trb.Flags.{Flags}
use Rattle.guest_memory.specs.declared.rings.trb.PipeTrb.{PipeTrb}
use Rattle.guest_memory.specs.declared.rings.trb.PipeTrb.TheVariants.{Normal, Link, NoOp, EventData, Foreign}
use Rattle.guest_memory.specs.declared.rings.wanting.Range.{Range}
use Rattle.guest_memory.specs.rings.Wanted.{home_range}
use Rattle.guest_pipes.specs.declared.acted.Acted.{Acted}
use Rattle.guest_pipes.specs.declared.acted.Acted.TheVariants.{Waits, Worked}
use Rattle.guest_pipes.specs.declared.progress.Ending.{Ending}
use Rattle.guest_pipes.specs.declared.progress.Ending.TheVariants.{Runs, Told, Owed}
use Rattle.guest_pipes.specs.Gate.{took_other}
use Rattle.guest_pipes.specs.Progress.{runs}
use Rattle.guest_pipes.specs.Step.{World, about, filled, poured}
use Rattle.guest_tags.specs.declared.buffer.Buffer.{Buffer}
use Rattle.guest_tags.specs.Devices.{Kind}
use Rattle.guest_tags.specs.Tags.{TagWorld}
use Rattle.guest_tags.specs.Status.{has_begun, has_unit, is_out, left_of, sent_to, status_acted, status_at, status_ending, status_normal, status_with, unit_babbled, unit_count, unit_full, unit_lost, unit_moved, unit_on, unit_over, unit_ran, unit_ready, unit_short, unit_some, unit_went}
use Rattle.guest_tags.specs.Wanted.{buffer_of, coming_status, moving}
use Rattle.td_laws.specs.Places.{AreApart, IsMissing, event_range, nowhere, part_of, where_there}
use Rattle.td_laws.specs.Told.{HasTold}
use Rattle.td_laws.specs.StatusTold.{Awaits, Babbles, EndsShort, FillsUp, IsLost, IsToldOfUnit, StatusEventEach, StatusResidualsAddUp}
use Rattle.td_laws.proofs.Fronts.{on_front}
use Rattle.td_laws.proofs.Noted.{nothing_there}
use Rattle.td_laws.proofs.RingTells.{TellsOf, babbled-halts, babbled-tells, failed-tells, filled-counts, filled-tells, no_buffer, other-tells, shortened-counts, shortened-tells, skipped-edtla, skipped-tells}
use Rattle.td_laws.proofs.StatusElse.{ready_ring}

module _ {D : Type 0} (kind : Kind D) where
  abbrev TellsUnit : World → World → Front → Buffer → ℕ → ℕ → Type 0 → Type 0
  TellsUnit ring new front buffer moved edtla missing = IsToldOfUnit ring.consumer.endpoint ring.events new front.cursor.place buffer moved edtla missing

  abbrev apart_there : World → Home → Type 0
  apart_there ring home = AreApart (event_range ring.events) (home_range home)

  -- the TRB has so much of the unit
  unit_on-told : (chain out : Bool) (w : TagWorld D) (front : Front) (buffer : Buffer) (edtla : ℕ) (missing : Type 0) → buffer.flags.chain ≡ chain
      → w.ring.consumer.progress.moved ≡ buffer.length → w.ring.consumer.progress.edtla % 2 ^ 24 ≡ edtla % 2 ^ 24 → apart_there w.ring front.home
      → TellsUnit w.ring (unit_on kind chain out w front buffer.flags).ring front buffer w.ring.consumer.progress.moved edtla missing
  unfolding unit_full unit_babbled
  unit_on-told true out w front buffer edtla missing is full since apart =
      FillsUp full (filled-tells w.ring front buffer.flags apart) (filled-counts w.ring front buffer.flags edtla since)
  unit_on-told false true w front buffer edtla missing is full since apart =
      FillsUp full (filled-tells w.ring front buffer.flags apart) (filled-counts w.ring front buffer.flags edtla since)
  unit_on-told false false w front buffer edtla missing is full since apart =
      Babbles full is (babbled-tells w.ring front buffer.flags apart) (babbled-halts w.ring front buffer.flags)

  unit_moved-told : (w : TagWorld D) (front : Front) (buffer : Buffer) (edtla : ℕ) (missing : Type 0) → w.ring.consumer.progress.moved ≤ buffer.length
      → w.ring.consumer.progress.edtla % 2 ^ 24 ≡ edtla % 2 ^ 24 → apart_there w.ring front.home
      → TellsUnit w.ring (unit_moved kind w front buffer).ring front buffer w.ring.consumer.progress.moved edtla missing
  unfolding unit_short
  unit_moved-told w front buffer edtla missing within since apart = by_room (nat_lt w.ring.consumer.progress.moved buffer.length) refl
    where
      by_room : (short : Bool) → nat_lt w.ring.consumer.progress.moved buffer.length ≡ short → TellsUnit w.ring
          (if short then unit_short kind w front buffer else unit_on kind buffer.flags.chain (is_out w.tag) w front buffer.flags).ring front buffer w.ring.consumer.progress.moved edtla missing
      by_room true is =
          let room = ltb-true w.ring.consumer.progress.moved buffer.length is in
          let left = buffer.length - w.ring.consumer.progress.moved in
          EndsShort left (omega (arith, room)) (omega (arith, room)) (shortened-tells w.ring front left buffer.flags apart) (shortened-counts w.ring front left buffer.flags edtla since)
      by_room false is =
          let past = ltb-false w.ring.consumer.progress.moved buffer.length is in
          unit_on-told buffer.flags.chain (is_out w.tag) w front buffer edtla missing refl (omega (arith, past, within)) since apart

  abbrev part_here : TagWorld D → Buffer → Range
  part_here w buffer = record { at = buffer.pointer + w.ring.consumer.progress.moved; count = unit_count kind w buffer }

  abbrev Adds : TagWorld D → World → Front → Buffer → ℕ → ℕ → Type 0
  Adds w new front buffer coming count =
      TellsUnit w.ring new front buffer (w.ring.consumer.progress.moved + count) (w.ring.consumer.progress.edtla + count) (IsMissing w.ring coming buffer)

  -- a step that moves nothing
  moved_nothing : (w : TagWorld D) (new : World) (front : Front) (buffer : Buffer) (coming count : ℕ) → count ≡ 0
      → ((edtla : ℕ) → w.ring.consumer.progress.edtla % 2 ^ 24 ≡ edtla % 2 ^ 24 → TellsUnit w.ring new front buffer w.ring.consumer.progress.moved edtla (IsMissing w.ring coming buffer))
      → Adds w new front buffer coming count
  moved_nothing w new front buffer coming count none tells =
      let same : w.ring.consumer.progress.moved ≡ w.ring.consumer.progress.moved + count = omega (arith, none) in
      let since : w.ring.consumer.progress.edtla % 2 ^ 24 ≡ (w.ring.consumer.progress.edtla + count) % 2 ^ 24 =
      ap (λ (n : ℕ). n % 2 ^ 24) (sym (add-zero w.ring.consumer.progress.edtla) ∙ ap (λ (n : ℕ). w.ring.consumer.progress.edtla + n) (sym none)) in
      subst (λ (n : ℕ). TellsUnit w.ring new front buffer n (w.ring.consumer.progress.edtla + count) (IsMissing w.ring coming buffer)) same (tells (w.ring.consumer.progress.edtla + count) since)

  sent_to-told : (w : TagWorld D) (front : Front) (buffer : Buffer) → w.ring.consumer.progress.moved ≤ buffer.length → apart_there w.ring front.home
      → Adds w (unit_moved kind (sent_to kind w (buffer.pointer + w.ring.consumer.progress.moved) (unit_count kind w buffer)) front buffer).ring front buffer (list_length (left_of w.tag.unit)) (unit_count kind w buffer)
  unfolding sent_to poured
  sent_to-told w front buffer within apart =
      let count = unit_count kind w buffer in
      let v = sent_to kind w (buffer.pointer + w.ring.consumer.progress.moved) count in
      let bytes = take count (left_of w.tag.unit) in
      let size : list_length (take (unit_count kind w buffer) (left_of w.tag.unit)) ≡ unit_count kind w buffer = length-take-le count (left_of w.tag.unit) (omega arith) in
      let since : ((w.ring.consumer.progress.edtla + list_length bytes) % 2 ^ 24) % 2 ^ 24 ≡ (w.ring.consumer.progress.edtla + count) % 2 ^ 24 =
      mod-mod (w.ring.consumer.progress.edtla + list_length bytes) (2 ^ 24) ∙ ap (λ (n : ℕ). (w.ring.consumer.progress.edtla + n) % 2 ^ 24) size in
      let fits : w.ring.consumer.progress.moved + list_length bytes ≤ buffer.length = omega (arith, size, within) in
      subst (λ (n : ℕ). TellsUnit w.ring (unit_moved kind v front buffer).ring front buffer (w.ring.consumer.progress.moved + n) (w.ring.consumer.progress.edtla + count) (IsMissing w.ring (list_length (left_of w.tag.unit)) buffer)) size
      (unit_moved-told v front buffer (w.ring.consumer.progress.edtla + count) (IsMissing w.ring (list_length (left_of w.tag.unit)) buffer) fits since apart)

  unit_went-told : (w : TagWorld D) (front : Front) (buffer : Buffer) → w.ring.consumer.progress.moved ≤ buffer.length → apart_there w.ring front.home
      → Adds w (unit_went kind w front buffer).ring front buffer (list_length (left_of w.tag.unit)) (where_there w.ring.memory (part_here w buffer)).count
  unfolding unit_went unit_some unit_lost
  unit_went-told w front buffer within apart =
      by_tests (unit_count kind w buffer == 0) (is_there w.ring.memory (buffer.pointer + w.ring.consumer.progress.moved) (unit_count kind w buffer)) refl refl
    where
      nothing_by : (there : Bool) → unit_count kind w buffer ≡ 0 → (if there then part_here w buffer else nowhere).count ≡ 0
      nothing_by true none = none
      nothing_by false none = refl

      by_tests : (none there : Bool) → (unit_count kind w buffer == 0) ≡ none
          → is_there w.ring.memory (buffer.pointer + w.ring.consumer.progress.moved) (unit_count kind w buffer) ≡ there → Adds w
          (if none then unit_moved kind w front buffer
          else (if there then unit_moved kind (sent_to kind w (buffer.pointer + w.ring.consumer.progress.moved) (unit_count kind w buffer)) front buffer
          else unit_lost kind w front buffer)).ring front buffer (list_length (left_of w.tag.unit)) (if there then part_here w buffer else nowhere).count
      by_tests true there is has =
          moved_nothing w (unit_moved kind w front buffer).ring front buffer (list_length (left_of w.tag.unit)) (if there then part_here w buffer else nowhere).count
          (nothing_by there (eqb-true (unit_count kind w buffer) 0 is)) (λ edtla since. unit_moved-told w front buffer edtla (IsMissing w.ring (list_length (left_of w.tag.unit)) buffer) within since apart)
      by_tests false true is has = sent_to-told w front buffer within apart
      by_tests false false is has = IsLost (failed-tells w.ring front buffer.length buffer.flags apart) has

  abbrev AddsDone : TagWorld D → TagWorld D × Acted → Front → Buffer → ℕ → Type 0
  AddsDone w done front buffer count = Adds w done.0.ring front buffer (list_length (left_of w.tag.unit)) count

  no_text : (w : TagWorld D) (buffer : Buffer) → has_unit w.tag ≡ false → unit_count kind w buffer ≡ 0
  no_text w buffer has =
      let none : list_length w.tag.unit.text ≡ 0 = eqb-true (list_length w.tag.unit.text) 0 (not-false (list_length w.tag.unit.text == 0) has) in
      omega (arith, none, length-drop w.tag.unit.sent w.tag.unit.text)

  unit_ran-told : (w : TagWorld D) (front : Front) (buffer : Buffer) → w.ring.consumer.progress.moved ≤ buffer.length → apart_there w.ring front.home
      → AddsDone w (unit_ran kind w front buffer) front buffer (where_there w.ring.memory (part_here w buffer)).count
  unfolding unit_ran
  unit_ran-told w front buffer within apart = by_tests (has_unit w.tag) (nat_le buffer.length w.ring.consumer.progress.moved) refl refl
    where
      by_tests : (some full : Bool) → has_unit w.tag ≡ some → nat_le buffer.length w.ring.consumer.progress.moved ≡ full → AddsDone w
          (if some then (unit_went kind w front buffer, Worked)
          else if full then (status_with kind w (filled w.ring front buffer.flags) w.tag, Worked)
          else (w, Waits)) front buffer (where_there w.ring.memory (part_here w buffer)).count
      by_tests true full has is = unit_went-told w front buffer within apart
      by_tests false true has is =
          let past = leb-true buffer.length w.ring.consumer.progress.moved is in
          let all : w.ring.consumer.progress.moved ≡ buffer.length = omega (arith, past, within) in
          moved_nothing w (filled w.ring front buffer.flags) front buffer (list_length (left_of w.tag.unit)) (where_there w.ring.memory (part_here w buffer)).count
          (nothing_there w.ring.memory (part_here w buffer) (no_text w buffer has))
          (λ edtla since. FillsUp all (filled-tells w.ring front buffer.flags apart) (filled-counts w.ring front buffer.flags edtla since))
      by_tests false false has is =
          let room = leb-false buffer.length w.ring.consumer.progress.moved is in
          moved_nothing w w.ring front buffer (list_length (left_of w.tag.unit)) (where_there w.ring.memory (part_here w buffer)).count
          (nothing_there w.ring.memory (part_here w buffer) (no_text w buffer has))
          (λ edtla since. Awaits room refl (record { in_trb = refl; since = since }))

  status_normal-told : (ending : Ending) (w : TagWorld D) (number : ℕ) (due : Bool) (front : Front) (buffer moved : Buffer) → (if runs ending then Some buffer else None) ≡ Some moved
      → w.ring.consumer.progress.moved ≤ moved.length → apart_there w.ring front.home
      → Adds w (status_normal kind ending w number due front buffer).0.ring front moved (coming_status kind w number due) (part_of w.ring.memory w.ring.consumer (coming_status kind w number due) (Some moved)).count
  status_normal-told Runs w number due front buffer moved is within apart =
      let same : buffer ≡ moved = same_Some buffer moved is in
      subst (λ (b : Buffer). w.ring.consumer.progress.moved ≤ b.length → Adds w (status_normal kind Runs w number due front buffer).0.ring front b (coming_status kind w number due) (part_of w.ring.memory w.ring.consumer (coming_status kind w number due) (Some b)).count)
      same here within
    where
      here : w.ring.consumer.progress.moved ≤ buffer.length
          → Adds w (status_normal kind Runs w number due front buffer).0.ring front buffer (coming_status kind w number due) (part_of w.ring.memory w.ring.consumer (coming_status kind w number due) (Some buffer)).count
      here fits =
          let v = unit_ready kind w number due in
          let new = (unit_ran kind v front buffer).0.ring in
          let alike = ready_ring kind w number due in
          subst (λ (ring : World). ring.consumer.progress.moved ≤ buffer.length → apart_there ring front.home
          → TellsUnit ring new front buffer (ring.consumer.progress.moved + (part_of ring.memory ring.consumer (coming_status kind w number due) (Some buffer)).count)
          (ring.consumer.progress.edtla + (part_of ring.memory ring.consumer (coming_status kind w number due) (Some buffer)).count) (IsMissing ring (coming_status kind w number due) buffer))
          alike (λ fits apart. unit_ran-told v front buffer fits apart) fits apart
  status_normal-told (Told code) w number due front buffer moved is within apart = absurd (none-some moved is)
  status_normal-told Owed w number due front buffer moved is within apart = absurd (none-some moved is)

  status_acted-told : (found : Found) (w : TagWorld D) (number : ℕ) (due : Bool) (front : Front) (buffer : Buffer)
      → (if runs w.ring.consumer.progress.ending then buffer_of found else None) ≡ Some buffer
      → w.ring.consumer.progress.moved ≤ buffer.length → apart_there w.ring front.home
      → Adds w (status_acted kind w number due front found).0.ring front buffer (coming_status kind w number due) (part_of w.ring.memory w.ring.consumer (coming_status kind w number due) (Some buffer)).count
  status_acted-told WrongKind w number due front buffer is within apart = no_buffer (runs w.ring.consumer.progress.ending) buffer is
  status_acted-told NotYet w number due front buffer is within apart = no_buffer (runs w.ring.consumer.progress.ending) buffer is
  status_acted-told (Item (Normal pointer length flags)) w number due front buffer is within apart =
      status_normal-told w.ring.consumer.progress.ending w number due front (record { pointer = pointer; length = length; flags = flags }) buffer is within apart
  status_acted-told (Item (Link pointer toggle flags)) w number due front buffer is within apart = no_buffer (runs w.ring.consumer.progress.ending) buffer is
  status_acted-told (Item (NoOp flags)) w number due front buffer is within apart = no_buffer (runs w.ring.consumer.progress.ending) buffer is
  status_acted-told (Item (EventData parameter flags)) w number due front buffer is within apart = no_buffer (runs w.ring.consumer.progress.ending) buffer is
  status_acted-told (Item Foreign) w number due front buffer is within apart = no_buffer (runs w.ring.consumer.progress.ending) buffer is

  pub status_residuals_add_up : StatusResidualsAddUp kind
  status_residuals_add_up w number due home front buffer found is within apart =
      on_front w w.ring home (status_at kind w number due)
      (λ (new : TagWorld D) (f : Option Front). Adds w new.ring front buffer (coming_status kind w number due) (part_of w.ring.memory w.ring.consumer (coming_status kind w number due) (f >>= moving w.ring.consumer)).count) front found
      (λ same. subst (λ (b : Option Buffer). Adds w (status_at kind w number due front).0.ring front buffer (coming_status kind w number due) (part_of w.ring.memory w.ring.consumer (coming_status kind w number due) b).count) (sym is)
      (status_acted-told front.found w number due front buffer is within (subst (λ (h : Home). apart_there w.ring h) (sym same) apart)))

  -- what is told of a TRB that moves nothing, or that the TD is shorter than the unit
  abbrev Either : PipeTrb → TagWorld D → Front → World → Type 0
  Either trb w front new = TellsOf trb w.ring front new ⊎ ((quiet : Bool) × HasTold w.ring.events new (about w.ring.consumer front.cursor.place 0 3) quiet)

  ending-tells : (trb : PipeTrb) (flags : Flags) (w : TagWorld D) (front : Front) → buffer_of (Item trb) ≡ None → apart_there w.ring front.home
      → Either trb w front (status_ending kind w front trb flags).ring
  unfolding unit_babbled
  ending-tells trb flags w front is apart = by_end (has_begun w.tag && not flags.chain) (is_out w.tag)
    where
      by_end : (ends out : Bool) → Either trb w front (if ends then unit_over kind out w front trb flags else status_with kind w (took_other w.ring front trb) w.tag).ring
      by_end true true = inl (other-tells trb w.ring front is apart)
      by_end true false = inr (flags.bei, babbled-tells w.ring front flags apart)
      by_end false out = inl (other-tells trb w.ring front is apart)

  skips : (ending : Ending) (w : TagWorld D) (number : ℕ) (due : Bool) (front : Front) (buffer : Buffer) → (if runs ending then Some buffer else None) ≡ None
      → status_normal kind ending w number due front buffer ≡ status_normal kind (Told 2) w number due front buffer
  skips Runs w number due front buffer is = absurd (none-some buffer (sym is))
  skips (Told code) w number due front buffer is = refl
  skips Owed w number due front buffer is = refl

  acted-tells : (trb : PipeTrb) (w : TagWorld D) (number : ℕ) (due : Bool) (front : Front) → (if runs w.ring.consumer.progress.ending then buffer_of (Item trb) else None) ≡ None
      → apart_there w.ring front.home → Either trb w front (status_acted kind w number due front (Item trb)).0.ring
  acted-tells (Normal pointer length flags) w number due front is apart =
      let buffer : Buffer = record { pointer = pointer; length = length; flags = flags } in
      subst (λ (done : TagWorld D × Acted). Either (Normal pointer length flags) w front done.0.ring)
      (sym (skips w.ring.consumer.progress.ending w number due front buffer is)) (inl (skipped-tells w.ring front length flags apart, skipped-edtla w.ring front length flags))
  acted-tells (Link pointer toggle flags) w number due front is apart = inl (other-tells (Link pointer toggle flags) w.ring front refl apart)
  acted-tells (NoOp flags) w number due front is apart = ending-tells (NoOp flags) flags w front refl apart
  acted-tells (EventData parameter flags) w number due front is apart = ending-tells (EventData parameter flags) flags w front refl apart
  acted-tells Foreign w number due front is apart = inl (other-tells Foreign w.ring front refl apart)

  pub status_event_each : StatusEventEach kind
  status_event_each w number due home front trb found is moves apart =
      on_front w w.ring home (status_at kind w number due) (λ (new : TagWorld D) (f : Option Front). Either trb w front new.ring) front found
      (λ same. subst (λ (f : Found). Either trb w front (status_acted kind w number due front f).0.ring) (sym is)
      (acted-tells trb w number due front (sym (ap (λ (f : Found). if runs w.ring.consumer.progress.ending then buffer_of f else None) is) ∙ moves)
      (subst (λ (h : Home). apart_there w.ring h) (sym same) apart)))

-- What a step of data-out tells.
use Rattle.std.proofs.Common.{◌≡◌, ℕ, ◌+◌, ◌-◌, ◌%◌, ◌^◌, ◌≤◌, ◌==◌, Bool, true, false, List, [], ◌++◌, length as list_length, drop, Option, Some, None, refl, sym, ap, subst, ◌∙◌, arith, add-zero, length-take}
use Rattle.std.specs.Prelude.{nat_le, if◌then◌else◌, unwrap_or}
use Rattle.std.proofs.Math.Nat.{mod-mod}
use Rattle.std.proofs.lemmas.Bool.{and_parts, false≢true, leb-true}
use Rattle.std.proofs.lemmas.Option.{none-some, same_Some}
use Rattle.byteorder.specs.Endian.{little_bytes}
use Rattle.guest_memory.specs.Bytes.{Memory, bytes_from, ◌>>=◌}
use Rattle.guest_memory.specs.Ranges.{size_of}
use Rattle.guest_memory.specs.declared.rings.context.Home.{Home}
use Rattle.guest_memory.specs.declared.rings.context.Front.{Front}
use Rattle.guest_memory.specs.declared.rings.context.Found.{Found}
use Rattle.guest_memory.specs.declared.rings.context.Found.TheVariants.{WrongKind, NotYet, Item}
use Rattle.guest_memory.specs.declared.rings.trb.PipeTrb.{PipeTrb}
use Rattle.guest_memory.specs.declared.rings.trb.PipeTrb.TheVariants.{Normal, Link, NoOp, EventData, Foreign}
use Rattle.guest_memory.specs.rings.Wanted.{home_range}
use Rattle.guest_pipes.specs.declared.acted.Acted.{Acted}
use Rattle.guest_pipes.specs.declared.acted.Acted.TheVariants.{Worked}
use Rattle.guest_pipes.specs.declared.progress.Ending.{Ending}
use Rattle.guest_pipes.specs.declared.progress.Ending.TheVariants.{Runs, Told, Owed}
use Rattle.guest_pipes.specs.Progress.{counted, runs}
use Rattle.guest_pipes.specs.Step.{World, failed, filled, filled_if, with_progress}
use Rattle.guest_tags.specs.declared.device.End.{End}
use Rattle.guest_tags.specs.declared.device.End.TheVariants.{Good, Check, Response}
use Rattle.guest_tags.specs.declared.device.Phase.{Phase}
use Rattle.guest_tags.specs.declared.device.Phase.TheVariants.{Absent, Gives, Takes, Ended}
use Rattle.guest_tags.specs.declared.buffer.Buffer.{Buffer}
use Rattle.guest_tags.specs.Devices.{Kind}
use Rattle.guest_tags.specs.Wanted.{buffer_of, moving}
use Rattle.guest_out.specs.DataOut.{drops_rest, is_good, out_acted, out_at, out_by, out_count, out_drawn, out_dropped, out_dropped_if, out_filled, out_filled_if, out_gathered, out_handed, out_moved, out_normal, out_ran, out_took, out_with}
use Rattle.guest_out.specs.Immediate.{bytes_out, immediate_bytes, is_immediate, tallied}
use Rattle.guest_out.specs.Worlds.{OutWorld}
use Rattle.td_laws.specs.Places.{AreApart, event_range}
use Rattle.td_laws.specs.OutInOrder.{taken_by, taken_of}
use Rattle.td_laws.specs.OutTold.{Drops, IsOutMissing, IsToldOut, Misses, OutEventEach, OutResidualsAddUp, Partly, Wholly}
use Rattle.td_laws.proofs.Fronts.{on_front}
use Rattle.td_laws.proofs.RingTells.{TellsOf, failed-gone, failed-tells, filled-counts, filled-tells, no_buffer, other-tells, skipped-edtla, skipped-tells}
use Rattle.td_laws.proofs.OutOrdered.{no_bytes}

-- no more bytes than were asked for
fewer : (memory : Memory) (buffer : Buffer) (moved count : ℕ) (bytes : List ℕ) → bytes_out memory buffer moved count ≡ Some bytes → list_length bytes ≤ count
unfolding bytes_out
fewer memory buffer moved count bytes is = by_kind (is_immediate buffer) is
  where
    by_kind : (immediate : Bool) → (if immediate then Some (immediate_bytes buffer moved count) else bytes_from memory (buffer.pointer + moved) count) ≡ Some bytes → list_length bytes ≤ count
    by_kind true is =
        let same : immediate_bytes buffer moved count ≡ bytes = same_Some (immediate_bytes buffer moved count) bytes is in
        let size : list_length (immediate_bytes buffer moved count) ≤ count = omega (arith, length-take count (drop moved (little_bytes 8 buffer.pointer))) in
        subst (λ (b : List ℕ). list_length b ≤ count) same size
    by_kind false is = omega (arith, size_of memory (buffer.pointer + moved) count bytes is)

-- a TRB with so many bytes more of it
abbrev with_more : World → ℕ → World
with_more w count = with_progress w (counted w.consumer.progress count)

module _ (Over Missing : Type 0) (w : World) (front : Front) (buffer : Buffer) where
  -- what the TRB in front was told as, with so many bytes of it
  abbrev AddsUp : World → ℕ → Type 0
  AddsUp new count = IsToldOut w new front.cursor.place buffer count Over Missing

  same_since : (count : ℕ) → count ≡ 0 → w.consumer.progress.edtla % 2 ^ 24 ≡ (w.consumer.progress.edtla + count) % 2 ^ 24
  same_since count none = ap (λ (n : ℕ). n % 2 ^ 24) (sym (add-zero w.consumer.progress.edtla) ∙ ap (λ (n : ℕ). w.consumer.progress.edtla + n) (sym none))

  waits : (count : ℕ) → count ≡ 0 → w.consumer.progress.moved ≤ buffer.length → AddsUp w count
  waits count none within =
      let moved : w.consumer.progress.moved ≡ w.consumer.progress.moved + count = omega (arith, none) in
      Partly (omega (arith, none)) refl refl refl (record { in_trb = moved; since = same_since count none })

  was_full : (count : ℕ) → count ≡ 0 → w.consumer.progress.moved ≡ buffer.length → AreApart (event_range w.events) (home_range front.home)
      → AddsUp (filled w front buffer.flags) count
  was_full count none full apart =
      Wholly (omega (arith, none)) (filled-tells w front buffer.flags apart)
      (filled-counts w front buffer.flags (w.consumer.progress.edtla + count) (same_since count none))

  partly : (count : ℕ) → w.consumer.progress.moved + count ≤ buffer.length → AddsUp (with_more w count) count
  partly count within = Partly within refl refl refl (record { in_trb = refl; since = mod-mod (w.consumer.progress.edtla + count) (2 ^ 24) })

  wholly : (count : ℕ) → w.consumer.progress.moved + count ≡ buffer.length → AreApart (event_range w.events) (home_range front.home)
      → AddsUp (filled (with_more w count) front buffer.flags) count
  wholly count full apart =
      Wholly full (filled-tells (with_more w count) front buffer.flags apart)
      (filled-counts (with_more w count) front buffer.flags (w.consumer.progress.edtla + count) (mod-mod (w.consumer.progress.edtla + count) (2 ^ 24)))

  -- the TRB is consumed where it is full
  filled_so : (count : ℕ) → w.consumer.progress.moved + count ≤ buffer.length → AreApart (event_range w.events) (home_range front.home)
      → AddsUp (filled_if (nat_le buffer.length (w.consumer.progress.moved + count)) (with_more w count) front buffer.flags) count
  filled_so count within apart = by_test (nat_le buffer.length (w.consumer.progress.moved + count)) refl
    where
      by_test : (full : Bool) → nat_le buffer.length (w.consumer.progress.moved + count) ≡ full → AddsUp (filled_if full (with_more w count) front buffer.flags) count
      by_test true is =
          let past = leb-true buffer.length (w.consumer.progress.moved + count) is in
          wholly count (omega (arith, past, within)) apart
      by_test false is = partly count within

  missing : AreApart (event_range w.events) (home_range front.home) → Missing → (count : ℕ) → AddsUp (failed w front buffer.length buffer.flags) count
  missing apart lacks count = Misses (failed-tells w front buffer.length buffer.flags apart) lacks (failed-gone w front buffer.length buffer.flags)

  -- what is left is told as if it had been taken
  tallied_whole : (left : ℕ) → AreApart (event_range w.events) (home_range front.home) → (over : Over) → left ≡ buffer.length - w.consumer.progress.moved → (count : ℕ)
      → AddsUp (filled (with_progress w (tallied w.consumer.progress left)) front buffer.flags) count
  tallied_whole left apart over is count =
      let since : ((w.consumer.progress.edtla + left) % 2 ^ 24) % 2 ^ 24 ≡ (w.consumer.progress.edtla + (buffer.length - w.consumer.progress.moved)) % 2 ^ 24 =
      mod-mod (w.consumer.progress.edtla + left) (2 ^ 24) ∙ ap (λ (n : ℕ). (w.consumer.progress.edtla + n) % 2 ^ 24) is in
      let v = with_progress w (tallied w.consumer.progress left) in
      Drops over (filled-tells v front buffer.flags apart)
      (filled-counts v front buffer.flags (w.consumer.progress.edtla + (buffer.length - w.consumer.progress.moved)) since)

module _ {D : Type 0} (kind : Kind D) where
  abbrev IsGood : OutWorld D → ℕ → Type 0
  IsGood w number = kind.phase w.device number ≡ Ended Good

  abbrev OutAddsUp : OutWorld D → OutWorld D → ℕ → Front → Buffer → List ℕ → Type 0
  OutAddsUp w new number front buffer bytes = IsToldOut w.ring new.ring front.cursor.place buffer (list_length bytes) (IsGood w number) (IsOutMissing kind w number buffer)

  abbrev OutDone : OutWorld D → OutWorld D × Acted → ℕ → Front → Buffer → List ℕ → Type 0
  OutDone w done number front buffer bytes = OutAddsUp w done.0 number front buffer bytes

  out_went-told : (size fits : Bool) (w : OutWorld D) (number : ℕ) (front : Front) (buffer : Buffer) (bytes : List ℕ)
      → w.ring.consumer.progress.moved + list_length bytes ≤ buffer.length → AreApart (event_range w.ring.events) (home_range front.home)
      → OutAddsUp w (if size then out_filled_if kind fits (out_handed kind (out_gathered kind w bytes) number) front buffer else out_filled kind (out_gathered kind w bytes) front buffer)
      number front buffer bytes
  unfolding out_gathered out_handed
  out_went-told true true w number front buffer bytes within apart = filled_so (IsGood w number) (IsOutMissing kind w number buffer) w.ring front buffer (list_length bytes) within apart
  out_went-told true false w number front buffer bytes within apart = partly (IsGood w number) (IsOutMissing kind w number buffer) w.ring front buffer (list_length bytes) within
  out_went-told false fits w number front buffer bytes within apart = filled_so (IsGood w number) (IsOutMissing kind w number buffer) w.ring front buffer (list_length bytes) within apart

  out_drawn-told : (bytes : Option (List ℕ)) (w : OutWorld D) (number count : ℕ) (front : Front) (buffer : Buffer)
      → w.ring.consumer.progress.moved + list_length (unwrap_or bytes []) ≤ buffer.length → AreApart (event_range w.ring.events) (home_range front.home)
      → (bytes ≡ None → IsOutMissing kind w number buffer)
      → OutAddsUp w (out_drawn kind bytes w number count front buffer) number front buffer (unwrap_or bytes [])
  unfolding out_took out_gathered
  out_drawn-told None w number count front buffer within apart lacks = missing (IsGood w number) (IsOutMissing kind w number buffer) w.ring front buffer apart (lacks refl) 0
  out_drawn-told (Some bytes) w number count front buffer within apart lacks =
      out_went-told (list_length (w.taken ++ bytes) == count) (kind.fits w.device number (w.taken ++ bytes)) w number front buffer bytes within apart

  ended_good : (end : End) → is_good end ≡ true → end ≡ Good
  ended_good Good is = refl
  ended_good Check is = absurd (false≢true is)
  ended_good Response is = absurd (false≢true is)

  out_dropped-told : (drops : Bool) (w : OutWorld D) (number : ℕ) (front : Front) (buffer : Buffer) → (drops ≡ true → IsGood w number)
      → w.ring.consumer.progress.moved ≤ buffer.length → AreApart (event_range w.ring.events) (home_range front.home)
      → OutAddsUp w (out_dropped_if kind drops w front buffer).0 number front buffer []
  unfolding out_dropped
  out_dropped-told true w number front buffer good within apart =
      tallied_whole (IsGood w number) (IsOutMissing kind w number buffer) w.ring front buffer (buffer.length - w.ring.consumer.progress.moved) apart (good refl) refl 0
  out_dropped-told false w number front buffer good within apart = waits (IsGood w number) (IsOutMissing kind w number buffer) w.ring front buffer 0 refl within

  out_by-told : (phase : Phase) (w : OutWorld D) (number : ℕ) (home : Home) (front : Front) (buffer : Buffer) → kind.phase w.device number ≡ phase
      → w.ring.consumer.progress.moved ≤ buffer.length → AreApart (event_range w.ring.events) (home_range front.home)
      → OutAddsUp w (out_by kind phase w number front buffer).0 number front buffer (taken_by kind number home phase w buffer)
  unfolding out_moved
  out_by-told Absent w number home front buffer is within apart = waits (IsGood w number) (IsOutMissing kind w number buffer) w.ring front buffer 0 refl within
  out_by-told (Gives count) w number home front buffer is within apart = waits (IsGood w number) (IsOutMissing kind w number buffer) w.ring front buffer 0 refl within
  out_by-told (Takes count) w number home front buffer is within apart =
      let read = bytes_out w.ring.memory buffer w.ring.consumer.progress.moved (out_count kind w count buffer) in
      out_drawn-told read w number count front buffer (fits read refl) apart (λ none. (count, is, none))
    where
      fits : (read : Option (List ℕ)) → bytes_out w.ring.memory buffer w.ring.consumer.progress.moved (out_count kind w count buffer) ≡ read
          → w.ring.consumer.progress.moved + list_length (unwrap_or read []) ≤ buffer.length
      fits None read = omega (arith, within)
      fits (Some bytes) read =
          let few = fewer w.ring.memory buffer w.ring.consumer.progress.moved (out_count kind w count buffer) bytes read in
          omega (arith, few, within)
  out_by-told (Ended end) w number home front buffer is within apart =
      out_dropped-told (drops_rest end w.ring.consumer.progress.begun) w number front buffer
      (λ drops. is ∙ ap (λ (e : End). Ended e) (ended_good end (and_parts (is_good end) w.ring.consumer.progress.begun drops).0)) within apart

  full_takes : (phase : Phase) (w : OutWorld D) (number : ℕ) (home : Home) (buffer : Buffer) → buffer.length ≤ w.ring.consumer.progress.moved
      → list_length (taken_by kind number home phase w buffer) ≡ 0
  full_takes Absent w number home buffer past = refl
  full_takes (Gives count) w number home buffer past = refl
  full_takes (Takes count) w number home buffer past =
      let none : out_count kind w count buffer ≡ 0 = omega (arith, past) in
      ap (λ (bytes : Option (List ℕ)). list_length (unwrap_or bytes [])) (no_bytes w.ring.memory buffer w.ring.consumer.progress.moved (out_count kind w count buffer) none)
  full_takes (Ended end) w number home buffer past = refl

  out_ran-told : (w : OutWorld D) (number : ℕ) (home : Home) (front : Front) (buffer : Buffer)
      → w.ring.consumer.progress.moved ≤ buffer.length → AreApart (event_range w.ring.events) (home_range front.home)
      → OutAddsUp w (out_ran kind w number front buffer).0 number front buffer (taken_by kind number home (kind.phase w.device number) w buffer)
  unfolding out_ran
  out_ran-told w number home front buffer within apart = by_room (nat_le buffer.length w.ring.consumer.progress.moved) refl
    where
      by_room : (full : Bool) → nat_le buffer.length w.ring.consumer.progress.moved ≡ full
          → OutDone w (if full then (out_with kind w (filled w.ring front buffer.flags), Worked) else out_by kind (kind.phase w.device number) w number front buffer)
          number front buffer (taken_by kind number home (kind.phase w.device number) w buffer)
      by_room true is =
          let past = leb-true buffer.length w.ring.consumer.progress.moved is in
          was_full (IsGood w number) (IsOutMissing kind w number buffer) w.ring front buffer (list_length (taken_by kind number home (kind.phase w.device number) w buffer))
          (full_takes (kind.phase w.device number) w number home buffer past) (omega (arith, past, within)) apart
      by_room false is = out_by-told (kind.phase w.device number) w number home front buffer refl within apart

  out_normal-told : (ending : Ending) (w : OutWorld D) (number : ℕ) (home : Home) (front : Front) (buffer moved : Buffer) → (if runs ending then Some buffer else None) ≡ Some moved
      → w.ring.consumer.progress.moved ≤ moved.length → AreApart (event_range w.ring.events) (home_range front.home)
      → OutAddsUp w (out_normal kind ending w number front buffer).0 number front moved (taken_of kind number home (Some moved) w)
  out_normal-told Runs w number home front buffer moved is within apart =
      let same : buffer ≡ moved = same_Some buffer moved is in
      subst (λ (b : Buffer). w.ring.consumer.progress.moved ≤ b.length → OutAddsUp w (out_ran kind w number front buffer).0 number front b (taken_by kind number home (kind.phase w.device number) w b))
      same (λ within. out_ran-told w number home front buffer within apart) within
  out_normal-told (Told code) w number home front buffer moved is within apart = absurd (none-some moved is)
  out_normal-told Owed w number home front buffer moved is within apart = absurd (none-some moved is)

  out_acted-told : (found : Found) (w : OutWorld D) (number : ℕ) (home : Home) (front : Front) (buffer : Buffer)
      → (if runs w.ring.consumer.progress.ending then buffer_of found else None) ≡ Some buffer
      → w.ring.consumer.progress.moved ≤ buffer.length → AreApart (event_range w.ring.events) (home_range front.home)
      → OutAddsUp w (out_acted kind w number front found).0 number front buffer (taken_of kind number home (Some buffer) w)
  out_acted-told WrongKind w number home front buffer is within apart = no_buffer (runs w.ring.consumer.progress.ending) buffer is
  out_acted-told NotYet w number home front buffer is within apart = no_buffer (runs w.ring.consumer.progress.ending) buffer is
  out_acted-told (Item (Normal pointer length flags)) w number home front buffer is within apart =
      out_normal-told w.ring.consumer.progress.ending w number home front (record { pointer = pointer; length = length; flags = flags }) buffer is within apart
  out_acted-told (Item (Link pointer toggle flags)) w number home front buffer is within apart = no_buffer (runs w.ring.consumer.progress.ending) buffer is
  out_acted-told (Item (NoOp flags)) w number home front buffer is within apart = no_buffer (runs w.ring.consumer.progress.ending) buffer is
  out_acted-told (Item (EventData parameter flags)) w number home front buffer is within apart = no_buffer (runs w.ring.consumer.progress.ending) buffer is
  out_acted-told (Item Foreign) w number home front buffer is within apart = no_buffer (runs w.ring.consumer.progress.ending) buffer is

  pub out_residuals_add_up : OutResidualsAddUp kind
  out_residuals_add_up w number home front buffer found is within apart =
      on_front w w.ring home (out_at kind w number)
      (λ (new : OutWorld D) (f : Option Front). OutAddsUp w new number front buffer (taken_of kind number home (f >>= moving w.ring.consumer) w)) front found
      (λ same. subst (λ (b : Option Buffer). OutAddsUp w (out_at kind w number front).0 number front buffer (taken_of kind number home b w)) (sym is)
      (out_acted-told front.found w number home front buffer is within (subst (λ (h : Home). AreApart (event_range w.ring.events) (home_range h)) (sym same) apart)))

  pub out_skips : (ending : Ending) (w : OutWorld D) (number : ℕ) (front : Front) (buffer : Buffer) → (if runs ending then Some buffer else None) ≡ None
      → out_normal kind ending w number front buffer ≡ out_normal kind (Told 2) w number front buffer
  out_skips Runs w number front buffer is = absurd (none-some buffer (sym is))
  out_skips (Told code) w number front buffer is = refl
  out_skips Owed w number front buffer is = refl

  out_acted-tells : (trb : PipeTrb) (w : OutWorld D) (number : ℕ) (front : Front) → (if runs w.ring.consumer.progress.ending then buffer_of (Item trb) else None) ≡ None
      → AreApart (event_range w.ring.events) (home_range front.home) → TellsOf trb w.ring front (out_acted kind w number front (Item trb)).0.ring
  out_acted-tells (Normal pointer length flags) w number front is apart =
      let buffer : Buffer = record { pointer = pointer; length = length; flags = flags } in
      subst (λ (done : OutWorld D × Acted). TellsOf (Normal pointer length flags) w.ring front done.0.ring)
      (sym (out_skips w.ring.consumer.progress.ending w number front buffer is)) (skipped-tells w.ring front length flags apart, skipped-edtla w.ring front length flags)
  out_acted-tells (Link pointer toggle flags) w number front is apart = other-tells (Link pointer toggle flags) w.ring front refl apart
  out_acted-tells (NoOp flags) w number front is apart = other-tells (NoOp flags) w.ring front refl apart
  out_acted-tells (EventData parameter flags) w number front is apart = other-tells (EventData parameter flags) w.ring front refl apart
  out_acted-tells Foreign w number front is apart = other-tells Foreign w.ring front refl apart

  pub out_event_each : OutEventEach kind
  out_event_each w number home front trb found is moves apart =
      on_front w w.ring home (out_at kind w number) (λ (new : OutWorld D) (f : Option Front). TellsOf trb w.ring front new.ring) front found
      (λ same. subst (λ (f : Found). TellsOf trb w.ring front (out_acted kind w number front f).0.ring) (sym is)
      (out_acted-tells trb w number front (sym (ap (λ (f : Found). if runs w.ring.consumer.progress.ending then buffer_of f else None) is) ∙ moves)
      (subst (λ (h : Home). AreApart (event_range w.ring.events) (home_range h)) (sym same) apart)))

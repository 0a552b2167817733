-- The bytes that are taken are those of the buffers, in order.
use Rattle.std.proofs.Common.{◌≡◌, ℕ, zero, suc, ◌+◌, ◌-◌, ◌≤◌, ◌==◌, Bool, true, false, List, [], ◌∷◌, ◌++◌, length as list_length, take, drop, slice_get, Option, Some, None, refl, sym, ap, subst, ◌∙◌, arith, append_assoc, append-nil, length-append, take-add, inl, inr}
use Rattle.std.specs.Prelude.{if◌then◌else◌, unwrap_or}
use Rattle.std.proofs.lemmas.Bool.{cases_lt, eq-eqb, eqb-true}
use Rattle.std.proofs.lemmas.Option.{none-some, same_Some}
use Rattle.byteorder.specs.Endian.{little_bytes}
use Rattle.guest_memory.specs.Bytes.{Memory, bytes_from, ◌>>=◌}
use Rattle.guest_memory.specs.Parts.{get_left, get_right}
use Rattle.guest_memory.specs.Ranges.{each_of, from_each, size_of}
use Rattle.guest_memory.specs.declared.rings.context.Home.{Home}
use Rattle.guest_memory.specs.declared.rings.context.Front.{Front}
use Rattle.guest_memory.specs.declared.rings.context.Found.{Found}
use Rattle.guest_memory.specs.declared.rings.context.Found.TheVariants.{WrongKind, NotYet, Item}
use Rattle.guest_memory.specs.declared.rings.trb.PipeTrb.TheVariants.{Normal, Link, NoOp, EventData, Foreign}
use Rattle.guest_memory.specs.rings.Ends.{looked}
use Rattle.guest_memory.specs.rings.Wanted.{home_range}
use Rattle.guest_pipes.specs.declared.acted.Acted.{Acted}
use Rattle.guest_pipes.specs.declared.progress.Ending.{Ending}
use Rattle.guest_pipes.specs.declared.progress.Progress.{Progress}
use Rattle.guest_pipes.specs.Progress.{runs}
use Rattle.guest_tags.specs.declared.device.End.TheVariants.{Good}
use Rattle.guest_tags.specs.declared.device.Phase.{Phase}
use Rattle.guest_tags.specs.declared.device.Phase.TheVariants.{Absent, Gives, Takes, Ended}
use Rattle.guest_tags.specs.declared.buffer.Buffer.{Buffer}
use Rattle.guest_tags.specs.Devices.{Kind}
use Rattle.guest_tags.specs.Wanted.{buffer_of, moving}
use Rattle.guest_out.specs.DataOut.{out_acted, out_at, out_count}
use Rattle.guest_out.specs.Immediate.{bytes_out, immediate_bytes, is_immediate}
use Rattle.guest_out.specs.Worlds.{OutWorld}
use Rattle.td_laws.specs.Places.{AreApart, buffer_in_front, event_range, front_of}
use Rattle.td_laws.specs.Runs.{Others, Steps, TagTurn}
use Rattle.td_laws.specs.OutInOrder.{all_out_stepped, all_taken, bytes_taken, out_stepped, taken_by, taken_of}
use Rattle.td_laws.specs.OutBuffers.{BuffersAreTaken, OutAreBeside, StayInFront, all_bytes_left_behind, begun_bytes, bytes_left_behind, front_bytes}
use Rattle.td_laws.specs.OutTold.{Drops, IsOutMissing, IsToldOut, Misses, Partly, Wholly}
use Rattle.td_laws.proofs.Fronts.{by_front, front_looked, on_front}
use Rattle.td_laws.proofs.OutOrdered.{no_bytes}
use Rattle.td_laws.proofs.OutTells as outs
use Rattle.td_laws.proofs.RingTells.{other-gone, refused-progress, skipped-gone}

-- two ranges, one behind the other
joined : (memory : Memory) (at n m : ℕ) (xs ys : List ℕ) → bytes_from memory at n ≡ Some xs → bytes_from memory (at + n) m ≡ Some ys
    → bytes_from memory at (n + m) ≡ Some (xs ++ ys)
joined memory at n m xs ys first second =
    let front : list_length xs ≡ n = size_of memory at n xs first in
    let behind : list_length ys ≡ m = size_of memory (at + n) m ys second in
    from_each memory at (n + m) (xs ++ ys) (omega (arith, length-append xs ys, front, behind)) (λ k below. elim (cases_lt k n) [
      | inl inside ↦ each_of memory at n xs first k inside ∙ sym (get_left xs ys k (omega (arith, inside, front)))
      | inr past ↦
          let place : at + k ≡ at + n + (k - n) = omega (arith, past) in
          let rest : k - n ≡ k - list_length xs = omega (arith, front) in
          ap memory place ∙ each_of memory (at + n) m ys second (k - n) (omega (arith, below, past)) ∙ ap (slice_get ys) rest
          ∙ sym (get_right xs ys k (omega (arith, past, front)))
    ])

take_taken : (n : ℕ) (xs : List ℕ) → take (list_length (take n xs)) xs ≡ take n xs
take_taken zero xs = refl
take_taken (suc n) [] = refl
take_taken (suc n) (x ∷ xs) = ap (λ (l : List ℕ). x ∷ l) (take_taken n xs)

-- what was taken of a buffer, with what is read behind it
with_read : (memory : Memory) (buffer : Buffer) (moved count : ℕ) (xs ys : List ℕ) → bytes_out memory buffer 0 moved ≡ Some xs → bytes_out memory buffer moved count ≡ Some ys
    → bytes_out memory buffer 0 (moved + list_length ys) ≡ Some (xs ++ ys)
unfolding bytes_out
with_read memory buffer moved count xs ys first second = by_kind (is_immediate buffer) first second
  where
    by_kind : (immediate : Bool)
        → (if immediate then Some (immediate_bytes buffer 0 moved) else bytes_from memory (buffer.pointer + 0) moved) ≡ Some xs
        → (if immediate then Some (immediate_bytes buffer moved count) else bytes_from memory (buffer.pointer + moved) count) ≡ Some ys
        → (if immediate then Some (immediate_bytes buffer 0 (moved + list_length ys)) else bytes_from memory (buffer.pointer + 0) (moved + list_length ys)) ≡ Some (xs ++ ys)
    by_kind true first second =
        let all = little_bytes 8 buffer.pointer in
        let mine : take moved all ≡ xs = same_Some (take moved all) xs first in
        let more : take count (drop moved all) ≡ ys = same_Some (take count (drop moved all)) ys second in
        let again : take (list_length ys) (drop moved all) ≡ ys =
        ap (λ (l : List ℕ). take (list_length l) (drop moved all)) (sym more) ∙ take_taken count (drop moved all) ∙ more in
        ap Some (take-add moved (list_length ys) all ∙ ap (λ (l : List ℕ). l ++ take (list_length ys) (drop moved all)) mine ∙ ap (λ (l : List ℕ). xs ++ l) again)
    by_kind false first second =
        let size : list_length ys ≡ count = size_of memory (buffer.pointer + moved) count ys second in
        let place : buffer.pointer + moved ≡ buffer.pointer + 0 + moved = omega arith in
        let behind : bytes_from memory (buffer.pointer + 0 + moved) (list_length ys) ≡ Some ys =
        ap (λ (n : ℕ). bytes_from memory (buffer.pointer + 0 + moved) n) size ∙ ap (λ (at : ℕ). bytes_from memory at count) (sym place) ∙ second in
        joined memory (buffer.pointer + 0) moved (list_length ys) xs ys first behind

-- no bytes
nothing_of : (memory : Memory) (buffer : Option Buffer) (count : ℕ) → count ≡ 0 → unwrap_or (front_bytes memory buffer count) [] ≡ []
nothing_of memory None count none = refl
nothing_of memory (Some buffer) count none = ap (λ (bytes : Option (List ℕ)). unwrap_or bytes []) (no_bytes memory buffer 0 count none)

left_nothing : (after moved : ℕ) (memory : Memory) (buffer : Option Buffer) → moved ≡ 0
    → (if after == moved then [] else unwrap_or (front_bytes memory buffer moved) []) ≡ []
left_nothing after moved memory buffer none = by_test (after == moved)
  where
    by_test : (stays : Bool) → (if stays then [] else unwrap_or (front_bytes memory buffer moved) []) ≡ []
    by_test true = refl
    by_test false = nothing_of memory buffer moved none

left_none : (stays : Bool) (memory : Memory) (moved : ℕ) → (if stays then [] else unwrap_or (front_bytes memory None moved) []) ≡ []
left_none true memory moved = refl
left_none false memory moved = refl

left_whole : (after moved : ℕ) (memory : Memory) (buffer : Buffer) → after ≡ 0
    → (if after == moved then [] else unwrap_or (front_bytes memory (Some buffer) moved) []) ≡ unwrap_or (bytes_out memory buffer 0 moved) []
left_whole after moved memory buffer gone = by_test (after == moved) refl
  where
    by_test : (stays : Bool) → (after == moved) ≡ stays
        → (if stays then [] else unwrap_or (front_bytes memory (Some buffer) moved) []) ≡ unwrap_or (bytes_out memory buffer 0 moved) []
    by_test true is =
        let same : after ≡ moved = eqb-true after moved is in
        sym (ap (λ (bytes : Option (List ℕ)). unwrap_or bytes []) (no_bytes memory buffer 0 moved (sym same ∙ gone)))
    by_test false is = refl

module _ {D : Type 0} (kind : Kind D) (number : ℕ) (home : Home) where
  abbrev step : OutWorld D → OutWorld D
  step w = out_stepped kind number home w

  abbrev taken : OutWorld D → List ℕ
  taken w = bytes_taken kind number home w

  abbrev left : OutWorld D → List ℕ
  left w = bytes_left_behind kind number home w

  abbrev begun : OutWorld D → List ℕ
  begun w = unwrap_or (begun_bytes kind number home w) []

  abbrev moved_by : OutWorld D → ℕ
  moved_by w = w.ring.consumer.progress.moved + list_length (taken w)

  abbrev buffer_at : OutWorld D → Option Buffer
  buffer_at w = looked w.ring.memory home >>= moving w.ring.consumer

  -- nothing was taken of the TRB in front, or what was is there
  data IsSound (w : OutWorld D) : Type 0 where
    Fresh : w.ring.consumer.progress.moved ≡ 0 → IsSound w
    Begun : (buffer : Buffer) (bytes : List ℕ) → buffer_at w ≡ Some buffer → w.ring.consumer.progress.moved ≤ buffer.length
        → begun_bytes kind number home w ≡ Some bytes → IsSound w

  record Moves (w : OutWorld D) : Type 0 where
    sound : IsSound (step w)
    joins : begun w ++ taken w ≡ left w ++ begun (step w)

  held_back : (w : OutWorld D) → front_of w.ring home ≡ None → step w ≡ w
  held_back w none =
      by_front w w.ring home (out_at kind w number) (λ (new : OutWorld D) (f : Option Front). f ≡ None → new ≡ w) (λ is. refl)
      (λ front there room is. absurd (none-some front (sym is))) none

  idle : (w : OutWorld D) → IsSound w → front_of w.ring home ≡ None → Moves w
  idle w sound none =
      let same = held_back w none in
      let in_front : buffer_in_front w.ring home ≡ None = ap (λ (f : Option Front). f >>= moving w.ring.consumer) none in
      let taken_none : taken w ≡ [] = ap (λ (b : Option Buffer). taken_of kind number home b w) in_front in
      let left_nothing_here : left w ≡ [] =
      ap (λ (b : Option Buffer). if (step w).ring.consumer.progress.moved == moved_by w then [] else unwrap_or (front_bytes w.ring.memory b (moved_by w)) []) in_front
      ∙ left_none ((step w).ring.consumer.progress.moved == moved_by w) w.ring.memory (moved_by w) in
      record {
        sound = subst (λ (v : OutWorld D). IsSound v) (sym same) sound;
        joins = ap (λ (t : List ℕ). begun w ++ t) taken_none ∙ append-nil (begun w)
            ∙ sym (ap (λ (l : List ℕ). l ++ begun (step w)) left_nothing_here ∙ ap (λ (v : OutWorld D). begun v) same);
      }

  -- a TRB that moves nothing
  none_moves : (found : Found) (w : OutWorld D) (front : Front) → (if runs w.ring.consumer.progress.ending then buffer_of found else None) ≡ None
      → w.ring.consumer.progress.moved ≡ 0 → (out_acted kind w number front found).0.ring.consumer.progress.moved ≡ 0
  none_moves WrongKind w front is none = ap (λ (progress : Progress). progress.moved) (refused-progress w.ring 10) ∙ none
  none_moves NotYet w front is none = none
  none_moves (Item (Normal pointer length flags)) w front is none =
      let buffer : Buffer = record { pointer = pointer; length = length; flags = flags } in
      ap (λ (done : OutWorld D × Acted). done.0.ring.consumer.progress.moved) (outs.out_skips kind w.ring.consumer.progress.ending w number front buffer is)
      ∙ skipped-gone w.ring front length flags
  none_moves (Item (Link pointer toggle flags)) w front is none = other-gone (Link pointer toggle flags) w.ring front none
  none_moves (Item (NoOp flags)) w front is none = other-gone (NoOp flags) w.ring front none
  none_moves (Item (EventData parameter flags)) w front is none = other-gone (EventData parameter flags) w.ring front none
  none_moves (Item Foreign) w front is none = other-gone Foreign w.ring front none

  beside : (w : OutWorld D) (front : Front) → IsSound w → front_of w.ring home ≡ Some front → moving w.ring.consumer front ≡ None → Moves w
  beside w front sound found is =
      let v = step w in
      let none : w.ring.consumer.progress.moved ≡ 0 = fresh sound in
      let gone : v.ring.consumer.progress.moved ≡ 0 =
      on_front w w.ring home (out_at kind w number) (λ (new : OutWorld D) (f : Option Front). new.ring.consumer.progress.moved ≡ 0) front found
      (λ same. none_moves front.found w front is none) in
      let in_front : buffer_in_front w.ring home ≡ None = ap (λ (f : Option Front). f >>= moving w.ring.consumer) found ∙ is in
      let taken_none : taken w ≡ [] = ap (λ (b : Option Buffer). taken_of kind number home b w) in_front in
      let size : list_length (taken w) ≡ 0 = ap (λ (l : List ℕ). list_length l) taken_none in
      record {
        sound = Fresh gone;
        joins = ap (λ (l : List ℕ). l ++ taken w) (nothing_of w.ring.memory (buffer_at w) w.ring.consumer.progress.moved none) ∙ taken_none
            ∙ sym (ap (λ (l : List ℕ). l ++ begun v) (left_nothing v.ring.consumer.progress.moved (moved_by w) w.ring.memory (buffer_in_front w.ring home) (omega (arith, none, size)))
            ∙ nothing_of v.ring.memory (buffer_at v) v.ring.consumer.progress.moved gone);
      }
    where
      fresh : IsSound w → w.ring.consumer.progress.moved ≡ 0
      fresh (Fresh none) = none
      fresh (Begun buffer bytes at within there) =
          absurd (none-some buffer (sym is ∙ sym (ap (λ (f : Option Front). f >>= moving w.ring.consumer) (front_looked w.ring home front found)) ∙ at))

  with_nothing : (w : OutWorld D) (buffer : Buffer) (xs : List ℕ) → bytes_out w.ring.memory buffer 0 w.ring.consumer.progress.moved ≡ Some xs
      → bytes_out w.ring.memory buffer 0 (w.ring.consumer.progress.moved + 0) ≡ Some (xs ++ [])
  with_nothing w buffer xs first =
      let same : w.ring.consumer.progress.moved + 0 ≡ w.ring.consumer.progress.moved = omega arith in
      ap (λ (n : ℕ). bytes_out w.ring.memory buffer 0 n) same ∙ first ∙ ap Some (sym (append-nil xs))

  -- what was taken of a buffer, with what is taken behind it
  with_taken : (phase : Phase) (w : OutWorld D) (buffer : Buffer) (xs : List ℕ) → bytes_out w.ring.memory buffer 0 w.ring.consumer.progress.moved ≡ Some xs
      → bytes_out w.ring.memory buffer 0 (w.ring.consumer.progress.moved + list_length (taken_by kind number home phase w buffer)) ≡ Some (xs ++ taken_by kind number home phase w buffer)
  with_taken Absent w buffer xs first = with_nothing w buffer xs first
  with_taken (Gives count) w buffer xs first = with_nothing w buffer xs first
  with_taken (Takes count) w buffer xs first =
      by_read (bytes_out w.ring.memory buffer w.ring.consumer.progress.moved (out_count kind w count buffer)) refl
    where
      by_read : (read : Option (List ℕ)) → bytes_out w.ring.memory buffer w.ring.consumer.progress.moved (out_count kind w count buffer) ≡ read
          → bytes_out w.ring.memory buffer 0 (w.ring.consumer.progress.moved + list_length (unwrap_or read [])) ≡ Some (xs ++ unwrap_or read [])
      by_read None is = with_nothing w buffer xs first
      by_read (Some ys) is = with_read w.ring.memory buffer w.ring.consumer.progress.moved (out_count kind w count buffer) xs ys first is
  with_taken (Ended end) w buffer xs first = with_nothing w buffer xs first

  by_told : (w : OutWorld D) (front : Front) (buffer : Buffer) (xs : List ℕ) → front_of w.ring home ≡ Some front → moving w.ring.consumer front ≡ Some buffer
      → bytes_out w.ring.memory buffer 0 w.ring.consumer.progress.moved ≡ Some xs
      → IsToldOut w.ring (step w).ring front.cursor.place buffer (list_length (taken w)) (kind.phase w.device number ≡ Ended Good) (IsOutMissing kind w number buffer)
      → Moves w
  by_told w front buffer xs found is begins told = by_case told
    where
      here : looked w.ring.memory home ≡ Some front
      here = front_looked w.ring home front found

      in_front : buffer_in_front w.ring home ≡ Some buffer
      in_front = ap (λ (f : Option Front). f >>= moving w.ring.consumer) found ∙ is

      begun_here : begun w ≡ xs
      begun_here = ap (λ (f : Option Front). unwrap_or (front_bytes w.ring.memory (f >>= moving w.ring.consumer) w.ring.consumer.progress.moved) []) here
          ∙ ap (λ (b : Option Buffer). unwrap_or (front_bytes w.ring.memory b w.ring.consumer.progress.moved) []) is ∙ ap (λ (o : Option (List ℕ)). unwrap_or o []) begins

      all : bytes_out w.ring.memory buffer 0 (moved_by w) ≡ Some (xs ++ taken w)
      all = subst (λ (b : Option Buffer). bytes_out w.ring.memory buffer 0 (w.ring.consumer.progress.moved + list_length (taken_of kind number home b w)) ≡ Some (xs ++ taken_of kind number home b w))
          (sym in_front) (with_taken (kind.phase w.device number) w buffer xs begins)

      both : begun w ++ taken w ≡ unwrap_or (bytes_out w.ring.memory buffer 0 (moved_by w)) []
      both = ap (λ (l : List ℕ). l ++ taken w) begun_here ∙ sym (ap (λ (o : Option (List ℕ)). unwrap_or o []) all)

      gone : (step w).ring.consumer.progress.moved ≡ 0 → Moves w
      gone none =
          let v = step w in
          let left_here : left w ≡ unwrap_or (bytes_out w.ring.memory buffer 0 (moved_by w)) [] =
          ap (λ (b : Option Buffer). if v.ring.consumer.progress.moved == moved_by w then [] else unwrap_or (front_bytes w.ring.memory b (moved_by w)) []) in_front
          ∙ left_whole v.ring.consumer.progress.moved (moved_by w) w.ring.memory buffer none in
          record {
            sound = Fresh none;
            joins = both ∙ sym left_here ∙ sym (append-nil (left w))
                ∙ ap (λ (l : List ℕ). left w ++ l) (sym (nothing_of v.ring.memory (buffer_at v) v.ring.consumer.progress.moved none));
          }

      goes : moved_by w ≤ buffer.length → (step w).ring.memory ≡ w.ring.memory → (step w).ring.consumer.progress.ending ≡ w.ring.consumer.progress.ending
          → (step w).ring.consumer.progress.moved ≡ moved_by w → Moves w
      goes within memory ending moves =
          let v = step w in
          let at_new : buffer_at v ≡ Some buffer =
          ap (λ (m : Memory). looked m home >>= moving v.ring.consumer) memory ∙ ap (λ (f : Option Front). f >>= moving v.ring.consumer) here
          ∙ ap (λ (e : Ending). if runs e then buffer_of front.found else None) ending ∙ is in
          let begun_new : begun_bytes kind number home v ≡ Some (xs ++ taken w) =
          ap (λ (b : Option Buffer). front_bytes v.ring.memory b v.ring.consumer.progress.moved) at_new
          ∙ ap (λ (m : Memory). bytes_out m buffer 0 v.ring.consumer.progress.moved) memory ∙ ap (λ (n : ℕ). bytes_out w.ring.memory buffer 0 n) moves ∙ all in
          let left_here : left w ≡ [] =
          ap (λ (stays : Bool). if stays then [] else unwrap_or (front_bytes w.ring.memory (buffer_in_front w.ring home) (moved_by w)) []) (eq-eqb v.ring.consumer.progress.moved (moved_by w) moves) in
          record {
            sound = Begun buffer (xs ++ taken w) at_new (omega (arith, within, moves)) begun_new;
            joins = ap (λ (l : List ℕ). l ++ taken w) begun_here ∙ sym (ap (λ (o : Option (List ℕ)). unwrap_or o []) begun_new)
                ∙ ap (λ (l : List ℕ). l ++ begun v) (sym left_here);
          }

      by_case : IsToldOut w.ring (step w).ring front.cursor.place buffer (list_length (taken w)) (kind.phase w.device number ≡ Ended Good) (IsOutMissing kind w number buffer) → Moves w
      by_case (Partly within memory events ending counts) = goes within memory ending counts.in_trb
      by_case (Wholly full tells counts) = gone counts.in_trb
      by_case (Drops over tells counts) = gone counts.in_trb
      by_case (Misses tells lacks none) = gone none

  in_front_moves : (w : OutWorld D) (front : Front) (buffer : Buffer) → IsSound w → AreApart (event_range w.ring.events) (home_range home)
      → front_of w.ring home ≡ Some front → moving w.ring.consumer front ≡ Some buffer → Moves w
  in_front_moves w front buffer sound apart found is = by_sound sound
    where
      at : buffer_at w ≡ Some buffer
      at = ap (λ (f : Option Front). f >>= moving w.ring.consumer) (front_looked w.ring home front found) ∙ is

      by_sound : IsSound w → Moves w
      by_sound (Fresh none) =
          by_told w front buffer [] found is (no_bytes w.ring.memory buffer 0 w.ring.consumer.progress.moved none)
          (outs.out_residuals_add_up kind w number home front buffer found is (omega (arith, none)) apart)
      by_sound (Begun other bytes there within begins) =
          let same : other ≡ buffer = same_Some other buffer (sym there ∙ at) in
          let fits : w.ring.consumer.progress.moved ≤ buffer.length = subst (λ (b : Buffer). w.ring.consumer.progress.moved ≤ b.length) same within in
          let first : bytes_out w.ring.memory buffer 0 w.ring.consumer.progress.moved ≡ Some bytes =
          sym (ap (λ (b : Option Buffer). front_bytes w.ring.memory b w.ring.consumer.progress.moved) at) ∙ begins in
          by_told w front buffer bytes found is first (outs.out_residuals_add_up kind w number home front buffer found is fits apart)

  moves : (w : OutWorld D) → IsSound w → AreApart (event_range w.ring.events) (home_range home) → Moves w
  moves w sound apart = by_found (front_of w.ring home) refl
    where
      by_buffer : (front : Front) (buffer : Option Buffer) → front_of w.ring home ≡ Some front → moving w.ring.consumer front ≡ buffer → Moves w
      by_buffer front None found is = beside w front sound found is
      by_buffer front (Some buffer) found is = in_front_moves w front buffer sound apart found is

      by_found : (found : Option Front) → front_of w.ring home ≡ found → Moves w
      by_found None is = idle w sound is
      by_found (Some front) is = by_buffer front (moving w.ring.consumer front) is refl

  still_sound : (w other : OutWorld D) → OutAreBeside kind number home w other → IsSound w → IsSound other
  still_sound w other beside (Fresh none) = Fresh (ap (λ (progress : Progress). progress.moved) beside.progress ∙ none)
  still_sound w other beside (Begun buffer bytes at within begins) =
      let moving_by : Option Front → Progress → Option Buffer = λ f progress. f >>= (λ front. if runs progress.ending then buffer_of front.found else None) in
      let there : buffer_at other ≡ Some buffer =
      ap (λ (f : Option Front). moving_by f other.ring.consumer.progress) beside.front ∙ ap (λ (progress : Progress). moving_by (looked w.ring.memory home) progress) beside.progress ∙ at in
      Begun buffer bytes there (subst (λ (progress : Progress). progress.moved ≤ buffer.length) (sym beside.progress) within) (beside.bytes ∙ begins)

  run : (turns : List (TagTurn (OutWorld D))) (w : OutWorld D) → StayInFront kind number home w turns → IsSound w
      → begun w ++ all_taken kind number home w turns ≡ all_bytes_left_behind kind number home w turns ++ begun (all_out_stepped kind number home w turns)
  run [] w stay sound = append-nil (begun w)
  run (Steps ∷ turns) w stay sound =
      let v = step w in
      let one = moves w sound stay.0 in
      let rest = all_taken kind number home v turns in
      let behind = all_bytes_left_behind kind number home v turns in
      let end = begun (all_out_stepped kind number home v turns) in
      sym (append_assoc (begun w) (taken w) rest) ∙ ap (λ (l : List ℕ). l ++ rest) one.joins ∙ append_assoc (left w) (begun v) rest
      ∙ ap (λ (l : List ℕ). left w ++ l) (run turns v stay.1 one.sound) ∙ sym (append_assoc (left w) behind end)
  run (Others other ∷ turns) w stay sound =
      ap (λ (o : Option (List ℕ)). unwrap_or o [] ++ all_taken kind number home other turns) (sym stay.0.bytes) ∙ run turns other stay.1 (still_sound w other stay.0 sound)

  pub buffers_are_taken : BuffersAreTaken kind number home
  buffers_are_taken w turns stay fresh =
      ap (λ (l : List ℕ). l ++ all_taken kind number home w turns) (sym (nothing_of w.ring.memory (buffer_at w) w.ring.consumer.progress.moved fresh)) ∙ run turns w stay (Fresh fresh)

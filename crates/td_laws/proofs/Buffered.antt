-- The parts that are filled are the buffers, address for address.
use Rattle.std.proofs.Common.{◌≡◌, ℕ, zero, suc, ◌+◌, ◌-◌, ◌<◌, ◌≤◌, ◌==◌, ◌⊎◌, Bool, true, false, List, [], ◌∷◌, ◌++◌, length as list_length, Option, Some, None, refl, sym, ap, subst, ◌∙◌, arith, append_assoc, append-nil, true≢false, inl, inr}
use Rattle.std.specs.Prelude.{min, if◌then◌else◌, IfSome}
use Rattle.std.proofs.lemmas.Bool.{eq-eqb, eqb-true}
use Rattle.std.proofs.lemmas.Option.{none-some, same_Some}
use Rattle.guest_memory.specs.Bytes.{Memory, is_there, ◌>>=◌}
use Rattle.guest_memory.specs.declared.rings.context.Home.{Home}
use Rattle.guest_memory.specs.declared.rings.context.Front.{Front}
use Rattle.guest_memory.specs.declared.rings.context.Found.{Found}
use Rattle.guest_memory.specs.declared.rings.context.Found.TheVariants.{WrongKind, NotYet, Item}
use Rattle.guest_memory.specs.declared.rings.trb.PipeTrb.TheVariants.{Normal, Link, NoOp, EventData, Foreign}
use Rattle.guest_memory.specs.declared.rings.wanting.Range.{Range}
use Rattle.guest_memory.specs.rings.Ends.{looked}
use Rattle.guest_memory.specs.rings.Wanted.{home_range}
use Rattle.guest_pipes.specs.declared.acted.Acted.{Acted}
use Rattle.guest_pipes.specs.declared.consumer.Consumer.{Consumer}
use Rattle.guest_pipes.specs.declared.progress.Ending.{Ending}
use Rattle.guest_pipes.specs.declared.progress.Progress.{Progress}
use Rattle.guest_pipes.specs.Gate.{after}
use Rattle.guest_pipes.specs.Progress.{runs}
use Rattle.guest_tags.specs.declared.buffer.Buffer.{Buffer}
use Rattle.guest_tags.specs.Devices.{Kind}
use Rattle.guest_tags.specs.Tags.{TagWorld}
use Rattle.guest_tags.specs.DataIn.{acted}
use Rattle.guest_tags.specs.Wanted.{buffer_of, moving}
use Rattle.td_laws.specs.Places.{AreApart, buffer_in_front, coming, front_of, nowhere, part_of}
use Rattle.td_laws.specs.Runs.{Others, Steps, TagTurn, all_stepped, part_filled, parts_filled, stepped}
use Rattle.td_laws.specs.Buffers.{AreBeside, IsClear, PartsAreBuffers, StayClear, addresses, addresses_from, all_addresses, all_left_behind, begun_part, front_part, left_behind}
use Rattle.td_laws.specs.Told.{Ends, Fails, Fills, Goes, IsDropped, IsOver, IsTold, Stays, moved_with}
use Rattle.td_laws.proofs.Fronts.{front_looked}
use Rattle.td_laws.proofs.Fronted.{looked_same, untouched}
use Rattle.td_laws.proofs.RingTells.{other-gone, refused-progress, skipped-gone}
use Rattle.td_laws.proofs.Tells as tells

none_from : (at n : ℕ) → n ≡ 0 → addresses_from at n ≡ []
unfolding addresses_from
none_from at n none = ap (λ (k : ℕ). addresses_from at k) none

-- two ranges, one behind the other
joined : (at n m : ℕ) → addresses_from at n ++ addresses_from (at + n) m ≡ addresses_from at (n + m)
unfolding addresses_from
joined at zero m =
    let here : at + 0 ≡ at = omega arith in
    let same : 0 + m ≡ m = omega arith in
    rw (here, same) refl
joined at (suc n) m =
    let next : at + suc n ≡ at + 1 + n = omega arith in
    let more : suc n + m ≡ suc (n + m) = omega arith in
    rw (next, more) (ap (λ (rest : List ℕ). at ∷ rest) (joined (at + 1) n m))

-- the part of a buffer begins behind what has moved of it, or has no byte
part_at : (memory : Memory) (consumer : Consumer) (coming : ℕ) (buffer : Buffer)
    → ((part_of memory consumer coming (Some buffer)).at ≡ buffer.pointer + consumer.progress.moved) ⊎ ((part_of memory consumer coming (Some buffer)).count ≡ 0)
part_at memory consumer coming buffer =
    by_there (is_there memory (buffer.pointer + consumer.progress.moved) (min coming (buffer.length - consumer.progress.moved)))
  where
    range : Range
    range = record { at = buffer.pointer + consumer.progress.moved; count = min coming (buffer.length - consumer.progress.moved) }

    by_there : (there : Bool) → ((if there then range else nowhere).at ≡ buffer.pointer + consumer.progress.moved) ⊎ ((if there then range else nowhere).count ≡ 0)
    by_there true = inl refl
    by_there false = inr refl

-- what had moved of a buffer, with a part behind it
with_part : (at moved : ℕ) (part : Range) → (part.at ≡ at + moved) ⊎ (part.count ≡ 0) → addresses_from at moved ++ addresses part ≡ addresses_from at (moved + part.count)
with_part at moved part (inl behind) = ap (λ (a : ℕ). addresses_from at moved ++ addresses_from a part.count) behind ∙ joined at moved part.count
with_part at moved part (inr none) =
    let same : moved ≡ moved + part.count = omega (arith, none) in
    ap (λ (rest : List ℕ). addresses_from at moved ++ rest) (none_from part.at part.count none) ∙ append-nil (addresses_from at moved) ∙ ap (λ (n : ℕ). addresses_from at n) same

no_front : (buffer : Option Buffer) (count : ℕ) → count ≡ 0 → addresses (front_part buffer count) ≡ []
no_front None count none = none_from 0 0 refl
no_front (Some buffer) count none = none_from buffer.pointer count none

-- what is left behind where nothing had moved, and where nothing is in front
left_of : (after moved : ℕ) (buffer : Option Buffer) → moved ≡ 0 → addresses (if after == moved then nowhere else front_part buffer moved) ≡ []
left_of after moved buffer none = by_test (after == moved)
  where
    by_test : (stays : Bool) → addresses (if stays then nowhere else front_part buffer moved) ≡ []
    by_test true = none_from 0 0 refl
    by_test false = no_front buffer moved none

left_of_none : (stays : Bool) (moved : ℕ) → addresses (if stays then nowhere else front_part None moved) ≡ []
left_of_none true moved = none_from 0 0 refl
left_of_none false moved = none_from 0 0 refl

-- and of a buffer that isn't in front any more
left_whole : (after moved : ℕ) (buffer : Buffer) → after ≡ 0 → addresses (if after == moved then nowhere else front_part (Some buffer) moved) ≡ addresses_from buffer.pointer moved
left_whole after moved buffer gone = by_test (after == moved) refl
  where
    by_test : (stays : Bool) → (after == moved) ≡ stays → addresses (if stays then nowhere else front_part (Some buffer) moved) ≡ addresses_from buffer.pointer moved
    by_test true is =
        let same : after ≡ moved = eqb-true after moved is in
        none_from 0 0 refl ∙ sym (none_from buffer.pointer moved (sym same ∙ gone))
    by_test false is = refl

module _ {D : Type 0} (kind : Kind D) (number : ℕ) (home : Home) where
  -- nothing has moved of the TRB in front, or it is one with a buffer of at least so many bytes
  pub data IsSound (w : TagWorld D) : Type 0 where
    Fresh : w.ring.consumer.progress.moved ≡ 0 → IsSound w
    Begun : (buffer : Buffer) → (looked w.ring.memory home >>= moving w.ring.consumer) ≡ Some buffer → w.ring.consumer.progress.moved ≤ buffer.length → IsSound w

  pub record Moves (w : TagWorld D) : Type 0 where
    pub sound : IsSound (stepped kind number home w)
    pub joins : addresses (begun_part kind number home w) ++ addresses (part_filled kind number home w)
        ≡ addresses (left_behind kind number home w) ++ addresses (begun_part kind number home (stepped kind number home w))

  -- no step
  idle : (w : TagWorld D) → IsSound w → front_of w.ring home ≡ None → Moves w
  idle w sound none =
      let same = tells.held_back kind number home w none in
      let part_none : part_filled kind number home w ≡ nowhere =
      ap (λ (f : Option Front). part_of w.ring.memory w.ring.consumer (list_length (coming kind w number)) (f >>= moving w.ring.consumer)) none in
      let left_none : addresses (left_behind kind number home w) ≡ [] =
      ap (λ (f : Option Front). addresses (if (stepped kind number home w).ring.consumer.progress.moved == moved_with w.ring (part_filled kind number home w) then nowhere else front_part (f >>= moving w.ring.consumer) (moved_with w.ring (part_filled kind number home w)))) none
      ∙ left_of_none ((stepped kind number home w).ring.consumer.progress.moved == moved_with w.ring (part_filled kind number home w)) (moved_with w.ring (part_filled kind number home w)) in
      record {
        sound = subst (λ (v : TagWorld D). IsSound v) (sym same) sound;
        joins = ap (λ (p : Range). addresses (begun_part kind number home w) ++ addresses p) part_none
            ∙ ap (λ (rest : List ℕ). addresses (begun_part kind number home w) ++ rest) (none_from 0 0 refl)
            ∙ append-nil (addresses (begun_part kind number home w))
            ∙ sym (ap (λ (l : List ℕ). l ++ addresses (begun_part kind number home (stepped kind number home w))) left_none
            ∙ ap (λ (v : TagWorld D). addresses (begun_part kind number home v)) same);
      }

  -- a TRB that moves nothing
  none_moves : (found : Found) (w : TagWorld D) (front : Front) → (if runs w.ring.consumer.progress.ending then buffer_of found else None) ≡ None
      → w.ring.consumer.progress.moved ≡ 0 → (acted kind w number front found).0.ring.consumer.progress.moved ≡ 0
  none_moves WrongKind w front is none = ap (λ (progress : Progress). progress.moved) (refused-progress w.ring 10) ∙ none
  none_moves NotYet w front is none = none
  none_moves (Item (Normal pointer length flags)) w front is none =
      let buffer : Buffer = record { pointer = pointer; length = length; flags = flags } in
      ap (λ (done : TagWorld D × Acted). done.0.ring.consumer.progress.moved) (tells.skips kind w.ring.consumer.progress.ending w number front buffer is)
      ∙ skipped-gone w.ring front length flags
  none_moves (Item (Link pointer toggle flags)) w front is none = other-gone (Link pointer toggle flags) w.ring front none
  none_moves (Item (NoOp flags)) w front is none = other-gone (NoOp flags) w.ring front none
  none_moves (Item (EventData parameter flags)) w front is none = other-gone (EventData parameter flags) w.ring front none
  none_moves (Item Foreign) w front is none = other-gone Foreign w.ring front none

  beside : (w : TagWorld D) (front : Front) → IsSound w → front_of w.ring home ≡ Some front → moving w.ring.consumer front ≡ None → Moves w
  beside w front sound found is =
      let v = stepped kind number home w in
      let none : w.ring.consumer.progress.moved ≡ 0 = fresh sound in
      let gone : v.ring.consumer.progress.moved ≡ 0 =
      tells.stepped_on kind w number home front (λ (new : TagWorld D) (f : Option Front). new.ring.consumer.progress.moved ≡ 0) found
      (λ same. none_moves front.found w front is none) in
      let in_front : buffer_in_front w.ring home ≡ None = ap (λ (f : Option Front). f >>= moving w.ring.consumer) found ∙ is in
      let part_none : (part_filled kind number home w).count ≡ 0 =
      ap (λ (b : Option Buffer). (part_of w.ring.memory w.ring.consumer (list_length (coming kind w number)) b).count) in_front in
      let moved_none : moved_with w.ring (part_filled kind number home w) ≡ 0 = omega (arith, none, part_none) in
      record {
        sound = Fresh gone;
        joins = ap (λ (l : List ℕ). l ++ addresses (part_filled kind number home w)) (no_front (looked w.ring.memory home >>= moving w.ring.consumer) w.ring.consumer.progress.moved none)
            ∙ none_from (part_filled kind number home w).at (part_filled kind number home w).count part_none
            ∙ sym (ap (λ (l : List ℕ). l ++ addresses (begun_part kind number home v)) (left_of v.ring.consumer.progress.moved (moved_with w.ring (part_filled kind number home w)) (buffer_in_front w.ring home) moved_none)
            ∙ no_front (looked v.ring.memory home >>= moving v.ring.consumer) v.ring.consumer.progress.moved gone);
      }
    where
      fresh : IsSound w → w.ring.consumer.progress.moved ≡ 0
      fresh (Fresh none) = none
      fresh (Begun buffer at within) =
          absurd (none-some buffer (sym is ∙ sym (ap (λ (f : Option Front). f >>= moving w.ring.consumer) (front_looked w.ring home front found)) ∙ at))

  -- what holds of the TRB in front, once a step told of it
  by_told : (w : TagWorld D) (front : Front) (buffer : Buffer) → IsClear kind number home w → front_of w.ring home ≡ Some front
      → moving w.ring.consumer front ≡ Some buffer
      → IsTold w.ring (stepped kind number home w).ring front.cursor.place buffer (part_filled kind number home w)
      (IsOver kind (stepped kind number home w) number) (IsDropped kind w (list_length (coming kind w number)) buffer (stepped kind number home w)) → Moves w
  by_told w front buffer clear found is told = by_case told
    where
      here : looked w.ring.memory home ≡ Some front
      here = front_looked w.ring home front found

      at : (looked w.ring.memory home >>= moving w.ring.consumer) ≡ Some buffer
      at = ap (λ (f : Option Front). f >>= moving w.ring.consumer) here ∙ is

      in_front : buffer_in_front w.ring home ≡ Some buffer
      in_front = ap (λ (f : Option Front). f >>= moving w.ring.consumer) found ∙ is

      place : ((part_filled kind number home w).at ≡ buffer.pointer + w.ring.consumer.progress.moved) ⊎ ((part_filled kind number home w).count ≡ 0)
      place = subst (λ (b : Option Buffer). ((part_of w.ring.memory w.ring.consumer (list_length (coming kind w number)) b).at ≡ buffer.pointer + w.ring.consumer.progress.moved)
          ⊎ ((part_of w.ring.memory w.ring.consumer (list_length (coming kind w number)) b).count ≡ 0)) (sym in_front)
          (part_at w.ring.memory w.ring.consumer (list_length (coming kind w number)) buffer)

      both : addresses (begun_part kind number home w) ++ addresses (part_filled kind number home w)
          ≡ addresses_from buffer.pointer (moved_with w.ring (part_filled kind number home w))
      both = ap (λ (b : Option Buffer). addresses (front_part b w.ring.consumer.progress.moved) ++ addresses (part_filled kind number home w)) at
          ∙ with_part buffer.pointer w.ring.consumer.progress.moved (part_filled kind number home w) place

      gone : (stepped kind number home w).ring.consumer.progress.moved ≡ 0 → Moves w
      gone none =
          let v = stepped kind number home w in
          let moved = moved_with w.ring (part_filled kind number home w) in
          let left : addresses (left_behind kind number home w) ≡ addresses_from buffer.pointer moved =
          ap (λ (b : Option Buffer). addresses (if v.ring.consumer.progress.moved == moved then nowhere else front_part b moved)) in_front
          ∙ left_whole v.ring.consumer.progress.moved moved buffer none in
          record {
            sound = Fresh none;
            joins = both ∙ sym left ∙ sym (append-nil (addresses (left_behind kind number home w)))
                ∙ ap (λ (l : List ℕ). addresses (left_behind kind number home w) ++ l) (sym (no_front (looked v.ring.memory home >>= moving v.ring.consumer) v.ring.consumer.progress.moved none));
          }

      goes : moved_with w.ring (part_filled kind number home w) < buffer.length → Stays w.ring (stepped kind number home w).ring (part_filled kind number home w)
          → (stepped kind number home w).ring.consumer.progress.moved ≡ moved_with w.ring (part_filled kind number home w) → Moves w
      goes below stays moves =
          let v = stepped kind number home w in
          let part = part_filled kind number home w in
          let moved = moved_with w.ring part in
          let trb : AreApart (record { at = front.cursor.place; count = 16 }) part =
          subst (λ (f : Option Front). IfSome f (λ front. AreApart (record { at = front.cursor.place; count = 16 }) part)) here clear.trb in
          let again : looked v.ring.memory home ≡ Some front =
          looked_same v.ring.memory w.ring.memory home front here
          (untouched v.ring.memory w.ring.memory (home_range home) part clear.end stays.others)
          (untouched v.ring.memory w.ring.memory (record { at = front.cursor.place; count = 16 }) part trb stays.others) in
          let at_new : (looked v.ring.memory home >>= moving v.ring.consumer) ≡ Some buffer =
          ap (λ (f : Option Front). f >>= moving v.ring.consumer) again
          ∙ ap (λ (ending : Ending). if runs ending then buffer_of front.found else None) stays.ending ∙ is in
          let begun : addresses (begun_part kind number home v) ≡ addresses_from buffer.pointer moved =
          ap (λ (b : Option Buffer). addresses (front_part b v.ring.consumer.progress.moved)) at_new ∙ ap (λ (n : ℕ). addresses_from buffer.pointer n) moves in
          let left : addresses (left_behind kind number home w) ≡ [] =
          ap (λ (stays : Bool). addresses (if stays then nowhere else front_part (buffer_in_front w.ring home) moved)) (eq-eqb v.ring.consumer.progress.moved moved moves)
          ∙ none_from 0 0 refl in
          record {
            sound = Begun buffer at_new (omega (arith, below, moves));
            joins = both ∙ sym begun ∙ ap (λ (l : List ℕ). l ++ addresses (begun_part kind number home v)) (sym left);
          }

      by_case : IsTold w.ring (stepped kind number home w).ring front.cursor.place buffer (part_filled kind number home w)
          (IsOver kind (stepped kind number home w) number) (IsDropped kind w (list_length (coming kind w number)) buffer (stepped kind number home w)) → Moves w
      by_case (Goes below stays counts) = goes below stays counts.in_trb
      by_case (Fills full told counts) = gone counts.in_trb
      by_case (Ends residual adds some over told counts) = gone counts.in_trb
      by_case (Fails told dropped) = absurd (true≢false (sym dropped.2 ∙ clear.there))

  -- no more than its length has moved of the buffer in front
  pub within_front : (w : TagWorld D) (front : Front) (buffer : Buffer) → front_of w.ring home ≡ Some front → moving w.ring.consumer front ≡ Some buffer
      → IsSound w → w.ring.consumer.progress.moved ≤ buffer.length
  within_front w front buffer found is (Fresh none) = omega (arith, none)
  within_front w front buffer found is (Begun other at fits) =
      let same : other ≡ buffer = same_Some other buffer (sym at ∙ ap (λ (f : Option Front). f >>= moving w.ring.consumer) (front_looked w.ring home front found) ∙ is) in
      subst (λ (b : Buffer). w.ring.consumer.progress.moved ≤ b.length) same fits

  taken : (w : TagWorld D) (front : Front) (buffer : Buffer) → IsSound w → IsClear kind number home w → front_of w.ring home ≡ Some front
      → moving w.ring.consumer front ≡ Some buffer → Moves w
  taken w front buffer sound clear found is =
      by_told w front buffer clear found is (tells.residuals_add_up kind w number home front buffer found is (within_front w front buffer found is sound) clear.event)

  pub moves : (w : TagWorld D) → IsSound w → IsClear kind number home w → Moves w
  moves w sound clear = by_front (front_of w.ring home) refl
    where
      by_buffer : (front : Front) (buffer : Option Buffer) → front_of w.ring home ≡ Some front → moving w.ring.consumer front ≡ buffer → Moves w
      by_buffer front None found is = beside w front sound found is
      by_buffer front (Some buffer) found is = taken w front buffer sound clear found is

      by_front : (found : Option Front) → front_of w.ring home ≡ found → Moves w
      by_front None is = idle w sound is
      by_front (Some front) is = by_buffer front (moving w.ring.consumer front) is refl

  abbrev begun_by : Option Front → Progress → Range
  begun_by found progress = front_part (found >>= (λ front. if runs progress.ending then buffer_of front.found else None)) progress.moved

  same_begun : (w other : TagWorld D) → AreBeside kind number home w other → begun_part kind number home other ≡ begun_part kind number home w
  same_begun w other left =
      ap (λ (f : Option Front). begun_by f other.ring.consumer.progress) left.front ∙ ap (λ (progress : Progress). begun_by (looked w.ring.memory home) progress) left.progress

  pub still_sound : (w other : TagWorld D) → AreBeside kind number home w other → IsSound w → IsSound other
  still_sound w other left (Fresh none) = Fresh (ap (λ (progress : Progress). progress.moved) left.progress ∙ none)
  still_sound w other left (Begun buffer at within) =
      let moving_by : Option Front → Progress → Option Buffer = λ f progress. f >>= (λ front. if runs progress.ending then buffer_of front.found else None) in
      let there : (looked other.ring.memory home >>= moving other.ring.consumer) ≡ Some buffer =
      ap (λ (f : Option Front). moving_by f other.ring.consumer.progress) left.front ∙ ap (λ (progress : Progress). moving_by (looked w.ring.memory home) progress) left.progress ∙ at in
      Begun buffer there (subst (λ (progress : Progress). progress.moved ≤ buffer.length) (sym left.progress) within)

  run : (turns : List (TagTurn (TagWorld D))) (w : TagWorld D) → StayClear kind number home w turns → IsSound w
      → addresses (begun_part kind number home w) ++ all_addresses (parts_filled kind number home w turns)
      ≡ all_addresses (all_left_behind kind number home w turns) ++ addresses (begun_part kind number home (all_stepped kind number home w turns))
  run [] w clear sound = append-nil (addresses (begun_part kind number home w))
  run (Steps ∷ turns) w clear sound =
      let v = stepped kind number home w in
      let one = moves w sound clear.0 in
      let begun = addresses (begun_part kind number home w) in
      let part = addresses (part_filled kind number home w) in
      let left = addresses (left_behind kind number home w) in
      let parts = all_addresses (parts_filled kind number home v turns) in
      let rest = all_addresses (all_left_behind kind number home v turns) in
      let end = addresses (begun_part kind number home (all_stepped kind number home v turns)) in
      sym (append_assoc begun part parts) ∙ ap (λ (l : List ℕ). l ++ parts) one.joins
      ∙ append_assoc left (addresses (begun_part kind number home v)) parts ∙ ap (λ (l : List ℕ). left ++ l) (run turns v clear.1 one.sound)
      ∙ sym (append_assoc left rest end)
  run (Others other ∷ turns) w clear sound =
      ap (λ (range : Range). addresses range ++ all_addresses (parts_filled kind number home other turns)) (sym (same_begun w other clear.0))
      ∙ run turns other clear.1 (still_sound w other clear.0 sound)

  pub parts_are_buffers : PartsAreBuffers kind number home
  parts_are_buffers w turns clear fresh =
      ap (λ (l : List ℕ). l ++ all_addresses (parts_filled kind number home w turns))
      (sym (no_front (looked w.ring.memory home >>= moving w.ring.consumer) w.ring.consumer.progress.moved fresh))
      ∙ run turns w clear (Fresh fresh)

-- EDTLA, step by step.
use Rattle.std.proofs.Common.{◌≡◌, ℕ, ◌+◌, ◌%◌, ◌^◌, Bool, true, false, List, [], ◌∷◌, length as list_length, Option, Some, None, refl, sym, ap, ◌∙◌, arith, add-zero}
use Rattle.std.specs.Prelude.{if◌then◌else◌, IfSome}
use Rattle.std.proofs.lemmas.Bool.{true≢false}
use Rattle.std.proofs.lemmas.Option.{none-some, same_Some}
use Rattle.guest_memory.specs.Bytes.{◌>>=◌}
use Rattle.guest_memory.specs.declared.rings.context.Home.{Home}
use Rattle.guest_memory.specs.declared.rings.context.Front.{Front}
use Rattle.guest_memory.specs.declared.rings.context.Found.{Found}
use Rattle.guest_memory.specs.declared.rings.context.Found.TheVariants.{WrongKind, NotYet, Item}
use Rattle.guest_memory.specs.declared.rings.trb.PipeTrb.{PipeTrb}
use Rattle.guest_memory.specs.declared.rings.trb.PipeTrb.TheVariants.{Normal, Link, NoOp, EventData, Foreign}
use Rattle.guest_memory.specs.declared.rings.wanting.Range.{Range}
use Rattle.guest_pipes.specs.declared.progress.Progress.{Progress}
use Rattle.guest_pipes.specs.Progress.{runs}
use Rattle.guest_pipes.specs.Step.{World}
use Rattle.guest_tags.specs.declared.buffer.Buffer.{Buffer}
use Rattle.guest_tags.specs.Devices.{Kind}
use Rattle.guest_tags.specs.DataIn.{acted}
use Rattle.guest_tags.specs.Tags.{TagWorld}
use Rattle.guest_tags.specs.Wanted.{buffer_of, moving}
use Rattle.td_laws.specs.Places.{buffer_in_front, coming, front_of, part_of}
use Rattle.td_laws.specs.Runs.{Others, Steps, TagTurn, all_stepped, part_filled, parts_filled, stepped}
use Rattle.td_laws.specs.Buffers.{IsClear, StayClear}
use Rattle.td_laws.specs.Edtla.{AllGoOn, EdtlaAddsUp, GoesOn, moved_in_all}
use Rattle.td_laws.specs.Told.{Ends, Fails, Fills, Goes, IsDropped, IsOver, IsTold, edtla_behind, edtla_past, edtla_with}
use Rattle.td_laws.proofs.Buffered.{IsSound, Fresh, moves, still_sound, within_front}
use Rattle.td_laws.proofs.RingTells.{refused-progress}
use Rattle.td_laws.proofs.Tells as tells

-- a TRB behind which EDTLA goes on leaves it
goes_past : (trb : PipeTrb) (edtla : ℕ) → GoesOn (Item trb) → edtla_past trb edtla ≡ edtla
goes_past (Normal pointer length flags) edtla goes = ap (λ (chain : Bool). edtla_behind chain edtla) goes
goes_past (Link pointer toggle flags) edtla goes = refl
goes_past (NoOp flags) edtla goes = ap (λ (chain : Bool). edtla_behind chain edtla) goes
goes_past (EventData parameter flags) edtla goes = absurd goes
goes_past Foreign edtla goes = refl

-- a buffer in front of such a TRB
chained : (found : Found) (moves : Bool) (buffer : Buffer) → (if moves then buffer_of found else None) ≡ Some buffer → GoesOn found → buffer.flags.chain ≡ true
chained found false buffer is goes = absurd (none-some buffer is)
chained WrongKind true buffer is goes = absurd (none-some buffer is)
chained NotYet true buffer is goes = absurd (none-some buffer is)
chained (Item (Normal pointer length flags)) true buffer is goes =
    let same : record { pointer = pointer; length = length; flags = flags } ≡ buffer = same_Some (record { pointer = pointer; length = length; flags = flags }) buffer is in
    sym (ap (λ (b : Buffer). b.flags.chain) same) ∙ goes
chained (Item (Link pointer toggle flags)) true buffer is goes = absurd (none-some buffer is)
chained (Item (NoOp flags)) true buffer is goes = absurd (none-some buffer is)
chained (Item (EventData parameter flags)) true buffer is goes = absurd (none-some buffer is)
chained (Item Foreign) true buffer is goes = absurd (none-some buffer is)

-- sums of 24 bits
sum_on : (a b c : ℕ) → a % 2 ^ 24 ≡ b % 2 ^ 24 → (a + c) % 2 ^ 24 ≡ (b + c) % 2 ^ 24
sum_on a b c same = omega (arith, same)

module _ {D : Type 0} (kind : Kind D) (number : ℕ) (home : Home) where
  abbrev edtla : TagWorld D → ℕ
  edtla w = w.ring.consumer.progress.edtla

  abbrev part : TagWorld D → Range
  part w = part_filled kind number home w

  abbrev Grows : TagWorld D → Type 0
  Grows w = edtla (stepped kind number home w) % 2 ^ 24 ≡ (edtla w + (part w).count) % 2 ^ 24

  -- nothing moves, and EDTLA stays
  stays : (w : TagWorld D) → buffer_in_front w.ring home ≡ None → edtla (stepped kind number home w) ≡ edtla w → Grows w
  stays w none same =
      let part_none : (part w).count ≡ 0 = ap (λ (b : Option Buffer). (part_of w.ring.memory w.ring.consumer (list_length (coming kind w number)) b).count) none in
      let more : edtla w ≡ edtla w + (part w).count = omega (arith, part_none) in
      ap (λ (n : ℕ). n % 2 ^ 24) (same ∙ more)

  -- a TRB that moves nothing
  beside : (w : TagWorld D) (front : Front) (found : Found) → IsClear kind number home w → front_of w.ring home ≡ Some front → front.found ≡ found
      → moving w.ring.consumer front ≡ None → GoesOn found → edtla (stepped kind number home w) ≡ edtla w
  beside w front WrongKind clear at is none goes =
      tells.stepped_on kind w number home front (λ (new : TagWorld D) (f : Option Front). edtla new ≡ edtla w) at
      (λ same. ap (λ (f : Found). edtla (acted kind w number front f).0) is ∙ ap (λ (progress : Progress). progress.edtla) (refused-progress w.ring 10))
  beside w front NotYet clear at is none goes =
      ap (λ (ring : World). ring.consumer.progress.edtla) ((tells.none_without_a_trb kind w number home).1 front at is)
  beside w front (Item trb) clear at is none goes =
      (tells.an_event_each kind w number home front trb at is none clear.event).1 ∙ goes_past trb (edtla w) goes

  -- a buffer in front
  in_front : (w : TagWorld D) (front : Front) (buffer : Buffer) → IsSound kind number home w → IsClear kind number home w → front_of w.ring home ≡ Some front
      → moving w.ring.consumer front ≡ Some buffer → GoesOn front.found → Grows w
  in_front w front buffer sound clear at is goes =
      by_told (tells.residuals_add_up kind w number home front buffer at is (within_front kind number home w front buffer at is sound) clear.event)
    where
      on : buffer.flags.chain ≡ true
      on = chained front.found (runs w.ring.consumer.progress.ending) buffer is goes

      behind : (n : ℕ) → edtla_behind buffer.flags.chain n ≡ n
      behind n = ap (λ (chain : Bool). edtla_behind chain n) on

      by_told : IsTold w.ring (stepped kind number home w).ring front.cursor.place buffer (part_filled kind number home w)
          (IsOver kind (stepped kind number home w) number) (IsDropped kind w (list_length (coming kind w number)) buffer (stepped kind number home w)) → Grows w
      by_told (Goes below stays counts) = counts.since
      by_told (Fills full told counts) = counts.since ∙ ap (λ (n : ℕ). n % 2 ^ 24) (behind (edtla_with w.ring (part w)))
      by_told (Ends residual adds some over told counts) = counts.since ∙ ap (λ (n : ℕ). n % 2 ^ 24) (behind (edtla_with w.ring (part w)))
      by_told (Fails told dropped) = absurd (true≢false (sym dropped.2 ∙ clear.there))

  grows : (w : TagWorld D) → IsSound kind number home w → IsClear kind number home w → IfSome (front_of w.ring home) (λ front. GoesOn front.found) → Grows w
  grows w sound clear goes = by_front (front_of w.ring home) refl goes
    where
      by_buffer : (front : Front) (buffer : Option Buffer) → front_of w.ring home ≡ Some front → moving w.ring.consumer front ≡ buffer → GoesOn front.found → Grows w
      by_buffer front None at is goes =
          stays w (ap (λ (f : Option Front). f >>= moving w.ring.consumer) at ∙ is) (beside w front front.found clear at refl is goes)
      by_buffer front (Some buffer) at is goes = in_front w front buffer sound clear at is goes

      by_front : (found : Option Front) → front_of w.ring home ≡ found → IfSome found (λ front. GoesOn front.found) → Grows w
      by_front None at goes =
          stays w (ap (λ (f : Option Front). f >>= moving w.ring.consumer) at) (ap (λ (v : TagWorld D). edtla v) (tells.held_back kind number home w at))
      by_front (Some front) at goes = by_buffer front (moving w.ring.consumer front) at refl goes

  run : (turns : List (TagTurn (TagWorld D))) (w : TagWorld D) → StayClear kind number home w turns → AllGoOn kind number home w turns → IsSound kind number home w
      → edtla (all_stepped kind number home w turns) % 2 ^ 24 ≡ (edtla w + moved_in_all (parts_filled kind number home w turns)) % 2 ^ 24
  run [] w clear goes sound = ap (λ (n : ℕ). n % 2 ^ 24) (sym (add-zero (edtla w)))
  run (Steps ∷ turns) w clear goes sound =
      let v = stepped kind number home w in
      let count = (part w).count in
      let rest = moved_in_all (parts_filled kind number home v turns) in
      let later = run turns v clear.1 goes.1 (moves kind number home w sound clear.0).sound in
      let sum : edtla w + count + rest ≡ edtla w + (count + rest) = omega arith in
      later ∙ sum_on (edtla v) (edtla w + count) rest (grows w sound clear.0 goes.0) ∙ ap (λ (n : ℕ). n % 2 ^ 24) sum
  run (Others other ∷ turns) w clear goes sound =
      let same : edtla other ≡ edtla w = ap (λ (progress : Progress). progress.edtla) clear.0.progress in
      run turns other clear.1 goes (still_sound kind number home w other clear.0 sound)
      ∙ ap (λ (n : ℕ). (n + moved_in_all (parts_filled kind number home other turns)) % 2 ^ 24) same

  pub edtla_adds_up : EdtlaAddsUp kind number home
  edtla_adds_up w turns clear goes fresh = run turns w clear goes (Fresh fresh)

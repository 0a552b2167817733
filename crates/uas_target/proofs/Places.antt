-- Places of a table: which of them hold something, as their marks say, and what a tag has that wants something. Cited by the
-- answers of the table.
use Rattle.std.proofs.Common.{◌≡◌, ℕ, zero, suc, ◌-◌, ◌<◌, false, Option, None, List, length, replicate, is_some, refl, ap, sym, ◌∙◌, arith}
use Rattle.std.proofs.Common.{inl, inr}
use Rattle.std.specs.Prelude.{slice_index_or, slice_set}
use Rattle.std.specs.Option.{option_map_or}
use Rattle.std.proofs.lemmas.Bool.{cases_eq, cases_lt}
use Rattle.std.proofs.lemmas.List.{get_or-set_same, get_or-set_other}
use Rattle.scsi_cmd.specs.Held.{held_at, held_under}
use Rattle.scsi_cmd.specs.Laws.{held_at-past, held_at-read}
use Rattle.marks.specs.Marks.{is_marked}
use Rattle.uas_target.specs.declared.DeviceTask.{DeviceTask}
use Rattle.uas_target.specs.declared.Phase.{Phase}
use Rattle.uas_target.specs.declared.Phase.TheVariants.{Absent, Gives, Takes}
use Rattle.uas_target.specs.Marks.{MarksHeld}
use Rattle.uas_target.specs.Tasks.{task_wants}

-- places of which none holds anything
held_at-none : {T : Type 0} (count place : ℕ) → held_at {T = T} (replicate count None) place ≡ None
held_at-none zero place = refl
held_at-none (suc count) zero = refl
held_at-none (suc count) (suc place) = held_at-none count place

pub unmarked : {T : Type 0} (words : List ℕ) (places : List (Option T)) (count : ℕ) → ((place : ℕ) → is_marked words place ≡ false) →
    places ≡ replicate count None → MarksHeld words places
unmarked words places count none is place = none place ∙ sym (ap is_some (ap (λ held. held_at held place) is ∙ held_at-none count place))

-- one place holds something else, and its mark says so
pub MarksHeld-set : {T : Type 0} (words after : List ℕ) (places : List (Option T)) (place : ℕ) (now : Option T) → place < length places →
    is_marked after place ≡ is_some now → ((other : ℕ) → (other ≡ place → ⊥) → is_marked after other ≡ is_marked words other) →
    MarksHeld words places → MarksHeld after (slice_set places place now)
MarksHeld-set words after places place now within here others held other =
    elim (cases_eq other place) as (λ _. is_marked after other ≡ is_some (held_at (slice_set places place now) other)) [
      | inl same ↦
          ap (is_marked after) same ∙ (here
          ∙ sym (ap is_some (ap (held_at (slice_set places place now)) same ∙ get_or-set_same places place now None within)))
      | inr apart ↦ others other apart ∙ (held other ∙ sym (ap is_some (get_or-set_other places place other now None apart)))
    ]

-- a place that holds something holds something else now
pub MarksHeld-kept : {T : Type 0} (words : List ℕ) (places : List (Option T)) (place : ℕ) (read now : Option T) → place < length places →
    held_at places place ≡ read → is_some now ≡ is_some read → MarksHeld words places → MarksHeld words (slice_set places place now)
MarksHeld-kept words places place read now within is same held =
    MarksHeld-set words words places place now within (held place ∙ ap is_some is ∙ sym same) (λ other apart. refl) held

-- where a tag's task wants something, the tag has the place before its number, and what was read there is its task
pub record IsRead (items held : List (Option DeviceTask)) (tag place : ℕ) (read : Option DeviceTask) : Type 0 where
  pub within : place < length items
  pub at : held_at items place ≡ read
  pub under : held_under held tag ≡ read

wanted_read : (held : List (Option DeviceTask)) (tag place : ℕ) (read : Option DeviceTask) (phase : Phase) → (phase ≡ Absent → ⊥) →
    place ≡ tag - 1 → option_map_or task_wants (held_under held tag) Absent ≡ phase → read ≡ slice_index_or held place read →
    IsRead held held tag place read
wanted_read held zero place read phase apart before wants is = absurd (apart (sym wants))
wanted_read held (suc slot) place read phase apart before wants is =
    let same : place ≡ slot = omega arith in
    elim (cases_lt slot (length held)) [
      | inl within ↦
          let here : place < length held = omega arith in
          let at : held_at held place ≡ read = held_at-read held place read read here (sym is) in
          record { within = here; at = at; under = ap (held_at held) (sym same) ∙ at }
      | inr past ↦ absurd (apart (sym wants ∙ ap (λ found. option_map_or task_wants found Absent) (held_at-past held slot past)))
    ]

gives_apart : (size : ℕ) → Gives size ≡ Absent → ⊥
gives_apart size is = let no : ◌≡◌ {A = Phase} (Gives size) Absent = is in let it : ⊥ = cc in it

takes_apart : (size : ℕ) → Takes size ≡ Absent → ⊥
takes_apart size is = let no : ◌≡◌ {A = Phase} (Takes size) Absent = is in let it : ⊥ = cc in it

pub gives_read : (items held : List (Option DeviceTask)) (tag number size : ℕ) (read : Option DeviceTask) → items ≡ held → number ≡ tag →
    option_map_or task_wants (held_under held tag) Absent ≡ Gives size → read ≡ slice_index_or items (number - 1) read →
    IsRead items held tag (number - 1) read
gives_read items held tag number size read same numbered wants is =
    rw (same, numbered)
    (wanted_read held tag (tag - 1) read (Gives size) (gives_apart size) refl wants (rw (same, numbered) at is))

pub takes_read : (items held : List (Option DeviceTask)) (tag number size : ℕ) (read : Option DeviceTask) → items ≡ held → number ≡ tag →
    option_map_or task_wants (held_under held tag) Absent ≡ Takes size → read ≡ slice_index_or items (number - 1) read →
    IsRead items held tag (number - 1) read
takes_read items held tag number size read same numbered wants is =
    rw (same, numbered)
    (wanted_read held tag (tag - 1) read (Takes size) (takes_apart size) refl wants (rw (same, numbered) at is))

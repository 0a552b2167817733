-- What task management leaves of the tasks, and of the device. Cited by the answers of `manage` and its parts, and by Kept.
use Rattle.std.proofs.Common.{◌≡◌, ℕ, zero, suc, ◌<◌, true, false, List, [], ◌∷◌, length, map, Option, Some, None, IfSome, refl, arith, ap, sym, ◌∙◌}
use Rattle.std.specs.Prelude.{slice_get, slice_index, slice_index_or, slice_set}
use Rattle.std.proofs.lemmas.List.{length-map, set-get_or}
use Rattle.block_unit.specs.BlockMaps.{BlockMaps}
use Rattle.scsi_cmd.specs.Held.{AllHeld, held_under, with_held_under}
use Rattle.uas_target.specs.declared.DeviceTask.{DeviceTask}
use Rattle.uas_target.specs.Soundness.{IsSoundDevice, IsSoundTask, counts_of}
use Rattle.uas_target.specs.Device.{Device, aborted_on}
use Rattle.uas_target.specs.Fields.{addressed}
use Rattle.uas_target.specs.Tasks.{is_command_of, spared}
use Rattle.uas_target.proofs.Sound.{IsSoundDevice-step, held_under-sound}

-- ONE TAG

-- what a tag has, written back
pub with_held_under-same : {T : Type 0} (places : List (Option T)) (tag : ℕ) → with_held_under places tag (held_under places tag) ≡ places
with_held_under-same places zero = refl
with_held_under-same places (suc slot) = set-get_or places slot None

-- a tag that has no task has none afterwards
pub spared-none : (places : List (Option DeviceTask)) (number tag : ℕ) → held_under places tag ≡ None →
    with_held_under places tag (spared number (held_under places tag)) ≡ places
spared-none places number tag is =
    ap (λ held. with_held_under places tag (spared number held)) is ∙ ap (with_held_under places tag) (sym is) ∙ with_held_under-same places tag

-- what is no command's to the unit stays
pub spared-kept : (number : ℕ) (task : DeviceTask) → is_command_of number task ≡ false → spared number (Some task) ≡ Some task
spared-kept number task other = rw other refl

pub spared-gone : (number : ℕ) (task : DeviceTask) → is_command_of number task ≡ true → spared number (Some task) ≡ None
spared-gone number task command = rw command refl

pub with-spared_kept : (places : List (Option DeviceTask)) (number tag : ℕ) (task : DeviceTask) → held_under places tag ≡ Some task →
    is_command_of number task ≡ false → with_held_under places tag (spared number (held_under places tag)) ≡ places
with-spared_kept places number tag task is other =
    ap (λ held. with_held_under places tag (spared number held)) is
    ∙ ap (with_held_under places tag) (spared-kept number task other ∙ sym is)
    ∙ with_held_under-same places tag

pub with-spared_gone : (places : List (Option DeviceTask)) (number tag : ℕ) (task : DeviceTask) → held_under places tag ≡ Some task →
    is_command_of number task ≡ true → with_held_under places tag (spared number (held_under places tag)) ≡ with_held_under places tag None
with-spared_gone places number tag task is command =
    ap (λ held. with_held_under places tag (spared number held)) is ∙ ap (with_held_under places tag) (spared-gone number task command)

-- a task that is no command's to the unit, or none, stays
pub spared-same : (number : ℕ) (held : Option DeviceTask) → IfSome held (λ task. is_command_of number task ≡ false) → spared number held ≡ held
spared-same number None other = refl
spared-same number (Some task) other = spared-kept number task other

-- what is so of a tag's task is so of what is left of it
pub IfSome-spared : (P : DeviceTask → Type 0) (number : ℕ) (held : Option DeviceTask) → IfSome held P → IfSome (spared number held) P
IfSome-spared P number None so = tt
IfSome-spared P number (Some task) so =
    elim (is_command_of number task) as (λ b. is_command_of number task ≡ b → IfSome (spared number (Some task)) P) [
      | true ↦ λ command. rw command tt
      | false ↦ λ other. rw other so
    ] refl

-- wherever it stands
pub held_under-spared : (places : List (Option DeviceTask)) (number tag other : ℕ) →
    IfSome (held_under places other) (λ task. is_command_of number task ≡ false) →
    held_under (with_held_under places tag (spared number (held_under places tag))) other ≡ held_under places other
held_under-spared places number zero other same = refl
held_under-spared places number (suc slot) zero same = refl
held_under-spared [] number (suc slot) (suc other) same = refl
held_under-spared (place ∷ places) number (suc zero) (suc zero) same = spared-same number place same
held_under-spared (place ∷ places) number (suc zero) (suc (suc other)) same = refl
held_under-spared (place ∷ places) number (suc (suc slot)) (suc zero) same = refl
held_under-spared (place ∷ places) number (suc (suc slot)) (suc (suc other)) same = held_under-spared places number (suc slot) (suc other) same

-- ALL TAGS

pub held_under-map : {T : Type 0} (f : Option T → Option T) (places : List (Option T)) (tag : ℕ) → f None ≡ None →
    held_under (map f places) tag ≡ f (held_under places tag)
held_under-map f places zero none = sym none
held_under-map f [] (suc slot) none = sym none
held_under-map f (place ∷ places) (suc zero) none = refl
held_under-map f (place ∷ places) (suc (suc slot)) none = held_under-map f places (suc slot) none

-- the first so many places once each was changed
abbrev pub changed : {T : Type 0} → (T → T) → ℕ → List T → List T
changed f zero places = places
changed f (suc many) [] = []
changed f (suc many) (place ∷ places) = f place ∷ changed f many places

pub changed-all : {T : Type 0} (f : T → T) (places : List T) → changed f (length places) places ≡ map f places
changed-all f [] = refl
changed-all f (place ∷ places) = ap (λ rest. f place ∷ rest) (changed-all f places)

pub length-changed : {T : Type 0} (f : T → T) (many : ℕ) (places : List T) → length (changed f many places) ≡ length places
length-changed f zero places = refl
length-changed f (suc many) [] = refl
length-changed f (suc many) (place ∷ places) = ap suc (length-changed f many places)

-- one place more
pub changed-more : {T : Type 0} (f : T → T) (slot : ℕ) (places : List T) (past : T) → slot < length places →
    slice_set (changed f slot places) slot (f (slice_index_or (changed f slot places) slot past)) ≡ changed f (suc slot) places
changed-more f slot [] past within = absurd (omega arith)
changed-more f zero (place ∷ places) past within = refl
changed-more f (suc slot) (place ∷ places) past within = ap (λ rest. f place ∷ rest) (changed-more f slot places past (omega arith))

pub changed-whole : {T : Type 0} (f : T → T) (many : ℕ) (places : List T) → many ≡ length places → changed f many places ≡ map f places
changed-whole f many places all = rw all (changed-all f places)

-- one tag more
pub spared-more : (number slot tag : ℕ) (before places : List (Option DeviceTask)) → before ≡ changed (spared number) slot places → slot < length places →
    tag ≡ suc slot → with_held_under before tag (spared number (held_under before tag)) ≡ changed (spared number) tag places
spared-more number slot tag before places is within next =
    ap (λ b. with_held_under b tag (spared number (held_under b tag))) is ∙ rw next (changed-more (spared number) slot places None within)

-- sound tasks stay sound
pub AllHeld-spared : (P : DeviceTask → Type 0) (number : ℕ) (places : List (Option DeviceTask)) → AllHeld P places → AllHeld P (map (spared number) places)
AllHeld-spared P number [] all = tt
AllHeld-spared P number (place ∷ places) all = (IfSome-spared P number place all.0, AllHeld-spared P number places all.1)

-- THE DEVICE

-- a device stays sound where the task of a tag is spared or gone
pub with_spared_sound : (units : List BlockMaps) (held : List (Option DeviceTask)) (number tag : ℕ) → IsSoundDevice units held →
    IsSoundDevice units (with_held_under held tag (spared number (held_under held tag)))
with_spared_sound units held number tag sound =
    IsSoundDevice-step units units held tag _ sound refl
    (IfSome-spared (IsSoundTask (counts_of units)) number (held_under held tag) (held_under-sound units held tag sound))

-- a number below the number of units is that of a unit
-- all commands to a unit gone, and the units of the same sizes
pub all_spared_sound : (units after : List BlockMaps) (held : List (Option DeviceTask)) (number : ℕ) → IsSoundDevice units held →
    counts_of after ≡ counts_of units → IsSoundDevice after (map (spared number) held)
all_spared_sound units after held number sound same =
    let kept : IsSoundDevice after held = IsSoundDevice-step units after held 0 None sound same tt in
    record {
      some_unit = kept.some_unit;
      most_units = kept.most_units;
      places = rw (length-map held (spared number)) kept.places;
      tasks = AllHeld-spared (IsSoundTask (counts_of after)) number held kept.tasks;
    }

-- THE UNIT

-- a number below the number of units is that of a unit
no_none : (units : List BlockMaps) (number : ℕ) → number < length units → slice_get units number ≡ None → ⊥
no_none [] number within is = absurd (omega arith)
no_none (unit ∷ units) zero within is = let no : ◌≡◌ {A = Option BlockMaps} (Some unit) None = is in let it : ⊥ = cc in it
no_none (unit ∷ units) (suc number) within is = no_none units number (omega arith) is

-- where a LUN addresses the unit of this number, an abort is of that unit
pub aborted_there : (units : List BlockMaps) (held after : List (Option DeviceTask)) (number tag : ℕ) (lun : List ℕ) →
    (number < length units) × (number ≡ slice_index lun 1) × (addressed units lun ≡ slice_get units number) →
    after ≡ with_held_under held tag (spared number (held_under held tag)) →
    ◌≡◌ {A = Device × ℕ} (record { units = units; tasks = after }, 0)
    (aborted_on (record { units = units; tasks = held }) (slice_index lun 1) tag (addressed units lun))
aborted_there units held after number tag lun there is =
    let device : Device = record { units = units; tasks = held } in
    rw (there.2, ← there.1)
    (elim (slice_get units number) as (λ unit. slice_get units number ≡ unit →
    ◌≡◌ {A = Device × ℕ} (record { units = units; tasks = after }, 0) (aborted_on device number tag unit)) [
      | None ↦ λ none. absurd (no_none units number there.0 none)
      | Some unit ↦ λ some. rw is refl
    ] refl)

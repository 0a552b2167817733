-- Two devices stay the same where the task of one tag, and one logical unit, change alike in both. Cited by the proofs on each call.
use Rattle.std.proofs.Common.{◌≡◌, ℕ, zero, suc, ◌≤◌, ◌<◌, true, false, cond, List, [], ◌∷◌, length, Option, Some, None, is_some, refl, arith, ap, sym, subst, ◌∙◌, inl, inr}
use Rattle.std.specs.Prelude.{slice_get, slice_index, slice_index_or, slice_set}
use Rattle.std.proofs.lemmas.Bool.{cases_lt}
use Rattle.std.proofs.lemmas.List.{set-get_or}
use Rattle.std.proofs.lemmas.Option.{get_or_from_slice_get}
use Rattle.block_unit.specs.BlockMaps.{BlockMaps}
use Rattle.block_unit.specs.Laws.{with_attention-count}
use Rattle.scsi_cmd.specs.Held.{held_under, with_held_under}
use Rattle.uas_target.specs.declared.DeviceTask.{DeviceTask}
use Rattle.uas_target.specs.Device.{Device, task_of, with_task}
use Rattle.uas_target.specs.Fields.{addressed, is_plain_lun}
use Rattle.uas_target.specs.Soundness.{counts_of}
use Rattle.uas_target.proofs.Counts.{counts_of-set}
use Rattle.uas_tasks.specs.declared.LogicalUnit.{LogicalUnit}
use Rattle.uas_tasks.specs.Machine.{slot_of, slot_under, with_slot, with_slot_under}
use Rattle.uas_tasks.specs.Slots.{SlotState}
use Rattle.task_laws.specs.Backed.{Backed, with_machine}
use Rattle.task_laws.specs.Same.{Same, SameSlot, SameTasks, SameUnit}
use Rattle.task_laws.proofs.Lists.{IsThere, SameFound, length-with_slot_under, slot_set, units_at, units_set}

-- ONE TAG

-- a tag has another task now
pub same_tag : (device : Device) (backed : Backed) (tag : ℕ) (task : Option DeviceTask) (slot : SlotState) → Same device backed →
    (SameSlot (counts_of device.units) (task_of device tag) (slot_of backed.machine tag) → SameSlot (counts_of device.units) task slot) →
    Same (with_task device tag task) (with_machine backed (with_slot backed.machine tag slot))
same_tag device backed tag task slot same now = record {
  set = same.set;
  units = same.units;
  places = length-with_slot_under backed.machine.slots tag slot ∙ same.places;
  tasks = slot_set (counts_of device.units) device.tasks backed.machine.slots tag task slot same.tasks now;
}

-- a tag that has a task is one that a task may have
past_none : (counts : List ℕ) (tasks : List (Option DeviceTask)) (slots : List SlotState) (place : ℕ) → SameTasks counts tasks slots → length slots ≤ place →
    slice_index_or tasks place None ≡ None
past_none counts [] [] place same past = refl
past_none counts (task ∷ tasks) (slot ∷ slots) zero same past = absurd (omega arith)
past_none counts (task ∷ tasks) (slot ∷ slots) (suc place) same past = past_none counts tasks slots place same.1 (omega arith)
past_none counts [] (slot ∷ slots) place same past = absurd same
past_none counts (task ∷ tasks) [] place same past = absurd same

there_of : (counts : List ℕ) (tasks : List (Option DeviceTask)) (slots : List SlotState) (tag : ℕ) → SameTasks counts tasks slots →
    (held_under tasks tag ≡ None → ⊥) → IsThere tag slots
there_of counts tasks slots zero same some = absurd (some refl)
there_of counts tasks slots (suc place) same some =
    elim (cases_lt place (length slots)) [
      | inl within ↦ (omega arith, omega arith)
      | inr past ↦ absurd (some (past_none counts tasks slots place same past))
    ]

pub tag_there : (device : Device) (backed : Backed) (tag : ℕ) → Same device backed → (task_of device tag ≡ None → ⊥) → IsThere tag backed.machine.slots
tag_there device backed tag same some = there_of (counts_of device.units) device.tasks backed.machine.slots tag same.tasks some

-- such a tag is a small number
pub tag_small : (device : Device) (backed : Backed) (tag : ℕ) → Same device backed → IsThere tag backed.machine.slots → tag < 256
tag_small device backed tag same here = omega (arith, here.1, same.places)

-- what a tag has, written back
pub with_slot_under-same : (slots : List SlotState) (tag : ℕ) → with_slot_under slots tag (slot_under slots tag) ≡ slots
with_slot_under-same slots zero = refl
with_slot_under-same slots (suc place) = set-get_or slots place _

-- ONE LOGICAL UNIT

-- what both devices have under a number
pub record Found (device : Device) (backed : Backed) (number : ℕ) : Type 0 where
  pub device_unit : BlockMaps
  pub unit : LogicalUnit
  pub maps : BlockMaps
  pub device_at : slice_get device.units number ≡ Some device_unit
  pub unit_at : slice_get backed.machine.units number ≡ Some unit
  pub maps_at : slice_get backed.maps number ≡ Some maps
  pub same : SameUnit device_unit unit maps

-- both have as many blocks
pub count_of : (device : BlockMaps) (unit : LogicalUnit) (maps : BlockMaps) → SameUnit device unit maps → device.count ≡ maps.count
count_of device unit maps same = ap (λ (m : BlockMaps). m.count) same.same ∙ with_attention-count maps (is_some unit.attention)

-- it may change, where it keeps its blocks' number
pub counts_kept : (device : Device) (backed : Backed) (number : ℕ) (found : Found device backed number) (one : BlockMaps) (unit : LogicalUnit) (maps : BlockMaps) →
    SameUnit one unit maps → maps.count ≡ found.maps.count → counts_of (slice_set device.units number one) ≡ counts_of device.units
counts_kept device backed number found one unit maps now count =
    let before : slice_index_or device.units number one ≡ found.device_unit = get_or_from_slice_get device.units number found.device_unit one found.device_at in
    let many : one.count ≡ (slice_index_or device.units number one).count =
    count_of one unit maps now ∙ count ∙ sym (count_of found.device_unit found.unit found.maps found.same) ∙ ap (λ (m : BlockMaps). m.count) (sym before) in
    counts_of-set device.units number one one many

-- ONE LOGICAL UNIT AND ONE TAG

-- the devices once both changed
abbrev pub device_with : Device → ℕ → BlockMaps → ℕ → Option DeviceTask → Device
device_with device number unit tag task = record { units = slice_set device.units number unit; tasks = with_held_under device.tasks tag task }

abbrev pub backed_with : Backed → ℕ → LogicalUnit → BlockMaps → ℕ → SlotState → Backed
backed_with backed number unit maps tag slot = record {
  machine = record {
    units = slice_set backed.machine.units number unit;
    set = backed.machine.set;
    slots = with_slot_under backed.machine.slots tag slot;
  };
  maps = slice_set backed.maps number maps;
}

pub same_unit_tag : (device : Device) (backed : Backed) (number : ℕ) (found : Found device backed number) (one : BlockMaps) (unit : LogicalUnit) (maps : BlockMaps)
    (tag : ℕ) (task : Option DeviceTask) (slot : SlotState) → Same device backed → SameUnit one unit maps → maps.count ≡ found.maps.count →
    (SameSlot (counts_of device.units) (task_of device tag) (slot_of backed.machine tag) → SameSlot (counts_of device.units) task slot) →
    Same (device_with device number one tag task) (backed_with backed number unit maps tag slot)
same_unit_tag device backed number found one unit maps tag task slot same now count slot_now =
    let counts : counts_of (slice_set device.units number one) ≡ counts_of device.units = counts_kept device backed number found one unit maps now count in
    record {
      set = same.set;
      units = units_set device.units backed.machine.units backed.maps number one unit maps same.units now;
      places = length-with_slot_under backed.machine.slots tag slot ∙ same.places;
      tasks = subst (λ c. SameTasks c (with_held_under device.tasks tag task) (with_slot_under backed.machine.slots tag slot)) (sym counts)
          (slot_set (counts_of device.units) device.tasks backed.machine.slots tag task slot same.tasks slot_now);
    }

-- WHAT A LUN ADDRESSES: a logical unit that both have, or none

by_found : (device : Device) (backed : Backed) (number : ℕ) (Q : Option BlockMaps → Option LogicalUnit → Type 0) → Q None None →
    ((found : Found device backed number) → Q (Some found.device_unit) (Some found.unit)) →
    (one : Option BlockMaps) (two : Option LogicalUnit) (three : Option BlockMaps) → slice_get device.units number ≡ one →
    slice_get backed.machine.units number ≡ two → slice_get backed.maps number ≡ three → SameFound one two three → Q one two
by_found device backed number Q none some None None None is_one is_two is_three same = none
by_found device backed number Q none some (Some one) (Some two) (Some three) is_one is_two is_three same =
    some (record { device_unit = one; unit = two; maps = three; device_at = is_one; unit_at = is_two; maps_at = is_three; same = same })
by_found device backed number Q none some None None (Some three) is_one is_two is_three same = absurd same
by_found device backed number Q none some None (Some two) three is_one is_two is_three same = absurd same
by_found device backed number Q none some (Some one) None three is_one is_two is_three same = absurd same
by_found device backed number Q none some (Some one) (Some two) None is_one is_two is_three same = absurd same

pub addressed_cases : (device : Device) (backed : Backed) (lun : List ℕ) (Q : Option BlockMaps → Option LogicalUnit → Type 0) → Same device backed → Q None None →
    ((found : Found device backed (slice_index lun 1)) → Q (Some found.device_unit) (Some found.unit)) →
    Q (addressed device.units lun) (addressed backed.machine.units lun)
addressed_cases device backed lun Q same none some =
    let number : ℕ = slice_index lun 1 in
    elim (is_plain_lun lun) as (λ plain. Q (cond plain (slice_get device.units number) None) (cond plain (slice_get backed.machine.units number) None)) [
      | true ↦
          by_found device backed number Q none some (slice_get device.units number) (slice_get backed.machine.units number) (slice_get backed.maps number) refl refl refl
          (units_at device.units backed.machine.units backed.maps number same.units)
      | false ↦ none
    ]

-- what stands under a number in one stands there in the other
pub found_there : (device : Device) (backed : Backed) (number : ℕ) (unit : BlockMaps) → Same device backed → slice_get device.units number ≡ Some unit →
    Found device backed number
found_there device backed number unit same is =
    by_found device backed number (λ one two. one ≡ Some unit → Found device backed number)
    (λ none. let no : ◌≡◌ {A = Option BlockMaps} None (Some unit) = none in let it : ⊥ = cc in absurd it)
    (λ found here. found) (slice_get device.units number) (slice_get backed.machine.units number) (slice_get backed.maps number) refl refl refl
    (units_at device.units backed.machine.units backed.maps number same.units) is

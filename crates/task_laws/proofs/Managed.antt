-- Task management leaves the devices the same, and answers the same. Cited by Received.
use Rattle.std.proofs.Common.{◌≡◌, ℕ, Bool, true, false, cond, List, [], ◌∷◌, length, map, replicate, Option, Some, None, refl, ap, sym, subst, ◌∙◌}
use Rattle.std.specs.Prelude.{◌==◌, slice_index, slice_set}
use Rattle.std.specs.List.{list_any}
use Rattle.std.specs.Option.{option_map_or}
use Rattle.std.proofs.lemmas.List.{length-map}
use Rattle.block_unit.specs.BlockMaps.{BlockMaps, with_attention}
use Rattle.host_commands.specs.declared.UnitAttention.TheVariants.{Reset}
use Rattle.uas_target.specs.declared.DeviceAnswer.{DeviceAnswer}
use Rattle.uas_target.specs.declared.DeviceAnswer.TheVariants.{Status, Response}
use Rattle.uas_target.specs.declared.DeviceTask.{DeviceTask}
use Rattle.uas_target.specs.declared.DeviceTask.TheVariants.{Moving as TargetMoving, Ended as TargetEnded}
use Rattle.uas_target.specs.Device.{Device, aborted_on, has_command, managed, queried_on, reset_on, task_of, with_code, with_response}
use Rattle.uas_target.specs.Fields.{addressed}
use Rattle.uas_target.specs.Soundness.{counts_of}
use Rattle.uas_target.specs.Tasks.{is_at, is_command_of, spared}
use Rattle.uas_tasks.specs.declared.LogicalUnit.{LogicalUnit}
use Rattle.uas_tasks.specs.declared.Task.{Task}
use Rattle.uas_tasks.specs.declared.Task.TheVariants.{Ended}
use Rattle.uas_tasks.specs.Machine as tasks
use Rattle.uas_tasks.specs.Machine.{Machine, reset_over, slot_of}
use Rattle.uas_tasks.specs.Slots.{SlotState, spared_slot}
use Rattle.uas_tasks.specs.Slots as slots
use Rattle.task_laws.specs.Backed.{Backed, backed_reset, with_machine}
use Rattle.task_laws.specs.Laws.{ResetsAreSame}
use Rattle.task_laws.specs.Same.{Same, SameSlot, SameTasks, SameUnit, SameUnits}
use Rattle.task_laws.proofs.Cases.{SameUnit-with, SlotCases, UnitCases, slot_cases, unit_cases, unit_with}
use Rattle.task_laws.proofs.Devices.{Found, addressed_cases, counts_kept, same_tag}
use Rattle.task_laws.proofs.Free.{completed_free, same_free}
use Rattle.task_laws.proofs.Lists.{same_long, set_found, slot_so, slots_map, units_set}

-- ONE TASK

-- one of two tasks that is gone where a test holds in both
spared_by : (counts : List ℕ) (gone : Bool) (task : DeviceTask) (slot : SlotState) → SameSlot counts (Some task) slot →
    SameSlot counts (cond gone None (Some task)) (slots.with_task slot (cond gone None slot.task))
spared_by counts true task slot same = record { chunk = same.chunk; room = same.room; out = same.out; task = refl }
spared_by counts false task slot same = same

abbrev SparesAlike : List ℕ → ℕ → Option DeviceTask → SlotState → Type 0
SparesAlike counts number task slot = SameSlot counts (spared number task) (spared_slot number slot)

ended_spared : (counts : List ℕ) (number : ℕ) (slot : SlotState) (unit : Option ℕ) (answer : DeviceAnswer) → slot.task ≡ Some (Ended unit answer) →
    SameSlot counts (Some (TargetEnded unit answer)) slot → SparesAlike counts number (Some (TargetEnded unit answer)) slot
ended_spared counts number slot unit answer is same =
    let test : option_map_or (slots.is_command_of number) slot.task false ≡ is_command_of number (TargetEnded unit answer) =
    ap (λ task. option_map_or (slots.is_command_of number) task false) is ∙ told answer in
    subst (λ b. SameSlot counts (cond (is_command_of number (TargetEnded unit answer)) None (Some (TargetEnded unit answer))) (slots.with_task slot (cond b None slot.task)))
    (sym test) (spared_by counts (is_command_of number (TargetEnded unit answer)) (TargetEnded unit answer) slot same)
  where
    told : (answer : DeviceAnswer) → slots.is_command_of number (Ended unit answer) ≡ is_command_of number (TargetEnded unit answer)
    told (Status answer) = refl
    told (Response code) = refl

spares_cases : (counts : List ℕ) (number : ℕ) → SlotCases counts (SparesAlike counts number)
spares_cases counts number = record {
  none = λ slot same. same;
  ended = λ slot unit answer same. ended_spared counts number _ unit answer refl same;
  gives = λ slot unit op bytes work given same sound. spared_by counts (is_at number unit) (TargetMoving unit op 0) _ same;
  reads = λ slot at op chunk lba count work same sound. spared_by counts (at == number) (TargetMoving (Some at) op chunk) _ same;
  writes = λ slot at op chunk lba count through work same sound. spared_by counts (at == number) (TargetMoving (Some at) op chunk) _ same;
}

spares_alike : (counts : List ℕ) (number : ℕ) (task : Option DeviceTask) (slot : SlotState) → SameSlot counts task slot → SparesAlike counts number task slot
spares_alike counts number = slot_cases counts (SparesAlike counts number) (spares_cases counts number)

-- whether a tag has a command to a logical unit
abbrev HasAlike : ℕ → Option DeviceTask → SlotState → Type 0
HasAlike number task slot = slots.has_command number slot ≡ option_map_or (is_command_of number) task false

ended_has : (number : ℕ) (unit : Option ℕ) (answer : DeviceAnswer) → slots.is_command_of number (Ended unit answer) ≡ is_command_of number (TargetEnded unit answer)
ended_has number unit (Status answer) = refl
ended_has number unit (Response code) = refl

has_cases : (counts : List ℕ) (number : ℕ) → SlotCases counts (HasAlike number)
has_cases counts number = record {
  none = λ slot same. refl;
  ended = λ slot unit answer same. ended_has number unit answer;
  gives = λ slot unit op bytes work given same sound. refl;
  reads = λ slot at op chunk lba count work same sound. refl;
  writes = λ slot at op chunk lba count through work same sound. refl;
}

has_alike : (device : Device) (backed : Backed) (number tag : ℕ) → Same device backed →
    slots.has_command number (slot_of backed.machine tag) ≡ has_command device number tag
has_alike device backed number tag same =
    slot_so (HasAlike number) (counts_of device.units) device.tasks backed.machine.slots tag refl
    (slot_cases (counts_of device.units) (HasAlike number) (has_cases (counts_of device.units) number)) same.tasks

-- THE FUNCTIONS

-- both devices, and the response codes
abbrev ManagedAlike : Backed → Device × ℕ → Machine × Task → Type 0
ManagedAlike backed one two = Same one.0 (with_machine backed two.0) × (two.1 ≡ tasks.responded one.1)

-- where the same is tested
either : (backed : Backed) (test : Bool) (one other : Device × ℕ) (two another : Machine × Task) → ManagedAlike backed one two → ManagedAlike backed other another →
    ManagedAlike backed (cond test one other) (cond test two another)
either backed true one other two another here there = here
either backed false one other two another here there = there

aborted_alike : (device : Device) (backed : Backed) (tag : ℕ) (lun : List ℕ) → Same device backed →
    ManagedAlike backed (aborted_on device (slice_index lun 1) tag (addressed device.units lun))
    (tasks.aborted_on backed.machine (slice_index lun 1) tag (addressed backed.machine.units lun))
aborted_alike device backed tag lun same =
    let number : ℕ = slice_index lun 1 in
    addressed_cases device backed lun (λ one two. ManagedAlike backed (aborted_on device number tag one) (tasks.aborted_on backed.machine number tag two)) same (same, refl)
    (λ found.
    let ended : Machine = tasks.without_command backed.machine number tag in
    let after : Same (aborted_on device number tag (Some found.device_unit)).0 (with_machine backed ended) =
    same_tag device backed tag (spared number (task_of device tag)) (spared_slot number (slot_of backed.machine tag)) same
    (spares_alike (counts_of device.units) number (task_of device tag) (slot_of backed.machine tag)) in (
      after,
      completed_free ended number (slots.has_command number (slot_of backed.machine tag))
          (same_free (aborted_on device number tag (Some found.device_unit)).0 (with_machine backed ended) after),
    ))

queried_alike : (device : Device) (backed : Backed) (tag : ℕ) (lun : List ℕ) → Same device backed →
    ManagedAlike backed (queried_on device (slice_index lun 1) tag (addressed device.units lun))
    (tasks.queried_on backed.machine (slice_index lun 1) tag (addressed backed.machine.units lun))
queried_alike device backed tag lun same =
    let number : ℕ = slice_index lun 1 in
    addressed_cases device backed lun (λ one two. ManagedAlike backed (queried_on device number tag one) (tasks.queried_on backed.machine number tag two)) same (same, refl)
    (λ found. (same, ap (λ (b : Bool). tasks.responded (cond b 8 0)) (has_alike device backed number tag same)))

-- a logical unit that is reset
abbrev ResetsAlike : BlockMaps → LogicalUnit → BlockMaps → Type 0
ResetsAlike device unit maps = SameUnit (with_attention device true) (record unit { attention = reset_over unit.attention }) maps

again : (maps : BlockMaps) (flag : Bool) → with_attention (with_attention maps flag) true ≡ with_attention maps true
unfolding with_attention
again maps flag = refl

attention_given : (maps : BlockMaps) (unit : LogicalUnit) (flag : Bool) → SameUnit (with_attention maps true) unit maps →
    SameUnit (with_attention (with_attention maps flag) true) unit maps
attention_given maps unit flag same = subst (λ device. SameUnit device unit maps) (sym (again maps flag)) same

resets_cases : UnitCases ResetsAlike
resets_cases = record {
  quiet = λ maps shown few sized.
      attention_given maps (unit_with maps.count shown (Some Reset)) false (SameUnit-with maps shown (Some Reset) few sized refl);
  reset = λ maps shown few sized.
      attention_given maps (unit_with maps.count shown (Some Reset)) true (SameUnit-with maps shown (Some Reset) few sized refl);
}

reset_there : (device : Device) (backed : Backed) (number : ℕ) → Same device backed → (found : Found device backed number) →
    ManagedAlike backed (reset_on device number (Some found.device_unit)) (tasks.reset_on backed.machine number (Some found.unit))
reset_there device backed number same found =
    let one : BlockMaps = with_attention found.device_unit true in
    let two : LogicalUnit = record { shape = found.unit.shape; attention = reset_over found.unit.attention } in
    let now : SameUnit one two found.maps = unit_cases ResetsAlike resets_cases found.device_unit found.unit found.maps found.same in
    let counts : counts_of (slice_set device.units number one) ≡ counts_of device.units = counts_kept device backed number found one two found.maps now refl in
    let kept : slice_set backed.maps number found.maps ≡ backed.maps = set_found backed.maps number found.maps found.maps_at in
    let reset : Machine = (tasks.reset_on backed.machine number (Some found.unit)).0 in
    let after : Same (reset_on device number (Some found.device_unit)).0 (with_machine backed reset) = record {
      set = same.set;
      units = subst (λ maps. SameUnits (slice_set device.units number one) (slice_set backed.machine.units number two) maps) kept
          (units_set device.units backed.machine.units backed.maps number one two found.maps same.units now);
      places = length-map backed.machine.slots (spared_slot number) ∙ same.places;
      tasks = subst (λ c. SameTasks c (map (spared number) device.tasks) (map (spared_slot number) backed.machine.slots)) (sym counts)
          (slots_map (counts_of device.units) device.tasks backed.machine.slots (spared number) (spared_slot number)
          (spares_alike (counts_of device.units) number) same.tasks);
    } in (
      after,
      completed_free reset number (list_any (slots.has_command number) backed.machine.slots)
          (same_free (reset_on device number (Some found.device_unit)).0 (with_machine backed reset) after),
    )

reset_alike : (device : Device) (backed : Backed) (lun : List ℕ) → Same device backed →
    ManagedAlike backed (reset_on device (slice_index lun 1) (addressed device.units lun))
    (tasks.reset_on backed.machine (slice_index lun 1) (addressed backed.machine.units lun))
reset_alike device backed lun same =
    let number : ℕ = slice_index lun 1 in
    addressed_cases device backed lun (λ one two. ManagedAlike backed (reset_on device number one) (tasks.reset_on backed.machine number two)) same (same, refl)
    (reset_there device backed number same)

-- whatever the function is
pub managed_alike : (device : Device) (backed : Backed) (function tag : ℕ) (lun : List ℕ) → Same device backed →
    ManagedAlike backed (managed device function tag lun) (tasks.managed backed.machine function tag lun)
managed_alike device backed function tag lun same =
    let number : ℕ = slice_index lun 1 in
    let units : List BlockMaps = device.units in
    let others : List LogicalUnit = backed.machine.units in
    let query_or_none : Device × ℕ = cond (function == 128) (queried_on device number tag (addressed units lun)) (device, 4) in
    let query_or_none_too : Machine × Task = cond (function == 128) (tasks.queried_on backed.machine number tag (addressed others lun)) (backed.machine, tasks.responded 4) in
    either backed (function == 1) (aborted_on device number tag (addressed units lun))
    (cond (function == 8) (reset_on device number (addressed units lun)) query_or_none)
    (tasks.aborted_on backed.machine number tag (addressed others lun))
    (cond (function == 8) (tasks.reset_on backed.machine number (addressed others lun)) query_or_none_too)
    (aborted_alike device backed tag lun same)
    (either backed (function == 8) (reset_on device number (addressed units lun)) query_or_none
    (tasks.reset_on backed.machine number (addressed others lun)) query_or_none_too
    (reset_alike device backed lun same)
    (either backed (function == 128) (queried_on device number tag (addressed units lun)) (device, 4)
    (tasks.queried_on backed.machine number tag (addressed others lun)) (backed.machine, tasks.responded 4)
    (queried_alike device backed tag lun same) (same, refl)))

-- and its code is a response
pub answers_code : (device : Device) (backed : Backed) (tag code : ℕ) → Same device backed →
    Same (with_response device tag code) (with_machine backed (tasks.with_task_on backed.machine tag (tasks.responded code)))
answers_code device backed tag code same =
    same_tag device backed tag (Some (TargetEnded None (Response code))) (slots.with_task (slot_of backed.machine tag) (Some (Ended None (Response code)))) same
    (λ old. record { chunk = old.chunk; room = old.room; out = old.out; task = refl })

pub coded_alike : (device : Device) (backed : Backed) (tag : ℕ) (one : Device × ℕ) (two : Machine × Task) → ManagedAlike backed one two →
    Same (with_code tag one) (with_machine backed (tasks.with_answer tag two))
coded_alike device backed tag one two alike =
    subst (λ answer. Same (with_response one.0 tag one.1) (with_machine backed (tasks.with_task_on two.0 tag answer))) (sym alike.1)
    (answers_code one.0 (with_machine backed two.0) tag one.1 alike.0)

-- A RESET OF THE WHOLE DEVICE

units_reset : (devices : List BlockMaps) (units : List LogicalUnit) (others : List BlockMaps) → SameUnits devices units others →
    SameUnits (map (λ unit. with_attention unit true) devices) (map tasks.attentive units) others
units_reset [] [] [] same = tt
units_reset (device ∷ devices) (unit ∷ units) (maps ∷ others) same =
    (unit_cases ResetsAlike resets_cases device unit maps same.0, units_reset devices units others same.1)
units_reset [] [] (maps ∷ others) same = absurd same
units_reset [] (unit ∷ units) others same = absurd same
units_reset (device ∷ devices) [] others same = absurd same
units_reset (device ∷ devices) (unit ∷ units) [] same = absurd same

tasks_reset : (counts now : List ℕ) (held : List (Option DeviceTask)) (slots : List SlotState) → SameTasks counts held slots →
    SameTasks now (replicate (length slots) None) (map tasks.without_its_task slots)
tasks_reset counts now [] [] same = tt
tasks_reset counts now (task ∷ held) (slot ∷ slots) same =
    (record { chunk = same.0.chunk; room = same.0.room; out = same.0.out; task = refl }, tasks_reset counts now held slots same.1)
tasks_reset counts now [] (slot ∷ slots) same = absurd same
tasks_reset counts now (task ∷ held) [] same = absurd same

reset_by : (device : Device) (backed : Backed) (many : ℕ) → Same device backed → length backed.machine.slots ≡ many →
    Same (record { units = map (λ unit. with_attention unit true) device.units; tasks = replicate many None }) (backed_reset backed)
reset_by device backed many same is =
    let units : List BlockMaps = map (λ unit. with_attention unit true) device.units in
    record {
      set = same.set;
      units = units_reset device.units backed.machine.units backed.maps same.units;
      places = length-map backed.machine.slots tasks.without_its_task ∙ same.places;
      tasks = subst (λ n. SameTasks (counts_of units) (replicate n None) (map tasks.without_its_task backed.machine.slots)) is
          (tasks_reset (counts_of device.units) (counts_of units) device.tasks backed.machine.slots same.tasks);
    }

pub resets_alike : ResetsAreSame
resets_alike device backed same =
    reset_by device backed (length device.tasks) same (sym (same_long (counts_of device.units) device.tasks backed.machine.slots same.tasks))

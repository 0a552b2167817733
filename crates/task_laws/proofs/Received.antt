-- Whatever bytes are received leave both devices the same, and are answered the same. Cited by the law of calls.
use Rattle.std.proofs.Common.{◌≡◌, ℕ, ◌^◌, ◌≤◌, Bool, true, false, not, ◌&&◌, cond, List, length, Option, Some, None, IfSome, is_some, Result, Ok, Err}
use Rattle.std.proofs.Common.{refl, arith, ap, sym, subst, inl, inr, ◌∙◌}
use Rattle.std.specs.Prelude.{◌==◌, nat_lt, nat_le, slice_get, slice_index}
use Rattle.std.proofs.lemmas.Bool.{and_right, cases_Bool}
use Rattle.block_unit.specs.BlockMaps.{BlockMaps, with_attention}
use Rattle.block_unit.specs.Laws.{IsSized}
use Rattle.scsi_cmd.specs.declared.Op.{Op}
use Rattle.scsi_cmd.specs.declared.Sense.{Sense}
use Rattle.scsi_cmd.specs.Laws.{asked_in_range}
use Rattle.scsi_cmd.specs.Meaning.{asked}
use Rattle.scsi_cmd.specs.Sense.{reset_occurred}
use Rattle.scsi_cmd.specs.Work.{asked_without_unit, is_inquiry, work_asked, work_asked_without_unit}
use Rattle.device_server.specs.declared.Answer.TheVariants.{Check}
use Rattle.device_server.specs.declared.Progress.{Progress}
use Rattle.device_server.specs.declared.Progress.TheVariants.{Ended as EndedWith}
use Rattle.device_server.specs.Server.{progress_asked, unit_asked}
use Rattle.host_commands.specs.Shapes.{Shape}
use Rattle.host_commands.specs.declared.Attention.TheVariants.{Ignored, Reported}
use Rattle.host_commands.specs.declared.CommandSet.TheVariants.{Profile}
use Rattle.host_commands.specs.declared.UnitAttention.{UnitAttention}
use Rattle.host_commands.specs.declared.UnitAttention.TheVariants.{Reset}
use Rattle.host_commands.specs.declared.Work.{Work as HostWork}
use Rattle.host_commands.specs.Meaning.{asked_of, asked_of_none}
use Rattle.host_commands.specs.Profile.{profile_works}
use Rattle.host_commands.proofs.Kept.{profile_kept}
use Rattle.uas_iu.specs.Faults.{first_fault, identifier}
use Rattle.uas_target.specs.declared.DeviceAnswer.TheVariants.{Status}
use Rattle.uas_target.specs.declared.DeviceTask.{DeviceTask}
use Rattle.uas_target.specs.declared.DeviceTask.TheVariants.{Ended as TargetEnded}
use Rattle.uas_target.specs.declared.Overlap.{Overlap}
use Rattle.uas_target.specs.declared.Took.{Took}
use Rattle.uas_target.specs.declared.Took.TheVariants.{Began}
use Rattle.uas_target.specs.Device.{Device, dropped, executed, executed_on, has_place, managed, on_its_tag, received, received_unit, received_unreadable, task_of, with_code, with_response}
use Rattle.uas_target.specs.Device.{with_units_and_task}
use Rattle.uas_target.specs.Fields.{tag_in, lun_in, cdb_in, function_in, task_tag_in}
use Rattle.uas_target.specs.Soundness.{IsSoundTask, counts_of}
use Rattle.uas_target.specs.Tasks.{begun_by, task_in}
use Rattle.uas_target.proofs.Counts.{slice_get-counts_of}
use Rattle.uas_target.proofs.Sound.{begun_sound}
use Rattle.uas_tasks.specs.declared.LogicalUnit.{LogicalUnit}
use Rattle.uas_tasks.specs.declared.Task.{Task}
use Rattle.uas_tasks.specs.declared.Task.TheVariants.{Ended}
use Rattle.uas_tasks.specs.Machine.{Machine, has_task, no_slot, slot_of}
use Rattle.uas_tasks.specs.Machine as tasks
use Rattle.uas_tasks.specs.Slots.{SlotState, is_tag, started, started_none, with_task}
use Rattle.uas_tasks.proofs.Machines.{tag_there}
use Rattle.task_laws.specs.Backed.{Backed, backed_received, done_soon, with_machine}
use Rattle.task_laws.specs.Same.{Same}
use Rattle.task_laws.proofs.Begun.{none_begins, shape_with}
use Rattle.task_laws.proofs.Cases.{SlotCases, UnitCases, slot_cases, unit_cases, unit_with}
use Rattle.task_laws.proofs.Commanded.{Place, at_once, begins_same, free_slot}
use Rattle.task_laws.proofs.Devices.{Found, addressed_cases, device_with, same_tag}
use Rattle.task_laws.proofs.Soon.{backed_at, soon_too}
use Rattle.task_laws.proofs.Lists.{IsThere, same_long, slot_so}
use Rattle.task_laws.proofs.Managed.{answers_code, coded_alike, managed_alike}

-- A COMMAND TO A LOGICAL UNIT

-- what each device makes of its logical unit and of the tag
abbrev BothBegun : Device → Backed → ℕ → ℕ → ℕ → Shape → Result Op Sense → BlockMaps × Progress → Option UnitAttention × SlotState → Type 0
BothBegun device backed number tag blocks shown asks one two =
    Same (device_with device number one.0 tag (task_in (Some number) asks one.1)) (done_soon (backed_at backed number (unit_with blocks shown two.0) tag two.1) tag)

-- without an attention that a command reports, it is done as far as its data
target_begins : (maps : BlockMaps) (flag : Bool) (cdb : List ℕ) → (not (is_inquiry cdb) && flag) ≡ false →
    begun_by (with_attention maps flag) cdb (asked cdb maps.count)
    ≡ (unit_asked (with_attention maps flag) (work_asked maps.count (asked cdb maps.count)), progress_asked (work_asked maps.count (asked cdb maps.count)))
unfolding with_attention
target_begins maps flag cdb quiet =
    let unit : BlockMaps = with_attention maps flag in
    let asks : Result Op Sense = asked cdb maps.count in
    let by_test : Bool → BlockMaps × Progress = λ b.
    cond b (with_attention unit false, EndedWith (Check reset_occurred)) (unit_asked unit (work_asked maps.count asks), progress_asked (work_asked maps.count asks)) in
    ap by_test quiet

-- the sound task of it
target_sound : (device : Device) (number : ℕ) (maps : BlockMaps) (flag : Bool) (cdb : List ℕ) → slice_get device.units number ≡ Some (with_attention maps flag) →
    (not (is_inquiry cdb) && flag) ≡ false →
    IfSome (task_in (Some number) (asked cdb maps.count) (progress_asked (work_asked maps.count (asked cdb maps.count)))) (IsSoundTask (counts_of device.units))
unfolding with_attention
target_sound device number maps flag cdb at quiet =
    let P : BlockMaps × Progress → Type 0 = λ one. IfSome (task_in (Some number) (asked cdb maps.count) one.1) (IsSoundTask (counts_of device.units)) in
    subst P (target_begins maps flag cdb quiet)
    (begun_sound (counts_of device.units) number (with_attention maps flag) cdb (slice_get-counts_of device.units number (with_attention maps flag) at))

-- both do it
both_asked : (device : Device) (backed : Backed) (number : ℕ) (maps : BlockMaps) (shown : Shape) (many : ℕ) (attention : Option UnitAttention) (tag : ℕ) (cdb : List ℕ) →
    Place device backed number maps shown attention → Same device backed → IsThere tag backed.machine.slots → task_of device tag ≡ None →
    (not (is_inquiry cdb) && is_some attention) ≡ false →
    BothBegun device backed number tag maps.count shown (asked cdb maps.count) (begun_by (with_attention maps (is_some attention)) cdb (asked cdb maps.count))
    (attention, started (slot_of backed.machine tag) number (shape_with maps.count shown) (asked_of cdb Profile (shape_with maps.count shown) many attention))
unfolding asked_of
both_asked device backed number maps shown many attention tag cdb place same here free quiet =
    let asks : Result Op Sense = asked cdb maps.count in
    let two : Option UnitAttention × SlotState = (attention, started (slot_of backed.machine tag) number (shape_with maps.count shown) (profile_works (shape_with maps.count shown) asks)) in
    subst (λ one. BothBegun device backed number tag maps.count shown asks one two) (sym (target_begins maps (is_some attention) cdb quiet))
    (begins_same device backed number maps shown attention tag asks place same here free
    (profile_kept cdb (shape_with maps.count shown) many attention (record { read_only = refl; names = refl }) refl place.few) (asked_in_range cdb maps.count)
    (target_sound device number maps (is_some attention) cdb place.device_at quiet))

-- the device without blocks tells an attention of a reset alone, and only where the command reports it
machine_quiet : (blocks : ℕ) (shown : Shape) (number many : ℕ) (cdb : List ℕ) (slot : SlotState) → tasks.begun (unit_with blocks shown None) number Profile many cdb slot
    ≡ (None, started slot number (shape_with blocks shown) (asked_of cdb Profile (shape_with blocks shown) many None))
machine_quiet blocks shown number many cdb slot =
    let asks : Result HostWork Sense = asked_of cdb Profile (shape_with blocks shown) many None in
    elim (is_inquiry cdb) as (λ b. tasks.begun_as (cond b Ignored Reported) (unit_with blocks shown None) number slot asks
    ≡ (None, started slot number (shape_with blocks shown) asks)) [
      | true ↦ refl
      | false ↦ refl
    ]

machine_inquiry : (blocks : ℕ) (shown : Shape) (number many : ℕ) (cdb : List ℕ) (slot : SlotState) → is_inquiry cdb ≡ true →
    tasks.begun (unit_with blocks shown (Some Reset)) number Profile many cdb slot
    ≡ (Some Reset, started slot number (shape_with blocks shown) (asked_of cdb Profile (shape_with blocks shown) many (Some Reset)))
machine_inquiry blocks shown number many cdb slot is =
    ap (λ b. tasks.begun_as (cond b Ignored Reported) (unit_with blocks shown (Some Reset)) number slot
    (asked_of cdb Profile (shape_with blocks shown) many (Some Reset))) is

machine_reported : (blocks : ℕ) (shown : Shape) (number many : ℕ) (cdb : List ℕ) (slot : SlotState) → is_inquiry cdb ≡ false →
    tasks.begun (unit_with blocks shown (Some Reset)) number Profile many cdb slot
    ≡ (None, with_task slot (Some (Ended (Some number) (Status (Check reset_occurred)))))
machine_reported blocks shown number many cdb slot is =
    ap (λ b. tasks.begun_as (cond b Ignored Reported) (unit_with blocks shown (Some Reset)) number slot
    (asked_of cdb Profile (shape_with blocks shown) many (Some Reset))) is

target_reported : (maps : BlockMaps) (cdb : List ℕ) → is_inquiry cdb ≡ false →
    begun_by (with_attention maps true) cdb (asked cdb maps.count) ≡ (with_attention maps false, EndedWith (Check reset_occurred))
unfolding with_attention
target_reported maps cdb is =
    let unit : BlockMaps = with_attention maps true in
    let asks : Result Op Sense = asked cdb maps.count in
    let by_inquiry : Bool → BlockMaps × Progress = λ b.
    cond (not b && true) (with_attention unit false, EndedWith (Check reset_occurred)) (unit_asked unit (work_asked maps.count asks), progress_asked (work_asked maps.count asks)) in
    ap by_inquiry is

-- what both make of a command to a logical unit that both have
abbrev CommandedAlike : Device → Backed → ℕ → ℕ → ℕ → List ℕ → BlockMaps → LogicalUnit → BlockMaps → Type 0
CommandedAlike device backed number tag many cdb one unit maps =
    slice_get device.units number ≡ Some one → slice_get backed.machine.units number ≡ Some unit → slice_get backed.maps number ≡ Some maps →
    Same (device_with device number (begun_by one cdb (asked cdb one.count)).0 tag (task_in (Some number) (asked cdb one.count) (begun_by one cdb (asked cdb one.count)).1))
    (done_soon (backed_at backed number
    (record unit { attention = (tasks.begun unit number Profile many cdb (slot_of backed.machine tag)).0 }) tag
    (tasks.begun unit number Profile many cdb (slot_of backed.machine tag)).1) tag)

commanded_quiet : (device : Device) (backed : Backed) (number tag many : ℕ) (cdb : List ℕ) (maps : BlockMaps) (shown : Shape) → Same device backed →
    IsThere tag backed.machine.slots → task_of device tag ≡ None → maps.count ≤ 2 ^ 32 → IsSized maps →
    CommandedAlike device backed number tag many cdb (with_attention maps false) (unit_with maps.count shown None) maps
unfolding with_attention
commanded_quiet device backed number tag many cdb maps shown same here free few sized device_at unit_at maps_at =
    let place : Place device backed number maps shown None =
    record { device_at = device_at; unit_at = unit_at; maps_at = maps_at; few = few; sized = sized; reset = tt } in
    subst (BothBegun device backed number tag maps.count shown (asked cdb maps.count) (begun_by (with_attention maps false) cdb (asked cdb maps.count)))
    (sym (machine_quiet maps.count shown number many cdb (slot_of backed.machine tag)))
    (both_asked device backed number maps shown many None tag cdb place same here free (and_right (not (is_inquiry cdb)) false refl))

commanded_reset : (device : Device) (backed : Backed) (number tag many : ℕ) (cdb : List ℕ) (maps : BlockMaps) (shown : Shape) → Same device backed →
    IsThere tag backed.machine.slots → task_of device tag ≡ None → maps.count ≤ 2 ^ 32 → IsSized maps →
    CommandedAlike device backed number tag many cdb (with_attention maps true) (unit_with maps.count shown (Some Reset)) maps
unfolding with_attention
commanded_reset device backed number tag many cdb maps shown same here free few sized device_at unit_at maps_at =
    let place : Place device backed number maps shown (Some Reset) =
    record { device_at = device_at; unit_at = unit_at; maps_at = maps_at; few = few; sized = sized; reset = refl } in
    let slot : SlotState = slot_of backed.machine tag in
    let asks : Result Op Sense = asked cdb maps.count in
    let one : BlockMaps × Progress = begun_by (with_attention maps true) cdb asks in
    let told : DeviceTask = TargetEnded (Some number) (Status (Check reset_occurred)) in
    elim (cases_Bool (is_inquiry cdb)) as (λ either. BothBegun device backed number tag maps.count shown asks one
    (tasks.begun (unit_with maps.count shown (Some Reset)) number Profile many cdb slot)) [
      | inl inquiry ↦
          subst (BothBegun device backed number tag maps.count shown asks one) (sym (machine_inquiry maps.count shown number many cdb slot inquiry))
          (both_asked device backed number maps shown many (Some Reset) tag cdb place same here free (ap (λ b. not b && true) inquiry))
      | inr other ↦
          subst (BothBegun device backed number tag maps.count shown asks one) (sym (machine_reported maps.count shown number many cdb slot other))
          (subst (λ pair. BothBegun device backed number tag maps.count shown asks pair (None, with_task slot (Some (Ended (Some number) (Status (Check reset_occurred))))))
          (sym (target_reported maps cdb other))
          (at_once device backed number maps shown (Some Reset) None tag (Some told) (with_task slot (Some (Ended (Some number) (Status (Check reset_occurred))))) place same tt
          (λ was. record { chunk = was.chunk; room = was.room; out = was.out; task = refl })))
    ]

there_commanded : (device : Device) (backed : Backed) (number tag : ℕ) (cdb : List ℕ) → Same device backed → IsThere tag backed.machine.slots →
    task_of device tag ≡ None → (found : Found device backed number) →
    Same (with_units_and_task device tag (executed_on device.units number cdb (Some found.device_unit)))
    (done_soon (with_machine backed (tasks.executed_on backed.machine tag number cdb (Some found.unit))) tag)
there_commanded device backed number tag cdb same here free found =
    let many : ℕ = length backed.machine.units in
    let one : BlockMaps = found.device_unit in
    let unit : LogicalUnit = found.unit in
    let slot : SlotState = slot_of backed.machine tag in
    let after : Device = with_units_and_task device tag (executed_on device.units number cdb (Some one)) in
    let cases : UnitCases (CommandedAlike device backed number tag many cdb) = record {
      quiet = λ maps shown few sized. commanded_quiet device backed number tag many cdb maps shown same here free few sized;
      reset = λ maps shown few sized. commanded_reset device backed number tag many cdb maps shown same here free few sized;
    } in
    subst (λ set. Same after (done_soon (backed_at backed number
    (record unit { attention = (tasks.begun unit number set many cdb slot).0 }) tag (tasks.begun unit number set many cdb slot).1) tag)) (sym same.set)
    (unit_cases (CommandedAlike device backed number tag many cdb) cases one unit found.maps found.same found.device_at found.unit_at found.maps_at)

none_commanded : (device : Device) (backed : Backed) (number tag : ℕ) (cdb : List ℕ) → Same device backed → IsThere tag backed.machine.slots →
    task_of device tag ≡ None →
    Same (with_units_and_task device tag (executed_on device.units number cdb None))
    (done_soon (with_machine backed (tasks.executed_on backed.machine tag number cdb None)) tag)
none_commanded device backed number tag cdb same here free =
    let many : ℕ = length backed.machine.units in
    let slot : SlotState = slot_of backed.machine tag in
    let task : Option DeviceTask = task_in None (asked_without_unit cdb) (progress_asked (work_asked_without_unit (asked_without_unit cdb))) in
    let after : Device = with_units_and_task device tag (executed_on device.units number cdb None) in
    soon_too after (with_machine backed (tasks.executed_on backed.machine tag number cdb None)) tag
    (subst (λ set. Same after (with_machine backed (tasks.with_slot backed.machine tag (started_none slot (asked_of_none cdb set many))))) (sym same.set)
    (same_tag device backed tag task (started_none slot (asked_of_none cdb Profile many)) same
    (λ was. none_begins (counts_of device.units) cdb many slot (free_slot device backed tag same here free))))

executed_alike : (device : Device) (backed : Backed) (tag : ℕ) (lun cdb : List ℕ) → Same device backed → IsThere tag backed.machine.slots → task_of device tag ≡ None →
    Same (with_units_and_task device tag (executed device.units lun cdb)) (done_soon (with_machine backed (tasks.executed backed.machine tag lun cdb)) tag)
executed_alike device backed tag lun cdb same here free =
    let number : ℕ = slice_index lun 1 in
    addressed_cases device backed lun (λ one two.
    Same (with_units_and_task device tag (executed_on device.units number cdb one)) (done_soon (with_machine backed (tasks.executed_on backed.machine tag number cdb two)) tag))
    same (none_commanded device backed number tag cdb same here free) (there_commanded device backed number tag cdb same here free)

-- WHAT COMES OF AN INFORMATION UNIT

-- both have a task of a tag, or none
abbrev HaveAlike : Option DeviceTask → SlotState → Type 0
HaveAlike task slot = is_some slot.task ≡ is_some task

have_cases : (counts : List ℕ) → SlotCases counts HaveAlike
have_cases counts = record {
  none = λ slot same. refl;
  ended = λ slot unit answer same. refl;
  gives = λ slot unit op bytes work given same sound. refl;
  reads = λ slot number op chunk lba count work same sound. refl;
  writes = λ slot number op chunk lba count through work same sound. refl;
}

have_alike : (device : Device) (backed : Backed) (tag : ℕ) → Same device backed → has_task backed.machine tag ≡ is_some (task_of device tag)
have_alike device backed tag same =
    slot_so HaveAlike (counts_of device.units) device.tasks backed.machine.slots tag refl
    (slot_cases (counts_of device.units) HaveAlike (have_cases (counts_of device.units))) same.tasks

-- both have a place for the same tags
places_alike : (device : Device) (backed : Backed) (tag : ℕ) → Same device backed → has_place device tag ≡ is_tag tag
places_alike device backed tag same =
    ap (λ many. nat_lt 0 tag && nat_le tag many) (same_long (counts_of device.units) device.tasks backed.machine.slots same.tasks ∙ same.places)

-- both devices, and the answers of the call
abbrev ReceivedAlike : Backed → ℕ → Device × Result Took Overlap → Machine × Result Took Overlap → Type 0
ReceivedAlike backed tag one two = Same one.0 (done_soon (with_machine backed two.0) tag) × (two.1 ≡ one.1)

either : (backed : Backed) (tag : ℕ) (test : Bool) (one other : Device × Result Took Overlap) (two another : Machine × Result Took Overlap) →
    ReceivedAlike backed tag one two → ReceivedAlike backed tag other another → ReceivedAlike backed tag (cond test one other) (cond test two another)
either backed tag true one other two another here there = here
either backed tag false one other two another here there = there

dropped_alike : (device : Device) (backed : Backed) (tag : ℕ) → Same device backed → ReceivedAlike backed tag (dropped device) (tasks.dropped backed.machine)
dropped_alike device backed tag same = (soon_too device backed tag same, refl)

-- it begins a task where the tag is free
tag_alike : (device : Device) (backed : Backed) (tag : ℕ) (after : Device) (next : Machine) → Same device backed →
    (IsThere tag backed.machine.slots → task_of device tag ≡ None → Same after (done_soon (with_machine backed next) tag)) →
    ReceivedAlike backed tag (on_its_tag device tag after) (tasks.on_its_tag backed.machine tag next)
tag_alike device backed tag after next same so =
    let one : Bool → Bool → Device × Result Took Overlap = λ ok has. cond (not ok) (dropped device) (cond has (device, Err (record {})) (after, Ok (Began tag))) in
    let two : Bool → Bool → Machine × Result Took Overlap = λ ok has. cond (not ok) (tasks.dropped backed.machine) (cond has (backed.machine, Err (record {})) (next, Ok (Began tag))) in
    subst (λ ok. ReceivedAlike backed tag (one ok (is_some (task_of device tag))) (two (is_tag tag) (has_task backed.machine tag)))
    (sym (places_alike device backed tag same))
    (subst (λ has. ReceivedAlike backed tag (one (is_tag tag) (is_some (task_of device tag))) (two (is_tag tag) has)) (sym (have_alike device backed tag same))
    (elim (is_tag tag) as (λ ok. is_tag tag ≡ ok → ReceivedAlike backed tag (one ok (is_some (task_of device tag))) (two ok (is_some (task_of device tag)))) [
      | true ↦ λ is.
          let there = tag_there tag backed.machine.slots is same.places in
          let here : IsThere tag backed.machine.slots = (there.0, omega (arith, there.0, there.1)) in
          elim (task_of device tag) as (λ held. task_of device tag ≡ held → ReceivedAlike backed tag (one true (is_some held)) (two true (is_some held))) [
            | None ↦ λ free. (so here free, refl)
            | Some task ↦ λ busy. (soon_too device backed tag same, refl)
          ] refl
      | false ↦ λ is. (soon_too device backed tag same, refl)
    ] refl))

unreadable_alike : (device : Device) (backed : Backed) (bytes : List ℕ) (tag : ℕ) → Same device backed →
    ReceivedAlike backed tag (received_unreadable device bytes tag) (tasks.received_unreadable backed.machine bytes tag)
unreadable_alike device backed bytes tag same =
    let told : Device × Result Took Overlap = (with_response device tag 2, Ok (Began tag)) in
    let told_too : Machine × Result Took Overlap = (tasks.with_task_on backed.machine tag (tasks.responded 2), Ok (Began tag)) in
    let two : Bool → Machine × Result Took Overlap =
    λ has. cond (nat_le 4 (length bytes) && is_tag tag && not has) told_too (tasks.dropped backed.machine) in
    let one : Bool → Device × Result Took Overlap =
    λ ok. cond (nat_le 4 (length bytes) && ok && not (is_some (task_of device tag))) told (dropped device) in
    subst (λ ok. ReceivedAlike backed tag (one ok) (two (has_task backed.machine tag))) (sym (places_alike device backed tag same))
    (subst (λ has. ReceivedAlike backed tag (one (is_tag tag)) (two has)) (sym (have_alike device backed tag same))
    (either backed tag (nat_le 4 (length bytes) && is_tag tag && not (is_some (task_of device tag))) told (dropped device) told_too (tasks.dropped backed.machine)
    (soon_too (with_response device tag 2) (with_machine backed (tasks.with_task_on backed.machine tag (tasks.responded 2))) tag (answers_code device backed tag 2 same), refl)
    (dropped_alike device backed tag same)))

unit_alike : (device : Device) (backed : Backed) (bytes : List ℕ) (tag : ℕ) → Same device backed →
    ReceivedAlike backed tag (received_unit device bytes tag) (tasks.received_unit backed.machine bytes tag)
unit_alike device backed bytes tag same =
    let lun : List ℕ = lun_in bytes in
    let commanded : Device = with_units_and_task device tag (executed device.units lun (cdb_in bytes)) in
    let commanded_too : Machine = tasks.executed backed.machine tag lun (cdb_in bytes) in
    let one : Device × ℕ = managed device (function_in bytes) (task_tag_in bytes) lun in
    let two : Machine × Task = tasks.managed backed.machine (function_in bytes) (task_tag_in bytes) lun in
    either backed tag (identifier bytes == 1) (on_its_tag device tag commanded)
    (cond (identifier bytes == 5) (on_its_tag device tag (with_code tag one)) (dropped device))
    (tasks.on_its_tag backed.machine tag commanded_too)
    (cond (identifier bytes == 5) (tasks.on_its_tag backed.machine tag (tasks.with_answer tag two)) (tasks.dropped backed.machine))
    (tag_alike device backed tag commanded commanded_too same (executed_alike device backed tag lun (cdb_in bytes) same))
    (either backed tag (identifier bytes == 5) (on_its_tag device tag (with_code tag one)) (dropped device)
    (tasks.on_its_tag backed.machine tag (tasks.with_answer tag two)) (tasks.dropped backed.machine)
    (tag_alike device backed tag (with_code tag one) (tasks.with_answer tag two) same
    (λ here free.
    soon_too (with_code tag one) (with_machine backed (tasks.with_answer tag two)) tag
    (coded_alike device backed tag one two (managed_alike device backed (function_in bytes) (task_tag_in bytes) lun same))))
    (dropped_alike device backed tag same))

-- whatever it is
pub received_alike : (device : Device) (backed : Backed) (bytes : List ℕ) → Same device backed →
    Same (received device bytes).0 (backed_received backed bytes).0 × ((backed_received backed bytes).1 ≡ (received device bytes).1)
received_alike device backed bytes same =
    let tag : ℕ = tag_in bytes in
    either backed tag (is_some (first_fault bytes)) (received_unreadable device bytes tag) (received_unit device bytes tag)
    (tasks.received_unreadable backed.machine bytes tag) (tasks.received_unit backed.machine bytes tag)
    (unreadable_alike device backed bytes tag same) (unit_alike device backed bytes tag same)

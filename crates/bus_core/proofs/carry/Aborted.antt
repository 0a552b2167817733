-- What a task management leaves of the device's tasks as it is received (SAM, ABORT TASK, LOGICAL UNIT RESET and QUERY TASK). Cited by
-- ManagedFits.
use Rattle.std.proofs.Common.{◌≡◌, ℕ, zero, suc, ◌^◌, ◌<◌, ◌≤◌, Bool, true, false, cond, length, length-set, Some, None, Ok, refl, ap, sym, subst, ◌∙◌}
use Rattle.std.specs.Prelude.{IfSome, if◌then◌else◌, slice_get, slice_set, ◌==◌, ◌&&◌}
use Rattle.std.proofs.lemmas.Bool.{eqb-true, eqb-false, eq-eqb, ne_eqb, false≢true}
use Rattle.std.proofs.lemmas.List.{length-map}
use Rattle.arrayvec.specs.ArrayVec.{ArrayVec}
use Rattle.block_unit.specs.BlockMaps.{BlockMaps, with_attention}
use Rattle.scsi_cmd.specs.declared.Op.{Op}
use Rattle.scsi_cmd.specs.declared.Request.{Request}
use Rattle.scsi_cmd.specs.declared.Request.TheVariants.{Execute, Manage}
use Rattle.scsi_cmd.specs.declared.Task.{Task}
use Rattle.scsi_cmd.specs.declared.Task.TheVariants.{Abort, Reset, Query}
use Rattle.scsi_cmd.specs.Held.{held_under, with_held_under}
use Rattle.scsi_cmd.specs.Request.{ended_by}
use Rattle.solo_model.specs.declared.TaskAnswer.TheVariants.{WithStatus, WithResponse}
use Rattle.solo_model.specs.declared.TaskProgress.TheVariants.{Moving, Ended}
use Rattle.solo_model.specs.declared.Phase.{Phase}
use Rattle.solo_model.specs.declared.Phase.TheVariants.{Queued, Begun, Sent, Gone}
use Rattle.solo_model.specs.TaggedTask.{can_go, is_noted, unit_managed}
use Rattle.uas_iu.specs.Lun.{lun_text}
use Rattle.uas_profile.specs.Tags.{tag_of}
use Rattle.uas_host.specs.Tasks.{named_tag, function_of}
use Rattle.uas_target.specs.declared.Took.TheVariants.{Began}
use Rattle.uas_target.specs.Device.{Device, has_command, managed, received, task_of, with_code, with_response, with_unit, without_command, without_commands_of, has_place}
use Rattle.uas_target.specs.Tasks.{is_command_of, spared}
use Rattle.uas_target.proofs.Managed.{held_under-map, held_under-spared, spared-same}
use Rattle.uas_target.proofs.Received.{received-task}
use Rattle.machine_invariant.specs.Matched.{IsCommandPhase}
use Rattle.machine_invariant.specs.Ordered.{is_queued, names}
use Rattle.bus_core.specs.Wire.{request_text}
use Rattle.bus_core.specs.Hosts.{phase_task}
use Rattle.shared_machine.proofs.Standing.{held_under-with_same, held_under-with_other, slice_get-back}

-- THE DEVICE RECEIVES THE UNIT

-- the device once the function was done on the unit of this number
abbrev pub done_device : Device → ℕ → BlockMaps → Task → Device
done_device device number unit (Abort tag) = without_command device number tag
done_device device number unit Reset = with_unit (without_commands_of device number) number (with_attention unit true)
done_device device number unit (Query tag) = device

-- its response code: 08h to a query of a command that the device has, else 00h
abbrev pub code_to : Device → ℕ → Task → ℕ
code_to device number (Abort tag) = 0
code_to device number Reset = 0
code_to device number (Query tag) = if has_command device number tag then 8 else 0

abbrev pub managed_device : Device → ℕ → ℕ → BlockMaps → Task → Device
managed_device device number tag unit what = with_response (done_device device number unit what) tag (code_to device number what)

managed-done : (device : Device) (number : ℕ) (unit : BlockMaps) (what : Task) → slice_get device.units number ≡ Some unit
    → managed device (function_of what) (named_tag what) (lun_text number) ≡ (done_device device number unit what, code_to device number what)
managed-done device number unit (Abort tag) is = rw is refl
managed-done device number unit Reset is = rw is refl
managed-done device number unit (Query tag) is = rw is refl

-- the device receives the text of a task management to the unit of this number, under a free tag
pub received-managed : (device : Device) (number tag : ℕ) (what : Task) (noted : ArrayVec ℕ) (unit : BlockMaps) → slice_get device.units number ≡ Some unit
    → tag < 2 ^ 16 → named_tag what < 2 ^ 16 → has_place device tag ≡ true → held_under device.tasks tag ≡ None
    → received device (request_text number tag (Manage what noted)) ≡ (managed_device device number tag unit what, Ok (Began tag))
received-managed device number tag what noted unit is less short is_one free =
    received-task device tag (function_of what) (named_tag what) (lun_text number) (less, short, refl)
    ∙ rw (is_one, free) refl
    ∙ ap (λ after. (with_code tag after, Ok (Began tag))) (managed-done device number unit what is)

-- ITS UNIT

pub done-units : (device : Device) (number : ℕ) (unit : BlockMaps) (what : Task) → slice_get device.units number ≡ Some unit
    → (done_device device number unit what).units ≡ slice_set device.units number (unit_managed unit what)
done-units device number unit (Abort tag) is = sym (slice_get-back device.units number unit is)
done-units device number unit Reset is = refl
done-units device number unit (Query tag) is = sym (slice_get-back device.units number unit is)

pub unit_managed-count : (unit : BlockMaps) (what : Task) → (unit_managed unit what).count ≡ unit.count
unfolding with_attention
unit_managed-count unit (Abort tag) = refl
unit_managed-count unit Reset = refl
unit_managed-count unit (Query tag) = refl

pub done-length : (device : Device) (number : ℕ) (unit : BlockMaps) (what : Task) → length (done_device device number unit what).tasks ≡ length device.tasks
done-length device number unit (Abort zero) = refl
done-length device number unit (Abort (suc slot)) = length-set device.tasks slot (spared number (task_of device (suc slot)))
done-length device number unit Reset = length-map device.tasks (spared number)
done-length device number unit (Query tag) = refl

-- ITS TASKS

-- it reaches the task of a tag: a reset that of each, a query none
abbrev pub reaches : Task → ℕ → Bool
reaches (Abort tag) other = tag == other
reaches Reset other = true
reaches (Query tag) other = false

-- what it reaches is spared where it isn't a command's to the unit
pub done-task : (device : Device) (number : ℕ) (unit : BlockMaps) (what : Task) (other : ℕ) → 0 < other → other ≤ length device.tasks
    → task_of (done_device device number unit what) other ≡ cond (reaches what other) (spared number (task_of device other)) (task_of device other)
done-task device number unit (Abort tag) other some within =
    elim (tag == other) as (λ b. (tag == other) ≡ b → held_under (with_held_under device.tasks tag (spared number (held_under device.tasks tag))) other
    ≡ cond b (spared number (held_under device.tasks other)) (held_under device.tasks other)) [
      | true ↦ λ is. let same : other ≡ tag = sym (eqb-true tag other is) in
          subst
          (λ t. held_under (with_held_under device.tasks t (spared number (held_under device.tasks t))) other ≡ spared number (held_under device.tasks other))
          same
          (held_under-with_same device.tasks other (spared number (held_under device.tasks other)) some within)
      | false ↦ λ is. held_under-with_other device.tasks tag other (spared number (held_under device.tasks tag))
          (λ same. eqb-false tag other is (sym same))
    ] refl
done-task device number unit Reset other some within = held_under-map (spared number) device.tasks other refl
done-task device number unit (Query tag) other some within = refl

-- a task that is no command's to the unit stays, and where there is none there is none then
pub done-kept : (device : Device) (number : ℕ) (unit : BlockMaps) (what : Task) (other : ℕ)
    → IfSome (task_of device other) (λ task. is_command_of number task ≡ false)
    → task_of (done_device device number unit what) other ≡ task_of device other
done-kept device number unit (Abort tag) other apart = held_under-spared device.tasks number tag other apart
done-kept device number unit Reset other apart =
    held_under-map (spared number) device.tasks other refl ∙ spared-same number (held_under device.tasks other) apart
done-kept device number unit (Query tag) other apart = refl

-- what the device has of another client's entry is no command's to the unit
pub phase_task-foreign : (number other : ℕ) (request : Request) (phase : Phase) → (other ≡ number → ⊥)
    → IfSome (phase_task (Some other) request phase) (λ task. is_command_of number task ≡ false)
phase_task-foreign number other request Queued apart = tt
phase_task-foreign number other (Execute op) (Begun (Moving chunk)) apart = ne_eqb other number apart
phase_task-foreign number other (Manage what noted) (Begun (Moving chunk)) apart = tt
phase_task-foreign number other request (Begun (Ended (WithStatus answer))) apart = ne_eqb other number apart
phase_task-foreign number other request (Begun (Ended (WithResponse code))) apart = refl
phase_task-foreign number other request (Sent answer) apart = tt
phase_task-foreign number other request Gone apart = tt

-- a command to the unit is gone
spared-own : (number : ℕ) (op : Op) (phase : Phase) → IsCommandPhase phase → spared number (phase_task (Some number) (Execute op) phase) ≡ None
spared-own number op Queued answers = refl
spared-own number op (Begun (Moving chunk)) answers = rw (eq-eqb number number refl) refl
spared-own number op (Begun (Ended (WithStatus answer))) answers = rw (eq-eqb number number refl) refl
spared-own number op (Begun (Ended (WithResponse code))) answers = absurd answers
spared-own number op (Sent answer) answers = refl
spared-own number op Gone answers = refl

-- WHAT THE ENTRY SAYS

-- the device reaches what the task management ends, and nothing else
pub reached-ended : (tags : ℕ) (client slot : ℕ) (what : Task) (noted : ArrayVec ℕ) (ticket : ℕ) → reaches what (tag_of tags (record { client = client; slot = slot })) ≡ true
    → (names tags client slot what ≡ true → is_noted noted.items ticket ≡ true) → is_noted (ended_by what noted).items ticket ≡ true
reached-ended tags client slot (Abort tag) noted ticket is named = named is
reached-ended tags client slot Reset noted ticket is named = named is
reached-ended tags client slot (Query tag) noted ticket is named = absurd (false≢true is)

pub unreached-kept : (tags : ℕ) (client slot : ℕ) (what : Task) (noted : ArrayVec ℕ) (ticket : ℕ)
    → reaches what (tag_of tags (record { client = client; slot = slot })) ≡ false
    → (names tags client slot what ≡ false → is_noted noted.items ticket ≡ false) → is_noted (ended_by what noted).items ticket ≡ false
unreached-kept tags client slot (Abort tag) noted ticket is unnamed = unnamed is
unreached-kept tags client slot Reset noted ticket is unnamed = unnamed is
unreached-kept tags client slot (Query tag) noted ticket is unnamed = refl

-- the phase of a command once a task management was received that noted it, or didn't
abbrev pub phase_after : Bool → Phase → Phase
phase_after noted phase = cond (can_go phase && noted) Gone phase

-- a command that the device reaches was noted where it was received, so that the entry says that the device has nothing of it
reached-none : (number : ℕ) (op : Op) (phase : Phase) (noted : Bool) → (is_queued phase ≡ false → noted ≡ true)
    → phase_task (Some number) (Execute op) (phase_after noted phase) ≡ None
reached-none number op Queued true received = refl
reached-none number op Queued false received = refl
reached-none number op (Begun progress) true received = refl
reached-none number op (Begun progress) false received = absurd (false≢true (received refl))
reached-none number op (Sent answer) noted received = refl
reached-none number op Gone noted received = refl

-- one that it doesn't reach isn't ended
phase-kept : (phase : Phase) (noted : Bool) → noted ≡ false → phase_after noted phase ≡ phase
phase-kept Queued noted is = ap (λ b. cond b Gone Queued) is
phase-kept (Begun progress) noted is = ap (λ b. cond b Gone (Begun progress)) is
phase-kept (Sent answer) noted is = refl
phase-kept Gone noted is = refl

-- so what the device has of it is what the entry says
pub spared-noted : (number : ℕ) (op : Op) (phase : Phase) (reached noted : Bool) → IsCommandPhase phase
    → (is_queued phase ≡ false → reached ≡ true → noted ≡ true)
    → (reached ≡ false → noted ≡ false)
    → cond reached (spared number (phase_task (Some number) (Execute op) phase)) (phase_task (Some number) (Execute op) phase)
    ≡ phase_task (Some number) (Execute op) (phase_after noted phase)
spared-noted number op phase true noted answers named unnamed =
    spared-own number op phase answers ∙ sym (reached-none number op phase noted (λ received. named received refl))
spared-noted number op phase false noted answers named unnamed =
    ap (λ p. phase_task (Some number) (Execute op) p) (sym (phase-kept phase noted (unnamed refl)))

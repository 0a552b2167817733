-- The device: the units and the tasks by tag, and what each call makes of them.
use Rattle.std.specs.Prelude.{ℕ, nat_lt, nat_le, ◌==◌, Bool, true, false, not, ◌&&◌, if◌then◌else◌, List, [], ◌∷◌, length, map, slice_set, slice_index, replicate}
use Rattle.std.specs.Prelude.{Option, None, Some, is_some, option_and_then, Result, Ok, Err}
use Rattle.std.specs.Option.{option_map_or}
use Rattle.block_unit.specs.BlockMaps.{BlockMaps, with_attention}
use Rattle.scsi_cmd.specs.Meaning.{asked}
use Rattle.scsi_cmd.specs.Work.{asked_without_unit, work_asked_without_unit}
use Rattle.device_server.specs.Server.{progress_asked}
use Rattle.scsi_cmd.specs.Held.{held_under, with_held_under}
use Rattle.uas_iu.specs.declared.Iu.{Iu}
use Rattle.uas_iu.specs.Faults.{first_fault, identifier}
use Rattle.uas_target.specs.declared.DeviceAnswer.TheVariants.{Response}
use Rattle.uas_target.specs.declared.DeviceTask.{DeviceTask}
use Rattle.uas_target.specs.declared.DeviceTask.TheVariants.{Ended}
use Rattle.uas_target.specs.declared.Overlap.{Overlap}
use Rattle.uas_target.specs.declared.Phase.{Phase}
use Rattle.uas_target.specs.declared.Phase.TheVariants.{Absent}
use Rattle.uas_target.specs.declared.Took.{Took}
use Rattle.uas_target.specs.declared.Took.TheVariants.{Began, Dropped}
use Rattle.uas_target.specs.Fields.{tag_in, lun_in, cdb_in, function_in, task_tag_in, addressed}
use Rattle.uas_target.specs.Tasks.{task_in, begun_by, is_command_of, spared, task_wants, task_given, task_fits, task_taken, task_left, task_answer}

-- the units by number, and the task of each tag, tag 1 first: the device has as many tags as this list has places
pub record Device : Type 0 where
  pub units : List BlockMaps
  pub tasks : List (Option DeviceTask)

-- the tags that a task may have: 1 to as many as the device has places
abbrev pub has_place : Device → ℕ → Bool
has_place device tag = nat_lt 0 tag && nat_le tag (length device.tasks)

-- so many tags, and no task yet
abbrev pub opening : ℕ → List BlockMaps → Device
opening tags units = record { units = units; tasks = replicate tags None }

-- these are the units now, and a tag has this task, or none
abbrev pub with_units_and_task : Device → ℕ → List BlockMaps × Option DeviceTask → Device
with_units_and_task device tag after = record { units = after.0; tasks = with_held_under device.tasks tag after.1 }

-- the task of a tag
abbrev pub task_of : Device → ℕ → Option DeviceTask
task_of device tag = held_under device.tasks tag

-- a tag has this task now, or none
abbrev pub with_task : Device → ℕ → Option DeviceTask → Device
with_task device tag task = record device { tasks = with_held_under device.tasks tag task }

abbrev pub without_task : Device → ℕ → Device
without_task device tag = with_task device tag None

-- a tag's task has ended with a Response of this code
abbrev pub with_response : Device → ℕ → ℕ → Device
with_response device tag code = with_task device tag (Some (Ended None (Response code)))

-- RECEIVING

-- the units and the task once the addressed unit executed a CDB as far as its data; where there is none, INQUIRY alone is
-- executed
abbrev pub executed_on : List BlockMaps → ℕ → List ℕ → Option BlockMaps → List BlockMaps × Option DeviceTask
executed_on units number cdb None =
    let asks = asked_without_unit cdb in
    (units, task_in None asks (progress_asked (work_asked_without_unit asks)))
executed_on units number cdb (Some unit) =
    let asks = asked cdb unit.count in
    (slice_set units number (begun_by unit cdb asks).0, task_in (Some number) asks (begun_by unit cdb asks).1)

abbrev pub executed : List BlockMaps → List ℕ → List ℕ → List BlockMaps × Option DeviceTask
executed units lun cdb = executed_on units (slice_index lun 1) cdb (addressed units lun)

-- TASK MANAGEMENT

-- the task of a tag is gone where it is a command's to the unit of this number; a tag that no task may have has none
abbrev pub without_command : Device → ℕ → ℕ → Device
without_command device number tag = with_task device tag (spared number (task_of device tag))

-- so is that of every tag
abbrev pub without_commands_of : Device → ℕ → Device
without_commands_of device number = record device { tasks = map (spared number) device.tasks }

-- the unit of this number is this one now
abbrev pub with_unit : Device → ℕ → BlockMaps → Device
with_unit device number unit = record device { units = slice_set device.units number unit }

-- ABORT TASK: 00h, COMPLETE, whether the tag had such a command or not; 09h, INCORRECT LUN, where there is no unit
abbrev pub aborted_on : Device → ℕ → ℕ → Option BlockMaps → Device × ℕ
aborted_on device number tag None = (device, 9)
aborted_on device number tag (Some unit) = (without_command device number tag, 0)

-- LOGICAL UNIT RESET: the unit's commands are gone and it has an attention
abbrev pub reset_on : Device → ℕ → Option BlockMaps → Device × ℕ
reset_on device number None = (device, 9)
reset_on device number (Some unit) = (with_unit (without_commands_of device number) number (with_attention unit true), 0)

-- a reset of the whole device: no tag has a task any more, there are as many as before, and every unit has an attention
abbrev pub reset_device : Device → Device
reset_device device = record { units = map (λ unit. with_attention unit true) device.units; tasks = replicate (length device.tasks) None }

-- the tag has a command's task of the unit of this number, whose status wasn't sent
abbrev pub has_command : Device → ℕ → ℕ → Bool
has_command device number tag = option_map_or (is_command_of number) (task_of device tag) false

-- QUERY TASK: 08h, SUCCEEDED, where the tag has such a command, else 00h; no task changes
abbrev pub queried_on : Device → ℕ → ℕ → Option BlockMaps → Device × ℕ
queried_on device number tag None = (device, 9)
queried_on device number tag (Some unit) = (device, if has_command device number tag then 8 else 0)

-- the device once a task management function was done on a LUN, and the response code: 01h is ABORT TASK, of this tag, 08h
-- LOGICAL UNIT RESET, 80h QUERY TASK, of this tag, and any other is 04h, NOT SUPPORTED, whatever its LUN. Checked by hand, with
-- two units, of which unit 1 moves data on tag 9: 80h of tag 9 and 00 01 is 08h, of tag 10 or of 00 00 it is 00h, of 00 02 it is
-- 09h; 01h of tag 9 and 00 01 takes its task and is 00h, of 00 00 it leaves it and is 00h, of 00 02 it leaves it and is 09h; 08h of
-- 00 01 takes it too and sets the attention of unit 1; 02h of 00 02 is 04h
abbrev pub managed : Device → ℕ → ℕ → List ℕ → Device × ℕ
managed device function tag lun =
    if function == 1 then aborted_on device (slice_index lun 1) tag (addressed device.units lun)
    else (if function == 8 then reset_on device (slice_index lun 1) (addressed device.units lun)
    else (if function == 128 then queried_on device (slice_index lun 1) tag (addressed device.units lun)
    else (device, 4)))

-- the device once that is answered on a tag
abbrev pub with_code : ℕ → Device × ℕ → Device
with_code tag after = with_response after.0 tag after.1

-- WHAT COMES OF A UNIT

-- nothing comes of a unit
abbrev pub dropped : Device → Device × Result Took Overlap
dropped device = (device, Ok Dropped)

-- a readable unit that begins a task: it is dropped where no task may have its tag, and refused where a task has it
abbrev pub on_its_tag : Device → ℕ → Device → Device × Result Took Overlap
on_its_tag device tag after =
    if not (has_place device tag) then dropped device
    else (if is_some (task_of device tag) then (device, Err (record {})) else (after, Ok (Began tag)))

-- bytes that are no unit: where at least four came, the tag among them is free and a task may have it, the answer is 02h,
-- INVALID INFORMATION UNIT
abbrev pub received_unreadable : Device → List ℕ → ℕ → Device × Result Took Overlap
received_unreadable device bytes tag =
    if nat_le 4 (length bytes) && has_place device tag && not (is_some (task_of device tag))
    then (with_response device tag 2, Ok (Began tag)) else dropped device

-- a readable unit, by its identifier: Command is executed, a Task Management function is done and answered with its code, and
-- what a device sends is dropped. 05 00 00 18 01 00 00 12 00 02 and six zeros is the abort of tag 18 of unit 2 by tag 24
abbrev pub received_unit : Device → List ℕ → ℕ → Device × Result Took Overlap
received_unit device bytes tag =
    if identifier bytes == 1 then on_its_tag device tag (with_units_and_task device tag (executed device.units (lun_in bytes) (cdb_in bytes)))
    else (if identifier bytes == 5 then on_its_tag device tag (with_code tag (managed device (function_in bytes) (task_tag_in bytes) (lun_in bytes)))
    else dropped device)

-- what comes of received bytes, and the answer of the call
abbrev pub received : Device → List ℕ → Device × Result Took Overlap
received device bytes =
    if is_some (first_fault bytes) then received_unreadable device bytes (tag_in bytes)
    else received_unit device bytes (tag_in bytes)

-- DATA

-- what the device does next on a tag
abbrev pub wanted : Device → ℕ → Phase
wanted device tag = option_map_or task_wants (task_of device tag) Absent

-- the bytes that it gives on a tag as the next chunk; None at a bad block
abbrev pub given : Device → ℕ → Option (List ℕ)
given device tag = option_and_then (task_given device.units) (task_of device tag)

-- the device once it gave a chunk on a tag, or met a bad block
abbrev pub gave : Device → ℕ → Device
gave device tag = with_task device tag (option_and_then (task_left device.units) (task_of device tag))

-- whether it takes the next chunk on a tag: false at a bad block
abbrev pub fits : Device → ℕ → Bool
fits device tag = option_map_or (task_fits device.units) (task_of device tag) false

-- the device once it took these bytes on a tag, or met a bad block
abbrev pub took : Device → ℕ → List ℕ → Device
took device tag bytes =
    with_units_and_task device tag
    (option_map_or (task_taken device.units bytes) (task_of device tag) device.units, option_and_then (task_left device.units) (task_of device tag))

-- ANSWERS

-- the unit that answers a tag's task, once it has ended
abbrev pub answered : Device → ℕ → Option Iu
answered device tag = option_and_then (task_answer tag) (task_of device tag)

-- A LIST OF CALLS

-- what changes the device: bytes received, a chunk given or taken on a tag, an answer sent
pub data Call : Type 0 where
  Receive : List ℕ → Call
  Give : ℕ → Call
  Take : ℕ → List ℕ → Call
  Send : ℕ → Call

abbrev pub called : Device → Call → Device
called device (Receive bytes) = (received device bytes).0
called device (Give tag) = gave device tag
called device (Take tag bytes) = took device tag bytes
called device (Send tag) = without_task device tag

-- the device after a list of calls
abbrev pub device_after : Device → List Call → Device
device_after device [] = device
device_after device (call ∷ calls) = device_after (called device call) calls

-- Laws of the device: statements that a contract can name, and what its users know of a chunk without opening the definitions.
use Rattle.std.proofs.Common.{◌≡◌, ℕ, ◌*◌, ◌<◌, ◌==◌, Bool, false, ◌&&◌, ◌||◌, List, [], ◌∷◌, ◌++◌, length, refl, arith, sym, ◌∙◌}
use Rattle.std.specs.Prelude.{slice_index, IfSome}
use Rattle.uas_iu.specs.declared.Iu.TheVariants.{Command, Sense, Response, Task}
use Rattle.uas_iu.specs.Faults.{identifier}
use Rattle.uas_iu.specs.Units.{Fits, unit_text}
use Rattle.arrayvec.specs.ArrayVec.{ArrayVec}
use Rattle.block_unit.specs.BlockMaps.{BlockMaps}
use Rattle.scsi_cmd.specs.declared.Op.{Op}
use Rattle.scsi_cmd.specs.Meaning.{asked}
use Rattle.scsi_cmd.specs.Op.{cdb_bytes, direction_of, moved_bytes}
use Rattle.uas_profile.specs.declared.Direction.{Direction}
use Rattle.uas_profile.specs.declared.Direction.TheVariants.{Nothing as NoWay, ToHost, ToDevice}
use Rattle.scsi_cmd.specs.Laws.{direction_of-work}
use Rattle.scsi_cmd.specs.Work.{checked_work, reports_attention, work_direction, work_of}
use Rattle.device_server.specs.Server.{begun, chunk_bytes}
use Rattle.uas_target.specs.declared.Phase.{Phase}
use Rattle.uas_target.specs.declared.Phase.TheVariants.{Absent, Gives, Takes}
use Rattle.uas_target.specs.Tasks.{begun_by, chunk_wanted, is_command_of, wanted_way}
use Rattle.uas_target.specs.Device.{Device, Call, Receive, Give, Take, Send, called, device_after, dropped, executed, managed, on_its_tag, received}
use Rattle.uas_target.specs.Device.{task_of, with_code, with_units_and_task}
use Rattle.uas_target.specs.Fields.{function_in, lun_in, tag_in, task_tag_in}
use Rattle.uas_profile.specs.declared.TheConstants.{CHUNK_BYTES}

-- WHAT COMES OF THE TEXT OF A UNIT

-- Command is executed by the unit that its LUN addresses
abbrev pub CommandsAreExecuted : Type 0
CommandsAreExecuted =
    (device : Device) (tag : ℕ) (lun cdb : List ℕ) → Fits (Command tag lun cdb)
    → received device (unit_text (Command tag lun cdb)) ≡ on_its_tag device tag (with_units_and_task device tag (executed device.units lun cdb))

-- Task Management is done on the unit that its LUN addresses, and answered
abbrev pub TasksAreManaged : Type 0
TasksAreManaged =
    (device : Device) (tag function task_tag : ℕ) (lun : List ℕ) → Fits (Task tag function task_tag lun)
    → received device (unit_text (Task tag function task_tag lun)) ≡ on_its_tag device tag (with_code tag (managed device function task_tag lun))

-- nothing comes of what a device sends
abbrev pub SensesAreDropped : Type 0
SensesAreDropped =
    (device : Device) (tag status : ℕ) (sense : ArrayVec ℕ) → Fits (Sense tag status sense)
    → received device (unit_text (Sense tag status sense)) ≡ dropped device

abbrev pub ResponsesAreDropped : Type 0
ResponsesAreDropped =
    (device : Device) (tag code : ℕ) → Fits (Response tag code)
    → received device (unit_text (Response tag code)) ≡ dropped device

-- what a host asks for begins as the operation that its CDB names
abbrev pub BeginsAsAsked : Type 0
BeginsAsAsked =
    (unit : BlockMaps) (op : Op)
    → begun_by unit (cdb_bytes op) (asked (cdb_bytes op) unit.count) ≡ begun unit (reports_attention op) (checked_work op unit.count)

-- A LIST OF CALLS

-- the tag that a call names
abbrev pub tag_of : Call → ℕ
tag_of (Receive bytes) = tag_in bytes
tag_of (Give tag) = tag
tag_of (Take tag bytes) = tag
tag_of (Send tag) = tag

-- whether a call may end the task of this tag beside its own: an abort that of the tag it names, a reset that of any, and no
-- other call one
abbrev pub reaches : Call → ℕ → Bool
reaches (Receive bytes) other = identifier bytes == 5 && (function_in bytes == 8 || (function_in bytes == 1 && task_tag_in bytes == other))
reaches (Give tag) other = false
reaches (Take tag bytes) other = false
reaches (Send tag) other = false

-- a call leaves the tasks of all other tags alone that it doesn't reach
abbrev pub OtherTagsAreKept : Type 0
OtherTagsAreKept =
    (device : Device) (call : Call) (other : ℕ) → (other ≡ tag_of call → ⊥) → reaches call other ≡ false
    → task_of (called device call) other ≡ task_of device other

-- whatever bytes come, a task of another tag stays that is no command's to the unit whose number stands in their LUN
abbrev pub OtherUnitsAreKept : Type 0
OtherUnitsAreKept =
    (device : Device) (bytes : List ℕ) (other : ℕ) → (other ≡ tag_in bytes → ⊥)
    → IfSome (task_of device other) (λ task. is_command_of (slice_index (lun_in bytes) 1) task ≡ false)
    → task_of (received device bytes).0 other ≡ task_of device other

-- no call changes how many tags there are
abbrev pub TagsAreKept : Type 0
TagsAreKept = (device : Device) (call : Call) → length (called device call).tasks ≡ length device.tasks

-- after one call more the device is what that call makes of it
abbrev pub CallsAreFolded : Type 0
CallsAreFolded =
    (device : Device) (calls : List Call) (call : Call)
    → device_after device (calls ++ (call ∷ [])) ≡ called (device_after device calls) call

-- A CHUNK THAT A TASK WANTS

pub wanted_gives : (way : Direction) (bytes size : ℕ) → wanted_way way bytes ≡ Gives size → (way ≡ ToHost) × (bytes ≡ size)
wanted_gives NoWay bytes size is = let no : ◌≡◌ {A = Phase} Absent (Gives size) = is in let it : ⊥ = cc in absurd it
wanted_gives ToHost bytes size is = let same : ◌≡◌ {A = Phase} (Gives bytes) (Gives size) = is in (refl, cc)
wanted_gives ToDevice bytes size is = let no : ◌≡◌ {A = Phase} (Takes bytes) (Gives size) = is in let it : ⊥ = cc in absurd it

pub wanted_takes : (way : Direction) (bytes size : ℕ) → wanted_way way bytes ≡ Takes size → (way ≡ ToDevice) × (bytes ≡ size)
wanted_takes NoWay bytes size is = let no : ◌≡◌ {A = Phase} Absent (Takes size) = is in let it : ⊥ = cc in absurd it
wanted_takes ToHost bytes size is = let no : ◌≡◌ {A = Phase} (Gives bytes) (Takes size) = is in let it : ⊥ = cc in absurd it
wanted_takes ToDevice bytes size is = let same : ◌≡◌ {A = Phase} (Takes bytes) (Takes size) = is in (refl, cc)

-- what is wanted of an operation is what its work moves
pub gives_to_host : (op : Op) (chunk size blocks : ℕ) → chunk_wanted chunk op ≡ Gives size → CHUNK_BYTES * chunk < moved_bytes op →
    work_direction (work_of op blocks) ≡ ToHost
gives_to_host op chunk size blocks wants less =
    sym (direction_of-work op blocks (omega arith)) ∙ (wanted_gives (direction_of op) (chunk_bytes (moved_bytes op) chunk) size wants).0

pub takes_to_device : (op : Op) (chunk size blocks : ℕ) → chunk_wanted chunk op ≡ Takes size → CHUNK_BYTES * chunk < moved_bytes op →
    work_direction (work_of op blocks) ≡ ToDevice
takes_to_device op chunk size blocks wants less =
    sym (direction_of-work op blocks (omega arith)) ∙ (wanted_takes (direction_of op) (chunk_bytes (moved_bytes op) chunk) size wants).0

pub gives_size : (op : Op) (chunk size : ℕ) → chunk_wanted chunk op ≡ Gives size → chunk_bytes (moved_bytes op) chunk ≡ size
gives_size op chunk size wants = (wanted_gives (direction_of op) (chunk_bytes (moved_bytes op) chunk) size wants).1

pub takes_size : (op : Op) (chunk size : ℕ) → chunk_wanted chunk op ≡ Takes size → chunk_bytes (moved_bytes op) chunk ≡ size
takes_size op chunk size wants = (wanted_takes (direction_of op) (chunk_bytes (moved_bytes op) chunk) size wants).1

-- One task of the device, from its unit's receipt to its answer. The steps of a command are the device server's.
use Rattle.std.specs.Prelude.{ℕ, ◌==◌, Bool, false, if◌then◌else◌, List, slice_get, slice_set, Option, None, Some, option_map, option_and_then, Result, Ok, Err}
use Rattle.std.specs.Option.{option_map_or}
use Rattle.std.specs.Result.{result_ok}
use Rattle.block_unit.specs.BlockMaps.{BlockMaps}
use Rattle.uas_profile.specs.declared.Direction.{Direction}
use Rattle.uas_profile.specs.declared.Direction.TheVariants.{Nothing as NoWay, ToHost, ToDevice}
use Rattle.scsi_cmd.specs.declared.Op.{Op}
use Rattle.scsi_cmd.specs.declared.Sense.{Sense}
use Rattle.scsi_cmd.specs.declared.Work.{Work}
use Rattle.scsi_cmd.specs.declared.Work.TheVariants.{Nothing as NoWork, Gives as GivesWork, Reads, Writes, Synchronizes}
use Rattle.scsi_cmd.specs.Op.{direction_of, moved_bytes}
use Rattle.scsi_cmd.specs.Work.{cdb_reports_attention, work_asked, work_of, work_without_unit}
use Rattle.device_server.specs.declared.Answer.TheVariants.{Good}
use Rattle.device_server.specs.declared.Progress.{Progress}
use Rattle.device_server.specs.declared.Progress.TheVariants.{Moving as MovingOn, Ended as EndedWith}
use Rattle.device_server.specs.Server.{begun, chunk_bytes, chunk_fits, chunk_given, progress_after, sense_of, status_of, unit_taken}
use Rattle.uas_iu.specs.declared.Iu.{Iu}
use Rattle.uas_iu.specs.declared.Iu.TheVariants.{Sense as SenseIu, Response as ResponseIu}
use Rattle.uas_target.specs.declared.DeviceAnswer.{DeviceAnswer}
use Rattle.uas_target.specs.declared.DeviceAnswer.TheVariants.{Status, Response}
use Rattle.uas_target.specs.declared.DeviceTask.{DeviceTask}
use Rattle.uas_target.specs.declared.DeviceTask.TheVariants.{Moving, Ended}
use Rattle.uas_target.specs.declared.Phase.{Phase}
use Rattle.uas_target.specs.declared.Phase.TheVariants.{Absent, Gives, Takes, Ends}

-- WHERE A COMMAND IS RECEIVED

-- what the device has of a command to this unit that asks for this, once it began and is at this; a fault moves no data
abbrev pub task_in : Option ℕ → Result Op Sense → Progress → Option DeviceTask
task_in unit asks (MovingOn chunk) = option_map (λ op. Moving unit op chunk) (result_ok asks)
task_in unit asks (EndedWith answer) = Some (Ended unit (Status answer))

-- a unit begins what a CDB asks of it
abbrev pub begun_by : BlockMaps → List ℕ → Result Op Sense → BlockMaps × Progress
begun_by unit cdb asks = begun unit (cdb_reports_attention cdb) (work_asked unit.count asks)

-- WHAT A TASK WANTS

-- a chunk of so many bytes, this way
abbrev pub wanted_way : Direction → ℕ → Phase
wanted_way NoWay bytes = Absent
wanted_way ToHost bytes = Gives bytes
wanted_way ToDevice bytes = Takes bytes

-- the next chunk of an operation of which so many chunks are done
abbrev pub chunk_wanted : ℕ → Op → Phase
chunk_wanted chunk op = wanted_way (direction_of op) (chunk_bytes (moved_bytes op) chunk)

abbrev pub task_wants : DeviceTask → Phase
task_wants (Moving unit op chunk) = chunk_wanted chunk op
task_wants (Ended unit answer) = Ends

-- ONE CHUNK

-- what is given without a unit, all at once
abbrev pub given_without_unit : Result Work Sense → Option (List ℕ)
given_without_unit (Ok NoWork) = None
given_without_unit (Ok (GivesWork bytes)) = Some bytes.items
given_without_unit (Ok (Reads lba count)) = None
given_without_unit (Ok (Writes lba count through)) = None
given_without_unit (Ok (Synchronizes lba count)) = None
given_without_unit (Err sense) = None

-- the bytes that a chunk gives, or None where it meets a bad block or gives none
abbrev pub op_given : ℕ → Op → Option BlockMaps → Option (List ℕ)
op_given chunk op None = given_without_unit (work_without_unit op)
op_given chunk op (Some unit) = chunk_given unit chunk (work_of op unit.count)

-- what a command is at after a chunk; without a unit that was all of it
abbrev pub progress_left : Option BlockMaps → ℕ → Op → Progress
progress_left None chunk op = EndedWith Good
progress_left (Some unit) chunk op = progress_after unit chunk (work_of op unit.count)

-- the unit of a task among those that are there
abbrev pub unit_of : List BlockMaps → Option ℕ → Option BlockMaps
unit_of units number = option_and_then (slice_get units) number

-- the bytes that a task gives as its next chunk
abbrev pub task_given : List BlockMaps → DeviceTask → Option (List ℕ)
task_given units (Moving unit op chunk) = op_given chunk op (unit_of units unit)
task_given units (Ended unit answer) = None

-- whether the next chunk of a task is taken
abbrev pub task_fits : List BlockMaps → DeviceTask → Bool
task_fits units (Moving unit op chunk) = option_map_or (λ maps. chunk_fits maps chunk (work_of op maps.count)) (unit_of units unit) false
task_fits units (Ended unit answer) = false

-- the units once a task was offered these bytes
abbrev pub number_taken : List BlockMaps → List ℕ → ℕ → Op → ℕ → List BlockMaps
number_taken units bytes chunk op number =
    option_map_or (λ maps. slice_set units number (unit_taken maps bytes chunk (work_of op maps.count))) (slice_get units number) units

abbrev pub task_taken : List BlockMaps → List ℕ → DeviceTask → List BlockMaps
task_taken units bytes (Moving unit op chunk) = option_map_or (number_taken units bytes chunk op) unit units
task_taken units bytes (Ended unit answer) = units

-- the task after its next chunk
abbrev pub task_left : List BlockMaps → DeviceTask → Option DeviceTask
task_left units (Moving unit op chunk) = task_in unit (Ok op) (progress_left (unit_of units unit) chunk op)
task_left units (Ended unit answer) = Some (Ended unit answer)

-- WHERE IT IS ENDED BY TASK MANAGEMENT

-- the unit of a task is the one of this number
abbrev pub is_at : ℕ → Option ℕ → Bool
is_at number unit = option_map_or (λ found. found == number) unit false

-- whether a task is a command's to the unit of this number; what is answered by a response code is no command's
abbrev pub is_command_of : ℕ → DeviceTask → Bool
is_command_of number (Moving unit op chunk) = is_at number unit
is_command_of number (Ended unit (Status answer)) = is_at number unit
is_command_of number (Ended unit (Response code)) = false

-- what a tag has once the commands to the unit of this number are gone
abbrev pub spared : ℕ → Option DeviceTask → Option DeviceTask
spared number task = if option_map_or (is_command_of number) task false then None else task

-- THE ANSWER

-- the unit that tells an answer: Sense with a status and its sense, or Response with a code
abbrev pub answer_unit : ℕ → DeviceAnswer → Iu
answer_unit tag (Status answer) = SenseIu tag (status_of answer) (record { items = sense_of answer })
answer_unit tag (Response code) = ResponseIu tag code

abbrev pub task_answer : ℕ → DeviceTask → Option Iu
task_answer tag (Moving unit op chunk) = None
task_answer tag (Ended unit answer) = Some (answer_unit tag answer)

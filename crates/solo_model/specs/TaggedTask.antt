-- One task, from its submission to its reply. The solo machine and the shared machine are made of these functions, and the
-- device's part of them is the device server's.
use Rattle.std.specs.Prelude.{◌≡◌, ℕ, ◌*◌, ◌==◌, Bool, true, false, ◌&&◌, if◌then◌else◌, List, [], Option, Some, None, MatchOption}
use Rattle.std.specs.List.{list_any}
use Rattle.arrayvec.specs.ArrayVec.{ArrayVec}
use Rattle.std.specs.Option.{option_map_or}
use Rattle.block_unit.specs.BlockMaps.{BlockMaps, bytes_from, with_attention}
use Rattle.scsi_cmd.specs.Request.{ended_by, is_command}
use Rattle.scsi_cmd.specs.declared.Op.{Op}
use Rattle.scsi_cmd.specs.declared.Command.{Command}
use Rattle.scsi_cmd.specs.declared.Reply.{Reply}
use Rattle.scsi_cmd.specs.declared.Reply.TheVariants.{Status, Aborted, Task as TaskReply}
use Rattle.scsi_cmd.specs.declared.Request.{Request}
use Rattle.scsi_cmd.specs.declared.Request.TheVariants.{Execute, Manage}
use Rattle.scsi_cmd.specs.declared.Task.{Task}
use Rattle.scsi_cmd.specs.declared.Task.TheVariants.{Abort, Reset, Query}
use Rattle.scsi_cmd.specs.Buffers.{with_bytes_at}
use Rattle.scsi_cmd.specs.Op.{moved_bytes}
use Rattle.scsi_cmd.specs.Work.{checked_work, reports_attention, work_of}
use Rattle.device_server.specs.declared.Progress.{Progress}
use Rattle.device_server.specs.declared.Progress.TheVariants.{Moving as MovingOn, Ended as EndedWith}
use Rattle.device_server.specs.Server.{begun, chunk_bytes, chunk_given, progress_after, sense_of, status_of, unit_taken}
use Rattle.solo_model.specs.declared.Phase.{Phase}
use Rattle.solo_model.specs.declared.Phase.TheVariants.{Queued, Begun, Sent, Gone}
use Rattle.solo_model.specs.declared.ResponseCode.{ResponseCode}
use Rattle.solo_model.specs.declared.ResponseCode.TheVariants.{Complete, Succeeded}
use Rattle.solo_model.specs.declared.Submitted.{Submitted}
use Rattle.solo_model.specs.declared.Submitted.TheVariants.{Command as SubmittedCommand, Management}
use Rattle.solo_model.specs.declared.TaskAnswer.{TaskAnswer}
use Rattle.solo_model.specs.declared.TaskAnswer.TheVariants.{WithStatus, WithResponse}
use Rattle.solo_model.specs.declared.TaskProgress.{TaskProgress}
use Rattle.solo_model.specs.declared.TaskProgress.TheVariants.{Moving, Ended}
use Rattle.uas_profile.specs.declared.TheConstants.{CHUNK_BYTES}

-- A task under one tag of a client: the number that the client gave it, what is asked, the bytes that it brings or those that
-- came in so far over what was handed in, and how far it has come.
pub record TaggedTask : Type 0 where
  pub ticket : ℕ
  pub request : Request
  pub buffer : List ℕ
  pub phase : Phase

-- what is asked by what was submitted, and its bytes; a task management has none
abbrev pub request_in : Submitted → Request
request_in (SubmittedCommand command) = Execute command.op
request_in (Management task noted) = Manage task noted

abbrev pub buffer_in : Submitted → List ℕ
buffer_in (SubmittedCommand command) = command.buffer
buffer_in (Management task noted) = []

-- THE ANSWER OF A TASK: a command's is its status, a task management's the code of its Response unit

-- TASK MANAGEMENT FUNCTION COMPLETE is 00h, TASK MANAGEMENT FUNCTION SUCCEEDED 08h (UAS, Response unit)
abbrev pub response_number : ResponseCode → ℕ
response_number Complete = 0
response_number Succeeded = 8

-- how far the task of a command has come where the device server has brought the command so far
abbrev pub of_command : Progress → TaskProgress
of_command (MovingOn chunk) = Moving chunk
of_command (EndedWith answer) = Ended (WithStatus answer)

-- SUBMISSION

-- a command as it is submitted
abbrev pub queued : ℕ → Command → TaggedTask
queued ticket command = record { ticket = ticket; request = Execute command.op; buffer = command.buffer; phase = Queued }

-- a task management as it is submitted, with the tickets that it noted; it brings no bytes
abbrev pub queued_management : ℕ → Task → List ℕ → TaggedTask
queued_management ticket task noted =
    record { ticket = ticket; request = Manage task (record { items = noted }); buffer = []; phase = Queued }

-- CARRY: the device receives the request and begins it

-- LOGICAL UNIT RESET leaves an attention on its unit
abbrev pub unit_managed : BlockMaps → Task → BlockMaps
unit_managed unit (Abort tag) = unit
unit_managed unit Reset = with_attention unit true
unit_managed unit (Query tag) = unit

-- The response to a task management, where the device has a command that it noted, or hasn't: SUCCEEDED to a query of a command that the
-- device has, else COMPLETE.
abbrev pub response_to : Task → Bool → ResponseCode
response_to (Abort tag) found = Complete
response_to Reset found = Complete
response_to (Query tag) found = if found then Succeeded else Complete

-- the unit after it, and how far the task of the command has come
abbrev pub command_begun : BlockMaps × Progress → BlockMaps × TaskProgress
command_begun after = (after.0, of_command after.1)

-- A command begins as far as its data. A task management is done with as it is received; `found` says that the device has a command that it
-- noted.
abbrev pub request_begun : BlockMaps → Bool → Request → BlockMaps × TaskProgress
request_begun unit found (Execute op) = command_begun (begun unit (reports_attention op) (checked_work op unit.count))
request_begun unit found (Manage what noted) = (unit_managed unit what, Ended (WithResponse (response_to what found)))

abbrev pub carried_request : BlockMaps → Bool → TaggedTask → Request → BlockMaps × TaggedTask
carried_request unit found task request = in_progress task (request_begun unit found request)
  where
    in_progress : TaggedTask → BlockMaps × TaskProgress → BlockMaps × TaggedTask
    in_progress task after = (after.0, record task { phase = Begun after.1 })

-- a step on a unit and a task did what is asked, or there is none and it did nothing
abbrev pub IsStep : Option (BlockMaps × TaggedTask) → Bool → BlockMaps → TaggedTask → BlockMaps → TaggedTask → Type 0
IsStep after acted unit task unit_now task_now = MatchOption after ((acted ≡ false) × (unit_now ≡ unit) × (task_now ≡ task))
    (λ step. (acted ≡ true) × (unit_now ≡ step.0) × (task_now ≡ step.1))

-- only a queued task is carried
abbrev pub carried_from : BlockMaps → Bool → TaggedTask → Phase → Option (BlockMaps × TaggedTask)
carried_from unit found task Queued = Some (carried_request unit found task task.request)
carried_from unit found task (Begun progress) = None
carried_from unit found task (Sent answer) = None
carried_from unit found task Gone = None

abbrev pub carried : BlockMaps → Bool → TaggedTask → Option (BlockMaps × TaggedTask)
carried unit found task = carried_from unit found task task.phase

-- GONE: what a task management that is carried does to the client's other tasks

-- the tickets of the commands that a task management ends which is to be carried next
abbrev pub ended_in : Phase → Request → Option (ArrayVec ℕ)
ended_in Queued (Execute op) = None
ended_in Queued (Manage what noted) = Some (ended_by what noted)
ended_in (Begun progress) request = None
ended_in (Sent answer) request = None
ended_in Gone request = None

abbrev pub ended_next : TaggedTask → Option (ArrayVec ℕ)
ended_next task = ended_in task.phase task.request

-- its answer wasn't handed over, so the device can still end it
abbrev pub can_go : Phase → Bool
can_go Queued = true
can_go (Begun progress) = true
can_go (Sent answer) = false
can_go Gone = false

-- a command whose answer wasn't handed over
abbrev pub can_be_ended : TaggedTask → Bool
can_be_ended task = is_command task.request && can_go task.phase

abbrev pub is_noted : List ℕ → ℕ → Bool
is_noted noted ticket = list_any (λ other. other == ticket) noted

-- the device has begun it, and its answer wasn't handed over
abbrev pub is_begun : Phase → Bool
is_begun Queued = false
is_begun (Begun progress) = true
is_begun (Sent answer) = false
is_begun Gone = false

-- the device has the task, which is of one of these tickets
abbrev pub is_under_way : List ℕ → TaggedTask → Bool
is_under_way noted task = is_begun task.phase && is_noted noted task.ticket

-- The device has a task that this request noted. A command notes none.
abbrev pub finds : Request → List (Option TaggedTask) → Bool
finds (Execute op) tasks = false
finds (Manage what noted) tasks = list_any (λ held. option_map_or (is_under_way noted.items) held false) tasks

-- such a command of a noted ticket is gone; any other task stays
abbrev pub after_notes : List ℕ → TaggedTask → TaggedTask
after_notes noted task = if can_be_ended task && is_noted noted task.ticket then record task { phase = Gone } else task

-- MOVE: one chunk, on the blocks of this moment

-- the bytes of a chunk of an operation, in a buffer that it brings: of 16 blocks, chunk 1 is the bytes from 4,096 on
abbrev pub chunk_brought : List ℕ → ℕ → Op → List ℕ
chunk_brought buffer chunk op = bytes_from buffer (CHUNK_BYTES * chunk) (chunk_bytes (moved_bytes op) chunk)

-- the unit after a chunk
abbrev pub unit_after : BlockMaps → List ℕ → ℕ → Op → BlockMaps
unit_after unit buffer chunk op = unit_taken unit (chunk_brought buffer chunk op) chunk (work_of op unit.count)

-- the buffer after a chunk: of a READ of 16 blocks from block 10 on, chunk 1 brings 18 to 25 to the bytes from 4,096 on
abbrev pub buffer_after : BlockMaps → List ℕ → ℕ → Op → List ℕ
buffer_after unit buffer chunk op =
    option_map_or (λ bytes. with_bytes_at buffer (CHUNK_BYTES * chunk) bytes) (chunk_given unit chunk (work_of op unit.count)) buffer

-- what a command is at after a chunk
abbrev pub progress_left : BlockMaps → ℕ → Op → TaskProgress
progress_left unit chunk op = of_command (progress_after unit chunk (work_of op unit.count))

-- a task management moves no data
abbrev pub moved_request : BlockMaps → TaggedTask → ℕ → Request → Option (BlockMaps × TaggedTask)
moved_request unit task chunk (Execute op) =
    Some (unit_after unit task.buffer chunk op, record task { buffer = buffer_after unit task.buffer chunk op; phase = Begun (progress_left unit chunk op) })
moved_request unit task chunk (Manage what noted) = None

-- only a task that moves data moves a chunk
abbrev pub moved_from : BlockMaps → TaggedTask → Phase → Option (BlockMaps × TaggedTask)
moved_from unit task Queued = None
moved_from unit task (Begun (Moving chunk)) = moved_request unit task chunk task.request
moved_from unit task (Begun (Ended answer)) = None
moved_from unit task (Sent answer) = None
moved_from unit task Gone = None

abbrev pub moved : BlockMaps → TaggedTask → Option (BlockMaps × TaggedTask)
moved unit task = moved_from unit task task.phase

-- SEND: the device hands over its answer

abbrev pub sent_from : TaggedTask → Phase → Option TaggedTask
sent_from task Queued = None
sent_from task (Begun (Moving chunk)) = None
sent_from task (Begun (Ended answer)) = Some (record task { phase = Sent answer })
sent_from task (Sent answer) = None
sent_from task Gone = None

abbrev pub sent : TaggedTask → Option TaggedTask
sent task = sent_from task task.phase

-- SETTLE: the client gets its reply

-- A command's status and sense with its buffer, or the response code of a task management. A response is none to a command, and
-- a status none to a task management.
abbrev pub answered_by : ℕ → ℕ → List ℕ → TaskAnswer → Request → Option Reply
answered_by tag ticket buffer (WithStatus answer) (Execute op) = Some (Status tag ticket (status_of answer) (record { items = sense_of answer }) buffer)
answered_by tag ticket buffer (WithStatus answer) (Manage what noted) = None
answered_by tag ticket buffer (WithResponse code) (Execute op) = None
answered_by tag ticket buffer (WithResponse code) (Manage what noted) = Some (TaskReply tag ticket (response_number code))

-- a command that is gone is told as such; none ends a task management
abbrev pub aborted_by : ℕ → ℕ → List ℕ → Request → Option Reply
aborted_by tag ticket buffer (Execute op) = Some (Aborted tag ticket buffer)
aborted_by tag ticket buffer (Manage what noted) = None

abbrev pub reply_from : ℕ → TaggedTask → Phase → Option Reply
reply_from tag task Queued = None
reply_from tag task (Begun progress) = None
reply_from tag task (Sent answer) = answered_by tag task.ticket task.buffer answer task.request
reply_from tag task Gone = aborted_by tag task.ticket task.buffer task.request

-- the reply of a task that is done with
abbrev pub reply_of : ℕ → TaggedTask → Option Reply
reply_of tag task = reply_from tag task task.phase

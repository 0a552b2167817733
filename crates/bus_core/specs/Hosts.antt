-- What the device has of an entry, and the phase that device and host tell of it together.
use Rattle.std.specs.Prelude.{◌≡◌, ℕ, ◌==◌, if◌then◌else◌, List, slice_index, Option, Some, None}
use Rattle.scsi_cmd.specs.declared.Request.{Request}
use Rattle.scsi_cmd.specs.declared.Request.TheVariants.{Execute, Manage}
use Rattle.device_server.specs.declared.Answer.{Answer}
use Rattle.device_server.specs.declared.Answer.TheVariants.{Good, Check}
use Rattle.solo_model.specs.declared.Phase.{Phase}
use Rattle.solo_model.specs.declared.Phase.TheVariants.{Queued, Begun, Sent, Gone}
use Rattle.solo_model.specs.declared.ResponseCode.{ResponseCode}
use Rattle.solo_model.specs.declared.ResponseCode.TheVariants.{Complete, Succeeded}
use Rattle.solo_model.specs.declared.TaskAnswer.{TaskAnswer}
use Rattle.solo_model.specs.declared.TaskAnswer.TheVariants.{WithStatus, WithResponse}
use Rattle.solo_model.specs.declared.TaskProgress.{TaskProgress}
use Rattle.solo_model.specs.declared.TaskProgress.TheVariants.{Moving, Ended}
use Rattle.solo_model.specs.TaggedTask.{response_number}
use Rattle.uas_target.specs.declared.DeviceAnswer.{DeviceAnswer}
use Rattle.uas_target.specs.declared.DeviceAnswer.TheVariants.{Status, Response}
use Rattle.uas_target.specs.declared.DeviceTask.{DeviceTask}
use Rattle.uas_target.specs.declared.DeviceTask.TheVariants.{Moving as MovingTask, Ended as EndedTask}
use Rattle.uas_profile.specs.declared.TdState.{TdState}
use Rattle.uas_profile.specs.declared.TdState.TheVariants.{Pending, Seen, LeftOver, Retired}
use Rattle.shared_machine.specs.declared.Td.{Td}
use Rattle.shared_machine.specs.Td.{Entry}

-- THE DEVICE'S TASK

-- what the device has of a command that moves data; no task management moves any
abbrev pub moving_task : Option ℕ → ℕ → Request → Option DeviceTask
moving_task unit chunk (Execute op) = Some (MovingTask unit op chunk)
moving_task unit chunk (Manage what noted) = None

-- what it has of a task that has ended: a command's status, or the response code of a task management, which is no unit's
abbrev pub ended_task : Option ℕ → TaskAnswer → DeviceTask
ended_task unit (WithStatus answer) = EndedTask unit (Status answer)
ended_task unit (WithResponse code) = EndedTask None (Response (response_number code))

-- what it has of a request that it has begun
abbrev pub begun_task : Option ℕ → Request → TaskProgress → Option DeviceTask
begun_task unit request (Moving chunk) = moving_task unit chunk request
begun_task unit request (Ended answer) = Some (ended_task unit answer)

-- What the device has of a request in this phase: nothing of one that it hasn't received, whose answer it sent or that is gone.
abbrev pub phase_task : Option ℕ → Request → Phase → Option DeviceTask
phase_task unit request Queued = None
phase_task unit request (Begun progress) = begun_task unit request progress
phase_task unit request (Sent answer) = None
phase_task unit request Gone = None

-- what the device has of an entry of this client
abbrev pub device_task : ℕ → Entry → Option DeviceTask
device_task number entry = phase_task (Some number) entry.task.request entry.task.phase

-- TOGETHER

-- the response of a code: 08h is SUCCEEDED, and of no other but COMPLETE, 00h, is anything told here
abbrev pub response_of : ℕ → ResponseCode
response_of code = if code == 8 then Succeeded else Complete

-- the answer that the bytes of a Sense unit tell: the status in byte 6, the sense from byte 16 on
abbrev pub told_status : List ℕ → Answer
told_status bytes =
    if slice_index bytes 6 == 0 then Good
    else Check (record { key = slice_index bytes 18; asc = slice_index bytes 28; ascq = slice_index bytes 29 })

-- the answer that the bytes of a status buffer tell: those of a Response unit, whose identifier is 04h, a code in byte 7, others a status
abbrev pub told_answer : List ℕ → TaskAnswer
told_answer bytes = if slice_index bytes 0 == 4 then WithResponse (response_of (slice_index bytes 7)) else WithStatus (told_status bytes)

-- what the device received and has no task of any more: its answer was sent, or it is gone and the TRB of its status TD wasn't taken for
-- an answer
abbrev pub phase_received : ℕ → TdState → List ℕ → Phase
phase_received consumed Pending bytes = if consumed == 0 then Gone else Sent (told_answer bytes)
phase_received consumed Seen bytes = Sent (told_answer bytes)
phase_received consumed LeftOver bytes = Gone
phase_received consumed Retired bytes = Gone

-- the phase of a request that the device has no task of, by the TRBs of its command TD that were taken, its status TD and the bytes of its
-- status buffer
abbrev pub phase_apart : ℕ → Td → List ℕ → Phase
phase_apart taken status_td bytes = if taken == 0 then Queued else phase_received status_td.consumed status_td.state bytes

abbrev pub answer_phase : DeviceAnswer → Phase
answer_phase (Status answer) = Begun (Ended (WithStatus answer))
answer_phase (Response code) = Begun (Ended (WithResponse (response_of code)))

abbrev pub task_phase : DeviceTask → Phase
task_phase (MovingTask unit op chunk) = Begun (Moving chunk)
task_phase (EndedTask unit answer) = answer_phase answer

abbrev pub phase_by : Option DeviceTask → ℕ → Td → List ℕ → Phase
phase_by None taken status_td bytes = phase_apart taken status_td bytes
phase_by (Some task) taken status_td bytes = task_phase task

-- the device received a request where its command TD's TRB was taken
abbrev pub HasTaken : Phase → ℕ → Type 0
HasTaken Queued taken = taken ≡ 0
HasTaken (Begun progress) taken = taken ≡ 1
HasTaken (Sent answer) taken = taken ≡ 1
HasTaken Gone taken = taken ≡ 1

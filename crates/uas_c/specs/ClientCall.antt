-- What clients ask of a bus and of a driver, and what a reply tells, whatever the door.
use Rattle.std.specs.Prelude.{ℕ, ◌-◌, ◌^◌, Bool, not, if◌then◌else◌, ◌==◌, nat_lt, min}
use Rattle.std.specs.Prelude.{List, [], ◌∷◌, ◌++◌, length, take, drop, Option, Result, Ok, Err}
use Rattle.std.specs.Option.{option_map_or}
use Rattle.scsi_cmd.specs.declared.Op.{Op}
use Rattle.scsi_cmd.specs.declared.Reply.{Reply}
use Rattle.scsi_cmd.specs.declared.Reply.TheVariants as replies
use Rattle.scsi_cmd.specs.declared.SubmitFault.{SubmitFault}
use Rattle.scsi_cmd.specs.declared.SubmitFault.TheVariants as submits
use Rattle.scsi_cmd.specs.declared.Task.{Task}
use Rattle.scsi_cmd.specs.declared.Task.TheVariants as tasks
use Rattle.uas_profile.specs.declared.Pipe.{Pipe}
use Rattle.uas_profile.specs.declared.Pipe.TheVariants as pipes
use Rattle.c_common.specs.declared.faults.TheConstants.{CLIENT_BAD_LENGTH, CLIENT_IN_USE, CLIENT_NOT_YOURS, CLIENT_NO_SUCH_TASK, CLIENT_OPERATION}
use Rattle.c_common.specs.declared.faults.TheConstants.{CLIENT_OUT_OF_TURN, CLIENT_TICKET, CLIENT_TOO_LONG}
use Rattle.c_common.specs.Door.{numbered}
use Rattle.c_common.specs.OperationRecord.{named_operation, operation_fault}
use Rattle.c_common.specs.Bytes.{padded}
use Rattle.uas_c.specs.declared.client.ToldReply.{ToldReply}
use Rattle.c_common.specs.declared.operation.UasOperation.{UasOperation}

-- WHAT IS ASKED

-- the number of what the host refuses a submission with
abbrev pub client_fault : SubmitFault → ℕ
client_fault submits.NotYours = CLIENT_NOT_YOURS
client_fault submits.InUse = CLIENT_IN_USE
client_fault submits.BadLength = CLIENT_BAD_LENGTH
client_fault submits.TooLong = CLIENT_TOO_LONG
client_fault (submits.OutOfTurn least) = CLIENT_OUT_OF_TURN
client_fault submits.NoSuchTask = CLIENT_NO_SUCH_TASK

-- a ticket is below 2^60
abbrev pub not_ticket : ℕ → Bool
not_ticket ticket = not (nat_lt ticket (2 ^ 60))

-- the operation of a submission, or its fault: a ticket of 2^60 or more, no operation
abbrev pub asked_operation : ℕ → UasOperation → Result Op ℕ
asked_operation ticket operation =
    if not_ticket ticket then Err CLIENT_TICKET
    else (if operation_fault operation == 0 then option_map_or (λ op. Ok op) (named_operation operation) (Err CLIENT_OPERATION)
    else Err CLIENT_OPERATION)

-- the task management of a function: 1 ABORT TASK of the tag, 8 LOGICAL UNIT RESET, 80h QUERY TASK of the tag
abbrev pub task_numbered : ℕ → ℕ → Option Task
task_numbered function tag = numbered ((1, tasks.Abort tag) ∷ (8, tasks.Reset) ∷ (0x80, tasks.Query tag) ∷ []) function

-- the pipe of a number, one with streams
abbrev pub pipe_numbered : ℕ → Option Pipe
pipe_numbered = numbered ((1, pipes.Status) ∷ (2, pipes.DataIn) ∷ (3, pipes.DataOut) ∷ [])

-- REPLIES

-- the bytes with a buffer's over their front, as far as they reach
abbrev pub overlaid : List ℕ → List ℕ → List ℕ
overlaid buffer bytes = take (length bytes) buffer ++ drop (length buffer) bytes

-- a length, as four bytes have it
abbrev pub told_length : List ℕ → ℕ
told_length buffer = min (length buffer) (2 ^ 32 - 1)

-- what is told of a status and its sense data, with so many bytes of data
abbrev pub told_status : ℕ → ℕ → ℕ → List ℕ → ℕ → ToldReply
told_status tag ticket status sense count = record {
  kind = 1;
  tag = tag;
  ticket = ticket;
  status = status;
  sense_length = length sense;
  sense = padded sense (length sense);
  length = count;
}

-- what is told of a reply of another kind; where it has no sense data, the door's stays
abbrev pub told_without_sense : ℕ → ℕ → ℕ → ℕ → List ℕ → ℕ → ToldReply
told_without_sense kind tag ticket status before count =
    record { kind = kind; tag = tag; ticket = ticket; status = status; sense_length = 0; sense = before; length = count }

-- what is told of a reply
abbrev pub told_of : List ℕ → Reply → ToldReply
told_of before (replies.Status tag ticket status sense buffer) = told_status tag ticket status sense.items (told_length buffer)
told_of before (replies.Aborted tag ticket buffer) = told_without_sense 2 tag ticket 0 before (told_length buffer)
told_of before (replies.Task tag ticket code) = told_without_sense 3 tag ticket code before 0

-- the bytes once it was told
abbrev pub with_buffer : List ℕ → Reply → List ℕ
with_buffer bytes (replies.Status tag ticket status sense buffer) = overlaid buffer bytes
with_buffer bytes (replies.Aborted tag ticket buffer) = overlaid buffer bytes
with_buffer bytes (replies.Task tag ticket code) = bytes

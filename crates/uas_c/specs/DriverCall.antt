-- What a call of the driver's door makes of the driver, the door and the bytes.
use Rattle.std.specs.Prelude.{ℕ, ◌+◌, ◌-◌, ◌*◌, Bool, not, ◌&&◌, ◌||◌, if◌then◌else◌, ◌==◌, nat_lt}
use Rattle.std.specs.Prelude.{List, [], ◌∷◌, ◌++◌, length, drop, Option, None, Some, Result, Ok, Err}
use Rattle.std.specs.List.{find, range_with_len}
use Rattle.std.specs.Option.{option_map_or}
use Rattle.event_ring.specs.declared.Event.{Event}
use Rattle.event_ring.specs.declared.Event.TheVariants as events
use Rattle.scsi_cmd.specs.declared.Op.{Op}
use Rattle.uas_host.specs.Retirement.{is_left_over_on}
use Rattle.uas_host.specs.State.{HostState}
use Rattle.uas_driver.specs.declared.Taken.{Taken}
use Rattle.uas_driver.specs.declared.Taken.TheVariants.{Matched, Engine, Noted, Stray}
use Rattle.uas_profile.specs.declared.Pipe.{Pipe}
use Rattle.uas_profile.specs.Tags.{most_clients}
use Rattle.uas_profile.specs.declared.TheConstants.{LEAST_TAGS, MOST_TAGS}
use Rattle.uas_driver.specs.Calls.{After as CallAfter, context_by, event_by, give_up_by, item_by, read_by, reply_by, retire_by, submit_by, task_by, write_by}
use Rattle.uas_driver.specs.Telling.{stated, wanted_state}
use Rattle.uas_driver.specs.Driver.{DriverState}
use Rattle.uas_driver.specs.declared.Answer.{Answer}
use Rattle.uas_driver.specs.declared.Answer.TheVariants as answers
use Rattle.uas_driver.specs.declared.EndpointState.{EndpointState}
use Rattle.uas_driver.specs.declared.EndpointState.TheVariants as states
use Rattle.uas_profile.specs.declared.Pipe.TheVariants as pipes
use Rattle.uas_driver.specs.declared.Refusal.{Refusal}
use Rattle.uas_driver.specs.declared.Refusal.TheVariants as refusals
use Rattle.c_common.specs.declared.faults.TheConstants.{CLIENT_CALL, CLIENT_FUNCTION, CLIENT_LENGTH, CLIENT_TICKET, DRIVER_ADDRESS, DRIVER_CLIENTS}
use Rattle.c_common.specs.declared.faults.TheConstants.{DRIVER_EVENT, DRIVER_RING, DRIVER_ROOM, DRIVER_STATE, NO_MEMORY, TAGS}
use Rattle.uas_c.specs.ClientCall.{asked_operation, client_fault, not_ticket, overlaid, pipe_numbered, task_numbered, told_length, told_status}
use Rattle.uas_c.specs.ClientCall.{told_without_sense}
use Rattle.c_common.specs.Door.{After, DoorAfter, numbered, refused, with_bytes}
use Rattle.c_common.specs.Bytes.{yes}
use Rattle.uas_c.specs.declared.driver.answer.ToldAnswer.{ToldAnswer}
use Rattle.uas_c.specs.declared.driver.door.DriverCall.{DriverCall}
use Rattle.uas_c.specs.declared.driver.door.DriverCall.TheVariants as calls
use Rattle.uas_c.specs.declared.driver.door.UasDriverDoor.{UasDriverDoor}

-- A NEW DRIVER

-- Refused where there is no such number of tags, and where there is no client or more than there are with so many tags: of 16 tags more
-- than 15, of 8 more than 31.
abbrev pub clients_fault : ℕ → ℕ → ℕ
clients_fault clients tags =
    if nat_lt tags LEAST_TAGS || nat_lt MOST_TAGS tags then TAGS
    else (if clients == 0 || nat_lt (most_clients tags) clients then DRIVER_CLIENTS else 0)

-- The number of an answer is right: the fault, or want of memory where there is none.
abbrev pub clients_told : ℕ → ℕ → ℕ → Bool
clients_told number clients tags = number == clients_fault clients tags || (number == NO_MEMORY && clients_fault clients tags == 0)

-- WHAT IS ANSWERED

-- the number of what a call was refused with
abbrev pub driver_refusal : Refusal → ℕ
driver_refusal refusals.BadTicket = CLIENT_TICKET
driver_refusal refusals.NoRoom = DRIVER_ROOM
driver_refusal refusals.BadAddress = DRIVER_ADDRESS
driver_refusal refusals.NoRing = DRIVER_RING
driver_refusal (refusals.Fault fault) = client_fault fault

-- the door once the doorbells that are to be written were told: they stand at the front, and the other places keep what they held
abbrev pub with_doorbells : UasDriverDoor → List ℕ → UasDriverDoor
with_doorbells door doors = record door { doorbells = length doors; doorbell = doors ++ drop (length doors) door.doorbell }

-- a submission that was taken tells its doorbells
abbrev pub with_submitted : UasDriverDoor → CallAfter (Result (Unit {0}) Refusal) → DoorAfter DriverState UasDriverDoor
with_submitted door (after, Ok done, doors) = (0, (after, with_doorbells door doors))
with_submitted door (after, Err refusal, doors) = refused (driver_refusal refusal) after door

-- what was asked for is all of the bytes, or why it isn't
abbrev pub with_read : DriverState → UasDriverDoor → List ℕ → Result (List ℕ) Refusal → After DriverState UasDriverDoor
with_read driver door bytes (Ok found) = (0, (driver, (door, found)))
with_read driver door bytes (Err refusal) = with_bytes bytes (refused (driver_refusal refusal) driver door)

-- SUBMIT AND TASK

-- a submission of this operation; there may be no memory for the copy of its bytes: where the call answers so, that is why
abbrev pub after_asked : ℕ → DriverState → UasDriverDoor → List ℕ → Result Op ℕ → DoorAfter DriverState UasDriverDoor
after_asked number driver door bytes (Err fault) = refused fault driver door
after_asked number driver door bytes (Ok op) =
    if number == NO_MEMORY then refused NO_MEMORY driver door
    else with_submitted door (submit_by driver door.client door.tag door.ticket (record { op = op; buffer = bytes }))

-- SUBMIT (1): the bytes are the command's buffer
abbrev pub after_submit : ℕ → DriverState → UasDriverDoor → List ℕ → DoorAfter DriverState UasDriverDoor
after_submit number driver door bytes = after_asked number driver door bytes (asked_operation door.ticket door.operation)

-- TASK (2)
abbrev pub after_task : DriverState → UasDriverDoor → DoorAfter DriverState UasDriverDoor
after_task driver door =
    if not_ticket door.ticket then refused CLIENT_TICKET driver door
    else option_map_or (λ task. with_submitted door (task_by driver door.client door.ticket task)) (task_numbered door.function door.tag)
    (refused CLIENT_FUNCTION driver door)

-- TDS THAT ARE LEFT OVER

-- where a retirement began, its doorbell is told
abbrev pub with_retired : UasDriverDoor → CallAfter (Result Bool Refusal) → DoorAfter DriverState UasDriverDoor
with_retired door (after, Ok begun, doors) = (0, (after, record (with_doorbells door doors) { acted = yes begun }))
with_retired door (after, Err refusal, doors) = refused (driver_refusal refusal) after door

-- RETIRE (3)
abbrev pub after_retire : DriverState → UasDriverDoor → DoorAfter DriverState UasDriverDoor
after_retire driver door =
    option_map_or (λ pipe. with_retired door (retire_by driver pipe door.tag)) (pipe_numbered door.pipe) (refused DRIVER_RING driver door)

-- The least tag above this one whose TD on a pipe is left over. Worked: of two clients, whose greatest tag is 32, the tags above 30 that
-- are looked at are 31 and 32.
abbrev pub next_left_over : HostState → Pipe → ℕ → Option ℕ
next_left_over host pipe tag = find (is_left_over_on host pipe) (range_with_len (tag + 1) (length host.clients * host.tags - tag))

abbrev pub with_next : UasDriverDoor → Option ℕ → UasDriverDoor
with_next door None = record door { acted = 0 }
with_next door (Some next) = record door { acted = 1; tag = next }

-- LEFT_OVER (4)
abbrev pub after_left_over : DriverState → UasDriverDoor → DoorAfter DriverState UasDriverDoor
after_left_over driver door =
    option_map_or (λ pipe. (0, (driver, with_next door (next_left_over driver.host pipe door.tag)))) (pipe_numbered door.pipe)
    (refused DRIVER_RING driver door)

-- EVENTS

-- the event that a door names by its TRB's type: 32 a transfer event, 33 a command completion event
abbrev pub event_named : UasDriverDoor → Option Event
event_named door =
    numbered ((32, events.Transfer door.address door.length door.code door.endpoint door.slot) ∷ (33, events.Command door.address door.code door.slot) ∷ [])
    door.kind

-- what the driver made of an event: 0 nothing, 1 it ended a TD of a tag, 2 it was of the command under way, 3 it was of what isn't over
-- by it
abbrev pub with_taken : UasDriverDoor → Taken → UasDriverDoor
with_taken door (Matched tag) = record door { acted = 1; tag = tag }
with_taken door Engine = record door { acted = 2 }
with_taken door Noted = record door { acted = 3 }
with_taken door Stray = record door { acted = 0 }

abbrev pub with_event : UasDriverDoor → CallAfter Taken → DoorAfter DriverState UasDriverDoor
with_event door (after, taken, doors) = (0, (after, with_taken (with_doorbells door doors) taken))

-- EVENT (5)
abbrev pub after_event : DriverState → UasDriverDoor → DoorAfter DriverState UasDriverDoor
after_event driver door = option_map_or (λ event. with_event door (event_by driver event)) (event_named door) (refused DRIVER_EVENT driver door)

-- REPLIES

-- what is told of an answer: a reply, and the bytes that were moved; 4 is a command that failed, with its completion code
abbrev pub answer_of : List ℕ → Answer → ToldAnswer
answer_of before (answers.Status tag ticket status sense buffer moved) =
    record { reply = told_status tag ticket status sense.items (told_length buffer); moved = moved }
answer_of before (answers.Aborted tag ticket buffer moved) =
    record { reply = told_without_sense 2 tag ticket 0 before (told_length buffer); moved = moved }
answer_of before (answers.Failed tag ticket code buffer moved) =
    record { reply = told_without_sense 4 tag ticket code before (option_map_or told_length buffer 0); moved = moved }
answer_of before (answers.Task tag ticket code) = record { reply = told_without_sense 3 tag ticket code before 0; moved = 0 }

-- the bytes once it was told
abbrev pub with_answer_bytes : List ℕ → Answer → List ℕ
with_answer_bytes bytes (answers.Status tag ticket status sense buffer moved) = overlaid buffer bytes
with_answer_bytes bytes (answers.Aborted tag ticket buffer moved) = overlaid buffer bytes
with_answer_bytes bytes (answers.Failed tag ticket code buffer moved) = option_map_or (λ buffer. overlaid buffer bytes) buffer bytes
with_answer_bytes bytes (answers.Task tag ticket code) = bytes

-- the door once an answer was told
abbrev pub with_answer : UasDriverDoor → ToldAnswer → UasDriverDoor
with_answer door told = record door {
  acted = 1;
  reply = told.reply.kind;
  tag = told.reply.tag;
  ticket = told.reply.ticket;
  status = told.reply.status;
  sense_length = told.reply.sense_length;
  sense = told.reply.sense;
  length = told.reply.length;
  moved = told.moved;
}

abbrev pub with_given : UasDriverDoor → List ℕ → DriverState → Option Answer → After DriverState UasDriverDoor
with_given door bytes after None = (0, (after, (record door { acted = 0 }, bytes)))
with_given door bytes after (Some answer) = (0, (after, (with_answer door (answer_of door.sense answer), with_answer_bytes bytes answer)))

-- REPLY (6): the client's oldest; refused where there is no room for the longest buffer, 128 blocks
abbrev pub after_reply : DriverState → UasDriverDoor → List ℕ → After DriverState UasDriverDoor
after_reply driver door bytes =
    if nat_lt (length bytes) 65536 then with_bytes bytes (refused CLIENT_LENGTH driver door)
    else (let given = reply_by driver door.client in with_given door bytes given.0 given.1)

-- WHAT THE CONTROLLER BEYOND READS AND WRITES

-- READ (7): as many bytes as there are
abbrev pub after_read : DriverState → UasDriverDoor → List ℕ → After DriverState UasDriverDoor
after_read driver door bytes = with_read driver door bytes (read_by driver door.address (length bytes))

abbrev pub with_written : UasDriverDoor → DriverState × Result (Unit {0}) Refusal → DoorAfter DriverState UasDriverDoor
with_written door (after, Ok done) = (0, (after, door))
with_written door (after, Err refusal) = refused (driver_refusal refusal) after door

-- WRITE (8)
abbrev pub after_write : DriverState → UasDriverDoor → List ℕ → DoorAfter DriverState UasDriverDoor
after_write driver door bytes = with_written door (write_by driver door.address bytes)

-- ITEM (9) into 16 bytes
abbrev pub after_item : DriverState → UasDriverDoor → List ℕ → After DriverState UasDriverDoor
after_item driver door bytes =
    if not (length bytes == 16) then with_bytes bytes (refused CLIENT_LENGTH driver door)
    else option_map_or (λ item. (0, (driver, (door, item)))) (item_by driver door.address) (with_bytes bytes (refused DRIVER_ADDRESS driver door))

-- CONTEXT (10) into 16 bytes
abbrev pub after_context : DriverState → UasDriverDoor → List ℕ → After DriverState UasDriverDoor
after_context driver door bytes =
    if not (length bytes == 16) then with_bytes bytes (refused CLIENT_LENGTH driver door)
    else option_map_or (λ pipe. with_read driver door bytes (context_by driver pipe door.stream)) (pipe_numbered door.pipe)
    (with_bytes bytes (refused DRIVER_RING driver door))

-- COMMANDS THAT ARE GIVEN UP, AND ENDPOINTS

-- GIVE_UP (11)
abbrev pub after_give_up : DriverState → UasDriverDoor → DoorAfter DriverState UasDriverDoor
after_give_up driver door = with_submitted door (give_up_by driver door.client door.tag)

-- the pipe of a number, the command pipe too
abbrev pub endpoint_numbered : ℕ → Option Pipe
endpoint_numbered = numbered ((1, pipes.Status) ∷ (2, pipes.DataIn) ∷ (3, pipes.DataOut) ∷ (4, pipes.Command) ∷ [])

-- the state of an endpoint (xHCI 6.2.3, EP State) by its number; Error, 4, is halted too
abbrev pub state_numbered : ℕ → Option EndpointState
state_numbered = numbered ((1, states.Running) ∷ (2, states.Halted) ∷ (3, states.Stopped) ∷ (4, states.Halted) ∷ [])

abbrev pub with_stated : UasDriverDoor → DriverState × List ℕ → DoorAfter DriverState UasDriverDoor
with_stated door (after, doors) = (0, (after, with_doorbells door doors))

abbrev pub after_pipe_state : DriverState → UasDriverDoor → Pipe → DoorAfter DriverState UasDriverDoor
after_pipe_state driver door pipe =
    option_map_or (λ state. with_stated door (stated driver pipe state)) (state_numbered door.state) (refused DRIVER_STATE driver door)

-- STATE (12)
abbrev pub after_state : DriverState → UasDriverDoor → DoorAfter DriverState UasDriverDoor
after_state driver door = option_map_or (after_pipe_state driver door) (endpoint_numbered door.pipe) (refused DRIVER_RING driver door)

-- the number of a pipe's endpoint
abbrev pub number_of_endpoint : Pipe → ℕ
number_of_endpoint pipes.Status = 1
number_of_endpoint pipes.DataIn = 2
number_of_endpoint pipes.DataOut = 3
number_of_endpoint pipes.Command = 4

abbrev pub with_wanted : UasDriverDoor → Option Pipe → UasDriverDoor
with_wanted door None = record door { acted = 0 }
with_wanted door (Some pipe) = record door { acted = 1; pipe = number_of_endpoint pipe }

-- WANTED (13)
abbrev pub after_wanted : DriverState → UasDriverDoor → DoorAfter DriverState UasDriverDoor
after_wanted driver door = (0, (driver, with_wanted door (wanted_state driver)))

-- STRAYS (14)
abbrev pub after_strays : DriverState → UasDriverDoor → DoorAfter DriverState UasDriverDoor
after_strays driver door = (0, (driver, record door { address = driver.strays }))

-- A CALL

abbrev pub driver_call : ℕ → Option DriverCall
driver_call =
    numbered ((1, calls.Submit) ∷ (2, calls.Task) ∷ (3, calls.Retire) ∷ (4, calls.LeftOver) ∷ (5, calls.Event) ∷ (6, calls.Reply) ∷ (7, calls.Read)
    ∷ (8, calls.Write) ∷ (9, calls.Item) ∷ (10, calls.Context) ∷ (11, calls.GiveUp) ∷ (12, calls.State) ∷ (13, calls.Wanted) ∷ (14, calls.Strays) ∷ [])

-- what each call makes, where it answers this number
abbrev pub after_driver_named : ℕ → DriverState → UasDriverDoor → List ℕ → DriverCall → After DriverState UasDriverDoor
after_driver_named number driver door bytes calls.Submit = with_bytes bytes (after_submit number driver door bytes)
after_driver_named number driver door bytes calls.Task = with_bytes bytes (after_task driver door)
after_driver_named number driver door bytes calls.Retire = with_bytes bytes (after_retire driver door)
after_driver_named number driver door bytes calls.LeftOver = with_bytes bytes (after_left_over driver door)
after_driver_named number driver door bytes calls.Event = with_bytes bytes (after_event driver door)
after_driver_named number driver door bytes calls.Reply = after_reply driver door bytes
after_driver_named number driver door bytes calls.Read = after_read driver door bytes
after_driver_named number driver door bytes calls.Write = with_bytes bytes (after_write driver door bytes)
after_driver_named number driver door bytes calls.Item = after_item driver door bytes
after_driver_named number driver door bytes calls.Context = after_context driver door bytes
after_driver_named number driver door bytes calls.GiveUp = with_bytes bytes (after_give_up driver door)
after_driver_named number driver door bytes calls.State = with_bytes bytes (after_state driver door)
after_driver_named number driver door bytes calls.Wanted = with_bytes bytes (after_wanted driver door)
after_driver_named number driver door bytes calls.Strays = with_bytes bytes (after_strays driver door)

-- the call that a door names, or that there is no such call
abbrev pub driver_answer : ℕ → DriverState → UasDriverDoor → List ℕ → After DriverState UasDriverDoor
driver_answer number driver door bytes =
    option_map_or (after_driver_named number driver door bytes) (driver_call door.call) (with_bytes bytes (refused CLIENT_CALL driver door))

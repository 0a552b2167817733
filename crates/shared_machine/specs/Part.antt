-- One client's part of the shared machine, and what each step does to it.
use Rattle.std.specs.Prelude.{ℕ, suc, ◌+◌, ◌==◌, Bool, true, false, List, [], ◌∷◌, ◌++◌, if◌then◌else◌, Option, Some, None, is_some, option_and_then, slice_set}
use Rattle.std.specs.Prelude.{map, option_map, replicate, take, ◌&&◌}
use Rattle.block_unit.specs.BlockMaps.{BlockMaps}
use Rattle.scsi_cmd.specs.Request.{ended_by, is_command}
use Rattle.scsi_cmd.specs.declared.Command.{Command}
use Rattle.uas_profile.specs.declared.Pipe.{Pipe}
use Rattle.scsi_cmd.specs.declared.Reply.{Reply}
use Rattle.scsi_cmd.specs.declared.Request.{Request}
use Rattle.scsi_cmd.specs.declared.Request.TheVariants.{Execute, Manage}
use Rattle.scsi_cmd.specs.declared.SubmitFault.{SubmitFault}
use Rattle.scsi_cmd.specs.Op.{moved_bytes}
use Rattle.scsi_cmd.specs.declared.Task.{Task}
use Rattle.scsi_cmd.specs.declared.Task.TheVariants.{Abort, Reset, Query}
use Rattle.uas_profile.specs.declared.TheConstants.{MOST_TAGS}
use Rattle.solo_model.specs.TaggedTask.{TaggedTask}
use Rattle.solo_model.specs.declared.Phase.{Phase}
use Rattle.solo_model.specs.declared.Phase.TheVariants.{Queued, Begun, Sent, Gone}
use Rattle.device_server.specs.declared.Answer.TheVariants.{Good, Check}
use Rattle.solo_model.specs.declared.TaskAnswer.{TaskAnswer}
use Rattle.solo_model.specs.declared.TaskAnswer.TheVariants.{WithStatus, WithResponse}
use Rattle.solo_model.specs.declared.TaskProgress.TheVariants.{Moving, Ended}
use Rattle.scsi_cmd.specs.Held.{held_at}
use Rattle.solo_model.specs.TaggedTask.{after_notes, finds, is_noted, queued, queued_management, carried, moved, sent, reply_of}
use Rattle.scsi_cmd.specs.Submission.{first_submit_fault, first_task_fault}
use Rattle.shared_machine.specs.Tests.{is_pending}
use Rattle.uas_profile.specs.declared.Place.{Place}
use Rattle.shared_machine.specs.declared.Td.{Td}
use Rattle.shared_machine.specs.Td.{Entry}
use Rattle.shared_machine.specs.declared.Completion.{Completion}
use Rattle.shared_machine.specs.declared.Completion.TheVariants.{CommandDone, DataDone, StatusDone, EngineDone}
use Rattle.shared_machine.specs.declared.Mark.{Mark}
use Rattle.shared_machine.specs.declared.Mark.TheVariants.{Carry, Move, Send, Settle, Quiet}
use Rattle.uas_profile.specs.Tags.{command_slot, tag_of, task_slot}
use Rattle.shared_machine.specs.Td.{pushed, data_trbs, is_awaited, left_over_data, left_over_td, with_trb_taken, with_event_seen}
use Rattle.shared_machine.specs.Td.{data_after_status, is_ready, passed_on, retired_on}
use Rattle.std.specs.Prelude.{◌-◌, ◌*◌}

-- a client's number, unit, entries by slot, least ticket, and ready slots in order
pub record Part : Type 0 where
  pub number : ℕ
  pub unit : BlockMaps
  pub entries : List (Option Entry)
  pub least_ticket : ℕ
  pub ready : List ℕ

-- the part of a client that has submitted nothing
abbrev pub new_part : ℕ → BlockMaps → Part
new_part number unit = record { number = number; unit = unit; entries = replicate MOST_TAGS None; least_ticket = 0; ready = [] }

-- the part with this under a slot
abbrev pub with_entry : Part → ℕ → Entry → Part
with_entry part slot entry = record part { entries = slice_set part.entries slot (Some entry) }

-- What a step does to one client's part, and its notice: the event that the controller posts, the mark, the reply.
pub record Act : Type 0 where
  pub part : Part
  pub event : Option Completion
  pub mark : Mark
  pub reply : Option Reply

abbrev pub without_reply : Part → Option Completion → Mark → Act
without_reply part event mark = record { part = part; event = event; mark = mark; reply = None }

-- nothing changes
abbrev pub nothing : Part → Act
nothing part = without_reply part None Quiet

-- SUBMIT

-- only a command that moves bytes has a data TD
abbrev pub data_td_for : ℕ → Option Td
data_td_for bytes = if bytes == 0 then None else Some pushed

-- the entry of a command that was just submitted
abbrev pub new_entry : ℕ → Command → Entry
new_entry ticket command = record {
  task = queued ticket command;
  command_td = pushed;
  status_td = pushed;
  data_td = data_td_for (moved_bytes command.op);
}

-- the first fault of a submission under a command slot of the client
abbrev pub fault_at : Part → ℕ → ℕ → Command → Option SubmitFault
fault_at part slot ticket command = first_submit_fault true (is_some (held_at part.entries slot)) part.least_ticket ticket command

abbrev pub submitted_part : Part → ℕ → ℕ → Command → Part
submitted_part part slot ticket command = record (with_entry part slot (new_entry ticket command)) { least_ticket = ticket + 1 }

-- TASK MANAGEMENT (SAM, ABORT TASK, LOGICAL UNIT RESET and QUERY TASK)

-- the tickets of what is held, by rising slot
abbrev pub tickets_of : List (Option Entry) → List ℕ
tickets_of [] = []
tickets_of (None ∷ places) = tickets_of places
tickets_of (Some entry ∷ places) = entry.task.ticket ∷ tickets_of places

-- the command slot of the client that an abort or a query names, where its tag has one
abbrev pub named_slot : ℕ → ℕ → ℕ → Task → Option ℕ
named_slot tags clients client (Abort tag) = command_slot tags clients client tag
named_slot tags clients client Reset = None
named_slot tags clients client (Query tag) = command_slot tags clients client tag

abbrev pub named_entry : Part → Option ℕ → Option Entry
named_entry part None = None
named_entry part (Some slot) = held_at part.entries slot

-- there is something to manage: for an abort and a query the command that its tag names
abbrev pub is_there : Part → Option ℕ → Task → Bool
is_there part slot (Abort tag) = is_some (named_entry part slot)
is_there part slot Reset = true
is_there part slot (Query tag) = is_some (named_entry part slot)

-- the tickets that a task management notes: an abort and a query that of the command under its tag, a reset those of all commands of the
-- client
abbrev pub noted_tickets : ℕ → Part → Option ℕ → Task → List ℕ
noted_tickets tags part slot (Abort tag) = tickets_of (named_entry part slot ∷ [])
noted_tickets tags part slot Reset = tickets_of (take (task_slot tags) part.entries)
noted_tickets tags part slot (Query tag) = tickets_of (named_entry part slot ∷ [])

-- the first fault of a task management of a client that is there
abbrev pub task_fault_at : ℕ → Part → Option ℕ → ℕ → Task → Option SubmitFault
task_fault_at tags part slot ticket task =
    first_task_fault true (is_some (held_at part.entries (task_slot tags))) part.least_ticket ticket (is_there part slot task)

-- the entry of a task management that was just submitted
abbrev pub new_management : ℕ → Task → List ℕ → Entry
new_management ticket task noted =
    record { task = queued_management ticket task noted; command_td = pushed; status_td = pushed; data_td = None }

abbrev pub managed_part : ℕ → Part → Option ℕ → ℕ → Task → Part
managed_part tags part slot ticket task =
    record (with_entry part (task_slot tags) (new_management ticket task (noted_tickets tags part slot task))) { least_ticket = ticket + 1 }

-- CARRY

-- the entry once a task management that ends these tickets is carried: its task may be gone, its TDs stay as they are
abbrev pub noted_entry : List ℕ → Entry → Entry
noted_entry noted entry = record entry { task = after_notes noted entry.task }

-- the client's entries once a request is carried; a command changes nothing of the others
abbrev pub entries_after : Request → List (Option Entry) → List (Option Entry)
entries_after (Execute op) entries = entries
entries_after (Manage what noted) entries = map (option_map (noted_entry (ended_by what noted).items)) entries

-- the tasks of the entries, by slot
abbrev pub tasks_in : List (Option Entry) → List (Option TaggedTask)
tasks_in entries = map (option_map (λ entry. entry.task)) entries

abbrev pub with_request_carried : Part → Entry → Part
with_request_carried part entry = record part { entries = entries_after entry.task.request part.entries }

abbrev pub carried_entry : Part → ℕ → Place → Entry → Option (BlockMaps × TaggedTask) → Act
carried_entry part slot place entry None = nothing part
carried_entry part slot place entry (Some after) = without_reply
    (with_entry (record (with_request_carried part entry) { unit = after.0 }) slot
    (record entry { task = after.1; command_td = with_trb_taken entry.command_td }))
    (Some (CommandDone place)) (Carry (suc slot))

abbrev pub carried_slot : Part → ℕ → Place → Option Entry → Act
carried_slot part slot place None = nothing part
carried_slot part slot place (Some entry) =
    carried_entry part slot place entry (carried part.unit (finds entry.task.request (tasks_in part.entries)) entry.task)

-- the device receives the request under this slot
abbrev pub carry_act : Place → Part → Act
carry_act place part = carried_slot part place.slot place (held_at part.entries place.slot)

-- MOVE

-- a chunk that met a bad block takes no TRB: it ended the command with CHECK CONDITION
abbrev pub ended_whole : TaskAnswer → Bool
ended_whole (WithStatus Good) = true
ended_whole (WithStatus (Check sense)) = false
ended_whole (WithResponse code) = true

abbrev pub took_trb : Phase → Bool
took_trb Queued = true
took_trb (Begun (Moving chunk)) = true
took_trb (Begun (Ended answer)) = ended_whole answer
took_trb (Sent answer) = true
took_trb Gone = true

abbrev pub data_td_after : Bool → Option Td → Option Td
data_td_after taken None = None
data_td_after taken (Some td) = Some (if taken then with_trb_taken td else td)

-- the event of a data TD comes with its last TRB
abbrev pub is_last_trb : Bool → ℕ → Option Td → Bool
is_last_trb taken trbs None = false
is_last_trb taken trbs (Some td) = if taken then (td.consumed + 1 == trbs) else false

abbrev pub moved_entry : Part → ℕ → Place → Entry → Option (BlockMaps × TaggedTask) → Act
moved_entry part slot place entry None = nothing part
moved_entry part slot place entry (Some after) = without_reply
    (with_entry (record part { unit = after.0 }) slot (record entry { task = after.1; data_td = data_td_after (took_trb after.1.phase) entry.data_td }))
    (if is_last_trb (took_trb after.1.phase) (data_trbs entry.task.request) entry.data_td then Some (DataDone place) else None)
    (Move (suc slot))

abbrev pub moved_slot : Part → ℕ → Place → Option Entry → Act
moved_slot part slot place None = nothing part
moved_slot part slot place (Some entry) = moved_entry part slot place entry (moved part.unit entry.task)

-- the device moves a chunk under this slot
abbrev pub move_act : Place → Part → Act
move_act place part = moved_slot part place.slot place (held_at part.entries place.slot)

-- SEND

abbrev pub sent_entry : Part → ℕ → Place → Entry → Option TaggedTask → Act
sent_entry part slot place entry None = nothing part
sent_entry part slot place entry (Some task) = without_reply
    (with_entry part slot (record entry { task = task; status_td = with_trb_taken entry.status_td })) (Some (StatusDone place)) (Send (suc slot))

abbrev pub sent_slot : Part → ℕ → Place → Option Entry → Act
sent_slot part slot place None = nothing part
sent_slot part slot place (Some entry) = sent_entry part slot place entry (sent entry.task)

-- the device hands over the answer under this slot
abbrev pub send_act : Place → Part → Act
send_act place part = sent_slot part place.slot place (held_at part.entries place.slot)

-- EVENT

-- The entry once the host has seen the event, or none where it awaits no such event. CHECK CONDITION leaves an
-- unseen data TD over.
abbrev pub seen_command : Entry → Option Entry
seen_command entry = if is_awaited entry.command_td 1 then Some (record entry { command_td = with_event_seen entry.command_td }) else None

abbrev pub seen_data_td : Entry → Option Td → Option Entry
seen_data_td entry None = None
seen_data_td entry (Some td) =
    if is_awaited td (data_trbs entry.task.request) then Some (record entry { data_td = Some (with_event_seen td) }) else None

abbrev pub seen_data : Entry → Option Entry
seen_data entry = seen_data_td entry entry.data_td

abbrev pub seen_status : Entry → Option Entry
seen_status entry =
    if is_awaited entry.status_td 1
    then Some (record entry { status_td = with_event_seen entry.status_td; data_td = data_after_status entry.task.phase entry.data_td })
    else None

-- Which TD an event is of. An event of the controller's own commands is of none that the host waits for.
abbrev pub seen_by : Completion → Entry → Option Entry
seen_by (CommandDone place) entry = seen_command entry
seen_by (DataDone place) entry = seen_data entry
seen_by (StatusDone place) entry = seen_status entry
seen_by (EngineDone place) entry = None

abbrev pub event_place : Completion → Place
event_place (CommandDone place) = place
event_place (DataDone place) = place
event_place (StatusDone place) = place
event_place (EngineDone place) = place

-- a command that is ready now is the last of the ready ones
abbrev pub ready_after : List ℕ → ℕ → Entry → List ℕ
ready_after ready slot entry = if is_ready entry then ready ++ slot ∷ [] else ready

-- A command that a task management ends, still under its tag by its ticket, whose status can't come any more once the response came.
abbrev pub is_doomed : List ℕ → Entry → Bool
is_doomed noted entry = is_command entry.task.request && (is_pending entry.status_td.state && is_noted noted entry.task.ticket)

-- its status TD is left over, and its data TD where unseen
abbrev pub doomed : List ℕ → Entry → Entry
doomed noted entry =
    if is_doomed noted entry
    then record entry { status_td = left_over_td entry.status_td; data_td = left_over_data entry.data_td } else entry

-- what the client has once the response to a request was seen; the status of a command changes nothing of the others
abbrev pub after_answer : Request → List (Option Entry) → List (Option Entry)
after_answer (Execute op) entries = entries
after_answer (Manage what noted) entries = map (option_map (doomed (ended_by what noted).items)) entries

abbrev pub after_event : Completion → Request → List (Option Entry) → List (Option Entry)
after_event (CommandDone place) request entries = entries
after_event (DataDone place) request entries = entries
after_event (StatusDone place) request entries = after_answer request entries
after_event (EngineDone place) request entries = entries

-- No doomed command is ready by the response, as its status TD is left over.
abbrev pub seen_entry : Completion → Part → ℕ → Option Entry → Act
seen_entry event part slot None = nothing part
seen_entry event part slot (Some entry) =
    nothing (record part {
      entries = after_event event entry.task.request (slice_set part.entries slot (Some entry));
      ready = ready_after part.ready slot entry;
    })

-- the host takes an event of this client
abbrev pub event_act : Completion → Part → Act
event_act event part =
    seen_entry event part (event_place event).slot (option_and_then (seen_by event) (held_at part.entries (event_place event).slot))

-- RETIREMENT

-- Stop Endpoint changes nothing of the client
abbrev pub stop_act : Place → Part → Act
stop_act place part = without_reply part (Some (EngineDone place)) Quiet

-- Set TR Dequeue Pointer moves the controller past the TD that is retired
abbrev pub passed_slot : Pipe → Part → Place → Option Entry → Act
passed_slot pipe part place None = nothing part
passed_slot pipe part place (Some entry) =
    without_reply (with_entry part place.slot (passed_on pipe entry)) (Some (EngineDone place)) Quiet

abbrev pub pass_act : Pipe → Place → Part → Act
pass_act pipe place part = passed_slot pipe part place (held_at part.entries place.slot)

-- the host retires the TD, as it takes that command's event
abbrev pub retire_act : Pipe → Place → Part → Act
retire_act pipe place part = seen_entry (EngineDone place) part place.slot (option_and_then (retired_on pipe) (held_at part.entries place.slot))

-- TAKE

-- No reply can't come: a ready slot holds an entry whose answer was sent.
abbrev pub settled : Part → ℕ → List ℕ → Option Reply → Act
settled part slot rest None = nothing part
settled part slot rest (Some reply) = record {
  part = record part { entries = slice_set part.entries slot None; ready = rest };
  event = None;
  mark = Settle (suc slot);
  reply = Some reply;
}

-- the tag of a slot of this client
abbrev pub slot_tag : ℕ → ℕ → ℕ → ℕ
slot_tag tags client slot = tag_of tags (record { client = client; slot = slot })

-- the reply of an entry
abbrev pub entry_reply : ℕ → Entry → Option Reply
entry_reply tag entry = reply_of tag entry.task

abbrev pub taken : ℕ → ℕ → Part → List ℕ → Act
taken tags client part [] = nothing part
taken tags client part (slot ∷ rest) =
    settled part slot rest (option_and_then (entry_reply (slot_tag tags client slot)) (held_at part.entries slot))

-- the client takes the reply that was ready first
abbrev pub take_act : ℕ → ℕ → Part → Act
take_act tags client part = taken tags client part part.ready

-- tag t of client c becomes t - tags c
abbrev pub own_tag : ℕ → ℕ → ℕ → ℕ
own_tag tags client tag = tag - client * tags

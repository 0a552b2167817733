-- The solo machine: one client, with no queue, event, pipe or ring.
use Rattle.std.specs.Prelude.{◌≡◌, MatchOption, slice_set, ℕ, zero, suc, ◌+◌, ◌^◌, ◌<◌, nat_lt, Bool, true, false, if◌then◌else◌}
use Rattle.std.specs.Prelude.{List, [], ◌∷◌, take, map, Option, Some, None, is_some, option_map, option_and_then}
use Rattle.std.specs.Prelude.{Result, Ok, Err, replicate}
use Rattle.std.specs.List.{filter_map}
use Rattle.arrayvec.specs.ArrayVec.{ArrayVec}
use Rattle.block_unit.specs.BlockMaps.{BlockMaps}
use Rattle.scsi_cmd.specs.declared.Command.{Command}
use Rattle.scsi_cmd.specs.declared.Reply.{Reply}
use Rattle.scsi_cmd.specs.declared.SubmitFault.{SubmitFault}
use Rattle.scsi_cmd.specs.declared.Request.{Request}
use Rattle.scsi_cmd.specs.declared.Request.TheVariants.{Execute, Manage}
use Rattle.scsi_cmd.specs.declared.Task.{Task}
use Rattle.scsi_cmd.specs.declared.Task.TheVariants.{Abort, Reset, Query}
use Rattle.scsi_cmd.specs.Held.{held_at, held_under, with_held_under}
use Rattle.scsi_cmd.specs.Request.{ended_by}
use Rattle.solo_model.specs.TaggedTask.{after_notes, carried, finds, moved, queued, queued_management, reply_of, sent}
use Rattle.scsi_cmd.specs.Submission.{first_submit_fault, first_task_fault}
use Rattle.solo_model.specs.TaggedTask.{TaggedTask}
use Rattle.solo_model.specs.declared.Label.{Label}
use Rattle.solo_model.specs.declared.Label.TheVariants.{Submit, Task as TaskLabel, Carry, Move, Send, Settle}
use Rattle.solo_model.specs.declared.NotARun.{NotARun}
use Rattle.uas_profile.specs.declared.TheConstants.{MOST_TAGS}
use Rattle.uas_profile.specs.Tags.{task_slot}

-- how many tags the client has, a unit, the tasks by slot (index less 1), and the least ticket that a submission may have
pub record SoloState : Type 0 where
  pub tags : ℕ
  pub unit : BlockMaps
  pub tasks : List (Option TaggedTask)
  pub least_ticket : ℕ

-- no task yet
abbrev pub opening : ℕ → BlockMaps → SoloState
opening tags unit = record { tags = tags; unit = unit; tasks = replicate MOST_TAGS None; least_ticket = 0 }

-- the slot of an index that has a place: index 1 has slot 0 and index 16 slot 15, 0 and 17 have none
abbrev pub slot_under : ℕ → Option ℕ
slot_under zero = None
slot_under (suc slot) = if nat_lt slot MOST_TAGS then Some slot else None

-- commands have the indices 1 to task_slot; the last one, tags, is for task management
abbrev pub is_command_index : ℕ → ℕ → Bool
is_command_index tags zero = false
is_command_index tags (suc slot) = nat_lt slot (task_slot tags)

-- the unit and the task of this index are now these
abbrev pub with_task : SoloState → ℕ → BlockMaps × TaggedTask → SoloState
with_task state index after =
    record state { unit = after.0; tasks = with_held_under state.tasks index (Some after.1) }

-- no task has this index
abbrev pub without_task : SoloState → ℕ → SoloState
without_task state index = record state { tasks = with_held_under state.tasks index None }

-- a state with no reply
abbrev pub silently : SoloState → SoloState × Option Reply
silently state = (state, None)

abbrev pub submitted : SoloState → ℕ → ℕ → Command → Option SubmitFault → Option (SoloState × Option Reply)
submitted state index ticket command None =
    Some (silently (record (with_task state index (state.unit, queued ticket command)) { least_ticket = ticket + 1 }))
submitted state index ticket command (Some fault) = None

-- TASK MANAGEMENT

-- the command under an index, where there is one
abbrev pub command_under : ℕ → List (Option TaggedTask) → ℕ → Option TaggedTask
command_under tags tasks index = if is_command_index tags index then held_under tasks index else None

-- what is to be managed is there: of an abort and a query the command under its index, of a reset always
abbrev pub is_there : ℕ → List (Option TaggedTask) → Task → Bool
is_there tags tasks (Abort index) = is_some (command_under tags tasks index)
is_there tags tasks Reset = true
is_there tags tasks (Query index) = is_some (command_under tags tasks index)

abbrev pub tickets_of : List (Option TaggedTask) → List ℕ
tickets_of tasks = filter_map (option_map (λ task. task.ticket)) tasks

-- The tickets that a task management notes: an abort and a query that of the command under its index, a reset those of all commands
-- that were submitted and not settled.
abbrev pub noted_tickets : ℕ → List (Option TaggedTask) → Task → List ℕ
noted_tickets tags tasks (Abort index) = tickets_of (command_under tags tasks index ∷ [])
noted_tickets tags tasks Reset = tickets_of (take (task_slot tags) tasks)
noted_tickets tags tasks (Query index) = tickets_of (command_under tags tasks index ∷ [])

-- the index of task management
abbrev pub task_index : ℕ → ℕ
task_index tags = suc (task_slot tags)

abbrev pub managed : SoloState → ℕ → Task → Option SubmitFault → Option (SoloState × Option Reply)
managed state ticket task None =
    Some (silently (record (with_task state (task_index state.tags)
    (state.unit, queued_management ticket task (noted_tickets state.tags state.tasks task))) { least_ticket = ticket + 1 }))
managed state ticket task (Some fault) = None

-- the tasks once a task management that ends these tickets is carried: commands of such a ticket are gone
abbrev pub heeded : Option (ArrayVec ℕ) → List (Option TaggedTask) → List (Option TaggedTask)
heeded None tasks = tasks
heeded (Some noted) tasks = map (option_map (after_notes noted.items)) tasks

-- what the client has once a request is carried; a command changes nothing of the others
abbrev pub after_request : Request → List (Option TaggedTask) → List (Option TaggedTask)
after_request (Execute op) tasks = tasks
after_request (Manage what noted) tasks = heeded (Some (ended_by what noted)) tasks

abbrev pub with_request_carried : SoloState → TaggedTask → SoloState
with_request_carried state task = record state { tasks = after_request task.request state.tasks }

abbrev pub carried_at : SoloState → ℕ → TaggedTask → Option (SoloState × Option Reply)
carried_at state index task =
    option_map (λ after. silently (with_task (with_request_carried state task) index after)) (carried state.unit (finds task.request state.tasks) task)

-- what carrying the request of a slot did, which found a command that it noted or didn't, or that it did nothing
abbrev pub IsCarried : BlockMaps → List (Option TaggedTask) → ℕ → Bool → Bool → BlockMaps → List (Option TaggedTask) → Type 0
IsCarried unit tasks slot found acted unit_now tasks_now = MatchOption (option_and_then (carried unit found) (held_at tasks slot))
    ((acted ≡ false) × (unit_now ≡ unit) × (tasks_now ≡ tasks))
    (λ after. (acted ≡ true) × (unit_now ≡ after.0) × (tasks_now ≡ slice_set tasks slot (Some after.1)))

-- One step. None: the label has no step here, so it isn't a run. Checked by hand: after Submit 1 and Carry 1 of TEST UNIT
-- READY, Send 1 is a step, and Carry 1, Move 1 and Settle 1 are none; the ticket 5 is taken where the least is 5.
abbrev pub solo_step : SoloState → Label → Option (SoloState × Option Reply)
solo_step state (Submit index ticket command) =
    submitted state index ticket command
    (first_submit_fault (is_command_index state.tags index) (is_some (held_under state.tasks index)) state.least_ticket ticket command)
solo_step state (TaskLabel ticket task) =
    managed state ticket task
    (first_task_fault true (is_some (held_under state.tasks (task_index state.tags))) state.least_ticket ticket (is_there state.tags state.tasks task))
solo_step state (Carry index) = option_and_then (carried_at state index) (held_under state.tasks index)
solo_step state (Move index) =
    option_map (λ after. silently (with_task state index after))
    (option_and_then (moved state.unit) (held_under state.tasks index))
solo_step state (Send index) =
    option_map (λ task. silently (with_task state index (state.unit, task)))
    (option_and_then sent (held_under state.tasks index))
solo_step state (Settle index) =
    option_map (λ reply. (without_task state index, Some reply))
    (option_and_then (reply_of index) (held_under state.tasks index))

-- the state and the answer of `apply`: an error leaves the state as it was
abbrev pub applied : SoloState → Option (SoloState × Option Reply) → SoloState × Result (Option Reply) NotARun
applied state None = (state, Err (record {}))
applied state (Some after) = (after.0, Ok after.1)

-- a reply before the replies that follow, where there is one
abbrev pub with_reply : Option Reply → SoloState × List Reply → SoloState × List Reply
with_reply None after = after
with_reply (Some reply) after = (after.0, reply ∷ after.1)

-- The solo run: the state after a list of labels and the replies in order; None where it isn't a run. Checked by hand: 16
-- blocks of 01 written under index 1 over zeros and the same blocks read under 2, by Submit 1, Submit 2, Carry 1, Carry 2,
-- Move 1, Move 2, Move 2, Move 1, Send 2, Settle 2: the one reply has 4,096 bytes 01 and then 4,096 bytes 00.
abbrev pub solo_run : SoloState → List Label → Option (SoloState × List Reply)
solo_run state [] = Some (state, [])
solo_run state (label ∷ labels) = option_and_then (λ after. option_map (with_reply after.1) (solo_run after.0 labels)) (solo_step state label)

-- every ticket that is handed in is below 2^60
abbrev pub TicketFits : Label → Type 0
TicketFits (Submit index ticket command) = ticket < 2 ^ 60
TicketFits (TaskLabel ticket task) = ticket < 2 ^ 60
TicketFits (Carry index) = Unit {0}
TicketFits (Move index) = Unit {0}
TicketFits (Send index) = Unit {0}
TicketFits (Settle index) = Unit {0}

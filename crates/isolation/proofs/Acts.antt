-- What an act on a part is to the client's own solo machine.
use Rattle.std.proofs.Common.{◌≡◌, ℕ, suc, Bool, true, false, cond, List, [], ◌∷◌, map, Option, Some, None, option_map, option_and_then, refl, arith, ap, sym, ◌∙◌}
use Rattle.std.specs.Prelude.{nat_lt, is_some, ◌&&◌, ◌||◌, slice_set}
use Rattle.std.specs.List.{list_any}
use Rattle.std.specs.Option.{option_map_or}
use Rattle.arrayvec.specs.ArrayVec.{ArrayVec}
use Rattle.std.proofs.Math.ListN.{get_or-map}
use Rattle.std.proofs.Math.Seq.{map-set_same}
use Rattle.std.proofs.lemmas.Option.{none-some}
use Rattle.std.proofs.lemmas.List.{map-set}
use Rattle.scsi_cmd.specs.Request.{ended_by, is_command}
use Rattle.scsi_cmd.specs.declared.Command.{Command}
use Rattle.scsi_cmd.specs.declared.Reply.{Reply}
use Rattle.scsi_cmd.specs.declared.Request.{Request}
use Rattle.scsi_cmd.specs.declared.Request.TheVariants.{Execute, Manage}
use Rattle.uas_profile.specs.Tags.{task_slot}
use Rattle.solo_model.specs.declared.Label.{Label}
use Rattle.solo_model.specs.declared.Label.TheVariants.{Submit as SubmitLabel}
use Rattle.scsi_cmd.specs.Held.{held_at}
use Rattle.solo_model.specs.Solo.{SoloState, after_request, solo_step, silently}
use Rattle.block_unit.specs.BlockMaps.{BlockMaps}
use Rattle.scsi_cmd.specs.declared.Task.{Task}
use Rattle.scsi_cmd.specs.declared.Task.TheVariants.{Abort, Reset, Query}
use Rattle.solo_model.specs.declared.TaskAnswer.{TaskAnswer}
use Rattle.solo_model.specs.declared.TaskAnswer.TheVariants.{WithStatus, WithResponse}
use Rattle.solo_model.specs.declared.TaskProgress.{TaskProgress}
use Rattle.solo_model.specs.declared.TaskProgress.TheVariants.{Moving, Ended}
use Rattle.solo_model.specs.declared.Phase.{Phase}
use Rattle.solo_model.specs.declared.Phase.TheVariants.{Queued, Begun, Sent, Gone}
use Rattle.solo_model.specs.TaggedTask.{TaggedTask, aborted_by, after_notes, answered_by, can_go, carried, carried_from, finds, moved, sent, is_noted, is_under_way}
use Rattle.solo_model.specs.TaggedTask.{moved_from, moved_request, reply_from, request_begun, response_to, sent_from, unit_managed}
use Rattle.uas_profile.specs.declared.Place.{Place}
use Rattle.uas_profile.specs.declared.Pipe.{Pipe}
use Rattle.shared_machine.specs.Td.{Entry, passed_on, passed_td, retired_on, trbs_on, with_trb_taken}
use Rattle.shared_machine.specs.declared.Completion.{Completion}
use Rattle.shared_machine.specs.declared.Completion.TheVariants.{CommandDone, DataDone, StatusDone, EngineDone}
use Rattle.shared_machine.specs.declared.Step.{Step}
use Rattle.shared_machine.specs.Part.{Part, Act, carry_act, move_act, send_act, event_act, seen_entry, event_place, seen_by, fault_at, submitted_part, take_act}
use Rattle.shared_machine.specs.Part.{pass_act, passed_slot, retire_act}
use Rattle.shared_machine.specs.Part.{carried_entry, carried_slot, data_td_after, entry_reply, moved_entry, moved_slot, new_entry, sent_entry, sent_slot, settled}
use Rattle.shared_machine.specs.Part.{taken, took_trb, after_answer, after_event, doomed, entries_after, noted_entry, slot_tag, tasks_in}
use Rattle.shared_machine.proofs.KeptTasks.{doomed-task, retired_on-task, seen_by-task, with_td_on-task}
use Rattle.isolation.specs.Isolation.{label_of, own_management, own_of, own_request, own_task, renumbered, solo_of}
use Rattle.shared_machine.specs.Part.{own_tag}

-- the solo machine's step on a label, and no step where there is none
abbrev pub solo_try : SoloState → Option Label → Option (SoloState × Option Reply)
solo_try state None = Some (silently state)
solo_try state (Some label) = solo_step state label

-- what a client's own solo machine makes of an act on its part
abbrev pub IsOwnAct : ℕ → ℕ → Step → Part → Act → Type 0
IsOwnAct tags client step part act =
    solo_try (solo_of tags client part) (label_of tags act.mark step) ≡ Some (solo_of tags client act.part, option_map (renumbered tags client) act.reply)

-- what the solo machine has in a slot is the task of the entry there
pub held_at-solo_of : (tags client : ℕ) (entries : List (Option Entry)) (slot : ℕ)
    → held_at (map (option_map (own_task tags client)) entries) slot ≡ option_map (own_task tags client) (held_at entries slot)
held_at-solo_of tags client entries slot = get_or-map (option_map (own_task tags client)) entries slot None

-- an entry that keeps its task
pub map-own_task : (tags client : ℕ) (entries : List (Option Entry)) (slot : ℕ) (now : Option Entry) →
    map (option_map (own_task tags client)) (slice_set entries slot now)
    ≡ slice_set (map (option_map (own_task tags client)) entries) slot (option_map (own_task tags client) now)
map-own_task tags client entries slot now = map-set (option_map (own_task tags client)) entries slot now

-- THE INDEX THAT AN ABORT OR A QUERY NAMES: nothing that is done of a task reads it

own_command : (tags client : ℕ) (request : Request) → is_command (own_request tags client request) ≡ is_command request
own_command tags client (Execute op) = refl
own_command tags client (Manage what noted) = refl

own_unit : (tags client : ℕ) (unit : BlockMaps) (what : Task) → unit_managed unit (own_management tags client what) ≡ unit_managed unit what
own_unit tags client unit (Abort tag) = refl
own_unit tags client unit Reset = refl
own_unit tags client unit (Query tag) = refl

own_response : (tags client : ℕ) (found : Bool) (what : Task) → response_to (own_management tags client what) found ≡ response_to what found
own_response tags client found (Abort tag) = refl
own_response tags client found Reset = refl
own_response tags client found (Query tag) = refl

own_ended : (tags client : ℕ) (what : Task) (noted : ArrayVec ℕ) → ended_by (own_management tags client what) noted ≡ ended_by what noted
own_ended tags client (Abort tag) noted = refl
own_ended tags client Reset noted = refl
own_ended tags client (Query tag) noted = refl

own_begun : (tags client : ℕ) (unit : BlockMaps) (found : Bool) (request : Request)
    → request_begun unit found (own_request tags client request) ≡ request_begun unit found request
own_begun tags client unit found (Execute op) = refl
own_begun tags client unit found (Manage what noted) =
    rw (own_unit tags client unit what, own_response tags client found what) refl

-- whether the device has what was noted reads phases and tickets
own_any : (tags client : ℕ) (noted : List ℕ) (entries : List (Option Entry))
    → list_any (λ held. option_map_or (is_under_way noted) held false) (map (option_map (own_task tags client)) entries)
    ≡ list_any (λ held. option_map_or (is_under_way noted) held false) (tasks_in entries)
own_any tags client noted [] = refl
own_any tags client noted (None ∷ entries) = own_any tags client noted entries
own_any tags client noted (Some entry ∷ entries) = ap (λ b. is_under_way noted entry.task || b) (own_any tags client noted entries)

own_finds : (tags client : ℕ) (request : Request) (entries : List (Option Entry))
    → finds (own_request tags client request) (map (option_map (own_task tags client)) entries) ≡ finds request (tasks_in entries)
own_finds tags client (Execute op) entries = refl
own_finds tags client (Manage what noted) entries = own_any tags client noted.items entries

abbrev own_after : ℕ → ℕ → BlockMaps × TaggedTask → BlockMaps × TaggedTask
own_after tags client after = (after.0, own_of tags client after.1)

carried_from-own : (tags client : ℕ) (unit : BlockMaps) (found : Bool) (task : TaggedTask) (phase : Phase)
    → carried_from unit found (own_of tags client task) phase ≡ option_map (own_after tags client) (carried_from unit found task phase)
carried_from-own tags client unit found task Queued =
    ap (λ (after : BlockMaps × TaskProgress). Some (after.0, record task { request = own_request tags client task.request; phase = Begun after.1 }))
    (own_begun tags client unit found task.request)
carried_from-own tags client unit found task (Begun progress) = refl
carried_from-own tags client unit found task (Sent answer) = refl
carried_from-own tags client unit found task Gone = refl

moved_request-own : (tags client : ℕ) (unit : BlockMaps) (task : TaggedTask) (chunk : ℕ) (request : Request) → task.request ≡ request
    → moved_request unit (own_of tags client task) chunk (own_request tags client request) ≡ option_map (own_after tags client) (moved_request unit task chunk request)
moved_request-own tags client unit task chunk (Execute op) is = rw is refl
moved_request-own tags client unit task chunk (Manage what noted) is = refl

moved_from-own : (tags client : ℕ) (unit : BlockMaps) (task : TaggedTask) (phase : Phase)
    → moved_from unit (own_of tags client task) phase ≡ option_map (own_after tags client) (moved_from unit task phase)
moved_from-own tags client unit task Queued = refl
moved_from-own tags client unit task (Begun (Moving chunk)) = moved_request-own tags client unit task chunk task.request refl
moved_from-own tags client unit task (Begun (Ended answer)) = refl
moved_from-own tags client unit task (Sent answer) = refl
moved_from-own tags client unit task Gone = refl

sent_from-own : (tags client : ℕ) (task : TaggedTask) (phase : Phase) → sent_from (own_of tags client task) phase ≡ option_map (own_of tags client) (sent_from task phase)
sent_from-own tags client task Queued = refl
sent_from-own tags client task (Begun (Moving chunk)) = refl
sent_from-own tags client task (Begun (Ended answer)) = refl
sent_from-own tags client task (Sent answer) = refl
sent_from-own tags client task Gone = refl

answered_by-own : (tags client tag ticket : ℕ) (buffer : List ℕ) (answer : TaskAnswer) (request : Request)
    → answered_by tag ticket buffer answer (own_request tags client request) ≡ answered_by tag ticket buffer answer request
answered_by-own tags client tag ticket buffer (WithStatus answer) (Execute op) = refl
answered_by-own tags client tag ticket buffer (WithStatus answer) (Manage what noted) = refl
answered_by-own tags client tag ticket buffer (WithResponse code) (Execute op) = refl
answered_by-own tags client tag ticket buffer (WithResponse code) (Manage what noted) = refl

aborted_by-own : (tags client tag ticket : ℕ) (buffer : List ℕ) (request : Request)
    → aborted_by tag ticket buffer (own_request tags client request) ≡ aborted_by tag ticket buffer request
aborted_by-own tags client tag ticket buffer (Execute op) = refl
aborted_by-own tags client tag ticket buffer (Manage what noted) = refl

reply_from-own : (tags client tag : ℕ) (task : TaggedTask) (phase : Phase) → reply_from tag (own_of tags client task) phase ≡ reply_from tag task phase
reply_from-own tags client tag task Queued = refl
reply_from-own tags client tag task (Begun progress) = refl
reply_from-own tags client tag task (Sent answer) = answered_by-own tags client tag task.ticket task.buffer answer task.request
reply_from-own tags client tag task Gone = aborted_by-own tags client tag task.ticket task.buffer task.request

after_notes-own : (tags client : ℕ) (noted : List ℕ) (task : TaggedTask) → after_notes noted (own_of tags client task) ≡ own_of tags client (after_notes noted task)
after_notes-own tags client noted task =
    rw (own_command tags client task.request)
    (elim (is_command task.request && can_go task.phase && is_noted noted task.ticket) as (λ b.
    cond b (record task { request = own_request tags client task.request; phase = Gone }) (own_of tags client task)
    ≡ own_of tags client (cond b (record task { phase = Gone }) task)) [
      | true ↦ refl
      | false ↦ refl
    ])

-- What a carried request does to the entries is what it does to the solo machine's tasks.
pub own_task-noted : (tags client : ℕ) (noted : List ℕ) (entries : List (Option Entry)) →
    map (option_map (own_task tags client)) (map (option_map (noted_entry noted)) entries)
    ≡ map (option_map (after_notes noted)) (map (option_map (own_task tags client)) entries)
own_task-noted tags client noted [] = refl
own_task-noted tags client noted (None ∷ entries) = ap (λ rest. None ∷ rest) (own_task-noted tags client noted entries)
own_task-noted tags client noted (Some entry ∷ entries) =
    ap (λ rest. Some (own_of tags client (after_notes noted entry.task)) ∷ rest) (own_task-noted tags client noted entries)
    ∙ ap (λ (task : TaggedTask). Some task ∷ map (option_map (after_notes noted)) (map (option_map (own_task tags client)) entries))
    (sym (after_notes-own tags client noted entry.task))

pub own_task-after : (tags client : ℕ) (request : Request) (entries : List (Option Entry)) →
    map (option_map (own_task tags client)) (entries_after request entries) ≡ after_request (own_request tags client request) (map (option_map (own_task tags client)) entries)
own_task-after tags client (Execute op) entries = refl
own_task-after tags client (Manage what noted) entries =
    own_task-noted tags client (ended_by what noted).items entries
    ∙ ap (λ (ended : ArrayVec ℕ). map (option_map (after_notes ended.items)) (map (option_map (own_task tags client)) entries)) (sym (own_ended tags client what noted))

-- an act on what is there, where there is anything: the client's own on whatever that is
found-own : {A : Type 0} (tags client : ℕ) (step : Step) (part : Part) (act : Option A → Act) (found : Option A) → IsOwnAct tags client step part (act None)
    → ((it : A) → found ≡ Some it → IsOwnAct tags client step part (act (Some it))) → IsOwnAct tags client step part (act found)
found-own tags client step part act None vacant on = vacant
found-own tags client step part act (Some it) vacant on = on it refl

-- the entry under a slot, as the solo machine has it
own_task-held : (tags client : ℕ) (entries : List (Option Entry)) (slot : ℕ) (entry : Entry) → held_at entries slot ≡ Some entry
    → held_at (map (option_map (own_task tags client)) entries) slot ≡ Some (own_of tags client entry.task)
own_task-held tags client entries slot entry is = held_at-solo_of tags client entries slot ∙ ap (option_map (own_task tags client)) is

-- the device receives the request under a slot
pub carry_act-own : (tags client : ℕ) (step : Step) (place : Place) (part : Part) → IsOwnAct tags client step part (carry_act place part)
carry_act-own tags client step place part =
    found-own tags client step part (carried_slot part place.slot place) (held_at part.entries place.slot) refl
    (λ entry is. found-own tags client step part (carried_entry part place.slot place entry)
    (carried part.unit (finds entry.task.request (tasks_in part.entries)) entry.task) refl
    (λ after begun. rw (
      own_task-held tags client part.entries place.slot entry is,
      own_finds tags client entry.task.request part.entries,
      carried_from-own tags client part.unit (finds entry.task.request (tasks_in part.entries)) entry.task entry.task.phase
          ∙ ap (option_map (own_after tags client)) begun,
      map-own_task tags client (entries_after entry.task.request part.entries) place.slot
          (Some (record entry { task = after.1; command_td = with_trb_taken entry.command_td })),
      own_task-after tags client entry.task.request part.entries,
    ) refl))

-- the device moves a chunk under a slot
pub move_act-own : (tags client : ℕ) (step : Step) (place : Place) (part : Part) → IsOwnAct tags client step part (move_act place part)
move_act-own tags client step place part =
    found-own tags client step part (moved_slot part place.slot place) (held_at part.entries place.slot) refl
    (λ entry is. found-own tags client step part (moved_entry part place.slot place entry) (moved part.unit entry.task) refl
    (λ after went.
    let now : Entry = record entry { task = after.1; data_td = data_td_after (took_trb after.1.phase) entry.data_td } in
    rw (
      own_task-held tags client part.entries place.slot entry is,
      moved_from-own tags client part.unit entry.task entry.task.phase ∙ ap (option_map (own_after tags client)) went,
      map-own_task tags client part.entries place.slot (Some now),
    ) refl))

-- the device hands over the answer under a slot
pub send_act-own : (tags client : ℕ) (step : Step) (place : Place) (part : Part) → IsOwnAct tags client step part (send_act place part)
send_act-own tags client step place part =
    found-own tags client step part (sent_slot part place.slot place) (held_at part.entries place.slot) refl
    (λ entry is. found-own tags client step part (sent_entry part place.slot place entry) (sent entry.task) refl
    (λ task went. rw (
      own_task-held tags client part.entries place.slot entry is,
      sent_from-own tags client entry.task entry.task.phase ∙ ap (option_map (own_of tags client)) went,
      map-own_task tags client part.entries place.slot (Some (record entry { task = task; status_td = with_trb_taken entry.status_td })),
    ) refl))

-- the same, of whatever a slot holds
pub seen_held-task : (tags client : ℕ) (event : Completion) (held : Option Entry) (seen : Entry) →
    option_and_then (seen_by event) held ≡ Some seen → option_map (own_task tags client) (Some seen) ≡ option_map (own_task tags client) held
seen_held-task tags client event None seen is = absurd (none-some seen is)
seen_held-task tags client event (Some entry) seen is =
    ap (λ (task : TaggedTask). Some (own_of tags client task)) (seen_by-task event entry seen is)

doomed-own : (tags client : ℕ) (noted : List ℕ) (entries : List (Option Entry)) → map (option_map (own_task tags client)) (map (option_map (doomed noted)) entries)
    ≡ map (option_map (own_task tags client)) entries
doomed-own tags client noted [] = refl
doomed-own tags client noted (None ∷ entries) = ap (λ rest. None ∷ rest) (doomed-own tags client noted entries)
doomed-own tags client noted (Some entry ∷ entries) =
    ap (λ rest. Some (own_task tags client (doomed noted entry)) ∷ rest) (doomed-own tags client noted entries)
    ∙ ap (λ (task : TaggedTask). Some (own_of tags client task) ∷ map (option_map (own_task tags client)) entries) (doomed-task noted entry)

after_answer-own : (tags client : ℕ) (request : Request) (entries : List (Option Entry)) → map (option_map (own_task tags client)) (after_answer request entries)
    ≡ map (option_map (own_task tags client)) entries
after_answer-own tags client (Execute op) entries = refl
after_answer-own tags client (Manage what noted) entries = doomed-own tags client (ended_by what noted).items entries

after_event-own : (tags client : ℕ) (event : Completion) (request : Request) (entries : List (Option Entry))
    → map (option_map (own_task tags client)) (after_event event request entries) ≡ map (option_map (own_task tags client)) entries
after_event-own tags client (CommandDone place) request entries = refl
after_event-own tags client (DataDone place) request entries = refl
after_event-own tags client (StatusDone place) request entries = after_answer-own tags client request entries
after_event-own tags client (EngineDone place) request entries = refl

-- an entry with an event seen is the same to the client
seen_entry-same : (tags client : ℕ) (step : Step) (event : Completion) (part : Part) (slot : ℕ) (now : Entry)
    → option_map (own_task tags client) (Some now) ≡ option_map (own_task tags client) (held_at part.entries slot)
    → IsOwnAct tags client step part (seen_entry event part slot (Some now))
seen_entry-same tags client step event part slot now is =
    let same = after_event-own tags client event now.task.request (slice_set part.entries slot (Some now))
    ∙ map-set_same (option_map (own_task tags client)) part.entries slot (Some now) None is in
    rw same refl

pub seen_entry-own : (tags client : ℕ) (step : Step) (event : Completion) (part : Part) (slot : ℕ) (seen : Option Entry) →
    option_and_then (seen_by event) (held_at part.entries slot) ≡ seen → IsOwnAct tags client step part (seen_entry event part slot seen)
seen_entry-own tags client step event part slot None is = refl
seen_entry-own tags client step event part slot (Some seen) is =
    seen_entry-same tags client step event part slot seen (seen_held-task tags client event (held_at part.entries slot) seen is)

-- the client can't tell that the host takes an event
pub event_act-own : (tags client : ℕ) (step : Step) (event : Completion) (part : Part) → IsOwnAct tags client step part (event_act event part)
event_act-own tags client step event part = seen_entry-own tags client step event part (event_place event).slot _ refl

-- RETIREMENT

pub retired_held-task : (tags client : ℕ) (pipe : Pipe) (held : Option Entry) (now : Entry) →
    option_and_then (retired_on pipe) held ≡ Some now → option_map (own_task tags client) (Some now) ≡ option_map (own_task tags client) held
retired_held-task tags client pipe None now is = absurd (none-some now is)
retired_held-task tags client pipe (Some entry) now is = ap (λ (task : TaggedTask). Some (own_of tags client task)) (retired_on-task pipe entry now is)

-- the client can't tell that a TD of its is retired
retired_entry-own : (tags client : ℕ) (step : Step) (pipe : Pipe) (place : Place) (part : Part) (now : Option Entry) →
    option_and_then (retired_on pipe) (held_at part.entries place.slot) ≡ now → IsOwnAct tags client step part (seen_entry (EngineDone place) part place.slot now)
retired_entry-own tags client step pipe place part None is = refl
retired_entry-own tags client step pipe place part (Some now) is =
    seen_entry-same tags client step (EngineDone place) part place.slot now (retired_held-task tags client pipe (held_at part.entries place.slot) now is)

pub retire_act-own : (tags client : ℕ) (step : Step) (pipe : Pipe) (place : Place) (part : Part) → IsOwnAct tags client step part (retire_act pipe place part)
retire_act-own tags client step pipe place part = retired_entry-own tags client step pipe place part _ refl

-- nor that the controller is moved past it
passed_slot-own : (tags client : ℕ) (step : Step) (pipe : Pipe) (place : Place) (part : Part) (held : Option Entry) → held_at part.entries place.slot ≡ held
    → IsOwnAct tags client step part (passed_slot pipe part place held)
passed_slot-own tags client step pipe place part None is = refl
passed_slot-own tags client step pipe place part (Some entry) is =
    let same = map-set_same (option_map (own_task tags client)) part.entries place.slot (Some (passed_on pipe entry)) None
    (ap (λ (task : TaggedTask). Some (own_of tags client task)) (with_td_on-task (passed_td (trbs_on pipe entry)) pipe entry)
    ∙ ap (option_map (own_task tags client)) (sym is)) in
    rw same refl

pub pass_act-own : (tags client : ℕ) (step : Step) (pipe : Pipe) (place : Place) (part : Part) → IsOwnAct tags client step part (pass_act pipe place part)
pass_act-own tags client step pipe place part = passed_slot-own tags client step pipe place part _ refl

-- the tag of a slot of a client, renumbered for it, is the slot's index
pub own_tag-slot_tag : (tags client slot : ℕ) → own_tag tags client (slot_tag tags client slot) ≡ suc slot
own_tag-slot_tag tags client slot = omega arith

-- the client takes the reply that was ready first
-- the solo machine's reply is under the index
renumbered-answered : (tags client slot ticket : ℕ) (buffer : List ℕ) (answer : TaskAnswer) (request : Request)
    → option_map (renumbered tags client) (answered_by (slot_tag tags client slot) ticket buffer answer request) ≡ answered_by (suc slot) ticket buffer answer request
renumbered-answered tags client slot ticket buffer (WithStatus answer) (Execute op) =
    ap (λ tag. answered_by tag ticket buffer (WithStatus answer) (Execute op)) (own_tag-slot_tag tags client slot)
renumbered-answered tags client slot ticket buffer (WithStatus answer) (Manage what noted) = refl
renumbered-answered tags client slot ticket buffer (WithResponse code) (Execute op) = refl
renumbered-answered tags client slot ticket buffer (WithResponse code) (Manage what noted) =
    ap (λ tag. answered_by tag ticket buffer (WithResponse code) (Manage what noted)) (own_tag-slot_tag tags client slot)

renumbered-aborted : (tags client slot ticket : ℕ) (buffer : List ℕ) (request : Request)
    → option_map (renumbered tags client) (aborted_by (slot_tag tags client slot) ticket buffer request) ≡ aborted_by (suc slot) ticket buffer request
renumbered-aborted tags client slot ticket buffer (Execute op) = ap (λ tag. aborted_by tag ticket buffer (Execute op)) (own_tag-slot_tag tags client slot)
renumbered-aborted tags client slot ticket buffer (Manage what noted) = refl

renumbered-reply : (tags client slot : ℕ) (task : TaggedTask) (phase : Phase)
    → option_map (renumbered tags client) (reply_from (slot_tag tags client slot) task phase) ≡ reply_from (suc slot) task phase
renumbered-reply tags client slot task Queued = refl
renumbered-reply tags client slot task (Begun progress) = refl
renumbered-reply tags client slot task (Sent answer) = renumbered-answered tags client slot task.ticket task.buffer answer task.request
renumbered-reply tags client slot task Gone = renumbered-aborted tags client slot task.ticket task.buffer task.request

settled-own : (tags client : ℕ) (step : Step) (part : Part) (slot : ℕ) (rest : List ℕ) (entry : Entry) (reply : Option Reply)
    → held_at part.entries slot ≡ Some entry → entry_reply (slot_tag tags client slot) entry ≡ reply → IsOwnAct tags client step part (settled part slot rest reply)
settled-own tags client step part slot rest entry None is none = refl
settled-own tags client step part slot rest entry (Some reply) is replies =
    rw (
      held_at-solo_of tags client part.entries slot,
      is,
      reply_from-own tags client (suc slot) entry.task entry.task.phase,
      ← (renumbered-reply tags client slot entry.task entry.task.phase),
      replies,
      map-own_task tags client part.entries slot None,
    ) refl

taken_held-own : (tags client : ℕ) (step : Step) (part : Part) (slot : ℕ) (rest : List ℕ) (held : Option Entry) → held_at part.entries slot ≡ held
    → IsOwnAct tags client step part (settled part slot rest (option_and_then (entry_reply (slot_tag tags client slot)) held))
taken_held-own tags client step part slot rest None is = refl
taken_held-own tags client step part slot rest (Some entry) is = settled-own tags client step part slot rest entry (entry_reply (slot_tag tags client slot) entry) is refl

taken-own : (tags client : ℕ) (step : Step) (part : Part) (ready : List ℕ) → IsOwnAct tags client step part (taken tags client part ready)
taken-own tags client step part [] = refl
taken-own tags client step part (slot ∷ rest) = taken_held-own tags client step part slot rest (held_at part.entries slot) refl

pub take_act-own : (tags client : ℕ) (step : Step) (part : Part) → IsOwnAct tags client step part (take_act tags client part)
take_act-own tags client step part = taken-own tags client step part part.ready

-- an accepted submission is accepted by the client's own solo machine
pub is_some-own : (tags client : ℕ) (held : Option Entry) → is_some (option_map (own_task tags client) held) ≡ is_some held
is_some-own tags client None = refl
is_some-own tags client (Some entry) = refl

pub submitted_part-own : (tags client : ℕ) (part : Part) (slot ticket : ℕ) (command : Command) → nat_lt slot (task_slot tags) ≡ true
    → fault_at part slot ticket command ≡ None →
    solo_step (solo_of tags client part) (SubmitLabel (suc slot) ticket command) ≡ Some (silently (solo_of tags client (submitted_part part slot ticket command)))
submitted_part-own tags client part slot ticket command within none =
    rw (
      within,
      held_at-solo_of tags client part.entries slot,
      is_some-own tags client (held_at part.entries slot),
      none,
      map-own_task tags client part.entries slot (Some (new_entry ticket command)),
    ) refl

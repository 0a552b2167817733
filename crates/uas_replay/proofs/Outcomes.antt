-- What one step of the shared machine tells.
use Rattle.std.proofs.Common.{◌≡◌, ℕ, Bool, true, false, cond, suc, List, [], ◌∷◌, Option, Some, None, refl}
use Rattle.std.specs.Prelude.{slice_get}
use Rattle.scsi_cmd.specs.declared.Command.{Command}
use Rattle.scsi_cmd.specs.declared.SubmitFault.{SubmitFault}
use Rattle.scsi_cmd.specs.declared.Task.{Task}
use Rattle.scsi_cmd.specs.Held.{held_at}
use Rattle.solo_model.specs.TaggedTask.{carried, finds, moved, sent}
use Rattle.shared_machine.specs.declared.Step.{Step}
use Rattle.shared_machine.specs.declared.Step.TheVariants.{Submit, Task as TaskStep, CommandPipe, Data, Status, Engine, Event, Retire, Take}
use Rattle.shared_machine.specs.declared.Mark.{Mark}
use Rattle.shared_machine.specs.declared.Mark.TheVariants.{Submit as SubmitMark, Quiet}
use Rattle.shared_machine.specs.declared.Outcome.{Outcome}
use Rattle.shared_machine.specs.declared.Refusal.{Refusal}
use Rattle.uas_profile.specs.declared.Place.{Place}
use Rattle.uas_profile.specs.declared.Pipe.{Pipe}
use Rattle.shared_machine.specs.declared.Completion.{Completion}
use Rattle.shared_machine.specs.declared.Completion.TheVariants.{CommandDone, DataDone, StatusDone, EngineDone}
use Rattle.shared_machine.specs.declared.Retirement.{Retirement}
use Rattle.shared_machine.specs.declared.RetirementStage.{RetirementStage}
use Rattle.shared_machine.specs.declared.RetirementStage.TheVariants.{StopAsked, StopAnswered, MoveAsked, MoveAnswered}
use Rattle.shared_machine.specs.Td.{Entry}
use Rattle.uas_profile.specs.Tags.{place_of, command_slot, task_slot}
use Rattle.shared_machine.specs.Part.{Part, Act, carry_act, carried_slot, carried_entry, move_act, moved_slot, moved_entry, send_act, sent_slot, sent_entry, tasks_in}
use Rattle.shared_machine.specs.Part.{event_act, event_place, seen_entry, seen_by, take_act, fault_at, named_slot, task_fault_at, stop_act}
use Rattle.shared_machine.specs.Part.{pass_act, passed_slot, retire_act}
use Rattle.shared_machine.specs.Shared.{Shared, idle, due, due_step, shared_step, routed, routed_to, routed_by_tag, carry_step, event_step, submitted_under}
use Rattle.shared_machine.specs.Shared.{submitted_to, answered, managed_or, managed_to, event_seen, engine_step, engine_did, engine_seen}
use Rattle.shared_machine.specs.Shared.{stage_seen, at_stage, retire_step, resumed}
use Rattle.shared_machine.specs.Td.{retired_on}
use Rattle.std.specs.Prelude.{option_and_then, length}

-- NO NEWS

-- an outcome with no reply and no refusal
pub record Untold (outcome : Outcome) : Type 0 where
  pub reply : outcome.reply ≡ None
  pub refused : outcome.refused ≡ None

untold_idle : Untold idle
untold_idle = record { reply = refl; refused = refl }

untold_if : (b : Bool) (state : Shared) (after : Shared × Outcome) → Untold after.1 → Untold (cond b after (state, idle)).1
untold_if true state after untold = untold
untold_if false state after untold = untold_idle

untold_routed_to : (state : Shared) (client : ℕ) (act : Part → Act) (part : Option Part) → ((p : Part) → (act p).reply ≡ None)
    → Untold (routed_to state client act part).1
untold_routed_to state client act None none = record { reply = refl; refused = refl }
untold_routed_to state client act (Some part) none = record { reply = none part; refused = refl }

untold_by_tag : (state : Shared) (act : Place → Part → Act) (place : Option Place) → ((at : Place) (p : Part) → (act at p).reply ≡ None)
    → Untold (routed_by_tag state act place).1
untold_by_tag state act None none = untold_idle
untold_by_tag state act (Some place) none =
    untold_routed_to state place.client (act place) (slice_get state.parts place.client) (none place)

-- an act on what is there gives no reply, whether it is there or not
no_reply : {A : Type 0} (act : Option A → Act) → (act None).reply ≡ None → ((found : A) → (act (Some found)).reply ≡ None)
    → (found : Option A) → (act found).reply ≡ None
no_reply act none some None = none
no_reply act none some (Some found) = some found

carry_slot-reply : (part : Part) (slot : ℕ) (place : Place) (entry : Option Entry) → (carried_slot part slot place entry).reply ≡ None
carry_slot-reply part slot place =
    no_reply (carried_slot part slot place) refl (λ e. no_reply (carried_entry part slot place e) refl (λ after. refl) (carried part.unit (finds e.task.request (tasks_in part.entries)) e.task))

move_slot-reply : (part : Part) (slot : ℕ) (place : Place) (entry : Option Entry) → (moved_slot part slot place entry).reply ≡ None
move_slot-reply part slot place =
    no_reply (moved_slot part slot place) refl (λ e. no_reply (moved_entry part slot place e) refl (λ after. refl) (moved part.unit e.task))

send_slot-reply : (part : Part) (slot : ℕ) (place : Place) (entry : Option Entry) → (sent_slot part slot place entry).reply ≡ None
send_slot-reply part slot place =
    no_reply (sent_slot part slot place) refl (λ e. no_reply (sent_entry part slot place e) refl (λ task. refl) (sent e.task))

seen_entry-reply : (event : Completion) (part : Part) (slot : ℕ) (entry : Option Entry) → (seen_entry event part slot entry).reply ≡ None
seen_entry-reply event part slot None = refl
seen_entry-reply event part slot (Some entry) = refl

event_act-reply : (event : Completion) (part : Part) → (event_act event part).reply ≡ None
event_act-reply event part =
    seen_entry-reply event part (event_place event).slot (option_and_then (seen_by event) (held_at part.entries (event_place event).slot))

untold_carry : (state : Shared) (messages : List Place) → Untold (carry_step state messages).1
untold_carry state [] = untold_idle
untold_carry state (place ∷ rest) =
    untold_routed_to (record state { messages = rest }) place.client (carry_act place) (slice_get state.parts place.client)
    (λ p. carry_slot-reply p place.slot place (held_at p.entries place.slot))

passed_slot-reply : (pipe : Pipe) (part : Part) (place : Place) (entry : Option Entry) → (passed_slot pipe part place entry).reply ≡ None
passed_slot-reply pipe part place None = refl
passed_slot-reply pipe part place (Some entry) = refl

untold_engine : (state : Shared) (retirement : Option Retirement) → Untold (engine_step state retirement).1
untold_engine state None = untold_idle
untold_engine state (Some retirement) = go retirement.stage
  where
    place : Place
    place = retirement.place

    go : (stage : RetirementStage) → Untold (engine_did state retirement stage).1
    go StopAsked = untold_routed_to _ place.client (stop_act place) _ (λ p. refl)
    go StopAnswered = untold_idle
    go MoveAsked =
        untold_routed_to (at_stage state retirement MoveAnswered) place.client (pass_act retirement.pipe place) (slice_get state.parts place.client)
        (λ p. passed_slot-reply retirement.pipe p place (held_at p.entries place.slot))
    go MoveAnswered = untold_idle

untold_resumed : (pipe : Pipe) (after : Shared × Outcome) → Untold after.1 → Untold (resumed pipe after).1
untold_resumed pipe after untold = record { reply = untold.reply; refused = untold.refused }

-- the event of the controller's own command
untold_stage : (state : Shared) (retirement : Retirement) (stage : RetirementStage) → Untold (stage_seen state retirement stage).1
untold_stage state retirement StopAsked = record { reply = refl; refused = refl }
untold_stage state retirement StopAnswered = record { reply = refl; refused = refl }
untold_stage state retirement MoveAsked = record { reply = refl; refused = refl }
untold_stage state retirement MoveAnswered =
    let place : Place = retirement.place in
    untold_resumed retirement.pipe (routed (record state { retirement = None }) place.client (retire_act retirement.pipe place))
    (untold_routed_to (record state { retirement = None }) place.client (retire_act retirement.pipe place) (slice_get state.parts place.client)
    (λ p. seen_entry-reply (EngineDone place) p place.slot (option_and_then (retired_on retirement.pipe) (held_at p.entries place.slot))))

untold_engine_seen : (state : Shared) (place : Place) (retirement : Option Retirement) → Untold (engine_seen state place retirement).1
untold_engine_seen state place None = record { reply = refl; refused = refl }
untold_engine_seen state place (Some retirement) = untold_stage state retirement retirement.stage

-- the event of a TD
untold_td : (state : Shared) (event : Completion) → Untold (routed state (event_place event).client (event_act event)).1
untold_td state event =
    untold_routed_to state (event_place event).client (event_act event) (slice_get state.parts (event_place event).client) (event_act-reply event)

untold_seen : (state : Shared) (event : Completion) → Untold (event_seen state event).1
untold_seen state (CommandDone place) = untold_td state (CommandDone place)
untold_seen state (DataDone place) = untold_td state (DataDone place)
untold_seen state (StatusDone place) = untold_td state (StatusDone place)
untold_seen state (EngineDone place) = untold_engine_seen state place state.retirement

untold_event : (state : Shared) (events : List Completion) → Untold (event_step state events).1
untold_event state [] = untold_idle
untold_event state (event ∷ rest) = untold_seen (record state { events = rest }) event

untold_retire : (state : Shared) (pipe : Pipe) (place : Option Place) → Untold (retire_step state pipe place).1
untold_retire state pipe None = untold_idle
untold_retire state pipe (Some place) = record { reply = refl; refused = refl }

-- A step of controller, device or host, and of no client.
abbrev pub IsInner : Step → Type 0
IsInner (Submit client tag ticket command) = ⊥
IsInner (TaskStep client ticket task) = ⊥
IsInner (Take client) = ⊥
IsInner step = Unit {0}

pub inner_untold : (state : Shared) (step : Step) → IsInner step → Untold (shared_step state step).1
inner_untold state CommandPipe inner =
    untold_if (due state CommandPipe) state (due_step state CommandPipe) (untold_carry state state.messages)
inner_untold state Event inner =
    untold_if (due state Event) state (due_step state Event) (untold_event state state.events)
inner_untold state Engine inner =
    untold_if (due state Engine) state (due_step state Engine) (untold_engine state state.retirement)
inner_untold state (Retire pipe tag) inner =
    untold_if (due state (Retire pipe tag)) state (due_step state (Retire pipe tag)) (untold_retire state pipe (place_of state.tags (length state.parts) tag))
inner_untold state (Data tag) inner =
    untold_if (due state (Data tag)) state (due_step state (Data tag)) (untold_by_tag state move_act (place_of state.tags (length state.parts) tag)
    (λ at p. move_slot-reply p at.slot at (held_at p.entries at.slot)))
inner_untold state (Status tag) inner =
    untold_if (due state (Status tag)) state (due_step state (Status tag)) (untold_by_tag state send_act (place_of state.tags (length state.parts) tag)
    (λ at p. send_slot-reply p at.slot at (held_at p.entries at.slot)))
inner_untold state (Submit client tag ticket command) inner = absurd inner
inner_untold state (TaskStep client ticket task) inner = absurd inner
inner_untold state (Take client) inner = absurd inner

-- A TAKE

-- the outcome of a Take that is due is the client's, and no refusal
pub record IsTaken (client : ℕ) (outcome : Outcome) : Type 0 where
  pub owner : outcome.owner ≡ Some client
  pub refused : outcome.refused ≡ None

pub take_told : (state : Shared) (client : ℕ) → due state (Take client) ≡ true → IsTaken client (shared_step state (Take client)).1
take_told state client is_due = go (slice_get state.parts client)
  where
    go' : (part : Option Part) → IsTaken client (routed_to state client (take_act state.tags client) part).1
    go' None = record { owner = refl; refused = refl }
    go' (Some part) = record { owner = refl; refused = refl }

    through : (b : Bool) → b ≡ true → IsTaken client (cond b (routed state client (take_act state.tags client)) (state, idle)).1
    through true is = go' (slice_get state.parts client)
    through false never = cc

    go : Option Part → IsTaken client (shared_step state (Take client)).1
    go part = through (due state (Take client)) is_due

-- A SUBMISSION

-- an accepted submission is marked with an index, a refused one is Quiet
abbrev pub MarksSubmission : Mark → Option Refusal → Type 0
MarksSubmission mark None = (index : ℕ) × (mark ≡ SubmitMark index)
MarksSubmission mark (Some refusal) = mark ≡ Quiet

pub record IsSubmitted (client : ℕ) (outcome : Outcome) : Type 0 where
  pub owner : outcome.owner ≡ Some client
  pub reply : outcome.reply ≡ None
  pub mark : MarksSubmission outcome.mark outcome.refused

pub submit_told : (state : Shared) (client tag ticket : ℕ) (command : Command)
    → IsSubmitted client (shared_step state (Submit client tag ticket command)).1
submit_told state client tag ticket command = under (command_slot state.tags (length state.parts) client tag)
  where
    by_fault : (part : Part) (slot : ℕ) (fault : Option SubmitFault)
        → IsSubmitted client (answered state part (record { client = client; slot = slot }) tag ticket command fault).1
    by_fault part slot None = record { owner = refl; reply = refl; mark = (suc slot, refl) }
    by_fault part slot (Some fault) = record { owner = refl; reply = refl; mark = refl }

    to : (slot : ℕ) (part : Option Part)
        → IsSubmitted client (submitted_to state (record { client = client; slot = slot }) tag ticket command part).1
    to slot None = record { owner = refl; reply = refl; mark = refl }
    to slot (Some part) = by_fault part slot (fault_at part slot ticket command)

    under : (slot : Option ℕ) → IsSubmitted client (submitted_under state client tag ticket command slot).1
    under None = record { owner = refl; reply = refl; mark = refl }
    under (Some slot) = to slot (slice_get state.parts client)

-- A TASK MANAGEMENT

pub record IsManaged (client : ℕ) (outcome : Outcome) : Type 0 where
  pub owner : outcome.owner ≡ Some client
  pub reply : outcome.reply ≡ None

pub task_told : (state : Shared) (client ticket : ℕ) (task : Task) → IsManaged client (shared_step state (TaskStep client ticket task)).1
task_told state client ticket task = to (slice_get state.parts client)
  where
    place : Place
    place = record { client = client; slot = task_slot state.tags }

    slot : Option ℕ
    slot = named_slot state.tags (length state.parts) client task

    by_fault : (part : Part) (fault : Option SubmitFault) → IsManaged client (managed_or state part place slot ticket task fault).1
    by_fault part None = record { owner = refl; reply = refl }
    by_fault part (Some fault) = record { owner = refl; reply = refl }

    to : (part : Option Part) → IsManaged client (managed_to state place slot ticket task part).1
    to None = record { owner = refl; reply = refl }
    to (Some part) = by_fault part (task_fault_at state.tags part slot ticket task)

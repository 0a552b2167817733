-- A step of the shared machine changes no part but its owner's, and keeps what stands there. Cited by the law others_stay and by GoneByNote.
use Rattle.std.proofs.Common.{◌≡◌, ℕ, true, false, cond, List, [], ◌∷◌, Option, Some, None, refl, ap, sym, subst, ◌∙◌}
use Rattle.std.specs.Prelude.{is_some, length, slice_get, slice_set}
use Rattle.std.proofs.lemmas.Option.{none-some, same_Some}
use Rattle.scsi_cmd.specs.Held.{held_at}
use Rattle.scsi_cmd.specs.declared.Command.{Command}
use Rattle.scsi_cmd.specs.declared.SubmitFault.{SubmitFault}
use Rattle.scsi_cmd.specs.declared.Task.{Task}
use Rattle.uas_profile.specs.Tags.{task_slot}
use Rattle.uas_profile.specs.declared.Pipe.{Pipe}
use Rattle.uas_profile.specs.Tags.{command_slot, place_of}
use Rattle.uas_profile.specs.declared.Place.{Place}
use Rattle.uas_profile.specs.PipeStates.{stopped_pipe}
use Rattle.shared_machine.specs.Pipes.{all_rung}
use Rattle.shared_machine.specs.declared.Completion.{Completion}
use Rattle.shared_machine.specs.declared.Completion.TheVariants.{CommandDone, DataDone, StatusDone, EngineDone}
use Rattle.shared_machine.specs.declared.Outcome.{Outcome}
use Rattle.shared_machine.specs.declared.Retirement.{Retirement}
use Rattle.shared_machine.specs.declared.RetirementStage.{RetirementStage}
use Rattle.shared_machine.specs.declared.RetirementStage.TheVariants.{StopAsked, StopAnswered, MoveAsked, MoveAnswered}
use Rattle.shared_machine.specs.declared.Step.{Step}
use Rattle.shared_machine.specs.declared.Step.TheVariants.{Submit, Task as TaskStep, CommandPipe, Data, Status, Engine, Event, Retire, Take}
use Rattle.shared_machine.specs.Part.{Act, Part, carry_act, event_act, fault_at, is_there, managed_part, move_act, named_slot, new_entry, new_management}
use Rattle.shared_machine.specs.Part.{noted_tickets, pass_act, retire_act, send_act, stop_act, submitted_part, take_act, task_fault_at}
use Rattle.shared_machine.specs.Shared.{Shared, accepted, acted_on, answered, at_stage, carry_step, due, due_step, engine_did, engine_seen, engine_step, event_seen}
use Rattle.shared_machine.specs.Shared.{event_step, idle, managed, managed_or, managed_to, pipe_of, resumed, retire_step, routed, routed_by_tag, routed_to}
use Rattle.shared_machine.specs.Shared.{shared_step, stage_seen, streams_pending, submitted_to, submitted_under, with_pipe}
use Rattle.machine_invariant.specs.Reach.{IsEndedBy, NobodyStays, OthersStay}
use Rattle.machine_invariant.proofs.KeptRequests.{AreKept, AreKept-self, NotesEnd, carry_act-kept, event_act-kept, filled-kept, move_act-kept, pass_act-kept}
use Rattle.machine_invariant.proofs.KeptRequests.{retire_act-kept, send_act-kept, stop_act-kept, take_act-kept}
use Rattle.machine_invariant.proofs.OrderedMessages.{part-written, under-there}
use Rattle.machine_invariant.proofs.OrderedSubmissions.{submit-turn, task-turn}
use Rattle.shared_machine.proofs.Standing.{slice_get-slice_set_other}
use Rattle.shared_machine.proofs.NumberOfClients.{with_pipe-own}
use Rattle.shared_machine.proofs.Standing.{not_some}

-- WHAT A STEP DOES TO THE PARTS

-- Of a step from these parts: without an owner it changes none of them, with one no other, and in each part it keeps what stands there, but that
-- it may end tickets of these.
pub record IsOwners (MayEnd : ℕ → ℕ → Type 0) (parts : List Part) (after : Shared × Outcome) : Type 0 where
  pub nobody : after.1.owner ≡ None → after.0.parts ≡ parts
  pub others : (owner client : ℕ) → after.1.owner ≡ Some owner → (owner ≡ client → ⊥) → slice_get after.0.parts client ≡ slice_get parts client
  pub kept : (client : ℕ) (part now : Part) → slice_get parts client ≡ Some part → slice_get after.0.parts client ≡ Some now
      → AreKept (MayEnd client) part.entries now.entries

-- a step that changes no part
unchanged : (MayEnd : ℕ → ℕ → Type 0) (parts : List Part) (after : Shared × Outcome) → after.0.parts ≡ parts → IsOwners MayEnd parts after
unchanged MayEnd parts after same = record {
  nobody = λ is. same;
  others = λ owner client is apart. ap (λ list. slice_get list client) same;
  kept = λ client part now was is.
      subst (λ (p : Part). AreKept (MayEnd client) part.entries p.entries)
      (same_Some part now (sym was ∙ sym (ap (λ list. slice_get list client) same) ∙ is)) (AreKept-self (MayEnd client) part.entries);
}

-- a step that writes its owner's part
written : (MayEnd : ℕ → ℕ → Type 0) (parts : List Part) (owner : ℕ) (part now : Part) (after : Shared × Outcome) → slice_get parts owner ≡ Some part
    → after.0.parts ≡ slice_set parts owner now → after.1.owner ≡ Some owner → AreKept (MayEnd owner) part.entries now.entries → IsOwners MayEnd parts after
written MayEnd parts owner part now after there wrote owns each = record {
  nobody = λ is. absurd (none-some owner (sym is ∙ owns));
  others = λ other client is apart.
      ap (λ list. slice_get list client) wrote
      ∙ slice_get-slice_set_other parts owner client now (λ same. apart (same_Some other owner (sym is ∙ owns) ∙ same));
  kept = λ client was found is_was is_found.
      part-written (λ of_client one. (before : Part) → slice_get parts of_client ≡ Some before → AreKept (MayEnd of_client) before.entries one.entries)
      parts owner part now there
      (λ other one is before stood.
      subst (λ (p : Part). AreKept (MayEnd other) before.entries p.entries) (same_Some before one (sym stood ∙ is))
      (AreKept-self (MayEnd other) before.entries))
      (λ before stood. subst (λ (p : Part). AreKept (MayEnd owner) p.entries now.entries) (same_Some part before (sym there ∙ stood)) each)
      client found (sym (ap (λ list. slice_get list client) wrote) ∙ is_found) was is_was;
}

-- THE ROUTERS

routed_to-owners : (MayEnd : ℕ → ℕ → Type 0) (state : Shared) (client : ℕ) (act : Part → Act) (found : Option Part) → slice_get state.parts client ≡ found
    → ((part : Part) → slice_get state.parts client ≡ Some part → AreKept (MayEnd client) part.entries (act part).part.entries)
    → IsOwners MayEnd state.parts (routed_to state client act found)
routed_to-owners MayEnd state client act None is each = unchanged MayEnd state.parts (routed_to state client act None) refl
routed_to-owners MayEnd state client act (Some part) is each =
    written MayEnd state.parts client part (act part).part (acted_on state client (act part)) is refl refl (each part is)

-- an act on a client's part
routed-owners : (MayEnd : ℕ → ℕ → Type 0) (state : Shared) (client : ℕ) (act : Part → Act)
    → ((part : Part) → slice_get state.parts client ≡ Some part → AreKept (MayEnd client) part.entries (act part).part.entries)
    → IsOwners MayEnd state.parts (routed state client act)
routed-owners MayEnd state client act each = routed_to-owners MayEnd state client act (slice_get state.parts client) refl each

-- one at the place of a tag
by_tag-owners : (MayEnd : ℕ → ℕ → Type 0) (state : Shared) (act : Place → Part → Act) (place : Option Place)
    → ((place : Place) (part : Part) → AreKept (MayEnd place.client) part.entries (act place part).part.entries)
    → IsOwners MayEnd state.parts (routed_by_tag state act place)
by_tag-owners MayEnd state act None each = unchanged MayEnd state.parts (routed_by_tag state act None) refl
by_tag-owners MayEnd state act (Some place) each = routed-owners MayEnd state place.client (act place) (λ part is. each place part)

-- CARRY

-- what the first message ends, where the step is the command pipe's
abbrev pub Ends : Shared → Step → ℕ → ℕ → Type 0
Ends state step client ticket = (step ≡ CommandPipe) × IsEndedBy state (record { client = client; slot = task_slot state.tags }) ticket

-- a task management under the first message ends what it noted
first-ends : (state : Shared) (place : Place) (rest : List Place) (part : Part) → state.messages ≡ place ∷ rest → slice_get state.parts place.client ≡ Some part
    → NotesEnd (Ends state CommandPipe place.client) part place.slot
first-ends state place rest part first there management what noted ticket held asks noted_is = (
  refl,
  record {
    head = place;
    rest = rest;
    management = management;
    what = what;
    noted = noted;
    first = first;
    held = under-there state.parts place part there ∙ held;
    request = asks;
    client = refl;
    ticket_ended = noted_is;
  },
)

carry_step-owners : (state : Shared) (messages : List Place) → state.messages ≡ messages
    → IsOwners (Ends state CommandPipe) state.parts (carry_step state messages)
carry_step-owners state [] is = unchanged (Ends state CommandPipe) state.parts (carry_step state []) refl
carry_step-owners state (place ∷ rest) is =
    routed-owners (Ends state CommandPipe) (record state { messages = rest }) place.client (carry_act place) (λ part there.
    carry_act-kept (Ends state CommandPipe place.client) place part (first-ends state place rest part is there))

-- SUBMISSION

-- the doorbells are nothing of the parts
submitted-owners : (MayEnd : ℕ → ℕ → Type 0) (state : Shared) (part : Part) (place : Place) (tag ticket : ℕ) (command : Command) (fault : Option SubmitFault)
    → slice_get state.parts place.client ≡ Some part → fault_at part place.slot ticket command ≡ fault
    → IsOwners MayEnd state.parts (answered state part place tag ticket command fault)
submitted-owners MayEnd state part place tag ticket command None there none =
    written MayEnd state.parts place.client part (submitted_part part place.slot ticket command) (accepted state part place tag ticket command) there refl refl
    (filled-kept (MayEnd place.client) part.entries place.slot (new_entry ticket command)
    (not_some (held_at part.entries place.slot)
    (submit-turn (is_some (held_at part.entries place.slot)) part.least_ticket ticket command none).free))
submitted-owners MayEnd state part place tag ticket command (Some fault) there is =
    unchanged MayEnd state.parts (answered state part place tag ticket command (Some fault)) refl

submitted_to-owners : (MayEnd : ℕ → ℕ → Type 0) (state : Shared) (place : Place) (tag ticket : ℕ) (command : Command) (found : Option Part)
    → slice_get state.parts place.client ≡ found → IsOwners MayEnd state.parts (submitted_to state place tag ticket command found)
submitted_to-owners MayEnd state place tag ticket command None is =
    unchanged MayEnd state.parts (submitted_to state place tag ticket command None) refl
submitted_to-owners MayEnd state place tag ticket command (Some part) is =
    submitted-owners MayEnd state part place tag ticket command (fault_at part place.slot ticket command) is refl

submitted_under-owners : (MayEnd : ℕ → ℕ → Type 0) (state : Shared) (client tag ticket : ℕ) (command : Command) (slot : Option ℕ)
    → IsOwners MayEnd state.parts (submitted_under state client tag ticket command slot)
submitted_under-owners MayEnd state client tag ticket command None =
    unchanged MayEnd state.parts (submitted_under state client tag ticket command None) refl
submitted_under-owners MayEnd state client tag ticket command (Some slot) =
    submitted_to-owners MayEnd state (record { client = client; slot = slot }) tag ticket command (slice_get state.parts client) refl

-- TASK MANAGEMENT

managed_or-owners : (MayEnd : ℕ → ℕ → Type 0) (state : Shared) (part : Part) (client : ℕ) (slot : Option ℕ) (ticket : ℕ) (task : Task)
    (fault : Option SubmitFault) → slice_get state.parts client ≡ Some part → task_fault_at state.tags part slot ticket task ≡ fault
    → IsOwners MayEnd state.parts (managed_or state part (record { client = client; slot = (task_slot state.tags) }) slot ticket task fault)
managed_or-owners MayEnd state part client slot ticket task None there none =
    written MayEnd state.parts client part (managed_part state.tags part slot ticket task)
    (managed state part (record { client = client; slot = (task_slot state.tags) }) slot ticket task) there refl refl
    (filled-kept (MayEnd client) part.entries (task_slot state.tags) (new_management ticket task (noted_tickets state.tags part slot task))
    (not_some (held_at part.entries (task_slot state.tags))
    (task-turn (is_some (held_at part.entries (task_slot state.tags))) part.least_ticket ticket (is_there part slot task) none).free))
managed_or-owners MayEnd state part client slot ticket task (Some fault) there is =
    unchanged MayEnd state.parts (managed_or state part (record { client = client; slot = (task_slot state.tags) }) slot ticket task (Some fault)) refl

managed_to-owners : (MayEnd : ℕ → ℕ → Type 0) (state : Shared) (client : ℕ) (slot : Option ℕ) (ticket : ℕ) (task : Task) (found : Option Part)
    → slice_get state.parts client ≡ found
    → IsOwners MayEnd state.parts (managed_to state (record { client = client; slot = (task_slot state.tags) }) slot ticket task found)
managed_to-owners MayEnd state client slot ticket task None is =
    unchanged MayEnd state.parts (managed_to state (record { client = client; slot = (task_slot state.tags) }) slot ticket task None) refl
managed_to-owners MayEnd state client slot ticket task (Some part) is =
    managed_or-owners MayEnd state part client slot ticket task (task_fault_at state.tags part slot ticket task) is refl

-- RETIREMENT

resumed-owners : (MayEnd : ℕ → ℕ → Type 0) (parts : List Part) (pipe : Pipe) (after : Shared × Outcome) → IsOwners MayEnd parts after
    → IsOwners MayEnd parts (resumed pipe after)
resumed-owners MayEnd parts pipe after old =
    let same : (resumed pipe after).0.parts ≡ after.0.parts =
    with_pipe-own after.0 pipe (all_rung (pipe_of after.0 pipe) (streams_pending after.0 pipe)) in
    record {
      nobody = λ is. same ∙ old.nobody is;
      others = λ owner client is apart. ap (λ list. slice_get list client) same ∙ old.others owner client is apart;
      kept = λ client part now was is. old.kept client part now was (sym (ap (λ list. slice_get list client) same) ∙ is);
    }

engine_did-owners : (MayEnd : ℕ → ℕ → Type 0) (state : Shared) (retirement : Retirement) (stage : RetirementStage)
    → IsOwners MayEnd state.parts (engine_did state retirement stage)
engine_did-owners MayEnd state retirement StopAsked =
    subst (λ parts. IsOwners MayEnd parts (engine_did state retirement StopAsked)) (with_pipe-own state retirement.pipe stopped_pipe)
    (routed-owners MayEnd (at_stage (with_pipe state retirement.pipe stopped_pipe) retirement StopAnswered) retirement.place.client
    (stop_act retirement.place) (λ part is. stop_act-kept (MayEnd retirement.place.client) retirement.place part))
engine_did-owners MayEnd state retirement StopAnswered = unchanged MayEnd state.parts (engine_did state retirement StopAnswered) refl
engine_did-owners MayEnd state retirement MoveAsked =
    routed-owners MayEnd (at_stage state retirement MoveAnswered) retirement.place.client (pass_act retirement.pipe retirement.place)
    (λ part is. pass_act-kept (MayEnd retirement.place.client) retirement.pipe retirement.place part)
engine_did-owners MayEnd state retirement MoveAnswered = unchanged MayEnd state.parts (engine_did state retirement MoveAnswered) refl

engine_step-owners : (MayEnd : ℕ → ℕ → Type 0) (state : Shared) (retirement : Option Retirement) → IsOwners MayEnd state.parts (engine_step state retirement)
engine_step-owners MayEnd state None = unchanged MayEnd state.parts (engine_step state None) refl
engine_step-owners MayEnd state (Some retirement) = engine_did-owners MayEnd state retirement retirement.stage

retire_step-owners : (MayEnd : ℕ → ℕ → Type 0) (state : Shared) (pipe : Pipe) (place : Option Place)
    → IsOwners MayEnd state.parts (retire_step state pipe place)
retire_step-owners MayEnd state pipe None = unchanged MayEnd state.parts (retire_step state pipe None) refl
retire_step-owners MayEnd state pipe (Some place) = unchanged MayEnd state.parts (retire_step state pipe (Some place)) refl

-- EVENTS

stage_seen-owners : (MayEnd : ℕ → ℕ → Type 0) (state : Shared) (retirement : Retirement) (stage : RetirementStage)
    → IsOwners MayEnd state.parts (stage_seen state retirement stage)
stage_seen-owners MayEnd state retirement StopAsked = unchanged MayEnd state.parts (stage_seen state retirement StopAsked) refl
stage_seen-owners MayEnd state retirement StopAnswered = unchanged MayEnd state.parts (stage_seen state retirement StopAnswered) refl
stage_seen-owners MayEnd state retirement MoveAsked = unchanged MayEnd state.parts (stage_seen state retirement MoveAsked) refl
stage_seen-owners MayEnd state retirement MoveAnswered =
    let after : Shared × Outcome =
    routed (record state { retirement = None }) retirement.place.client (retire_act retirement.pipe retirement.place) in
    resumed-owners MayEnd state.parts retirement.pipe after
    (routed-owners MayEnd (record state { retirement = None }) retirement.place.client (retire_act retirement.pipe retirement.place)
    (λ part is. retire_act-kept (MayEnd retirement.place.client) retirement.pipe retirement.place part))

engine_seen-owners : (MayEnd : ℕ → ℕ → Type 0) (state : Shared) (place : Place) (retirement : Option Retirement)
    → IsOwners MayEnd state.parts (engine_seen state place retirement)
engine_seen-owners MayEnd state place None = unchanged MayEnd state.parts (engine_seen state place None) refl
engine_seen-owners MayEnd state place (Some retirement) = stage_seen-owners MayEnd state retirement retirement.stage

td_event-owners : (MayEnd : ℕ → ℕ → Type 0) (state : Shared) (client : ℕ) (event : Completion)
    → IsOwners MayEnd state.parts (routed state client (event_act event))
td_event-owners MayEnd state client event =
    routed-owners MayEnd state client (event_act event) (λ part is. event_act-kept (MayEnd client) event part)

event_seen-owners : (MayEnd : ℕ → ℕ → Type 0) (state : Shared) (event : Completion) → IsOwners MayEnd state.parts (event_seen state event)
event_seen-owners MayEnd state (CommandDone place) = td_event-owners MayEnd state place.client (CommandDone place)
event_seen-owners MayEnd state (DataDone place) = td_event-owners MayEnd state place.client (DataDone place)
event_seen-owners MayEnd state (StatusDone place) = td_event-owners MayEnd state place.client (StatusDone place)
event_seen-owners MayEnd state (EngineDone place) = engine_seen-owners MayEnd state place state.retirement

event_step-owners : (MayEnd : ℕ → ℕ → Type 0) (state : Shared) (events : List Completion) → IsOwners MayEnd state.parts (event_step state events)
event_step-owners MayEnd state [] = unchanged MayEnd state.parts (event_step state []) refl
event_step-owners MayEnd state (event ∷ rest) = event_seen-owners MayEnd (record state { events = rest }) event

-- EVERY STEP

due_step-owners : (state : Shared) (step : Step) → IsOwners (Ends state step) state.parts (due_step state step)
due_step-owners state (Submit client tag ticket command) =
    submitted_under-owners (Ends state (Submit client tag ticket command)) state client tag ticket command (command_slot state.tags (length state.parts) client tag)
due_step-owners state (TaskStep client ticket task) =
    managed_to-owners (Ends state (TaskStep client ticket task)) state client (named_slot state.tags (length state.parts) client task) ticket task
    (slice_get state.parts client) refl
due_step-owners state CommandPipe = carry_step-owners state state.messages refl
due_step-owners state (Data tag) =
    by_tag-owners (Ends state (Data tag)) state move_act (place_of state.tags (length state.parts) tag)
    (λ place part. move_act-kept (Ends state (Data tag) place.client) place part)
due_step-owners state (Status tag) =
    by_tag-owners (Ends state (Status tag)) state send_act (place_of state.tags (length state.parts) tag)
    (λ place part. send_act-kept (Ends state (Status tag) place.client) place part)
due_step-owners state Engine = engine_step-owners (Ends state Engine) state state.retirement
due_step-owners state Event = event_step-owners (Ends state Event) state state.events
due_step-owners state (Retire pipe tag) = retire_step-owners (Ends state (Retire pipe tag)) state pipe (place_of state.tags (length state.parts) tag)
due_step-owners state (Take client) =
    routed-owners (Ends state (Take client)) state client (take_act state.tags client) (λ part is. take_act-kept state.tags (Ends state (Take client) client) client part)

pub shared_step-owners : (state : Shared) (step : Step) → IsOwners (Ends state step) state.parts (shared_step state step)
shared_step-owners state step =
    elim (due state step) as (λ b. IsOwners (Ends state step) state.parts (cond b (due_step state step) (state, idle))) [
      | true ↦ due_step-owners state step
      | false ↦ unchanged (Ends state step) state.parts (state, idle) refl
    ]

-- THE LAWS

pub others-stay : OthersStay
others-stay state step owner client is apart = (shared_step-owners state step).others owner client is apart

pub nobody-stays : NobodyStays
nobody-stays state step is = (shared_step-owners state step).nobody is

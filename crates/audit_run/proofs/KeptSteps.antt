-- A true log without its refused steps replays: a refused step changes nothing and brings no reply.
use Rattle.std.proofs.Common.{◌≡◌, ◌≢◌, ℕ, length, ◌+◌, ◌<◌, Bool, true, false, ◌⊎◌, inl, inr, ⊎_elim, List, [], ◌∷◌, ◌++◌, map, Option, Some, None, is_some, if◌then◌else◌, refl, arith, ap, sym, subst, ◌∙◌, eq-eqb, ne_eqb}
use Rattle.std.specs.Prelude.{option_to_list, slice_get}
use Rattle.std.specs.Option.{option_map_or}
use Rattle.uas_profile.specs.declared.Pipe.{Pipe}
use Rattle.uas_profile.specs.declared.Place.{Place}
use Rattle.uas_profile.specs.Tags.{command_slot, place_of}
use Rattle.scsi_cmd.specs.declared.Command.{Command}
use Rattle.scsi_cmd.specs.declared.Task.{Task}
use Rattle.scsi_cmd.specs.declared.SubmitFault.{SubmitFault}
use Rattle.scsi_cmd.specs.declared.SubmitFault.TheVariants.{NotYours, InUse, BadLength, TooLong, OutOfTurn, NoSuchTask}
use Rattle.scsi_cmd.specs.Faults.{fault_number}
use Rattle.shared_machine.specs.declared.Completion.{Completion}
use Rattle.shared_machine.specs.declared.Completion.TheVariants.{CommandDone, DataDone, StatusDone, EngineDone}
use Rattle.shared_machine.specs.declared.Retirement.{Retirement}
use Rattle.shared_machine.specs.declared.RetirementStage.{RetirementStage}
use Rattle.shared_machine.specs.declared.RetirementStage.TheVariants.{StopAsked, StopAnswered, MoveAsked, MoveAnswered}
use Rattle.shared_machine.specs.declared.Outcome.{Outcome}
use Rattle.shared_machine.specs.declared.Step.{Step}
use Rattle.shared_machine.specs.declared.Step.TheVariants.{Submit, Task as TaskStep, CommandPipe, Data, Status, Engine, Event, Retire, Take}
use Rattle.shared_machine.specs.Laws.{AllDue}
use Rattle.shared_machine.specs.Part.{Part, Act, carry_act, event_act, fault_at, move_act, named_slot, pass_act, retire_act, send_act, stop_act, take_act, task_fault_at}
use Rattle.shared_machine.specs.Replay.{replayed}
use Rattle.shared_machine.specs.Shared.{Shared, answered, carry_step, due, due_step, engine_did, engine_seen, engine_step, event_seen, event_step, idle}
use Rattle.shared_machine.specs.Shared.{managed_or, managed_to, retire_step, routed, routed_by_tag, routed_to, shared_step, stage_seen, submitted_to}
use Rattle.shared_machine.specs.Shared.{submitted_under}
use Rattle.uas_log.specs.Booking.{refusal_of, replies_of}
use Rattle.log_text.specs.Kept.{kept}
use Rattle.audit_run.specs.declared.replay.ReplayFault.TheVariants.{NotDue, Refused}
use Rattle.audit_run.specs.replay.Replaying.{first_fault}
use Rattle.uas_profile.specs.Tags.{task_slot}

-- REFUSALS

-- a step that is refused, with a number above 0, changes nothing and brings no reply
abbrev pub IsHarmless : Shared → Shared × Outcome → Type 0
IsHarmless state came = (came.1.refused ≡ None) ⊎ ((came.0 ≡ state) × (came.1.reply ≡ None) × (0 < refusal_of came.1))

some_number : (fault : SubmitFault) → 0 < fault_number fault
some_number NotYours = omega arith
some_number InUse = omega arith
some_number BadLength = omega arith
some_number TooLong = omega arith
some_number (OutOfTurn least) = omega arith
some_number NoSuchTask = omega arith

answered-harmless : (state : Shared) (part : Part) (place : Place) (tag ticket : ℕ) (command : Command) (fault : Option SubmitFault)
    → IsHarmless state (answered state part place tag ticket command fault)
answered-harmless state part place tag ticket command None = inl refl
answered-harmless state part place tag ticket command (Some fault) = inr (refl, refl, some_number fault)

submitted_to-harmless : (state : Shared) (place : Place) (tag ticket : ℕ) (command : Command) (at : Option Part)
    → IsHarmless state (submitted_to state place tag ticket command at)
submitted_to-harmless state place tag ticket command None = inr (refl, refl, some_number NotYours)
submitted_to-harmless state place tag ticket command (Some part) =
    answered-harmless state part place tag ticket command (fault_at part place.slot ticket command)

submitted-harmless : (state : Shared) (client tag ticket : ℕ) (command : Command) (slot : Option ℕ)
    → IsHarmless state (submitted_under state client tag ticket command slot)
submitted-harmless state client tag ticket command None = inr (refl, refl, some_number NotYours)
submitted-harmless state client tag ticket command (Some slot) =
    submitted_to-harmless state (record { client = client; slot = slot }) tag ticket command (slice_get state.parts client)

managed_or-harmless : (state : Shared) (part : Part) (place : Place) (slot : Option ℕ) (ticket : ℕ) (task : Task) (fault : Option SubmitFault)
    → IsHarmless state (managed_or state part place slot ticket task fault)
managed_or-harmless state part place slot ticket task None = inl refl
managed_or-harmless state part place slot ticket task (Some fault) = inr (refl, refl, some_number fault)

managed-harmless : (state : Shared) (place : Place) (slot : Option ℕ) (ticket : ℕ) (task : Task) (at : Option Part)
    → IsHarmless state (managed_to state place slot ticket task at)
managed-harmless state place slot ticket task None = inr (refl, refl, some_number NotYours)
managed-harmless state place slot ticket task (Some part) =
    managed_or-harmless state part place slot ticket task (task_fault_at state.tags part slot ticket task)

-- ALL OTHER STEPS ARE ACCEPTED

routed_to-accepted : (state : Shared) (client : ℕ) (act : Part → Act) (at : Option Part) → (routed_to state client act at).1.refused ≡ None
routed_to-accepted state client act None = refl
routed_to-accepted state client act (Some part) = refl

routed-accepted : (state : Shared) (client : ℕ) (act : Part → Act) → (routed state client act).1.refused ≡ None
routed-accepted state client act = routed_to-accepted state client act (slice_get state.parts client)

tagged-accepted : (state : Shared) (act : Place → Part → Act) (place : Option Place) → (routed_by_tag state act place).1.refused ≡ None
tagged-accepted state act None = refl
tagged-accepted state act (Some place) = routed-accepted state place.client (act place)

carry-accepted : (state : Shared) (messages : List Place) → (carry_step state messages).1.refused ≡ None
carry-accepted state [] = refl
carry-accepted state (place ∷ rest) = routed-accepted (record state { messages = rest }) place.client (carry_act place)

engine_did-accepted : (state : Shared) (retirement : Retirement) (stage : RetirementStage) → (engine_did state retirement stage).1.refused ≡ None
engine_did-accepted state retirement StopAsked = routed-accepted _ retirement.place.client (stop_act retirement.place)
engine_did-accepted state retirement StopAnswered = refl
engine_did-accepted state retirement MoveAsked = routed-accepted _ retirement.place.client (pass_act retirement.pipe retirement.place)
engine_did-accepted state retirement MoveAnswered = refl

engine-accepted : (state : Shared) (retirement : Option Retirement) → (engine_step state retirement).1.refused ≡ None
engine-accepted state None = refl
engine-accepted state (Some retirement) = engine_did-accepted state retirement retirement.stage

stage-accepted : (state : Shared) (retirement : Retirement) (stage : RetirementStage) → (stage_seen state retirement stage).1.refused ≡ None
stage-accepted state retirement StopAsked = refl
stage-accepted state retirement StopAnswered = refl
stage-accepted state retirement MoveAsked = refl
stage-accepted state retirement MoveAnswered =
    routed-accepted (record state { retirement = None }) retirement.place.client (retire_act retirement.pipe retirement.place)

engine_seen-accepted : (state : Shared) (place : Place) (retirement : Option Retirement) → (engine_seen state place retirement).1.refused ≡ None
engine_seen-accepted state place None = refl
engine_seen-accepted state place (Some retirement) = stage-accepted state retirement retirement.stage

event_seen-accepted : (state : Shared) (event : Completion) → (event_seen state event).1.refused ≡ None
event_seen-accepted state (CommandDone place) = routed-accepted state place.client (event_act (CommandDone place))
event_seen-accepted state (DataDone place) = routed-accepted state place.client (event_act (DataDone place))
event_seen-accepted state (StatusDone place) = routed-accepted state place.client (event_act (StatusDone place))
event_seen-accepted state (EngineDone place) = engine_seen-accepted state place state.retirement

event-accepted : (state : Shared) (events : List Completion) → (event_step state events).1.refused ≡ None
event-accepted state [] = refl
event-accepted state (event ∷ rest) = event_seen-accepted (record state { events = rest }) event

retire-accepted : (state : Shared) (pipe : Pipe) (place : Option Place) → (retire_step state pipe place).1.refused ≡ None
retire-accepted state pipe None = refl
retire-accepted state pipe (Some place) = refl

due-harmless : (state : Shared) (step : Step) → IsHarmless state (due_step state step)
due-harmless state (Submit client tag ticket command) =
    submitted-harmless state client tag ticket command (command_slot state.tags (length state.parts) client tag)
due-harmless state (TaskStep client ticket task) =
    managed-harmless state (record { client = client; slot = (task_slot state.tags) }) (named_slot state.tags (length state.parts) client task) ticket task
    (slice_get state.parts client)
due-harmless state CommandPipe = inl (carry-accepted state state.messages)
due-harmless state (Data tag) = inl (tagged-accepted state move_act (place_of state.tags (length state.parts) tag))
due-harmless state (Status tag) = inl (tagged-accepted state send_act (place_of state.tags (length state.parts) tag))
due-harmless state Engine = inl (engine-accepted state state.retirement)
due-harmless state Event = inl (event-accepted state state.events)
due-harmless state (Retire pipe tag) = inl (retire-accepted state pipe (place_of state.tags (length state.parts) tag))
due-harmless state (Take client) = inl (routed-accepted state client (take_act state.tags client))

if_harmless : (acts : Bool) (state : Shared) (came : Shared × Outcome) → IsHarmless state came
    → IsHarmless state (if acts then came else (state, idle))
if_harmless true state came it = it
if_harmless false state came it = inl refl

step-harmless : (state : Shared) (step : Step) → IsHarmless state (shared_step state step)
step-harmless state step = if_harmless (due state step) state (due_step state step) (due-harmless state step)

-- THE REPLAY WITHOUT THEM

-- the first fault goes on behind a step that is due and accepted
fault-goes_on : (number : ℕ) (state : Shared) (step : Step) (rest : List Step) → due state step ≡ true
    → (shared_step state step).1.refused ≡ None
    → first_fault number state (step ∷ rest) ≡ first_fault (number + 1) (shared_step state step).0 rest
unfolding first_fault
fault-goes_on number state step rest acts none =
    ap (λ (b : Bool). if b
    then (if is_some (shared_step state step).1.refused then Some (Refused number) else first_fault (number + 1) (shared_step state step).0 rest)
    else Some (NotDue number)) acts
    ∙ ap (λ (o : Option _). if is_some o then Some (Refused number) else first_fault (number + 1) (shared_step state step).0 rest) none

-- the steps that weren't refused are due and accepted in their turn, and their replies are all replies
pub record Replays (number : ℕ) (state : Shared) (steps all : List Step) : Type 0 where
  pub faultless : first_fault number state steps ≡ None
  pub replies : replies_of (replayed state steps).1 ≡ replies_of (replayed state all).1

accepted-replays : (number : ℕ) (state : Shared) (step : Step) (steps all : List Step) → due state step ≡ true
    → (shared_step state step).1.refused ≡ None → Replays (number + 1) (shared_step state step).0 steps all
    → Replays number state (step ∷ steps) (step ∷ all)
accepted-replays number state step steps all acts none it = record {
  faultless = fault-goes_on number state step steps acts none ∙ it.faultless;
  replies = ap (λ (list : List _). option_to_list (shared_step state step).1.reply ++ list) it.replies;
}

refused-replays : (number : ℕ) (state : Shared) (step : Step) (steps all : List Step) → (shared_step state step).0 ≡ state
    → (shared_step state step).1.reply ≡ None → Replays number (shared_step state step).0 steps all → Replays number state steps (step ∷ all)
refused-replays number state step steps all same silent it = record {
  faultless = subst (λ (s : Shared). first_fault number s steps ≡ None) same it.faultless;
  replies =
      ap (λ (s : Shared). replies_of (replayed s steps).1) (sym same) ∙ it.replies
      ∙ sym (ap (λ (o : Option _). option_to_list o ++ replies_of (replayed (shared_step state step).0 all).1) silent);
}

pub kept-replays : (number : ℕ) (state : Shared) (steps : List Step) → AllDue state steps
    → Replays number state (kept steps (map refusal_of (replayed state steps).1)) steps
unfolding first_fault
kept-replays number state [] all = record { faultless = refl; replies = refl }
kept-replays number state (step ∷ steps) all =
    let after : Shared = (shared_step state step).0 in
    let outcome : Outcome = (shared_step state step).1 in
    let rest : List Step = kept steps (map refusal_of (replayed after steps).1) in
    ⊎_elim
    (λ (none : outcome.refused ≡ None).
    let number_0 : refusal_of outcome ≡ 0 = ap (λ (o : Option _). option_map_or (λ refusal. fault_number refusal.fault) o 0) none in
    subst (λ (b : Bool). Replays number state (if b then step ∷ rest else rest) (step ∷ steps)) (sym (eq-eqb (refusal_of outcome) 0 number_0))
    (accepted-replays number state step rest steps all.0 none (kept-replays (number + 1) after steps all.1)))
    (λ (same : (after ≡ state) × (outcome.reply ≡ None) × (0 < refusal_of outcome)).
    let some : refusal_of outcome ≢ 0 = λ (e : refusal_of outcome ≡ 0). (let above : 0 < refusal_of outcome = same.2 in omega arith) in
    subst (λ (b : Bool). Replays number state (if b then step ∷ rest else rest) (step ∷ steps)) (sym (ne_eqb (refusal_of outcome) 0 some))
    (refused-replays number state step rest steps same.0 same.1 (kept-replays number after steps all.1)))
    (step-harmless state step)

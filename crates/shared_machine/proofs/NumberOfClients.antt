-- Every step keeps the number of clients.
use Rattle.std.proofs.Common.{◌≡◌, ℕ, List, [], ◌∷◌, Option, Some, None, refl, ◌∙◌, rules}
use Rattle.std.specs.Prelude.{length}
use Rattle.shared_machine.specs.declared.Step.{Step}
use Rattle.shared_machine.specs.declared.Step.TheVariants.{Submit, Task as TaskStep, CommandPipe, Data, Status as StatusStep, Engine, Event, Retire, Take}
use Rattle.uas_profile.specs.declared.Pipe.{Pipe}
use Rattle.uas_profile.specs.declared.Pipe.TheVariants.{Command, Status, DataIn, DataOut}
use Rattle.uas_profile.specs.declared.PipeState.{PipeState}
use Rattle.uas_profile.specs.PipeStates.{stopped_pipe}
use Rattle.uas_profile.specs.declared.Place.{Place}
use Rattle.shared_machine.specs.declared.Completion.{Completion}
use Rattle.shared_machine.specs.declared.Completion.TheVariants.{CommandDone, DataDone, StatusDone, EngineDone}
use Rattle.shared_machine.specs.declared.Retirement.{Retirement}
use Rattle.shared_machine.specs.declared.RetirementStage.{RetirementStage}
use Rattle.shared_machine.specs.declared.RetirementStage.TheVariants.{StopAsked, StopAnswered, MoveAsked, MoveAnswered}
use Rattle.shared_machine.specs.Pipes.{all_rung}
use Rattle.shared_machine.specs.Part.{Part, Act, stop_act, pass_act, retire_act}
use Rattle.shared_machine.specs.Shared.{Shared, at_stage, due_step, engine_did, engine_seen, engine_step, event_seen, event_step, pipe_of, routed, shared_step}
use Rattle.shared_machine.specs.Shared.{stage_seen, streams_pending, with_pipe}

with_pipe-parts : (state : Shared) (pipe : Pipe) (now : PipeState) → length (with_pipe state pipe now).parts ≡ length state.parts
with_pipe-parts state Command now = refl
with_pipe-parts state Status now = refl
with_pipe-parts state DataIn now = refl
with_pipe-parts state DataOut now = refl

routed-parts : (state : Shared) (client : ℕ) (act : Part → Act) → length (routed state client act).0.parts ≡ length state.parts
routed-parts state client act = search rules

engine_did-parts : (state : Shared) (retirement : Retirement) (stage : RetirementStage) →
    length (engine_did state retirement stage).0.parts ≡ length state.parts
engine_did-parts state retirement StopAsked =
    routed-parts (at_stage (with_pipe state retirement.pipe stopped_pipe) retirement StopAnswered) retirement.place.client (stop_act retirement.place)
    ∙ with_pipe-parts state retirement.pipe stopped_pipe
engine_did-parts state retirement StopAnswered = refl
engine_did-parts state retirement MoveAsked =
    routed-parts (at_stage state retirement MoveAnswered) retirement.place.client (pass_act retirement.pipe retirement.place)
engine_did-parts state retirement MoveAnswered = refl

engine_step-parts : (state : Shared) (retirement : Option Retirement) → length (engine_step state retirement).0.parts ≡ length state.parts
engine_step-parts state None = refl
engine_step-parts state (Some retirement) = engine_did-parts state retirement retirement.stage

stage_seen-parts : (state : Shared) (retirement : Retirement) (stage : RetirementStage) →
    length (stage_seen state retirement stage).0.parts ≡ length state.parts
stage_seen-parts state retirement StopAsked = refl
stage_seen-parts state retirement StopAnswered = refl
stage_seen-parts state retirement MoveAsked = refl
stage_seen-parts state retirement MoveAnswered =
    let after = (routed (record state { retirement = None }) retirement.place.client (retire_act retirement.pipe retirement.place)).0 in
    with_pipe-parts after retirement.pipe (all_rung (pipe_of after retirement.pipe) (streams_pending after retirement.pipe))
    ∙ routed-parts (record state { retirement = None }) retirement.place.client (retire_act retirement.pipe retirement.place)

engine_seen-parts : (state : Shared) (place : Place) (retirement : Option Retirement) → length (engine_seen state place retirement).0.parts ≡ length state.parts
engine_seen-parts state place None = refl
engine_seen-parts state place (Some retirement) = stage_seen-parts state retirement retirement.stage

event_seen-parts : (state : Shared) (event : Completion) → length (event_seen state event).0.parts ≡ length state.parts
event_seen-parts state (CommandDone place) = search rules
event_seen-parts state (DataDone place) = search rules
event_seen-parts state (StatusDone place) = search rules
event_seen-parts state (EngineDone place) = engine_seen-parts state place state.retirement

event_step-parts : (state : Shared) (events : List Completion) → length (event_step state events).0.parts ≡ length state.parts
event_step-parts state [] = refl
event_step-parts state (event ∷ rest) = event_seen-parts (record state { events = rest }) event

-- a step that is due keeps the number of clients
pub due_step-parts : (state : Shared) (step : Step) → length (due_step state step).0.parts ≡ length state.parts
due_step-parts state (Submit client tag ticket command) = search rules
due_step-parts state (TaskStep client ticket task) = search rules
due_step-parts state CommandPipe = search rules
due_step-parts state (Data tag) = search rules
due_step-parts state (StatusStep tag) = search rules
due_step-parts state Engine = engine_step-parts state state.retirement
due_step-parts state Event = event_step-parts state state.events
due_step-parts state (Retire pipe tag) = search rules
due_step-parts state (Take client) = search rules

-- a step keeps the number of clients
pub length-parts : (state : Shared) (step : Step) → length (shared_step state step).0.parts ≡ length state.parts
length-parts state step = search (rules, due_step-parts)

-- what a step makes of pipes no client can tell
pub with_pipe-own : (state : Shared) (pipe : Pipe) (now : PipeState) → (with_pipe state pipe now).parts ≡ state.parts
with_pipe-own state Command now = refl
with_pipe-own state Status now = refl
with_pipe-own state DataIn now = refl
with_pipe-own state DataOut now = refl

-- Every step keeps how many tags a client has.
use Rattle.std.proofs.Common.{◌≡◌, ℕ, List, [], ◌∷◌, Option, Some, None, refl, ◌∙◌, rules}
use Rattle.shared_machine.specs.declared.Step.{Step}
use Rattle.shared_machine.specs.declared.Step.TheVariants.{Submit, Task as TaskStep, CommandPipe, Data, Status as StatusStep, Engine, Event, Retire, Take}
use Rattle.uas_profile.specs.declared.Pipe.{Pipe}
use Rattle.uas_profile.specs.declared.Pipe.TheVariants.{Command, Status, DataIn, DataOut}
use Rattle.uas_profile.specs.declared.PipeState.{PipeState}
use Rattle.uas_profile.specs.PipeStates.{stopped_pipe}
use Rattle.uas_profile.specs.declared.Place.{Place}
use Rattle.shared_machine.specs.declared.Completion.{Completion}
use Rattle.shared_machine.specs.declared.Completion.TheVariants.{CommandDone, DataDone, StatusDone, EngineDone}
use Rattle.shared_machine.specs.declared.Retirement.{Retirement}
use Rattle.shared_machine.specs.declared.RetirementStage.{RetirementStage}
use Rattle.shared_machine.specs.declared.RetirementStage.TheVariants.{StopAsked, StopAnswered, MoveAsked, MoveAnswered}
use Rattle.shared_machine.specs.Pipes.{all_rung}
use Rattle.shared_machine.specs.Part.{Part, Act, stop_act, pass_act, retire_act}
use Rattle.shared_machine.specs.Shared.{Shared, at_stage, due_step, engine_did, engine_seen, engine_step, event_seen, event_step, pipe_of, routed, shared_step}
use Rattle.shared_machine.specs.Shared.{stage_seen, streams_pending, with_pipe, with_streams_rung}
use Rattle.uas_profile.specs.declared.Direction.{Direction}
use Rattle.uas_profile.specs.declared.Direction.TheVariants.{Nothing, ToHost, ToDevice}

pub with_pipe-tags : (state : Shared) (pipe : Pipe) (now : PipeState) → (with_pipe state pipe now).tags ≡ state.tags
with_pipe-tags state Command now = refl
with_pipe-tags state Status now = refl
with_pipe-tags state DataIn now = refl
with_pipe-tags state DataOut now = refl

routed-tags : (state : Shared) (client : ℕ) (act : Part → Act) → (routed state client act).0.tags ≡ state.tags
routed-tags state client act = search rules

engine_did-tags : (state : Shared) (retirement : Retirement) (stage : RetirementStage) →
    (engine_did state retirement stage).0.tags ≡ state.tags
engine_did-tags state retirement StopAsked =
    routed-tags (at_stage (with_pipe state retirement.pipe stopped_pipe) retirement StopAnswered) retirement.place.client (stop_act retirement.place)
    ∙ with_pipe-tags state retirement.pipe stopped_pipe
engine_did-tags state retirement StopAnswered = refl
engine_did-tags state retirement MoveAsked =
    routed-tags (at_stage state retirement MoveAnswered) retirement.place.client (pass_act retirement.pipe retirement.place)
engine_did-tags state retirement MoveAnswered = refl

engine_step-tags : (state : Shared) (retirement : Option Retirement) → (engine_step state retirement).0.tags ≡ state.tags
engine_step-tags state None = refl
engine_step-tags state (Some retirement) = engine_did-tags state retirement retirement.stage

stage_seen-tags : (state : Shared) (retirement : Retirement) (stage : RetirementStage) →
    (stage_seen state retirement stage).0.tags ≡ state.tags
stage_seen-tags state retirement StopAsked = refl
stage_seen-tags state retirement StopAnswered = refl
stage_seen-tags state retirement MoveAsked = refl
stage_seen-tags state retirement MoveAnswered =
    let after = (routed (record state { retirement = None }) retirement.place.client (retire_act retirement.pipe retirement.place)).0 in
    with_pipe-tags after retirement.pipe (all_rung (pipe_of after retirement.pipe) (streams_pending after retirement.pipe))
    ∙ routed-tags (record state { retirement = None }) retirement.place.client (retire_act retirement.pipe retirement.place)

engine_seen-tags : (state : Shared) (place : Place) (retirement : Option Retirement) → (engine_seen state place retirement).0.tags ≡ state.tags
engine_seen-tags state place None = refl
engine_seen-tags state place (Some retirement) = stage_seen-tags state retirement retirement.stage

event_seen-tags : (state : Shared) (event : Completion) → (event_seen state event).0.tags ≡ state.tags
event_seen-tags state (CommandDone place) = search rules
event_seen-tags state (DataDone place) = search rules
event_seen-tags state (StatusDone place) = search rules
event_seen-tags state (EngineDone place) = engine_seen-tags state place state.retirement

event_step-tags : (state : Shared) (events : List Completion) → (event_step state events).0.tags ≡ state.tags
event_step-tags state [] = refl
event_step-tags state (event ∷ rest) = event_seen-tags (record state { events = rest }) event

pub with_streams_rung-tags : (state : Shared) (way : Direction) (tag : ℕ) → (with_streams_rung state way tag).tags ≡ state.tags
with_streams_rung-tags state Nothing tag = refl
with_streams_rung-tags state ToHost tag = refl
with_streams_rung-tags state ToDevice tag = refl

-- a step that is due keeps the number of tags
pub due_step-tags : (state : Shared) (step : Step) → (due_step state step).0.tags ≡ state.tags
due_step-tags state (Submit client tag ticket command) = search (rules, with_streams_rung-tags)
due_step-tags state (TaskStep client ticket task) = search rules
due_step-tags state CommandPipe = search rules
due_step-tags state (Data tag) = search rules
due_step-tags state (StatusStep tag) = search rules
due_step-tags state Engine = engine_step-tags state state.retirement
due_step-tags state Event = event_step-tags state state.events
due_step-tags state (Retire pipe tag) = search rules
due_step-tags state (Take client) = search rules

-- a step keeps the number of tags
pub kept-tags : (state : Shared) (step : Step) → (shared_step state step).0.tags ≡ state.tags
kept-tags state step = search (rules, due_step-tags)

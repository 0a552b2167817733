-- The event that the host takes is of one tag. Cited by the answers of step.
use Rattle.std.proofs.Common.{◌≡◌, ℕ, ◌≤◌, cond, List, ◌∷◌, Option, Some, None, refl, arith, ap, sym, subst, ◌∙◌}
use Rattle.std.specs.Prelude.{slice_get}
use Rattle.uas_profile.specs.declared.Place.{Place}
use Rattle.shared_machine.specs.declared.Completion.{Completion}
use Rattle.shared_machine.specs.declared.Completion.TheVariants.{CommandDone, DataDone, StatusDone, EngineDone}
use Rattle.shared_machine.specs.declared.Outcome.{Outcome}
use Rattle.shared_machine.specs.declared.Retirement.{Retirement}
use Rattle.shared_machine.specs.declared.RetirementStage.{RetirementStage}
use Rattle.shared_machine.specs.declared.RetirementStage.TheVariants.{StopAsked, StopAnswered, MoveAsked, MoveAnswered}
use Rattle.shared_machine.specs.declared.Step.{Step}
use Rattle.shared_machine.specs.declared.Step.TheVariants.{Event}
use Rattle.shared_machine.specs.Part.{Act, Part, event_act, event_place, retire_act}
use Rattle.shared_machine.specs.Shared.{Shared, engine_seen, event_seen, event_step, idle, is_some_of, routed_to, shared_step, stage_seen}
use Rattle.machine_invariant.specs.Matched.{same_place, answered_place, answered_places, command_events, data_events, status_events, retired_places, times, IsMatched}
use Rattle.machine_invariant.specs.Matched.{IsOwnEngineEvent, IsOwnEvent}
use Rattle.machine_invariant.proofs.MatchedBounds.{matched-once, times_pipe}
use Rattle.machine_invariant.proofs.MatchedNext.{own-event}
use Rattle.machine_invariant.proofs.MatchedPlaces.{one_self, one_if-most}
use Rattle.machine_invariant.proofs.MatchedSteps.{times_alike, times_alike-first}
use Rattle.bus_core.specs.OwnEvents.{events_like, TakesOfOneTag}

-- ALONE

answered-once : (place asked : Place) (stage : RetirementStage) → times place (answered_place stage asked) ≤ 1
answered-once place asked StopAsked = omega arith
answered-once place asked StopAnswered = omega (arith, one_if-most (same_place asked place))
answered-once place asked MoveAsked = omega arith
answered-once place asked MoveAnswered = omega (arith, one_if-most (same_place asked place))

answered-most : (place : Place) (retirement : Option Retirement) → times place (answered_places retirement) ≤ 1
answered-most place None = omega arith
answered-most place (Some retirement) = answered-once place retirement.place retirement.stage

first-alone : (state : Shared) (event : Completion) (rest : List Completion) → IsMatched state → state.events ≡ event ∷ rest → events_like event rest ≡ 0
first-alone state (CommandDone place) rest all is =
    omega (arith, (matched-once state all place).command, times_pipe state place, ap (command_events place) is, one_self place)
first-alone state (DataDone place) rest all is = omega (arith, (matched-once state all place).data_events, ap (data_events place) is, one_self place)
first-alone state (StatusDone place) rest all is = omega (arith, (matched-once state all place).status_events, ap (status_events place) is, one_self place)
first-alone state (EngineDone place) rest all is =
    omega (arith, answered-most place state.retirement, ap (times place) all.retired, ap (λ events. times place (retired_places events)) is, one_self place)

-- THE OWNER

routed-owner : (state : Shared) (client : ℕ) (act : Part → Act) (part : Option Part) → (routed_to state client act part).1.owner ≡ Some client
routed-owner state client act None = refl
routed-owner state client act (Some part) = refl

stage-owner : (state : Shared) (retirement : Retirement) (stage : RetirementStage) → (stage_seen state retirement stage).1.owner ≡ Some retirement.place.client
stage-owner state retirement StopAsked = refl
stage-owner state retirement StopAnswered = refl
stage-owner state retirement MoveAsked = refl
stage-owner state retirement MoveAnswered =
    routed-owner (record state { retirement = None }) retirement.place.client (retire_act retirement.pipe retirement.place)
    (slice_get state.parts retirement.place.client)

engine-owner : (state now : Shared) (place : Place) → IsOwnEngineEvent state place → (engine_seen now place state.retirement).1.owner ≡ Some place.client
engine-owner state now place own =
    ap (λ retirement. (engine_seen now place retirement).1.owner) own.under_way
    ∙ stage-owner now own.retirement own.retirement.stage
    ∙ ap (λ (p : Place). Some p.client) own.place_same

event-owner : (state : Shared) (event : Completion) (rest : List Completion) → IsOwnEvent state event
    → (event_seen (record state { events = rest }) event).1.owner ≡ Some (event_place event).client
event-owner state (CommandDone place) rest own =
    routed-owner (record state { events = rest }) place.client (event_act (CommandDone place)) (slice_get state.parts place.client)
event-owner state (DataDone place) rest own =
    routed-owner (record state { events = rest }) place.client (event_act (DataDone place)) (slice_get state.parts place.client)
event-owner state (StatusDone place) rest own =
    routed-owner (record state { events = rest }) place.client (event_act (StatusDone place)) (slice_get state.parts place.client)
event-owner state (EngineDone place) rest own = engine-owner state (record state { events = rest }) place own

-- THE STEP

first-own : (state : Shared) (event : Completion) (rest : List Completion) → IsMatched state → state.events ≡ event ∷ rest → IsOwnEvent state event
first-own state event rest all is =
    own-event state event all (subst (λ events. 1 ≤ times_alike event events) (sym is) (times_alike-first event rest))

taken-owner : (state : Shared) (event : Completion) (rest : List Completion) → IsMatched state → state.events ≡ event ∷ rest
    → (shared_step state Event).1.owner ≡ Some (event_place event).client
taken-owner state event rest all is =
    ap (λ events. (cond (is_some_of events) (event_step state events) (state, idle)).1.owner) is
    ∙ event-owner state event rest (first-own state event rest all is)

pub takes-of_one_tag : (state new : Shared) (step : Step) (outcome : Outcome) → IsMatched state → shared_step state step ≡ (new, outcome)
    → TakesOfOneTag state step outcome
takes-of_one_tag state new step outcome all went of_event event rest is = record {
  own = first-own state event rest all is;
  alone = first-alone state event rest all is;
  owner =
      ap (λ (after : Shared × Outcome). after.1.owner) (sym went)
      ∙ ap (λ (s : Step). (shared_step state s).1.owner) of_event
      ∙ taken-owner state event rest all is;
}

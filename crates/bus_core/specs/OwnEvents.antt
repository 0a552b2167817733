-- Whose event the host takes.
use Rattle.std.specs.Prelude.{◌≡◌, ℕ, List, ◌∷◌, Some}
use Rattle.shared_machine.specs.declared.Completion.{Completion}
use Rattle.shared_machine.specs.declared.Completion.TheVariants.{CommandDone, DataDone, StatusDone, EngineDone}
use Rattle.shared_machine.specs.declared.Outcome.{Outcome}
use Rattle.shared_machine.specs.declared.Step.{Step}
use Rattle.shared_machine.specs.declared.Step.TheVariants.{Event}
use Rattle.shared_machine.specs.Part.{event_place}
use Rattle.shared_machine.specs.Shared.{Shared}
use Rattle.machine_invariant.specs.Matched.{IsOwnEvent, command_events, data_events, status_events, retired_places, times}

-- how many of these events are of the same TD, or of the controller's own commands
abbrev pub events_like : Completion → List Completion → ℕ
events_like (CommandDone place) events = command_events place events
events_like (DataDone place) events = data_events place events
events_like (StatusDone place) events = status_events place events
events_like (EngineDone place) events = times place (retired_places events)

-- An event is of one tag: of the TD that its client has pending there, whose last TRB was taken, or of the retirement under way there. No other
-- event that waits is of that TD, and the step is that client's.
pub record IsOfOneTag (state : Shared) (outcome : Outcome) (event : Completion) (rest : List Completion) : Type 0 where
  pub own : IsOwnEvent state event
  pub alone : events_like event rest ≡ 0
  pub owner : outcome.owner ≡ Some (event_place event).client

-- the first event that waits is the one that is taken
abbrev pub TakesOfOneTag : Shared → Step → Outcome → Type 0
TakesOfOneTag state step outcome =
    step ≡ Event → (event : Completion) (rest : List Completion) → state.events ≡ event ∷ rest → IsOfOneTag state outcome event rest

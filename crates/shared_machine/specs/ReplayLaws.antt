-- The laws of the replay that a log of steps rests on, as statements that a contract can name.
use Rattle.std.specs.Prelude.{◌≡◌, false, List, [], ◌∷◌, ◌++◌}
use Rattle.shared_machine.specs.declared.Step.{Step}
use Rattle.shared_machine.specs.declared.Outcome.{Outcome}
use Rattle.shared_machine.specs.Shared.{Shared, due, shared_step}
use Rattle.shared_machine.specs.Replay.{replayed}

-- a replay goes on by one step
abbrev pub stepped_on : Shared × List Outcome → Step → Shared × List Outcome
stepped_on before step = ((shared_step before.0 step).0, before.1 ++ (shared_step before.0 step).1 ∷ [])

-- the replay of a list and one more step is the replay of the list, and then that step
abbrev pub ReplayGoesOn : Type 0
ReplayGoesOn = (state : Shared) (steps : List Step) (step : Step) → replayed state (steps ++ step ∷ []) ≡ stepped_on (replayed state steps) step

-- a step that isn't due in its turn can be left out, wherever it stands: the state after the whole list is the same
abbrev pub IdleCanBeLeftOut : Type 0
IdleCanBeLeftOut =
    (state : Shared) (before : List Step) (step : Step) (after : List Step) → due (replayed state before).0 step ≡ false
    → (replayed state (before ++ step ∷ after)).0 ≡ (replayed state (before ++ after)).0

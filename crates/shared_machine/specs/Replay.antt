-- The shared machine over whole lists of steps.
use Rattle.std.specs.Prelude.{ℕ, List, [], ◌∷◌}
use Rattle.block_unit.specs.BlockMaps.{BlockMaps}
use Rattle.shared_machine.specs.declared.Step.{Step}
use Rattle.shared_machine.specs.declared.Outcome.{Outcome}
use Rattle.shared_machine.specs.Shared.{Shared, opening, shared_step}

-- an outcome before those that follow
abbrev pub with_outcome : Outcome → Shared × List Outcome → Shared × List Outcome
with_outcome outcome after = (after.0, outcome ∷ after.1)

-- the shared machine after a list of steps, and the outcome of each
abbrev pub replayed : Shared → List Step → Shared × List Outcome
replayed state [] = (state, [])
replayed state (step ∷ steps) = with_outcome (shared_step state step).1 (replayed (shared_step state step).0 steps)

-- The replay: from new units, with so many tags of each client.
abbrev pub replay : ℕ → List BlockMaps → List Step → Shared × List Outcome
replay tags units steps = replayed (opening tags units) steps

-- The headline of one step.
use Rattle.std.specs.Prelude.{ℕ, [], ◌∷◌}
use Rattle.shared_machine.specs.declared.Step.{Step}
use Rattle.shared_machine.specs.declared.Outcome.{Outcome}
use Rattle.shared_machine.specs.Shared.{Shared, shared_step}
use Rattle.isolation.specs.Isolation.{IsIsolated}

-- A step with this outcome is isolated: to each client it is its own machine's step with its own reply, or nothing at all.
abbrev pub IsIsolatedStep : Shared → Step → Outcome → Shared → ℕ → Type 0
IsIsolatedStep old step outcome new client = IsIsolated old (step ∷ []) (outcome ∷ []) new client

-- Each step of the shared machine is isolated, from whatever state it is taken.
abbrev pub EachStepIsIsolated : Type 0
EachStepIsIsolated =
    (state : Shared) (step : Step) (client : ℕ) → IsIsolatedStep state step (shared_step state step).1 (shared_step state step).0 client

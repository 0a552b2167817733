-- One step is a run.
use Rattle.std.proofs.Common.{◌≡◌, ℕ, [], ◌∷◌, subst}
use Rattle.shared_machine.specs.declared.Step.{Step}
use Rattle.shared_machine.specs.declared.Outcome.{Outcome}
use Rattle.shared_machine.specs.Shared.{Shared, shared_step}
use Rattle.isolation.specs.StepIsolation.{IsIsolatedStep}
use Rattle.isolation.proofs.WholeRuns.{replayed-isolated}

pub shared_step-isolated : (state : Shared) (step : Step) (client : ℕ) → IsIsolatedStep state step (shared_step state step).1 (shared_step state step).0 client
shared_step-isolated state step client = replayed-isolated state (step ∷ []) client

-- so is what is made of a step
pub step_isolated : (old new : Shared) (step : Step) (outcome : Outcome) (client : ℕ) → shared_step old step ≡ (new, outcome)
    → IsIsolatedStep old step outcome new client
step_isolated old new step outcome client is =
    let P : Shared × Outcome → Type 0 = λ after. IsIsolatedStep old step after.1 after.0 client in
    subst P is (shared_step-isolated old step client)

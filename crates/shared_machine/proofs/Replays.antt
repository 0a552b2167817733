-- How a replay goes on.
use Rattle.std.proofs.Common.{◌≡◌, false, List, [], ◌∷◌, ◌++◌, refl, ap, ◌∙◌}
use Rattle.shared_machine.specs.declared.Step.{Step}
use Rattle.shared_machine.specs.declared.Outcome.{Outcome}
use Rattle.shared_machine.specs.Shared.{Shared, due, idle, shared_step}
use Rattle.shared_machine.specs.Replay.{replayed, with_outcome}
use Rattle.shared_machine.specs.ReplayLaws.{stepped_on}
use Rattle.shared_machine.proofs.Due.{shared_step-idle}

-- the replay of a list and one more step is the replay of the list, and then that step
pub replayed_more : (state : Shared) (steps : List Step) (step : Step)
    → replayed state (steps ++ step ∷ []) ≡ stepped_on (replayed state steps) step
replayed_more state [] step = refl
replayed_more state (first ∷ rest) step = ap (with_outcome (shared_step state first).1) (replayed_more (shared_step state first).0 rest step)

-- idle steps that are left out change nothing of a replay
pub replayed_without_idle : (state : Shared) (before : List Step) (step : Step) (after : List Step) → due (replayed state before).0 step ≡ false
    → (replayed state (before ++ step ∷ after)).0 ≡ (replayed state (before ++ after)).0
replayed_without_idle state [] step after not_due =
    ap (λ (came : Shared × Outcome). (replayed came.0 after).0) (shared_step-idle state step not_due)
replayed_without_idle state (first ∷ rest) step after not_due = replayed_without_idle (shared_step state first).0 rest step after not_due

-- How far one step reaches, by the states before and after it. Cited by Bus::step.
use Rattle.std.proofs.Common.{◌≡◌, ℕ, Option, Some, None, refl, ap, subst}
use Rattle.std.specs.Prelude.{slice_get}
use Rattle.shared_machine.specs.declared.Outcome.{Outcome}
use Rattle.shared_machine.specs.declared.Step.{Step}
use Rattle.shared_machine.specs.Shared.{Shared, shared_step}
use Rattle.machine_invariant.specs.Reach.{EndsAsNoted, KeepsOthers}
use Rattle.machine_invariant.proofs.OthersStay.{shared_step-owners}
use Rattle.machine_invariant.proofs.GoneByNote.{gone-noted}

-- a client other than the owner, or any where there is none
others-kept : (state : Shared) (step : Step) (owner : Option ℕ) → (shared_step state step).1.owner ≡ owner → (client : ℕ) → (owner ≡ Some client → ⊥)
    → slice_get (shared_step state step).0.parts client ≡ slice_get state.parts client
others-kept state step None is client apart = ap (λ parts. slice_get parts client) ((shared_step-owners state step).nobody is)
others-kept state step (Some owner) is client apart = (shared_step-owners state step).others owner client is (λ same. apart (ap Some same))

pub step_keeps_others : (old new : Shared) (step : Step) (outcome : Outcome) → shared_step old step ≡ (new, outcome) → KeepsOthers old outcome new
step_keeps_others old new step outcome is =
    let P : Shared × Outcome → Type 0 = λ after. KeepsOthers old after.1 after.0 in
    subst P is (others-kept old step (shared_step old step).1.owner refl)

pub step_ends_as_noted : (old new : Shared) (step : Step) (outcome : Outcome) → shared_step old step ≡ (new, outcome) → EndsAsNoted old step new
step_ends_as_noted old new step outcome is =
    let P : Shared × Outcome → Type 0 = λ after. EndsAsNoted old step after.0 in
    subst P is (gone-noted old step)

-- The forms of consumers are exact.
use Rattle.std.proofs.Common.{◌≡◌, ℕ, zero, suc, ◌<◌, refl, sym, ap, arith}
use Rattle.guest_pipes.specs.declared.progress.Ending.{Ending}
use Rattle.guest_pipes.specs.declared.progress.Ending.TheVariants.{Told}
use Rattle.guest_pipes.specs.Progress.{code_of}
use Rattle.machine_bytes.specs.Exact.{IsExact}
use Rattle.machine_bytes.specs.Forms.{number}
use Rattle.machine_bytes.proofs.Exact.{flag-exact, mapped-exact, named-exact, nothing-exact, number-exact, pair-exact, tagged-exact}
use Rattle.controller_bytes.specs.Consumers.{consumer_form, ending_form, ending_number, ending_part, progress_form, state_at, state_form, state_number}

pub state-exact : IsExact state_form
state-exact = named-exact 5 state_number state_at same
  where
    same : (k : ℕ) → k < 5 → state_number (state_at k) ≡ k
    same zero few = refl
    same (suc zero) few = refl
    same (suc (suc zero)) few = refl
    same (suc (suc (suc zero))) few = refl
    same (suc (suc (suc (suc zero)))) few = refl
    same (suc (suc (suc (suc (suc k))))) few = absurd (omega (arith, few))

pub ending-exact : IsExact ending_form
ending-exact = tagged-exact 3 ending_number ending_part part kinds
  where
    part : (k : ℕ) → k < 3 → IsExact (ending_part k)
    part zero few = nothing-exact _
    part (suc zero) few = mapped-exact (λ (code : ℕ). Told code) code_of (number 1) (number-exact 1) (λ code has. refl)
    part (suc (suc k)) few = nothing-exact _

    kinds : (k : ℕ) → k < 3 → (x : Ending) → (ending_part k).Has x → ending_number x ≡ k
    kinds zero few x has = ap ending_number has
    kinds (suc zero) few x has = ap ending_number (sym has.1)
    kinds (suc (suc zero)) few x has = ap ending_number has
    kinds (suc (suc (suc k))) few x has = absurd (omega (arith, few))

pub progress-exact : IsExact progress_form
progress-exact =
    mapped-exact _ _ _ (pair-exact _ _ (number-exact 4) (pair-exact _ _ ending-exact (pair-exact _ _ (number-exact 4) (pair-exact _ _ flag-exact flag-exact)))) (λ p has. refl)

pub consumer-exact : IsExact consumer_form
consumer-exact =
    mapped-exact _ _ _ (pair-exact _ _ (number-exact 1) (pair-exact _ _ state-exact (pair-exact _ _ flag-exact progress-exact))) (λ p has. refl)

-- The form of endpoint 0 is exact.
use Rattle.std.proofs.Common.{◌≡◌, ℕ, zero, suc, ◌<◌, refl, sym, ap, arith}
use Rattle.machine_bytes.specs.Exact.{IsExact}
use Rattle.machine_bytes.proofs.Exact.{bytes_of-exact, counted-exact, flag-exact, mapped-exact, named-exact, nothing-exact, number-exact, pair-exact, tagged-exact}
use Rattle.usb_disk.specs.declared.Settings.{Settings}
use Rattle.xhci_control.specs.declared.stage.Given.{Given}
use Rattle.xhci_control.specs.declared.stage.Stage.{Stage}
use Rattle.controller_bytes.specs.Control.{alternate_at, alternate_form, alternate_number, control_form, disk_form, given_form, given_number, given_part, halts_form, settings_form, settings_number, settings_part, stage_form, stage_number, stage_part, strings_form}
use Rattle.controller_bytes.proofs.ConsumersExact.{consumer-exact}

alternate-exact : IsExact alternate_form
alternate-exact = named-exact 2 alternate_number alternate_at same
  where
    same : (k : ℕ) → k < 2 → alternate_number (alternate_at k) ≡ k
    same zero few = refl
    same (suc zero) few = refl
    same (suc (suc k)) few = absurd (omega (arith, few))

settings-exact : IsExact settings_form
settings-exact = tagged-exact 2 settings_number settings_part part kinds
  where
    part : (k : ℕ) → k < 2 → IsExact (settings_part k)
    part zero few = nothing-exact _
    part (suc k) few = mapped-exact _ _ _ (pair-exact _ _ (number-exact 1) alternate-exact) (λ b has. refl)

    kinds : (k : ℕ) → k < 2 → (x : Settings) → (settings_part k).Has x → settings_number x ≡ k
    kinds zero few x has = ap settings_number has
    kinds (suc zero) few x has = ap settings_number (sym has.1)
    kinds (suc (suc k)) few x has = absurd (omega (arith, few))

halts-exact : IsExact halts_form
halts-exact = mapped-exact _ _ _ (pair-exact _ _ flag-exact (pair-exact _ _ flag-exact (pair-exact _ _ flag-exact flag-exact))) (λ h has. refl)

strings-exact : IsExact strings_form
strings-exact = mapped-exact _ _ _ (pair-exact _ _ (bytes_of-exact 8) (pair-exact _ _ (bytes_of-exact 16) (bytes_of-exact 8))) (λ s has. refl)

disk-exact : IsExact disk_form
disk-exact =
    mapped-exact _ _ _ (pair-exact _ _ flag-exact (pair-exact _ _ settings-exact (pair-exact _ _ flag-exact (pair-exact _ _ flag-exact
    (pair-exact _ _ halts-exact strings-exact))))) (λ d has. refl)

given-exact : IsExact given_form
given-exact = tagged-exact 4 given_number given_part part kinds
  where
    part : (k : ℕ) → k < 4 → IsExact (given_part k)
    part zero few = mapped-exact _ _ _ (pair-exact _ _ (counted-exact 1 121) (number-exact 8)) (λ a has. refl)
    part (suc zero) few = nothing-exact _
    part (suc (suc zero)) few = nothing-exact _
    part (suc (suc (suc k))) few = nothing-exact _

    kinds : (k : ℕ) → k < 4 → (x : Given) → (given_part k).Has x → given_number x ≡ k
    kinds zero few x has = ap given_number (sym has.1)
    kinds (suc zero) few x has = ap given_number has
    kinds (suc (suc zero)) few x has = ap given_number has
    kinds (suc (suc (suc zero))) few x has = ap given_number has
    kinds (suc (suc (suc (suc k)))) few x has = absurd (omega (arith, few))

stage-exact : IsExact stage_form
stage-exact = tagged-exact 3 stage_number stage_part part kinds
  where
    part : (k : ℕ) → k < 3 → IsExact (stage_part k)
    part zero few = nothing-exact _
    part (suc zero) few = mapped-exact _ _ _ given-exact (λ g has. refl)
    part (suc (suc k)) few = mapped-exact _ _ _ flag-exact (λ s has. refl)

    kinds : (k : ℕ) → k < 3 → (x : Stage) → (stage_part k).Has x → stage_number x ≡ k
    kinds zero few x has = ap stage_number has
    kinds (suc zero) few x has = ap stage_number (sym has.1)
    kinds (suc (suc zero)) few x has = ap stage_number (sym has.1)
    kinds (suc (suc (suc k))) few x has = absurd (omega (arith, few))

pub control-exact : IsExact control_form
control-exact =
    mapped-exact _ _ _ (pair-exact _ _ consumer-exact (pair-exact _ _ (number-exact 8) (pair-exact _ _ disk-exact stage-exact))) (λ c has. refl)

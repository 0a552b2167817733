-- The form of what is kept of the controller is exact.
use Rattle.std.proofs.Common.{refl}
use Rattle.controller_bytes.proofs.BulkExact.{bulk-exact}
use Rattle.controller_bytes.proofs.ConsumersExact.{state-exact}
use Rattle.controller_bytes.proofs.ControlExact.{control-exact}
use Rattle.controller_bytes.proofs.RegistersExact.{registers-exact}
use Rattle.controller_bytes.proofs.SlotsExact.{ring-exact, slot-exact}
use Rattle.controller_bytes.proofs.TransfersExact.{pipes-exact}
use Rattle.machine_bytes.specs.Exact.{IsExact}
use Rattle.machine_bytes.proofs.Exact.{flag-exact, mapped-exact, number-exact, optional-exact, pair-exact}
use Rattle.xhci_machine.specs.Kept.{commands_form, interrupts_form, kept_form, rings_form, states_form}

commands-exact : IsExact commands_form
commands-exact = mapped-exact _ _ _ (pair-exact _ _ flag-exact (pair-exact _ _ flag-exact (optional-exact _ (number-exact 2)))) (λ c has. refl)

interrupts-exact : IsExact interrupts_form
interrupts-exact = mapped-exact _ _ _ (pair-exact _ _ (optional-exact _ ring-exact) (pair-exact _ _ flag-exact (pair-exact _ _ flag-exact flag-exact))) (λ i has. refl)

states-exact : IsExact states_form
states-exact =
    mapped-exact _ _ _ (pair-exact _ _ state-exact (pair-exact _ _ state-exact (pair-exact _ _ state-exact (pair-exact _ _ state-exact state-exact)))) (λ s has. refl)

rings-exact : IsExact rings_form
rings-exact =
    mapped-exact _ _ _ (pair-exact _ _ registers-exact (pair-exact _ _ commands-exact (pair-exact _ _ interrupts-exact (pair-exact _ _ slot-exact states-exact)))) (λ k has. refl)

pub kept-exact : IsExact kept_form
kept-exact = mapped-exact _ _ _ (pair-exact _ _ rings-exact (pair-exact _ _ control-exact (pair-exact _ _ pipes-exact bulk-exact))) (λ k has. refl)

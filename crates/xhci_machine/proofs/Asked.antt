-- One more call of `work` with a budget of 1 that took its step.
use Rattle.std.proofs.Common.{◌≡◌, ℕ, suc, ◌+◌, true, sym, subst, arith}
use Rattle.guest_memory.specs.Bytes.{Memory}
use Rattle.xhci_machine.specs.declared.Machine.{Machine}
use Rattle.xhci_machine.specs.Asking.{StepWorked, StepsWorked}

pub one_more : (n : ℕ) (at before after : Memory × Machine) → StepsWorked n at before → StepWorked true before after → StepsWorked (n + 1) at after
one_more n at before after steps step =
    let more : n + 1 ≡ suc n = omega arith in
    subst (λ (k : ℕ). StepsWorked k at after) (sym more) (before, steps, step)

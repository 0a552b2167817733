-- A call of `work` with a budget of 1 takes a step, or none.
use Rattle.std.proofs.Common.{◌≡◌, ℕ, ◌-◌, Bool, true, false, Option, None, Some, Result, Ok, Err, sym, ap, ◌∙◌, arith}
use Rattle.std.proofs.lemmas.Bool.{false≢true}
use Rattle.guest_memory.specs.Bytes.{Memory}
use Rattle.guest_memory.specs.rings.Events.{EventEnd}
use Rattle.xhci_registers.specs.declared.Registers.{Registers}
use Rattle.xhci_machine.specs.declared.Machine.{Machine}
use Rattle.xhci_machine.specs.declared.interrupts.Interrupts.{Interrupts}
use Rattle.xhci_machine.specs.declared.interrupts.RingFault.{RingFault}
use Rattle.xhci_machine.specs.declared.work.Worked.{Worked}
use Rattle.xhci_machine.specs.Asking.{TookOne}
use Rattle.xhci_machine.specs.Interrupter.{taken}
use Rattle.xhci_machine.specs.Turns.{World}
use Rattle.xhci_machine.specs.Worked.{IsOver, IsWorked, RoundsWorked, WorkedIf, WorkedOn, nothing_worked}

-- nothing was done
none_took : (worked : Worked) → worked ≡ nothing_worked → TookOne worked
none_took worked none = (
  λ more. absurd (false≢true (sym (ap (λ (w : Worked). w.more) none) ∙ more)),
  λ over. ap (λ (w : Worked). w.steps) none,
)

-- rounds took what is gone of the budget
over_took : (more : Bool) (at : World × ℕ) (after : World) (steps : ℕ) → IsOver at after more → steps ≡ 1 - at.1
    → (more ≡ true → steps ≡ 1) × (more ≡ false → steps ≡ 0)
over_took true at after steps over is = (λ same. is ∙ ap (λ n. 1 - n) over.0, λ same. absurd (false≢true (sym same)))
over_took false at after steps over is = (λ same. absurd (false≢true same), λ same. omega (arith, is, over.0))

rounds_took : (w after : World) (worked : Worked) → RoundsWorked 1 w after worked → TookOne worked
rounds_took w after worked it = over_took worked.more it.at after worked.steps it.over it.steps

pub one_took : (memory after : Memory) (m now : Machine) (worked : Worked) → IsWorked 1 memory m after now worked → TookOne worked
one_took memory after m now worked is = by_runs m.registers.runs is
  where
    by_ring : (found : Result (Option EventEnd) RingFault × (Interrupts × Registers)) → WorkedOn 1 memory m found after now worked → TookOne worked
    by_ring (Err fault, kept) done = none_took worked done.2
    by_ring (Ok None, kept) done = none_took worked done.2
    by_ring (Ok (Some ring), kept) done = rounds_took _ done.0 worked done.1

    by_runs : (runs : Bool) → WorkedIf runs 1 memory m after now worked → TookOne worked
    by_runs true done = by_ring (taken memory m.interrupts m.registers) done
    by_runs false done = none_took worked done.2

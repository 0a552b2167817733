-- A call of `work` whose event ring was taken.
use Rattle.std.proofs.Common.{◌≡◌, ℕ, Bool, true, Option, Some, Result, Ok, refl, sym, subst}
use Rattle.guest_memory.specs.Bytes.{Memory}
use Rattle.guest_memory.specs.rings.Events.{EventEnd}
use Rattle.xhci_registers.specs.declared.Registers.{Registers}
use Rattle.xhci_machine.specs.declared.Machine.{Machine}
use Rattle.xhci_machine.specs.declared.interrupts.Interrupts.{Interrupts}
use Rattle.xhci_machine.specs.declared.interrupts.RingFault.{RingFault}
use Rattle.xhci_machine.specs.declared.work.Worked.{Worked}
use Rattle.xhci_machine.specs.Interrupter.{taken}
use Rattle.xhci_machine.specs.Turns.{World}
use Rattle.xhci_machine.specs.Worked.{IsWorked, RoundsWorked, WorkedIf, WorkedOn, ring_kept, with_kept}

pub worked_on : (budget : ℕ) (memory : Memory) (m : Machine) (ring : EventEnd) (kept : Interrupts × Registers) (after : World) (m_new : Machine)
    (worked : Worked) → m.registers.runs ≡ true → (Ok (Some ring), kept) ≡ taken memory m.interrupts m.registers
    → RoundsWorked budget (record { memory = memory; events = ring; machine = with_kept m kept }) after worked → m_new ≡ ring_kept after
    → IsWorked budget memory m after.memory m_new worked
worked_on budget memory m ring kept after m_new worked runs is rounds keeps =
    subst (λ (b : Bool). WorkedIf b budget memory m after.memory m_new worked) (sym runs)
    (subst (λ (t : Result (Option EventEnd) RingFault × (Interrupts × Registers)). WorkedOn budget memory m t after.memory m_new worked) is
    (after, rounds, refl, keeps))

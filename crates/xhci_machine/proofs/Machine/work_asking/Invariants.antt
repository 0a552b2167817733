use Rattle.std.proofs.Common.{◌≡◌, ◌-◌, ◌≤◌, false}
use Rattle.xhci_machine.specs.Asking.{StepsWorked}
use Rattle.xhci_machine.proofs.Machine.work_asking.Given as goal

-- so many calls took their steps, and no step puts another loan in the memory's place; while R/S is 0 nothing changes
abbrev pub invariant-loop-taken : goal.invariant-loop-taken
invariant-loop-taken g l =
    StepsWorked l.taken (g.M.GuestMemory.contents l.initial.memory, l.initial.self) (g.M.GuestMemory.contents l.memory, l.self)
    × (g.M.GuestMemory.loan l.memory ≡ g.M.GuestMemory.loan l.initial.memory)
    × (l.initial.self.registers.runs ≡ false
    → (l.self ≡ l.initial.self) × (g.M.GuestMemory.contents l.memory ≡ g.M.GuestMemory.contents l.initial.memory))
    × (l.taken ≤ l.fn.budget)

abbrev pub decreases-loop-taken : goal.decreases-loop-taken
decreases-loop-taken g l = l.fn.budget - l.taken

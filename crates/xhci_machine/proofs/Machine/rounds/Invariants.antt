use Rattle.std.proofs.Common.{◌≡◌, ℕ}
use Rattle.xhci_machine.specs.Worked.{RoundsTurned}
use Rattle.xhci_machine.proofs.Machine.rounds.Given as goal

-- some rounds were taken, and no step puts another loan in the memory's place
abbrev pub invariant-loop-turn : goal.invariant-loop-turn
invariant-loop-turn g l =
    (n : ℕ)
    × RoundsTurned n
    (record { memory = g.M.GuestMemory.contents l.initial.memory; events = l.initial.events; machine = l.initial.self }, l.fn.budget)
    (record { memory = g.M.GuestMemory.contents l.memory; events = l.events; machine = l.self }, l.turn.left)
    × (g.M.GuestMemory.loan l.memory ≡ g.M.GuestMemory.loan l.initial.memory)

abbrev pub decreases-loop-turn : goal.decreases-loop-turn
decreases-loop-turn g l = l.turn.left

use Rattle.std.proofs.Common.{◌≡◌, ◌≤◌, ◌-◌, true}
use Rattle.xhci_machine.specs.Worked.{tags_turned}
use Rattle.xhci_machine.proofs.Machine.turn_tags.Given as goal

-- the tags below one have had their turns, and no step puts another loan in the memory's place
abbrev pub invariant-loop-tag : goal.invariant-loop-tag
invariant-loop-tag g l =
    (l.from ≤ 241)
    × (((record { memory = g.M.GuestMemory.contents l.memory; events = l.events; machine = l.self }, l.turn.left), true)
    ≡ tags_turned l.from
    ((record { memory = g.M.GuestMemory.contents l.initial.memory; events = l.initial.events; machine = l.initial.self }, l.initial.turn.left), true))
    × (g.M.GuestMemory.loan l.memory ≡ g.M.GuestMemory.loan l.initial.memory)

abbrev pub decreases-loop-tag : goal.decreases-loop-tag
decreases-loop-tag g l = 241 - l.from

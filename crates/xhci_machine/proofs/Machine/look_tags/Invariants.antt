use Rattle.std.proofs.Common.{◌≡◌, ◌≤◌, ◌-◌, Ok}
use Rattle.xhci_machine.specs.Wanted.{tags_looked}
use Rattle.xhci_machine.proofs.Machine.look_tags.Given as goal

-- the look goes on behind the tags below one
abbrev pub invariant-loop-tag : goal.invariant-loop-tag
invariant-loop-tag g l = (l.from ≤ 241) × (tags_looked (g.M.GuestMemory.contents l.memory) l.self l.events l.from ≡ Ok tt)

abbrev pub decreases-loop-tag : goal.decreases-loop-tag
decreases-loop-tag g l = 241 - l.from

use Rattle.guest_memory.specs.Held.{held}
use Rattle.guest_memory.specs.Lend.{lent_in}
use Rattle.uas_xhci_c.proofs.turn.work_over.Given as goal

-- what the regions hold
abbrev pub ghosts-work_noting : goal.ghosts-work_noting
ghosts-work_noting a = record { memory = held lent_in a.memory.now.pieces.now }

use Rattle.guest_memory.specs.Held.{held}
use Rattle.guest_memory.specs.Lend.{lent_in}
use Rattle.uas_xhci_c.proofs.asking.ask_over.Given as goal

-- what the regions hold
abbrev pub ghosts-ask_noting : goal.ghosts-ask_noting
ghosts-ask_noting a = record { memory = held lent_in a.memory.now.pieces.now }

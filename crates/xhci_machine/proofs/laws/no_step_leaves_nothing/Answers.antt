use Rattle.xhci_machine.proofs.Nothing.{nothing_of}
use Rattle.xhci_machine.proofs.laws.no_step_leaves_nothing.Goals as goal

pub returns : goal.returns
returns c = nothing_of

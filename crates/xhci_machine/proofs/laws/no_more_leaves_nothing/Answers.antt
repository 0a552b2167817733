use Rattle.xhci_machine.proofs.Nothing.{over_of}
use Rattle.xhci_machine.proofs.laws.no_more_leaves_nothing.Goals as goal

pub returns : goal.returns
returns c = over_of

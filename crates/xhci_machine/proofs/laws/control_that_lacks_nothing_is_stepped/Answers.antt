use Rattle.xhci_machine.proofs.TurnsTaken.{control_taken}
use Rattle.xhci_machine.proofs.laws.control_that_lacks_nothing_is_stepped.Goals as goal

pub returns : goal.returns
returns c = control_taken c.what_lacks_nothing_is_taken.ensures.of_step

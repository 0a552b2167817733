use Rattle.xhci_machine.proofs.Taken.{commands_taken}
use Rattle.xhci_machine.proofs.laws.commands_that_lack_nothing_are_taken.Goals as goal

pub returns : goal.returns
returns c = commands_taken c.what_lacks_nothing_is_executed.ensures.of_command

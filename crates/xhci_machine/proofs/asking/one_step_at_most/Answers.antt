use Rattle.xhci_machine.proofs.OneStep.{one_took}
use Rattle.xhci_machine.proofs.asking.one_step_at_most.Goals as goal

pub returns : goal.returns
returns c = λ memory after m now worked is. one_took memory after m now worked is

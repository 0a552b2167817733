use Rattle.xhci_machine.proofs.Nothing.{turn_of}
use Rattle.xhci_machine.proofs.laws.each_tag_has_its_turn.Goals as goal

pub returns : goal.returns
returns c = turn_of

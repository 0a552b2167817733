use Rattle.xhci_control.proofs.Lacking.{control_lacks}
use Rattle.xhci_control.proofs.wanting.what_is_wanted_is_not_there.Goals as goal

pub returns : goal.returns
returns c = λ fault w. control_lacks fault w

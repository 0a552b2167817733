use Rattle.xhci_control.proofs.Lacking.{control_there, stop_there}
use Rattle.xhci_control.proofs.wanting.what_lacks_nothing_is_taken.Goals as goal

pub returns : goal.returns
returns c = record { of_step = λ fault w none. control_there fault w none; of_stop = λ w none. stop_there w none }

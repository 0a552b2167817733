use Rattle.usb_descriptors.proofs.Joins.{joined_cut}
use Rattle.usb_descriptors.proofs.laws.joined_descriptors_are_cut.Goals as goal

pub returns : goal.returns
returns c = λ ds each. joined_cut ds each

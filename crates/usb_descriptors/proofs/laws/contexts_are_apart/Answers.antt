use Rattle.usb_descriptors.proofs.Contexts.{contexts_apart}
use Rattle.usb_descriptors.proofs.laws.contexts_are_apart.Goals as goal

pub returns : goal.returns
returns c = λ pipes fits. contexts_apart pipes fits

use Rattle.usb_descriptors.proofs.FoundAgain.{function_found}
use Rattle.usb_descriptors.proofs.laws.functions_are_found.Goals as goal

pub returns : goal.returns
returns c = λ function fits. function_found function fits

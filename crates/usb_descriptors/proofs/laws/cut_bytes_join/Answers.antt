use Rattle.usb_descriptors.proofs.Joins.{cut_joins}
use Rattle.usb_descriptors.proofs.laws.cut_bytes_join.Goals as goal

pub returns : goal.returns
returns c = λ bytes cut. cut_joins bytes cut

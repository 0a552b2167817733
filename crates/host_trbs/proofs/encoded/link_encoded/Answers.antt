use Rattle.std.proofs.Common.{◌∙◌, arith}
use Rattle.xhci_trb.proofs.Fields.{bit-lt}
use Rattle.host_trbs.proofs.Bytes.{same_bytes}
use Rattle.host_trbs.proofs.encoded.link_encoded.Goals as goal

pub returns : goal.returns
returns c = c.encode.ensures.text ∙ same_bytes _ _ (omega (arith, c.requires)) (omega arith) (omega (arith, bit-lt c.args.toggles))

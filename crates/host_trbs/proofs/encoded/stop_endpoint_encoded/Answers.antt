use Rattle.std.proofs.Common.{◌∙◌, refl, arith}
use Rattle.host_trbs.proofs.Bytes.{same_bytes}
use Rattle.host_trbs.proofs.encoded.stop_endpoint_encoded.Goals as goal

pub returns : goal.returns
returns c = c.encode.ensures.text ∙ same_bytes _ _ refl refl (omega (arith, c.requires, c.ranges.slot.fits))

use Rattle.uas_decode.proofs.Readers.{unit_found}
use Rattle.uas_decode.proofs.kinds.unit_read.Goals as goal

pub returns : goal.returns
returns c = unit_found _ _ c.read.ensures.fault c.read.ensures.found

use Rattle.uas_decode.proofs.Readers.{sense_found}
use Rattle.uas_decode.proofs.kinds.sense_read.Goals as goal

pub returns : goal.returns
returns c = sense_found _ _ c.from_bytes.ensures.found c.from_bytes.ensures.every

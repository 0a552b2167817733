use Rattle.host_trbs.proofs.Bytes.{bytes_of-words_in}
use Rattle.host_trbs.proofs.laws.bytes_write_back.Goals as goal

pub returns : goal.returns
returns c = bytes_of-words_in c.args.bytes.now c.told-bytes c.fits-bytes

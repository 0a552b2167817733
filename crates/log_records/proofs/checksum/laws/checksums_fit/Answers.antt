use Rattle.log_records.proofs.Fits.{checksum_fits}
use Rattle.log_records.proofs.checksum.laws.checksums_fit.Goals as goal

pub returns : goal.returns
returns c = λ bytes are. checksum_fits bytes are

use Rattle.std.proofs.Common.{refl}
use Rattle.log_records.specs.checksum.Division.{with_bits}
use Rattle.log_records.proofs.checksum.laws.printed_checksums.Goals as goal

pub returns : goal.returns
unfolding with_bits
returns c = record { zeros = refl; ones = refl; rising = refl; falling = refl }

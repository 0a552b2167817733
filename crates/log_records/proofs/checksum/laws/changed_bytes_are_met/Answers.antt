use Rattle.std.proofs.Common.{◌∷◌}
use Rattle.byte_numbers.proofs.Bytes.{bytes_back, bytes_behind, bytes_front}
use Rattle.log_records.proofs.Telling.{changed_byte}
use Rattle.log_records.proofs.checksum.laws.changed_bytes_are_met.Goals as goal

pub returns : goal.returns
returns c = λ front back one other are few e.
    let behind = bytes_back front (one ∷ back) are in
    changed_byte front back one other (bytes_front front (one ∷ back) are) (bytes_behind one back behind) (behind 0) few e

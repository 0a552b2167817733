-- Records one behind the other, each with a checksum of all that came before its end.
use Rattle.std.specs.Prelude.{ℕ, List, [], ◌∷◌, ◌++◌, length}
use Rattle.log_records.specs.checksum.Division.{crc32c_of}
use Rattle.byteorder.specs.Endian.{big_bytes}

-- The checksum of a record: CRC-32C of the length of its body, the body, and the checksum before it.
abbrev pub sum_after : ℕ → List ℕ → ℕ
sum_after before body = crc32c_of (big_bytes 4 (length body) ++ body ++ big_bytes 4 before)

-- a record: the length of its body, the body and the checksum
abbrev pub record_text : ℕ → List ℕ → List ℕ
record_text before body = big_bytes 4 (length body) ++ body ++ big_bytes 4 (sum_after before body)

-- a record for each of these bodies
abbrev pub records_text : ℕ → List (List ℕ) → List ℕ
records_text before [] = []
records_text before (body ∷ bodies) = record_text before body ++ records_text (sum_after before body) bodies

-- the checksum of the last of them
abbrev pub last_sum : ℕ → List (List ℕ) → ℕ
last_sum before [] = before
last_sum before (body ∷ bodies) = last_sum (sum_after before body) bodies

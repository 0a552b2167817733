-- What stands at the front of bytes, behind records whose last checksum is known.
use Rattle.std.specs.Prelude.{◌≡◌, ℕ, ◌≤◌, ◌+◌, ◌==◌, ◌&&◌, ◌||◌, nat_le, if◌then◌else◌, Bool, List, length, take, drop}
use Rattle.byteorder.specs.Endian.{big_number}
use Rattle.log_records.specs.declared.First.{First}
use Rattle.log_records.specs.declared.First.TheVariants.{Nothing, Whole, Torn, Wrong}
use Rattle.log_records.specs.Records.{sum_after}

-- the parts of a record at the front: the length of its body, the body, its checksum, and the bytes behind it
abbrev pub body_len : List ℕ → ℕ
body_len bytes = big_number 4 bytes

abbrev pub body_of : List ℕ → List ℕ
body_of bytes = take (body_len bytes) (drop 4 bytes)

abbrev pub sum_of : List ℕ → ℕ
sum_of bytes = big_number 4 (drop (4 + body_len bytes) bytes)

abbrev pub behind : List ℕ → List ℕ
behind bytes = drop (8 + body_len bytes) bytes

-- there are as many bytes as the length at their front asks for
abbrev pub is_long_enough : List ℕ → Bool
is_long_enough bytes = nat_le 4 (length bytes) && nat_le (8 + body_len bytes) (length bytes)

-- a whole record stands at the front, behind this checksum
abbrev pub is_whole : ℕ → List ℕ → Bool
is_whole before bytes = is_long_enough bytes && (sum_of bytes == sum_after before (body_of bytes))

-- behind a record whose checksum is wrong stands a whole one: behind the checksum that it has, or behind the one that it should have
abbrev pub is_followed : ℕ → List ℕ → Bool
is_followed before bytes =
    is_long_enough bytes && (is_whole (sum_of bytes) (behind bytes) || is_whole (sum_after before (body_of bytes)) (behind bytes))

-- Nothing; a whole record; a wrong one in front of a whole one; else what a write that was cut short has left.
unfoldable pub first_record : ℕ → List ℕ → First
first_record before bytes =
    if length bytes == 0 then Nothing
    else if is_whole before bytes then Whole (body_len bytes) (sum_of bytes)
    else if is_followed before bytes then Wrong
    else Torn

-- a whole record that was found is as long as its body asks for, and lies within the bytes
abbrev pub LiesIn : List ℕ → First → Type 0
LiesIn bytes Nothing = Unit {0}
LiesIn bytes (Whole len sum) = (len ≡ body_len bytes) × (8 + len ≤ length bytes)
LiesIn bytes Torn = Unit {0}
LiesIn bytes Wrong = Unit {0}

-- The fields of a CDB and of SCSI data: big endian numbers in a list of bytes.
use Rattle.std.specs.Prelude.{ℕ, ◌+◌, ◌*◌, ◌/◌, ◌%◌, ◌^◌, Bool, ◌==◌, List, [], ◌∷◌, ◌++◌, slice_index, replicate}

-- the two bytes of a field, the higher one first
abbrev pub two_bytes : ℕ → List ℕ
two_bytes n = (n / 256) ∷ (n % 256) ∷ []

-- the four bytes of a field, the highest one first: 512 is 00 00 02 00
abbrev pub four_bytes : ℕ → List ℕ
four_bytes n = two_bytes (n / 2 ^ 16) ++ two_bytes (n % 2 ^ 16)

-- the eight bytes of a field, the highest one first: 2^32 is 00 00 00 01 00 00 00 00
abbrev pub eight_bytes : ℕ → List ℕ
eight_bytes n = four_bytes (n / 2 ^ 32) ++ four_bytes (n % 2 ^ 32)

-- the field of two bytes at this place
abbrev pub field_of_two : List ℕ → ℕ → ℕ
field_of_two bytes at = 256 * slice_index bytes at + slice_index bytes (at + 1)

-- the field of four bytes at this place
abbrev pub field_of_four : List ℕ → ℕ → ℕ
field_of_four bytes at = 2 ^ 16 * field_of_two bytes at + field_of_two bytes (at + 2)

-- the field of eight bytes at this place
abbrev pub field_of_eight : List ℕ → ℕ → ℕ
field_of_eight bytes at = 2 ^ 32 * field_of_four bytes at + field_of_four bytes (at + 4)

-- whether this bit of the byte is set; bit 0 is the lowest, and bit 3 is set in 08h
abbrev pub is_bit_set : ℕ → ℕ → Bool
is_bit_set byte bit = byte / 2 ^ bit % 2 == 1

-- so many bytes that are 0
abbrev pub zeros : ℕ → List ℕ
zeros n = replicate n 0

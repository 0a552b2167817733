-- Marks of numbered places, as a bit of a word for each.
use Rattle.std.specs.Prelude.{ℕ, ◌*◌, ◌/◌, ◌%◌, ◌^◌, ◌==◌, Bool, true, false, List, slice_index, slice_set, bit_and, bit_or}
use Rattle.std.specs.Int.{bit_at, bit_not, w64}

-- Whether a place is marked: bit n of word w is place 64 w + n. Worked: of the words 0, 0, 0, 256 place 200 alone is marked.
abbrev pub is_marked : List ℕ → ℕ → Bool
is_marked words place = bit_at (slice_index words (place / 64)) (place % 64) == 1

-- the word of one bit
abbrev pub one_bit : ℕ → ℕ
one_bit bit = 1 * 2 ^ bit % 2 ^ 64

-- a word with this bit set or cleared
abbrev pub with_bit : ℕ → ℕ → Bool → ℕ
with_bit word bit true = bit_or word (one_bit bit)
with_bit word bit false = bit_and word (bit_not w64 (one_bit bit))

-- The words once a place is marked, or its mark taken away. Worked: of no marks, with place 200, they are 0, 0, 0, 256.
abbrev pub with_mark : List ℕ → ℕ → Bool → List ℕ
with_mark words place marked =
    slice_set words (place / 64) (with_bit (slice_index words (place / 64)) (place % 64) marked)

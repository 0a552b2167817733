-- The three words of a TRB (xHCI 1.2, 6.4), each low byte first, and its Cycle bit.
use Rattle.std.specs.Prelude.{ℕ, ◌/◌, ◌%◌, ◌^◌, ◌==◌, Bool, true, false, not, List, drop}
use Rattle.byteorder.specs.Endian.{little_number}
use Rattle.guest_memory.specs.declared.rings.words.Words.{Words}

-- the parameter in bytes 0 to 7, the status in 8 to 11, the control in 12 to 15
unfoldable pub words_in : List ℕ → Words
words_in bytes = record {
  parameter = little_number 8 bytes;
  status = little_number 4 (drop 8 bytes);
  control = little_number 4 (drop 12 bytes);
}

-- bit k of a word
abbrev pub bit_in : ℕ → ℕ → Bool
bit_in n k = n / 2 ^ k % 2 == 1

-- the Cycle bit, control bit 0
abbrev pub cycle_in : Words → Bool
cycle_in w = w.control % 2 == 1

-- the type, control bits 15:10
abbrev pub type_in : Words → ℕ
type_in w = w.control / 2 ^ 10 % 2 ^ 6

abbrev pub bit : Bool → ℕ
bit true = 1
bit false = 0

abbrev pub same_bit : Bool → Bool → Bool
same_bit true cycle = cycle
same_bit false cycle = not cycle

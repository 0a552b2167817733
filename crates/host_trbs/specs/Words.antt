-- The three words of a TRB and their bytes (xHCI 1.2, 6.4): every word lies low byte first.
use Rattle.std.specs.Prelude.{ℕ, ◌+◌, ◌-◌, ◌*◌, ◌/◌, ◌%◌, ◌^◌, ◌==◌, Bool, true, false, List, ◌++◌, drop}
use Rattle.byteorder.specs.Endian.{little_bytes, little_number}
use Rattle.host_trbs.specs.declared.words.Words.{Words}

abbrev pub words_of : ℕ → ℕ → ℕ → Words
words_of parameter status control = record { parameter = parameter; status = status; control = control }

-- the parameter in bytes 0 to 7, the status in 8 to 11, the control in 12 to 15
unfoldable pub words_in : List ℕ → Words
words_in bytes = record {
  parameter = little_number 8 bytes;
  status = little_number 4 (drop 8 bytes);
  control = little_number 4 (drop 12 bytes);
}

unfoldable pub bytes_of : Words → List ℕ
bytes_of w = little_bytes 8 w.parameter ++ little_bytes 4 w.status ++ little_bytes 4 w.control

-- A value in bits high:low of a word. A value that is wider loses its upper bits.
-- Worked: bits 20 16 5 is 00050000h.
abbrev pub bits : ℕ → ℕ → ℕ → ℕ
bits high low value = 2 ^ low * (value % 2 ^ (high + 1 - low))

-- an address in bits 63:4
abbrev pub aligned : ℕ → ℕ
aligned address = 16 * (address / 16)

-- a flag as a bit
abbrev pub bit : Bool → ℕ
bit true = 1
bit false = 0

-- the Cycle bit, control bit 0
abbrev pub cycle_in : Words → Bool
cycle_in w = w.control % 2 == 1

-- TRB Type, control bits 15:10 (6.4.6)
abbrev pub type_in : Words → ℕ
type_in w = w.control / 2 ^ 10 % 2 ^ 6

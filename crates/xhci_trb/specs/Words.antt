-- The three words of a TRB and their bytes (xHCI 1.2, 6.4): every word lies low byte first.
use Rattle.std.specs.Prelude.{ℕ, ◌+◌, ◌*◌, ◌^◌, ◌<◌, List, ◌++◌, drop}
use Rattle.byteorder.specs.Endian.{little_number, little_bytes}
use Rattle.xhci_trb.specs.declared.words.Words.{Words}

-- the parameter in bytes 0 to 7, the status in 8 to 11, the control in 12 to 15
unfoldable pub words_in : List ℕ → Words
words_in bytes = record {
  parameter = little_number 8 bytes;
  status = little_number 4 (drop 8 bytes);
  control = little_number 4 (drop 12 bytes);
}

-- the bytes of three words
unfoldable pub bytes_of : Words → List ℕ
bytes_of w = little_bytes 8 w.parameter ++ little_bytes 4 w.status ++ little_bytes 4 w.control

-- three words as one number of 128 bits: parameter in bits 63:0, status in 95:64, control in 127:96
abbrev pub number_of : Words → ℕ
number_of w = w.parameter + 2 ^ 64 * w.status + 2 ^ 96 * w.control

-- each word fits its width
pub record FitsWords (w : Words) : Type 0 where
  pub parameter : w.parameter < 2 ^ 64
  pub status : w.status < 2 ^ 32
  pub control : w.control < 2 ^ 32

-- Fields of descriptors: USB numbers are little endian (USB 3.2, 8.1).
use Rattle.std.specs.Prelude.{ℕ, ◌+◌, ◌*◌, List, slice_index}

-- the number of two bytes at this place: 00 04 is 1,024
abbrev pub word : List ℕ → ℕ → ℕ
word bytes at = slice_index bytes at + 256 * slice_index bytes (at + 1)

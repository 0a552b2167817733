-- CRC-32C (RFC 3720 12.1): the remainder of the bytes in a division by the polynomial 11EDC6F41h, bit by bit.
use Rattle.std.specs.Prelude.{ℕ, zero, suc, ◌/◌, ◌%◌, ◌==◌, if◌then◌else◌, List, bit_xor, fold}

-- The polynomial without its highest bit. The lowest bit of a byte comes first, so its bits are turned around, from 1EDC6F41h.
abbrev pub polynomial : ℕ
polynomial = 0x82F63B78

-- one bit: it moves on, and where a 1 leaves, the polynomial is taken off
abbrev pub with_bit : ℕ → ℕ
with_bit remainder = if remainder % 2 == 1 then bit_xor (remainder / 2) polynomial else remainder / 2

-- so many bits
unfoldable pub with_bits : ℕ → ℕ → ℕ
with_bits zero remainder = remainder
with_bits (suc bits) remainder = with_bits bits (with_bit remainder)

-- a byte: it comes in at the low end, and its 8 bits are divided. Of 80h with nothing before it is the polynomial.
abbrev pub with_byte : ℕ → ℕ → ℕ
with_byte remainder byte = with_bits 8 (bit_xor remainder byte)

-- bytes, in order
abbrev pub with_bytes : ℕ → List ℕ → ℕ
with_bytes remainder bytes = fold with_byte remainder bytes

-- The division begins with ones and its remainder is told with each bit changed. Of 32 bytes of 0 it is 8A9136AAh (B.4).
abbrev pub begun : ℕ
begun = 0xFFFFFFFF

abbrev pub ended : ℕ → ℕ
ended remainder = bit_xor remainder 0xFFFFFFFF

abbrev pub crc32c_of : List ℕ → ℕ
crc32c_of bytes = ended (with_bytes begun bytes)

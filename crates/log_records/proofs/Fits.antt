-- The checksum of bytes has 32 bits.
use Rattle.std.proofs.Common.{ℕ, zero, suc, ◌/◌, ◌%◌, ◌^◌, ◌<◌, ◌==◌, Bool, true, false, List, [], ◌∷◌, if◌then◌else◌, arith}
use Rattle.std.specs.Prelude.{bit_xor}
use Rattle.std.proofs.lemmas.Nat.{xor_lt}
use Rattle.byte_numbers.specs.Bytes.{AreBytes}
use Rattle.log_records.specs.checksum.Division.{crc32c_of, polynomial, with_bit, with_bits, with_byte, with_bytes}
use Rattle.byte_numbers.proofs.Bytes.{bytes_behind}

bit_fits : (b : Bool) (half : ℕ) → half < 2 ^ 32 → (if b then bit_xor half polynomial else half) < 2 ^ 32
bit_fits true half small = xor_lt 32 half polynomial small (omega arith)
bit_fits false half small = small

pub bits_fit : (bits remainder : ℕ) → remainder < 2 ^ 32 → with_bits bits remainder < 2 ^ 32
unfolding with_bits
bits_fit zero remainder small = small
bits_fit (suc bits) remainder small = bits_fit bits (with_bit remainder) (bit_fits (remainder % 2 == 1) (remainder / 2) (omega (arith, small)))

pub bytes_fit : (remainder : ℕ) (bytes : List ℕ) → remainder < 2 ^ 32 → AreBytes bytes → with_bytes remainder bytes < 2 ^ 32
bytes_fit remainder [] small are = small
bytes_fit remainder (byte ∷ bytes) small are =
    let low : byte < 2 ^ 32 = omega (arith, are 0) in
    bytes_fit (with_byte remainder byte) bytes (bits_fit 8 (bit_xor remainder byte) (xor_lt 32 remainder byte small low)) (bytes_behind byte bytes are)

pub checksum_fits : (bytes : List ℕ) → AreBytes bytes → crc32c_of bytes < 2 ^ 32
checksum_fits bytes are = xor_lt 32 (with_bytes 0xFFFFFFFF bytes) 0xFFFFFFFF (bytes_fit 0xFFFFFFFF bytes (omega arith) are) (omega arith)

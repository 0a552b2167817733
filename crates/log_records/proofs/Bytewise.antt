-- A division bit by bit, a byte at a time.
use Rattle.std.proofs.Common.{◌≡◌, ℕ, zero, suc, ◌+◌, ◌*◌, ◌/◌, ◌%◌, ◌^◌, ◌==◌, Bool, true, false, refl, sym, ap, ◌∙◌, add-zero, arith, if◌then◌else◌}
use Rattle.std.specs.Prelude.{bit_and, bit_xor}
use Rattle.std.proofs.Math.Nat.{pow-suc}
use Rattle.std.specs.Int.Bits.{xor_assoc, xor_zero_l, xor_zero_r}
use Rattle.std.proofs.lemmas.Nat.{and_mask, shr_split, xor_block, xor_comm, xor_mod, xor_shr}
use Rattle.log_records.specs.checksum.Division.{with_bit, with_bits, polynomial}

-- a 1 that leaves
taken_off : (b : Bool) (half high : ℕ) → (if b then bit_xor (bit_xor half high) polynomial else bit_xor half high)
    ≡ bit_xor (if b then bit_xor half polynomial else half) high
taken_off true half high = xor_assoc half high polynomial ∙ ap (bit_xor half) (xor_comm high polynomial) ∙ sym (xor_assoc half polynomial high)
taken_off false half high = refl

-- a bit of a remainder to which something even was added
with_bit-xor : (low high : ℕ) → with_bit (bit_xor low (high * 2)) ≡ bit_xor (with_bit low) high
with_bit-xor low high =
    let half : bit_xor low (high * 2) / 2 ≡ bit_xor (low / 2) high = xor_shr low (high * 2) 1 ∙ ap (bit_xor (low / 2)) (omega arith) in
    let last : bit_xor low (high * 2) % 2 ≡ low % 2 =
    xor_mod low (high * 2) 1 ∙ ap (bit_xor (low % 2)) (let even : high * 2 % 2 ≡ 0 = omega arith in even) ∙ xor_zero_r (low % 2) in
    rw (half, last) (taken_off (low % 2 == 1) (low / 2) high)

zero-mul-plus : (low : ℕ) → 0 * 2 ^ 8 + low ≡ low
zero-mul-plus low = omega arith

doubled : (bits high : ℕ) → high * 2 ^ suc bits ≡ high * 2 ^ bits * 2
doubled bits high = rw pow-suc (omega arith)

-- bits of a remainder, of which as many are 0 in what was added
pub with_bits-xor : (bits low high : ℕ) → with_bits bits (bit_xor low (high * 2 ^ bits)) ≡ bit_xor (with_bits bits low) high
unfolding with_bits
with_bits-xor zero low high = ap (bit_xor low) (omega arith)
with_bits-xor (suc bits) low high =
    ap (with_bits bits) (ap with_bit (ap (bit_xor low) (doubled bits high)) ∙ with_bit-xor low (high * 2 ^ bits))
    ∙ with_bits-xor bits (with_bit low) high

-- a byte: its place in the table and what is above it
pub with_bits-byte : (mixed : ℕ) → with_bits 8 mixed ≡ bit_xor (mixed / 256) (with_bits 8 (bit_and mixed 255))
with_bits-byte mixed =
    let low : ℕ = mixed % 2 ^ 8 in
    let split : mixed ≡ bit_xor low (mixed / 2 ^ 8 * 2 ^ 8) =
    omega (
      arith,
      xor_block 8 0 (mixed / 2 ^ 8) low 0 (omega arith) (omega arith),
      xor_zero_r low,
      xor_zero_l (mixed / 2 ^ 8),
      ap (λ n. bit_xor n (mixed / 2 ^ 8 * 2 ^ 8 + 0)) (zero-mul-plus low),
      ap (bit_xor low) (add-zero (mixed / 2 ^ 8 * 2 ^ 8)),
      shr_split mixed 8,
    ) in
    ap (with_bits 8) split ∙ with_bits-xor 8 low (mixed / 2 ^ 8) ∙ xor_comm (with_bits 8 low) (mixed / 2 ^ 8)
    ∙ ap (λ n. bit_xor (mixed / 2 ^ 8) (with_bits 8 n)) (sym (and_mask mixed 8))

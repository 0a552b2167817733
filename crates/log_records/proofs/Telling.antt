-- A division tells apart what differs in one byte: each of its steps can be taken back.
use Rattle.std.proofs.Common.{◌≡◌, ℕ, zero, suc, ◌/◌, ◌%◌, ◌^◌, ◌<◌, ◌==◌, Bool, true, false, List, [], ◌∷◌, ◌++◌, if◌then◌else◌, refl, sym, ap, ◌∙◌, arith}
use Rattle.std.specs.Prelude.{bit_xor}
use Rattle.std.specs.Int.Bits.{xor_assoc, xor_self, xor_zero_l, xor_zero_r}
use Rattle.std.proofs.lemmas.Bool.{eqb-true, eqb-false}
use Rattle.std.proofs.lemmas.List.Sums.{fold-append}
use Rattle.std.proofs.lemmas.Nat.{xor_comm, xor_lt, xor_shr}
use Rattle.byte_numbers.specs.Bytes.{AreBytes}
use Rattle.log_records.specs.checksum.Division.{begun, crc32c_of, polynomial, with_bit, with_bits, with_byte, with_bytes}
use Rattle.byte_numbers.proofs.Bytes.{bytes_behind}
use Rattle.log_records.proofs.Fits.{bits_fit, bytes_fit}

again : (a mask : ℕ) → bit_xor (bit_xor a mask) mask ≡ a
again a mask = xor_assoc a mask mask ∙ ap (bit_xor a) (xor_self mask) ∙ xor_zero_r a

-- what was added is taken off again
xor_back : (a b mask : ℕ) → bit_xor a mask ≡ bit_xor b mask → a ≡ b
xor_back a b mask e = sym (again a mask) ∙ ap (λ n. bit_xor n mask) e ∙ again b mask

xor_front : (mask a b : ℕ) → bit_xor mask a ≡ bit_xor mask b → a ≡ b
xor_front mask a b e = xor_back a b mask (xor_comm a mask ∙ e ∙ xor_comm mask b)

-- a 1 that leaves shows as the highest bit
high_bit : (half : ℕ) → half < 2 ^ 31 → bit_xor half polynomial / 2 ^ 31 ≡ 1
high_bit half small = xor_shr half polynomial 31 ∙ ap (λ n. bit_xor n 1) (let none : half / 2 ^ 31 ≡ 0 = omega (arith, small) in none) ∙ xor_zero_l 1

halves : (b c : Bool) (one other : ℕ) → one < 2 ^ 31 → other < 2 ^ 31
    → (if b then bit_xor one polynomial else one) ≡ (if c then bit_xor other polynomial else other) → (b ≡ c) × (one ≡ other)
halves true true one other small few e = (refl, xor_back one other polynomial e)
halves true false one other small few e =
    absurd (let high : other / 2 ^ 31 ≡ 1 = ap (λ n. n / 2 ^ 31) (sym e) ∙ high_bit one small in omega (arith, few, high))
halves false true one other small few e =
    absurd (let high : one / 2 ^ 31 ≡ 1 = ap (λ n. n / 2 ^ 31) e ∙ high_bit other few in omega (arith, small, high))
halves false false one other small few e = (refl, e)

same_last : (b : Bool) (one other : ℕ) → (one % 2 == 1) ≡ b → (other % 2 == 1) ≡ b → one / 2 ≡ other / 2 → one ≡ other
same_last true one other p q half = omega (arith, eqb-true (one % 2) 1 p, eqb-true (other % 2) 1 q, half)
same_last false one other p q half = omega (arith, eqb-false (one % 2) 1 p, eqb-false (other % 2) 1 q, half)

parity : (one other : ℕ) → (one % 2 == 1) ≡ (other % 2 == 1) → one / 2 ≡ other / 2 → one ≡ other
parity one other same half = same_last (other % 2 == 1) one other same refl half

bit_back : (one other : ℕ) → one < 2 ^ 32 → other < 2 ^ 32 → with_bit one ≡ with_bit other → one ≡ other
bit_back one other small few e =
    let both = halves (one % 2 == 1) (other % 2 == 1) (one / 2) (other / 2) (omega (arith, small)) (omega (arith, few)) e in
    parity one other both.0 both.1

bits_back : (bits one other : ℕ) → one < 2 ^ 32 → other < 2 ^ 32 → with_bits bits one ≡ with_bits bits other → one ≡ other
unfolding with_bits
bits_back zero one other small few e = e
bits_back (suc bits) one other small few e =
    bit_back one other small few (bits_back bits (with_bit one) (with_bit other) (bits_fit 1 one small) (bits_fit 1 other few) e)

bytes_same : (bytes : List ℕ) (one other : ℕ) → AreBytes bytes → one < 2 ^ 32 → other < 2 ^ 32 → with_bytes one bytes ≡ with_bytes other bytes → one ≡ other
bytes_same [] one other are small few e = e
bytes_same (byte ∷ bytes) one other are small few e =
    let low : byte < 2 ^ 32 = omega (arith, are 0) in
    let x : bit_xor one byte < 2 ^ 32 = xor_lt 32 one byte small low in
    let y : bit_xor other byte < 2 ^ 32 = xor_lt 32 other byte few low in
    xor_back one other byte (bits_back 8 (bit_xor one byte) (bit_xor other byte) x y
    (bytes_same bytes (with_byte one byte) (with_byte other byte) (bytes_behind byte bytes are)
    (bits_fit 8 (bit_xor one byte) x) (bits_fit 8 (bit_xor other byte) y) e))

-- one byte, in whatever is around it
pub changed_byte : (front back : List ℕ) (one other : ℕ) → AreBytes front → AreBytes back → one < 256 → other < 256
    → crc32c_of (front ++ one ∷ back) ≡ crc32c_of (front ++ other ∷ back) → one ≡ other
changed_byte front back one other before after small few e =
    let so_far : ℕ = with_bytes begun front in
    let fits : so_far < 2 ^ 32 = bytes_fit begun front (omega arith) before in
    let x : bit_xor so_far one < 2 ^ 32 = xor_lt 32 so_far one fits (omega (arith, small)) in
    let y : bit_xor so_far other < 2 ^ 32 = xor_lt 32 so_far other fits (omega (arith, few)) in
    let parts : with_bytes (with_byte so_far one) back ≡ with_bytes (with_byte so_far other) back =
    sym (fold-append with_byte begun front (one ∷ back)) ∙ xor_back (with_bytes begun (front ++ one ∷ back)) (with_bytes begun (front ++ other ∷ back)) 0xFFFFFFFF e
    ∙ fold-append with_byte begun front (other ∷ back) in
    xor_front so_far one other (bits_back 8 (bit_xor so_far one) (bit_xor so_far other) x y
    (bytes_same back (with_byte so_far one) (with_byte so_far other) after (bits_fit 8 (bit_xor so_far one) x) (bits_fit 8 (bit_xor so_far other) y) parts))

-- A word's bits from one on, its lowest set bit there, and the bits by place; the answers of marks cite them.
use Rattle.std.proofs.Common.{◌≡◌, ℕ, List, Option, Some, None, true, ◌+◌, ◌/◌, ◌-◌, ◌*◌, ◌%◌, ◌^◌, ◌<◌, ◌≤◌, min, bit_and, arith, ap, sym, ◌∙◌, w64}
use Rattle.std.specs.Prelude.{IfSome, slice_index}
use Rattle.std.specs.Option.{is_some}
use Rattle.std.specs.Int.{bit_at, trailing_zeros}
use Rattle.std.proofs.lemmas.Bool.{false≢true, eq-eqb}
use Rattle.marks.specs.Marks.{is_marked}
use Rattle.std.proofs.lemmas.Nat.Bits.{ones_shl, bit_at_and, bit_at-lt, bit_at-zero, bit_at_mask_inside, bit_at_mask_below, bit_at-trailing_zeros}

-- the bits from this one on
abbrev pub from_on : ℕ → ℕ → ℕ
from_on word from = bit_and word (18446744073709551615 * 2 ^ from % 18446744073709551616)

least_one : (bit one : ℕ) → bit < 2 → one ≡ 1 → min bit one ≡ bit
least_one bit one less is = omega arith

least_zero : (bit one : ℕ) → one ≡ 0 → min bit one ≡ 0
least_zero bit one is = omega arith

pub from_on_inside : (word from bit : ℕ) → from < 64 → from ≤ bit → bit < 64 → bit_at (from_on word from) bit ≡ bit_at word bit
from_on_inside word from bit within low high =
    ap (λ mask. bit_at (bit_and word mask) bit) (ones_shl 64 from (omega arith))
    ∙ bit_at_and word (18446744073709551616 - 2 ^ from) bit
    ∙ least_one _ _ (bit_at-lt word bit) (bit_at_mask_inside from 64 bit low high)

pub from_on_below : (word from bit : ℕ) → from < 64 → bit < from → bit_at (from_on word from) bit ≡ 0
from_on_below word from bit within low =
    ap (λ mask. bit_at (bit_and word mask) bit) (ones_shl 64 from (omega arith))
    ∙ bit_at_and word (18446744073709551616 - 2 ^ from) bit
    ∙ least_zero (bit_at word bit) _ (bit_at_mask_below from 64 bit low)

-- no bit from this one on is set
pub none_from : (word from : ℕ) → from < 64 → from_on word from ≡ 0 → (bit : ℕ) → from ≤ bit → bit < 64 → bit_at word bit ≡ 0
none_from word from within none bit low high =
    sym (from_on_inside word from bit within low high) ∙ ap (λ n. bit_at n bit) none ∙ bit_at-zero bit

-- this bit is the lowest that is set, of those from another one on
abbrev pub IsLowest : ℕ → ℕ → ℕ → Type 0
IsLowest word from bit = (from ≤ bit) × (bit < 64) × (bit_at word bit ≡ 1) × ((other : ℕ) → from ≤ other → other < bit → bit_at word other ≡ 0)

lowest_at : (word from bit : ℕ) → from < 64 → from ≤ bit → bit < 64 → bit_at (from_on word from) bit ≡ 1 →
    ((other : ℕ) → other < bit → bit_at (from_on word from) other ≡ 0) → IsLowest word from bit
lowest_at word from bit within low high set lower = (
  low,
  high,
  sym (from_on_inside word from bit within low high) ∙ set,
  λ other after before. sym (from_on_inside word from other within after (omega arith)) ∙ lower other before,
)

one_not_zero : (n : ℕ) → n ≡ 1 → n ≡ 0 → ⊥
one_not_zero n one none = omega arith

not_below : (word from bit : ℕ) → from < 64 → bit_at (from_on word from) bit ≡ 1 → from ≤ bit
not_below word from bit within set =
    let low : bit < from → ⊥ = λ below. one_not_zero _ set (from_on_below word from bit within below) in omega (arith, low)

pub lowest_from-is : (word from : ℕ) → from < 64 → 0 < from_on word from → from_on word from < 18446744073709551616 →
    IsLowest word from (trailing_zeros w64 (from_on word from))
lowest_from-is word from within some fits =
    let lowest = bit_at-trailing_zeros w64 (from_on word from) some fits in
    lowest_at word from (trailing_zeros w64 (from_on word from)) within
    (not_below word from (trailing_zeros w64 (from_on word from)) within lowest.1) lowest.0 lowest.1 lowest.2

-- where a word has a lowest bit, its place is marked
pub marked_in : (words : List ℕ) (k : ℕ) (found : Option ℕ) → true ≡ is_some found → IfSome found (IsLowest (slice_index words k) 0) →
    (place : ℕ) × (is_marked words place ≡ true)
marked_in words k None some lowest = absurd (false≢true (sym some))
marked_in words k (Some bit) some lowest =
    let word : (64 * k + bit) / 64 ≡ k = omega (arith, lowest.1) in
    let place : (64 * k + bit) % 64 ≡ bit = omega (arith, lowest.1) in (
      64 * k + bit,
      eq-eqb _ _ (ap (λ w. bit_at (slice_index words w) ((64 * k + bit) % 64)) word
          ∙ ap (bit_at (slice_index words k)) place ∙ lowest.2),
    )

-- The flags of a mask: what its bit operations make of them.
use Rattle.std.proofs.Common.{◌≡◌, ◌≢◌, ℕ, zero, suc, ◌+◌, ◌-◌, ◌*◌, ◌%◌, ◌^◌, ◌<◌, ◌≤◌, ◌==◌, Bool, true, false, not, cond, length}
use Rattle.std.proofs.Common.{count_by, get_or, replicate, count_ones, bit_or, bit_and, refl, sym, ap, ◌∙◌, inl, inr, arith, position}
use Rattle.std.proofs.Common.{Some, None}
use Rattle.std.proofs.Math.ListN.{set}
use Rattle.std.specs.Int.{bit_at, trailing_ones, w16}
use Rattle.std.specs.List.{position_or_len}
use Rattle.std.specs.Simd.Lanes.{mask_l}
use Rattle.std.proofs.lemmas.Simd.{bit_mask_l, ones-mask_l}
use Rattle.std.proofs.lemmas.List.{same_lists, get_or-set_same, get_or-set_other, get_or-replicate, get_or_past, map-id, length-set, length-replicate}
use Rattle.std.proofs.lemmas.List.FromFn.{length-map-range_with_len, get_or-map-range_with_len}
use Rattle.std.proofs.lemmas.List.Sums.{position_or_len_is}
use Rattle.std.proofs.lemmas.Nat.Bits.{bit_at-zero, bit_at-lt, bit_at_above, same_from_bits, bit_at-trailing_ones, bit_at_set_same}
use Rattle.std.proofs.lemmas.Nat.Bits.{bit_at_set_other, bit_at_clear_same, bit_at_clear_other}
use Rattle.std.proofs.lemmas.Nat.{pow_below, one_shl, or_lt}
use Rattle.std.proofs.lemmas.Bool.{cases_eq, cases_lt, lt-ltb, le-ltb}
use Rattle.tag_range.specs.Tags.{flags}
use Rattle.tag_range.proofs.Least.{count_by-all, count_by-some}

pub length-flags : (n m : ℕ) → length (flags n m) ≡ n
unfolding flags
length-flags n m = length-map-range_with_len _ 0 n

pub get_or-flags : (n m k : ℕ) (d : Bool) → k < n → get_or (flags n m) k d ≡ (bit_at m k == 1)
unfolding flags
get_or-flags n m k d h = get_or-map-range_with_len _ 0 n k k d h (omega arith)

-- a bit is what its test says
bit_of_test : (x : ℕ) → x < 2 → cond (x == 1) 1 0 ≡ x
bit_of_test zero h = refl
bit_of_test (suc zero) h = refl
bit_of_test (suc (suc x)) h = absurd (omega arith)

pub trailing_ones-le : (n m : ℕ) → n < 16 → m < 2 ^ n → trailing_ones w16 m ≤ n
trailing_ones-le n m small below =
    let room : m + 1 < 2 ^ 16 = omega (arith, pow_below n 16 small) in
    let least = bit_at-trailing_ones w16 m room in
    elim (cases_lt n (trailing_ones w16 m)) as (λ _. trailing_ones w16 m ≤ n) [
      | inl past ↦ absurd (omega (arith, least.2 n past, bit_at_above m n n below (omega arith)))
      | inr within ↦ within
    ]

-- the mask stays within its bits
pub or-lt : (n m k : ℕ) → k < n → n ≤ 16 → m < 2 ^ n → bit_or m (1 * 2 ^ k % 65536) < 2 ^ n
or-lt n m k h fits below = rw (one_shl k 16 (omega arith)) (or_lt n m (2 ^ k) below (pow_below k n h))

pub flags-zero : (n : ℕ) → flags n 0 ≡ replicate n false
flags-zero n =
    same_lists (flags n 0) (replicate n false) (length-flags n 0 ∙ sym (length-replicate n false))
    (λ k d h. let within : k < n = omega (arith, length-flags n 0) in
    get_or-flags n 0 k d within ∙ (rw bit_at-zero (sym (get_or-replicate n k false d within))))

-- one bit changed is one flag set
pub flags-changed : (n m m' k : ℕ) (b : Bool) → k < n → (bit_at m' k == 1) ≡ b → ((i : ℕ) → i < n → i ≢ k → bit_at m' i ≡ bit_at m i)
    → flags n m' ≡ set (flags n m) k b
flags-changed n m m' k b h here others =
    same_lists (flags n m') (set (flags n m) k b) (length-flags n m' ∙ sym (length-set (flags n m) k b ∙ length-flags n m))
    (λ i d below.
    let within : i < n = omega (arith, length-flags n m') in
    let k_within : k < length (flags n m) = omega (arith, length-flags n m) in
    get_or-flags n m' i d within ∙
    (elim (cases_eq i k) as (λ _. (bit_at m' i == 1) ≡ get_or (set (flags n m) k b) i d) [
      | inl same ↦ rw same (here ∙ sym (get_or-set_same (flags n m) k b d k_within))
      | inr other ↦
          rw (others i within other) (sym (get_or-set_other (flags n m) k i b d other ∙ get_or-flags n m i d within))
    ]))

pub flags-or : (n m k : ℕ) → k < n → n ≤ 16 → flags n (bit_or m (1 * 2 ^ k % 65536)) ≡ set (flags n m) k true
flags-or n m k h fits =
    flags-changed n m _ k true h (ap (λ x. x == 1) (bit_at_set_same w16 m k (omega arith)))
    (λ i within other. bit_at_set_other w16 m k (omega arith) i other)

pub flags-clear : (n m k : ℕ) → k < n → n ≤ 16 → flags n (bit_and m (65535 - 1 * 2 ^ k % 65536)) ≡ set (flags n m) k false
flags-clear n m k h fits =
    flags-changed n m _ k false h (ap (λ x. x == 1) (bit_at_clear_same w16 m k (omega arith)))
    (λ i within other. bit_at_clear_other w16 m k (omega arith) i (omega arith) other)

-- the least flag that is not set
pub position_or_len-flags : (n m : ℕ) → n < 16 → m < 2 ^ n → position_or_len not (flags n m) ≡ trailing_ones w16 m
position_or_len-flags n m small below =
    let room : m + 1 < 2 ^ 16 = omega (arith, pow_below n 16 small) in
    let least = bit_at-trailing_ones w16 m room in
    let within : trailing_ones w16 m ≤ n = trailing_ones-le n m small below in
    position_or_len_is not (flags n m) (trailing_ones w16 m) false (omega (arith, length-flags n m))
    (λ k h. let inside : k < n = omega arith in
    rw (get_or-flags n m k false inside) (ap (λ x. not (x == 1)) (least.2 k h)))
    (λ h. let inside : trailing_ones w16 m < n = omega (arith, length-flags n m) in
    rw (get_or-flags n m (trailing_ones w16 m) false inside) (ap (λ x. not (x == 1)) least.1))

pub position-flags_some : (n m : ℕ) → n < 16 → m < 2 ^ n → trailing_ones w16 m < n → position not (flags n m) ≡ Some (trailing_ones w16 m)
position-flags_some n m small below found =
    rw (position_or_len-flags n m small below, length-flags n m, lt-ltb (trailing_ones w16 m) n found) refl

pub position-flags_none : (n m : ℕ) → n < 16 → m < 2 ^ n → n ≤ trailing_ones w16 m → position not (flags n m) ≡ None
position-flags_none n m small below found =
    rw (position_or_len-flags n m small below, length-flags n m, le-ltb (trailing_ones w16 m) n found) refl

-- all flags are set exactly where none that isn't set is found
pub count_by-flags_all : (n m : ℕ) → n < 16 → m < 2 ^ n → n ≤ trailing_ones w16 m → count_by (λ (b : Bool). b) (flags n m) ≡ n
count_by-flags_all n m small below found =
    count_by-all (flags n m) (omega (arith, position_or_len-flags n m small below, trailing_ones-le n m small below, length-flags n m)) ∙ length-flags n m

pub count_by-flags_some : (n m : ℕ) → n < 16 → m < 2 ^ n → trailing_ones w16 m < n → count_by (λ (b : Bool). b) (flags n m) ≡ n → ⊥
count_by-flags_some n m small below found all =
    omega (arith, count_by-some (flags n m) (omega (arith, position_or_len-flags n m small below, length-flags n m)), length-flags n m)

-- the flags that are set
pub mask_l-flags : (n m : ℕ) → m < 2 ^ n → mask_l (flags n m) ≡ m
mask_l-flags n m below =
    same_from_bits (mask_l (flags n m)) m
    (λ i. bit_mask_l (flags n m) i ∙
    (elim (cases_lt i n) as (λ _. cond (get_or (flags n m) i false) 1 0 ≡ bit_at m i) [
      | inl inside ↦ rw (get_or-flags n m i false inside) (bit_of_test (bit_at m i) (bit_at-lt m i))
      | inr past ↦
          rw (get_or_past (flags n m) i false (omega (arith, length-flags n m))) (sym (bit_at_above m n i below past))
    ]))

pub count_by-flags : (n m : ℕ) → m < 2 ^ n → count_by (λ (b : Bool). b) (flags n m) ≡ count_ones m
count_by-flags n m below =
    sym (ones-mask_l (λ (b : Bool). b) (flags n m)) ∙ rw (map-id (flags n m)) (ap count_ones (mask_l-flags n m below))

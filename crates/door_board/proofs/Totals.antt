-- Totals over the views of all seats, and one place's counts.
use Rattle.std.proofs.Common.{◌≡◌, ◌≢◌, ℕ, zero, suc, ◌+◌, ◌*◌, ◌/◌, ◌%◌, ◌^◌, ◌<◌, ◌≤◌, Bool, true, false, cond, List, [], ◌∷◌, ◌++◌}
use Rattle.std.proofs.Common.{◌==◌, length, set, slice_index, sym, refl, ap, ◌∙◌, sum_by, zero-mul, one-mul, arith}
use mathlib.Core.Option.{some, some-injective, some-ne-none}
use mathlib.Core.Logic.{dite}
use native.Mathlib.Decide.{ℕ_discrete}
use lib.ListN.{get_elem?}
use Rattle.std.specs.Int.{bit_at}
use Rattle.std.proofs.lemmas.Bool.Decides.{nat_tests}
use Rattle.std.proofs.lemmas.List.{get_or-set_same, get_or-set_other}
use Rattle.std.proofs.lemmas.List.Sums.{sum_by-cons, sum_by_push}
use Rattle.std.proofs.lemmas.Nat.Bits.{bit_at-lt, bit_at_or, bit_at-pow_same, bit_at-pow_other, bit_at-zero, and_pow}
use Rattle.std.specs.Int.RustNames.{bit_or, bit_and}
use Rattle.std.proofs.lemmas.Nat.{pow_pos}
use Rattle.door_board.specs.declared.Haul.{Haul}
use Rattle.door_board.specs.declared.Past.{Past}
use Rattle.door_board.specs.Counts.{times_rung, times_taken, taken_at, rung_too}
use Rattle.door_board.specs.Rule.{standing}

-- the total after a change of one view
pub total_set : (f : Past → ℕ) (views : List Past) (k : ℕ) (v w : Past) → get_elem? views k ≡ some v → sum_by f (set views k w) + f v ≡ sum_by f views + f w
total_set f [] k v w at = absurd (some-ne-none v (sym at))
total_set f (x ∷ xs) zero v w at =
    let same : f x ≡ f v = ap f (some-injective x v at) in
    omega (arith, sum_by-cons f x xs, sum_by-cons f w xs)
total_set f (x ∷ xs) (suc k) v w at =
    omega (arith, sum_by-cons f x xs, sum_by-cons f x (set xs k w), total_set f xs k v w at)

pub part_of_total : (f : Past → ℕ) (views : List Past) (k : ℕ) (v : Past) → get_elem? views k ≡ some v → f v ≤ sum_by f views
part_of_total f [] k v at = absurd (some-ne-none v (sym at))
part_of_total f (x ∷ xs) zero v at =
    let same : f x ≡ f v = ap f (some-injective x v at) in
    omega (arith, sum_by-cons f x xs)
part_of_total f (x ∷ xs) (suc k) v at = omega (arith, sum_by-cons f x xs, part_of_total f xs k v at)

-- a ring of the place counts one where it is fresh, a ring of another place none
rung_here : (place : ℕ) (places : List ℕ) (is_fresh : Bool) → times_rung place (rung_too places place is_fresh) ≡ times_rung place places + cond is_fresh 1 0
rung_here place places true =
    let more = sum_by_push (λ (rung : ℕ). cond (rung == place) 1 0) places place in
    grind (arith, nat_tests)
rung_here place places false = omega arith

rung_else : (place other : ℕ) (places : List ℕ) (is_fresh : Bool) → other ≢ place → times_rung place (rung_too places other is_fresh) ≡ times_rung place places
rung_else place other places true apart =
    let more = sum_by_push (λ (rung : ℕ). cond (rung == place) 1 0) places other in
    grind (arith, nat_tests)
rung_else place other places false apart = refl

-- a bit that was clear stands after its ring, which is fresh; one that stood still stands
bit_rung : (n k : ℕ) → cond (bit_at n k == 0) 1 0 + bit_at n k ≡ bit_at (bit_or n (2 ^ k)) k
bit_rung n k =
    let low = bit_at-lt n k in
    let is = bit_at_or n (2 ^ k) k in
    let one = bit_at-pow_same k in
    grind (arith, nat_tests)

bit_kept : (n k i : ℕ) → i ≢ k → bit_at (bit_or n (2 ^ k)) i ≡ bit_at n i
bit_kept n k i apart = omega (arith, bit_at_or n (2 ^ k) i, bit_at-pow_other k i apart)

bit_else : (words : List ℕ) (word k place : ℕ) → word < length words → k < 64 → place ≢ 64 * word + k
    → standing words place ≡ standing (set words word (bit_or (slice_index words word) (2 ^ k))) place
bit_else words word k place within low apart =
    let n : ℕ = slice_index words word in
    dite (ℕ_discrete (place / 64) word)
    (λ (w : place / 64 ≡ word).
    let other : place % 64 ≢ k = λ b. apart (omega arith) in
    let old : standing words place ≡ bit_at n (place % 64) = ap (λ (j : ℕ). bit_at (slice_index words j) (place % 64)) w in
    let new : standing (set words word (bit_or n (2 ^ k))) place ≡ bit_at (bit_or n (2 ^ k)) (place % 64) =
    ap (λ (j : ℕ). bit_at (slice_index (set words word (bit_or n (2 ^ k))) j) (place % 64)) w
    ∙ ap (λ (m : ℕ). bit_at m (place % 64)) (get_or-set_same words word (bit_or n (2 ^ k)) 0 within) in
    old ∙ sym (bit_kept n k (place % 64) other) ∙ sym new)
    (λ (w : place / 64 ≢ word). ap (λ (m : ℕ). bit_at m (place % 64)) (sym (get_or-set_other words word (place / 64) (bit_or n (2 ^ k)) 0 w)))

-- what a ring adds to the place's fresh rings it adds to the standing bit
pub rung_counts : (words fresh : List ℕ) (word k place : ℕ) → word < length words → k < 64
    → times_rung place (rung_too fresh (64 * word + k) (bit_at (slice_index words word) k == 0)) + standing words place
    ≡ times_rung place fresh + standing (set words word (bit_or (slice_index words word) (2 ^ k))) place
rung_counts words fresh word k place within low =
    let n : ℕ = slice_index words word in
    dite (ℕ_discrete place (64 * word + k))
    (λ (same : place ≡ 64 * word + k).
    let w : place / 64 ≡ word = omega arith in
    let b : place % 64 ≡ k = omega arith in
    let here = rung_here place fresh (bit_at n k == 0) in
    let old : standing words place ≡ bit_at n k = ap (λ (j : ℕ). bit_at (slice_index words j) (place % 64)) w ∙ ap (bit_at n) b in
    let new : standing (set words word (bit_or n (2 ^ k))) place ≡ bit_at (bit_or n (2 ^ k)) k =
    ap (λ (j : ℕ). bit_at (slice_index (set words word (bit_or n (2 ^ k))) j) (place % 64)) w
    ∙ ap (λ (m : ℕ). bit_at m (place % 64)) (get_or-set_same words word (bit_or n (2 ^ k)) 0 within) ∙ ap (bit_at (bit_or n (2 ^ k))) b in
    let rang : times_rung place (rung_too fresh (64 * word + k) (bit_at n k == 0)) ≡ times_rung place (rung_too fresh place (bit_at n k == 0)) =
    ap (λ (q : ℕ). times_rung place (rung_too fresh q (bit_at n k == 0))) (sym same) in
    omega (arith, bit_rung n k))
    (λ (apart : place ≢ 64 * word + k).
    let kept = rung_else place (64 * word + k) fresh (bit_at n k == 0) (λ e. apart (sym e)) in
    let old : standing words place ≡ standing (set words word (bit_or n (2 ^ k))) place = bit_else words word k place within low apart in
    omega arith)

-- a collection takes what stood, and nothing of another word
pub taken_counts : (words : List ℕ) (hauls : List Haul) (word place : ℕ) → word < length words
    → times_taken place (hauls ++ record { word = word; bits = slice_index words word } ∷ []) + standing (set words word 0) place
    ≡ times_taken place hauls + standing words place
taken_counts words hauls word place within =
    let n : ℕ = slice_index words word in
    let haul : Haul = record { word = word; bits = n } in
    let more : times_taken place (hauls ++ haul ∷ []) ≡ times_taken place hauls + taken_at place haul = sum_by_push (taken_at place) hauls haul in
    dite (ℕ_discrete (place / 64) word)
    (λ (w : place / 64 ≡ word).
    let gave : taken_at place haul ≡ bit_at n (place % 64) = grind (arith, nat_tests) in
    let old : standing words place ≡ bit_at n (place % 64) = ap (λ (j : ℕ). bit_at (slice_index words j) (place % 64)) w in
    let new : standing (set words word 0) place ≡ 0 =
    ap (λ (j : ℕ). bit_at (slice_index (set words word 0) j) (place % 64)) w
    ∙ ap (λ (m : ℕ). bit_at m (place % 64)) (get_or-set_same words word 0 0 within) ∙ bit_at-zero (place % 64) in
    omega arith)
    (λ (w : place / 64 ≢ word).
    let gave : taken_at place haul ≡ 0 = grind (arith, nat_tests) in
    let same : standing (set words word 0) place ≡ standing words place =
    ap (λ (m : ℕ). bit_at m (place % 64)) (get_or-set_other words word (place / 64) 0 0 w) in
    omega arith)

same_power : (a b : ℕ) → 2 ^ a ≡ 2 ^ b → a ≡ b
same_power a b e =
    dite (ℕ_discrete b a) (λ (h : b ≡ a). sym h)
    (λ (h : b ≢ a). absurd (omega (arith, bit_at-pow_other a b h, bit_at-pow_same b, ap (λ (n : ℕ). bit_at n b) e)))

-- the test of the code is the test of the one bit
pub clear_found : (n bit j k : ℕ) → bit ≡ 2 ^ j → bit ≡ 2 ^ k → (bit_at n k == 0) ≡ (bit_and n bit == 0)
clear_found n bit j k is was =
    let and : bit_and n bit ≡ bit_at n k * 2 ^ k = ap (bit_and n) was ∙ and_pow n k in
    let low = bit_at-lt n k in
    dite (ℕ_discrete (bit_at n k) 0)
    (λ (e : bit_at n k ≡ 0).
    let none : bit_and n bit ≡ 0 = and ∙ ap (λ (b : ℕ). b * 2 ^ k) e ∙ zero-mul (2 ^ k) in
    grind (arith, nat_tests))
    (λ (e : bit_at n k ≢ 0).
    let one : bit_at n k ≡ 1 = omega arith in
    let some : bit_and n bit ≡ 2 ^ k = and ∙ ap (λ (b : ℕ). b * 2 ^ k) one ∙ one-mul (2 ^ k) in
    let more = pow_pos k in
    grind (arith, nat_tests))

pub same_bit : (bit j k : ℕ) → bit ≡ 2 ^ j → bit ≡ 2 ^ k → j ≡ k
same_bit bit j k is was = same_power j k (sym is ∙ was)

-- A rising list is told by what it contains, so a sorted list without doubles is the filter that `bad_below` speaks of.
use Rattle.std.proofs.Common.{◌≡◌, ℕ, ◌+◌, ◌<◌, ◌≤◌, Bool, true, false, List, [], ◌∷◌, length, get_or, refl, sym, ◌∙◌, add-one, arith, zero, suc, inl, inr}
use native.Mathlib.Numerals.{unary_clauses}
use Rattle.std.proofs.lemmas.Bool.{cases_lt, cases_Bool, ne_eqb, eq-eqb, eqb-true, lt-ltb, le-ltb, both_ways, false_from_ne_true, ltb-true}
use Rattle.std.proofs.lemmas.List.Elements.{filter_agree, filter_passes, All-weaker}
use Rattle.block_unit.specs.BlockMaps.{bad_below}
use Rattle.std.proofs.lemmas.List.Kept.{Contains-dedup_nat, Contains-from_dedup}
use Rattle.std.proofs.lemmas.List.Sorted.{list_any-IsPermutation}
use Rattle.std.proofs.lemmas.Map.Keys.{IsStrictlyIncreasing-dedup}
use Rattle.std.proofs.lemmas.Map.Views.{list_any-from_Contains, Contains-from_any}
use Rattle.std.proofs.Math.Dec.{eqb, ltb}
use Rattle.std.specs.Cmp.{nat_eq_equiv}
use Rattle.std.specs.List.{All, filter, list_any, range_with_len, dedup}
use Rattle.std.specs.List.Sorted.{IsStrictlyIncreasing, IsSorted, IsPermutation}
use Rattle.std.specs.Ordering.{nat_cmp}

-- each number is above all before it, and none is below the first bound
abbrev pub RisesFrom : ℕ → List ℕ → Type 0
RisesFrom bound [] = Unit {0}
RisesFrom bound (x ∷ xs) = (bound ≤ x) × RisesFrom (suc x) xs

pub RisesFrom-weaker : (low bound : ℕ) (xs : List ℕ) → low ≤ bound → RisesFrom bound xs → RisesFrom low xs
RisesFrom-weaker low bound [] below rises = tt
RisesFrom-weaker low bound (x ∷ xs) below rises = (omega (arith, rises.0), rises.1)

pub RisesFrom-increasing : (bound : ℕ) (xs : List ℕ) → IsStrictlyIncreasing xs → (0 < length xs → bound ≤ get_or xs 0 0) → RisesFrom bound xs
RisesFrom-increasing bound [] increasing start = tt
RisesFrom-increasing bound (x ∷ xs) increasing start = (
  start (omega arith),
  RisesFrom-increasing (suc x) xs (λ k within. rw add-one (simp unary_clauses at (increasing (suc k) (omega arith))))
      (λ some. increasing 0 (omega arith)),
)

-- a number below the bound isn't there
pub list_any-below : (low bound : ℕ) (xs : List ℕ) → low < bound → RisesFrom bound xs → list_any (eqb low) xs ≡ false
list_any-below low bound [] below rises = refl
list_any-below low bound (x ∷ xs) below rises =
    rw (ne_eqb low x (λ same. omega (arith, rises.0)), list_any-below low (suc x) xs (omega (arith, rises.0)) rises.1)

pub filter-none : (limit bound : ℕ) (xs : List ℕ) → limit ≤ bound → RisesFrom bound xs → filter (λ x. ltb x limit) xs ≡ []
filter-none limit bound [] below rises = refl
filter-none limit bound (x ∷ xs) below rises =
    rw (le-ltb x limit (omega (arith, rises.0)), filter-none limit (suc x) xs (omega (arith, rises.0)) rises.1)

pub filter-range : (p q : ℕ → Bool) (from many : ℕ) → ((k : ℕ) → from ≤ k → p k ≡ q k)
    → filter p (range_with_len from many) ≡ filter q (range_with_len from many)
filter-range p q from zero same = refl
filter-range p q from (suc many) same =
    rw (same from (omega arith), filter-range p q (from + 1) many (λ k above. same k (omega arith)))

pub filter-nothing : (xs : List ℕ) → filter (λ (k : ℕ). false) xs ≡ []
filter-nothing [] = refl
filter-nothing (x ∷ xs) = filter-nothing xs

-- the numbers of a rising list below a limit are those between the bounds that it contains
pub filter-rising : (from many limit : ℕ) (xs : List ℕ) → from + many ≡ limit → RisesFrom from xs
    → filter (λ x. ltb x limit) xs ≡ filter (λ k. list_any (eqb k) xs) (range_with_len from many)
filter-rising from zero limit xs ends rises = filter-none limit from xs (omega arith) rises
filter-rising from (suc many) limit [] ends rises = sym (filter-nothing (range_with_len from (suc many)))
filter-rising from (suc many) limit (x ∷ xs) ends rises =
    elim (cases_lt from x) [
      | inl above ↦
          rw (list_any-below from x (x ∷ xs) above (omega arith, rises.1))
          (filter-rising (from + 1) many limit (x ∷ xs) (omega arith) (omega arith, rises.1))
      | inr most ↦
          let here : x ≡ from = omega (arith, rises.0) in
          let below : x < limit = omega arith in
          let rest = filter-rising (from + 1) many limit xs (omega arith) (RisesFrom-weaker (from + 1) (suc x) xs (omega arith) rises.1) in
          let others = filter-range (λ k. list_any (eqb k) (x ∷ xs)) (λ k. list_any (eqb k) xs) (from + 1) many
          (λ k later. rw (ne_eqb k x (λ same. omega arith)) refl) in
          rw (lt-ltb x limit below, eq-eqb from x (sym here), others, rest, here) refl
    ]

-- a double more or less, or another order, changes nothing of what a list contains
pub list_any-dedup : (q : ℕ) (xs : List ℕ) → list_any (eqb q) (dedup eqb xs) ≡ list_any (eqb q) xs
list_any-dedup q xs =
    let kept = λ (there : list_any (eqb q) xs ≡ true). list_any-from_Contains nat_eq_equiv q _
    (Contains-dedup_nat xs q (Contains-from_any eqb-true q xs there)) in
    let was = λ (there : list_any (eqb q) (dedup eqb xs) ≡ true). list_any-from_Contains nat_eq_equiv q _
    (Contains-from_dedup eqb xs q (Contains-from_any eqb-true q (dedup eqb xs) there)) in
    elim (cases_Bool (list_any (eqb q) xs)) [
      | inl there ↦ kept there ∙ sym there
      | inr absent ↦ false_from_ne_true _ (λ there. both_ways _ absent (was there)) ∙ sym absent
    ]

pub bad_below_is : (count : ℕ) (listed sorted : List ℕ) → IsPermutation listed sorted → IsSorted nat_cmp sorted
    → filter (λ x. ltb x count) (dedup eqb sorted) ≡ bad_below count listed
unfolding bad_below
bad_below_is count listed sorted same rises =
    let rising = RisesFrom-increasing 0 (dedup eqb sorted) (IsStrictlyIncreasing-dedup sorted rises) (λ some. omega arith) in
    filter-rising 0 count count (dedup eqb sorted) (omega arith) rising
    ∙ filter_agree (λ k. list_any (eqb k) (dedup eqb sorted)) (λ k. list_any (eqb k) listed) (λ k. list_any-dedup k sorted
    ∙ sym (list_any-IsPermutation (eqb k) listed sorted same)) (range_with_len 0 count)

pub All-filter_below : (limit : ℕ) (xs : List ℕ) → All (λ x. x < limit) (filter (λ x. ltb x limit) xs)
All-filter_below limit xs = All-weaker (λ x. ltb x limit ≡ true) (λ x. x < limit) (λ x passes. ltb-true x limit passes) _ (filter_passes (λ x. ltb x limit) xs)

-- Laws of regions that are lent.
use Rattle.std.proofs.Common.{◌≡◌, ℕ, zero, suc, ◌+◌, ◌-◌, ◌^◌, ◌<◌, ◌≤◌, List, [], ◌∷◌, length, drop, get_or, refl, sym, arith, ◌∙◌, ap, true, false}
use Rattle.std.proofs.Common.{inl, inr}
use Rattle.std.proofs.lemmas.Bool.{false≢true, cases_lt, lt-ltb, ltb-true, leb-true, and_parts}
use Rattle.std.specs.Prelude.{◌&&◌, not, nat_lt, is_some, None}
use Rattle.std.specs.List.{list_all}
use Rattle.guest_memory.specs.declared.lend.Lent.{Lent}
use Rattle.guest_memory.specs.Lend.{lent_in, HasAll}
use Rattle.guest_memory.specs.LendLaws.{misses_before, misses_behind, part_there}
use Rattle.uas_xhci_c.specs.Regions.{are_apart, end, fits, overlap}

-- the first of those from a place on lies apart from those behind it
pub apart_from : (regions : List Lent) (i : ℕ) (first : Lent) → first ≡ get_or regions i first → i < length regions
    → are_apart (drop i regions) ≡ (list_all (λ other. not (overlap first other)) (drop (i + 1) regions) && are_apart (drop (i + 1) regions))
apart_from [] i first is below = absurd (omega (arith, below))
apart_from (one ∷ others) zero first is below = rw is refl
apart_from (one ∷ others) (suc i) first is below =
    let next : suc i + 1 ≡ suc (i + 1) = omega arith in
    rw next (apart_from others i first is (omega (arith, below)))

-- regions overlap exactly where an address has a byte in both
abbrev pub OverlapIsCommon : Lent → Lent → Type 0
OverlapIsCommon one other =
    (overlap one other ≡ true → (a : ℕ) × (is_some (lent_in one a) ≡ true) × (is_some (lent_in other a) ≡ true))
    × (overlap one other ≡ false → (a : ℕ) → is_some (lent_in one a) ≡ true → lent_in other a ≡ None)

-- where a region has a byte
is_here : (region : Lent) (a : ℕ) → region.base ≤ a → a < end region → end region ≤ 2 ^ 64 → is_some (lent_in region a) ≡ true
is_here region a from below top =
    let e : a + 0 ≡ a = omega arith in
    let all : HasAll region a 1 = (from, omega (arith, below), omega (arith, below, top)) in
    ap (λ x. is_some (lent_in region x)) (sym e) ∙ part_there region a 1 0 all (omega arith)

none_before : (region : Lent) (a : ℕ) → a < region.base → lent_in region a ≡ None
none_before region a before =
    let e : a + 0 ≡ a = omega arith in
    ap (lent_in region) (sym e) ∙ misses_before a 1 region before (omega arith) 0 (omega arith)

none_behind : (region : Lent) (a : ℕ) → region.base ≤ a → end region ≤ a → lent_in region a ≡ None
none_behind region a from past =
    let e : a + 0 ≡ a = omega arith in
    ap (lent_in region) (sym e) ∙ misses_behind a 1 region from (omega (arith, past)) 0 (omega arith)

-- and where it has one, its place
within : (region : Lent) (a : ℕ) → is_some (lent_in region a) ≡ true → (region.base ≤ a) × (a < end region)
within region a there = elim (cases_lt a region.base) [
  | inl before ↦ absurd (false≢true (ap is_some (sym (none_before region a before)) ∙ there))
  | inr from ↦ elim (cases_lt a (end region)) [
    | inl below ↦ (from, below)
    | inr past ↦ absurd (false≢true (ap is_some (sym (none_behind region a from past)) ∙ there))
  ]
]

common : (one other : Lent) → end one ≤ 2 ^ 64 → end other ≤ 2 ^ 64 → overlap one other ≡ true
    → (a : ℕ) × (is_some (lent_in one a) ≡ true) × (is_some (lent_in other a) ≡ true)
common one other tops topt e =
    let p = and_parts (nat_lt one.base (end one)) _ e in
    let q = and_parts (nat_lt one.base (end other)) _ p.1 in
    let r = and_parts (nat_lt other.base (end one)) (nat_lt other.base (end other)) q.1 in
    let a = ltb-true one.base (end one) p.0 in
    let b = ltb-true one.base (end other) q.0 in
    let c = ltb-true other.base (end one) r.0 in
    let d = ltb-true other.base (end other) r.1 in
    elim (cases_lt one.base other.base) [
      | inl before ↦ (other.base, is_here one other.base (omega (arith, before)) c tops, is_here other other.base (omega arith) d topt)
      | inr from ↦ (one.base, is_here one one.base (omega arith) a tops, is_here other one.base from b topt)
    ]

none_common : (one other : Lent) → overlap one other ≡ false → (a : ℕ) → is_some (lent_in one a) ≡ true → lent_in other a ≡ None
none_common one other e a there =
    let w = within one a there in
    elim (cases_lt a other.base) [
      | inl before ↦ none_before other a before
      | inr from ↦ elim (cases_lt a (end other)) [
        | inr past ↦ none_behind other a from past
        | inl below ↦ absurd (false≢true (sym e ∙ rw (
          lt-ltb one.base (end one) (omega (arith, w.0, w.1)),
          lt-ltb one.base (end other) (omega (arith, w.0, below)),
          lt-ltb other.base (end one) (omega (arith, from, w.1)),
          lt-ltb other.base (end other) (omega (arith, from, below)),
        ) refl))
      ]
    ]

pub overlap_is_common : (one other : Lent) → fits one ≡ true → fits other ≡ true → OverlapIsCommon one other
overlap_is_common one other f g = (common one other (leb-true _ _ f) (leb-true _ _ g), none_common one other)

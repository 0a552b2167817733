-- The least number of a test, as a search over a range finds it.
use Rattle.std.proofs.Common.{◌≡◌, ℕ, zero, suc, ◌+◌, ◌<◌, ◌≤◌, Bool, true, false, Some, None, refl, sym, ap, ◌∙◌, arith, inl, inr}
use Rattle.std.specs.List.{find, range_with_len}
use Rattle.std.proofs.lemmas.Bool.{cases_Bool, cases_eq, false≢true}

pub find-least : (test : ℕ → Bool) (n from next : ℕ) → from ≤ next → next < from + n → test next ≡ true
    → ((other : ℕ) → from ≤ other → other < next → test other ≡ false) → find test (range_with_len from n) ≡ Some next
find-least test zero from next least most is before = absurd (omega (arith, least, most))
find-least test (suc n) from next least most is before =
    elim (cases_Bool (test from)) as (λ _. find test (range_with_len from (suc n)) ≡ Some next) [
      | inl here ↦
          let same : from ≡ next = elim (cases_eq from next) as (λ _. from ≡ next) [
            | inl same ↦ same
            | inr other ↦ absurd (false≢true (sym (before from (omega arith) (omega (arith, least, other))) ∙ here))
          ] in
          rw here (ap (λ k. Some k) same)
      | inr past ↦
          let further : from + 1 ≤ next = elim (cases_eq from next) as (λ _. from + 1 ≤ next) [
            | inl same ↦ absurd (false≢true (sym past ∙ ap test same ∙ is))
            | inr other ↦ omega (arith, least, other)
          ] in
          rw past (find-least test n (from + 1) next further (omega (arith, most)) is (λ k above. before k (omega (arith, above))))
    ]

-- where none below the range's end passes
pub find-none : (test : ℕ → Bool) (n from : ℕ) → ((other : ℕ) → from ≤ other → other < from + n → test other ≡ false)
    → find test (range_with_len from n) ≡ None
find-none test zero from all = refl
find-none test (suc n) from all =
    rw (all from (omega arith) (omega arith))
    (find-none test n (from + 1) (λ k above below. all k (omega (arith, above)) (omega (arith, below))))

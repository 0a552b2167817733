-- Laws of places and turns, of a ring whose turn has m places.
use Rattle.std.proofs.Common.{◌≡◌, ℕ, ◌+◌, ◌-◌, ◌*◌, ◌/◌, ◌%◌, ◌<◌, ◌≤◌, ◌⊎◌, sym, ap, ◌∙◌, arith, inl, inr}
use Rattle.std.proofs.Math.Nat.{mod-add-mod, mod-lt, div-add-mod, mul-add-mod_self_left, mod-eq_of_lt, add-mod_right, mul-add-div}
use Rattle.std.proofs.lemmas.Nat.{mod-mul-add}
use Rattle.std.proofs.lemmas.Bool.{cases_lt}

-- a count below two turns wraps once at most
pub wraps_once : (m j : ℕ) → j < m + m → ((j < m) × (j % m ≡ j)) ⊎ ((m ≤ j) × (j % m ≡ j - m))
wraps_once m j below = elim (cases_lt j m) [
  | inl low ↦ inl (low, mod-eq_of_lt low)
  | inr high ↦
      let split : j ≡ 1 * m + (j - m) = omega arith in
      inr (high, ap (λ (x : ℕ). x % m) split ∙ mod-mul-add 1 m (j - m) (omega arith))
]

-- the item at a place before the end of the turn, and behind it
pub place_ahead : (m at place k : ℕ) → place < m → at % m + k ≡ place → (at + k) % m ≡ place
place_ahead m at place k below e = sym (mod-add-mod at m k) ∙ ap (λ (x : ℕ). x % m) e ∙ mod-eq_of_lt below

pub place_behind : (m at place k : ℕ) → place < m → at % m + k ≡ place + m → (at + k) % m ≡ place
place_behind m at place k below e = sym (mod-add-mod at m k) ∙ ap (λ (x : ℕ). x % m) e ∙ add-mod_right place m ∙ mod-eq_of_lt below

-- the items of one turn have different places
pub same_item : (m at j k : ℕ) → j < m → k < m → (at + j) % m ≡ (at + k) % m → j ≡ k
same_item m at j k below_j below_k same =
    let first : at % m < m = mod-lt at (omega arith) in
    let at_j = mod-add-mod at m j in
    let at_k = mod-add-mod at m k in
    elim (wraps_once m (at % m + j) (omega arith)) [
      | inl a ↦ elim (wraps_once m (at % m + k) (omega arith)) [ inl b ↦ omega arith | inr b ↦ omega arith ]
      | inr a ↦ elim (wraps_once m (at % m + k) (omega arith)) [ inl b ↦ omega arith | inr b ↦ omega arith ]
    ]

-- a count less whole pairs of turns has the same place and the same parity of turns
pub place_shift : (m at d i : ℕ) → ((at + d) % (2 * m) + i) % m ≡ (at + (d + i)) % m
place_shift m at d i =
    let pairs = (at + d) / (2 * m) in
    let split : 2 * m * pairs + (at + d) % (2 * m) ≡ at + d = div-add-mod (at + d) (2 * m) in
    let whole : m * (2 * pairs) + ((at + d) % (2 * m) + i) ≡ at + (d + i) = omega arith in
    sym (mul-add-mod_self_left m (2 * pairs) _) ∙ ap (λ (x : ℕ). x % m) whole

pub turn_shift : (m at d i : ℕ) → 0 < m → ((at + d) % (2 * m) + i) / m % 2 ≡ (at + (d + i)) / m % 2
turn_shift m at d i pos =
    let pairs = (at + d) / (2 * m) in
    let split : 2 * m * pairs + (at + d) % (2 * m) ≡ at + d = div-add-mod (at + d) (2 * m) in
    let whole : m * (2 * pairs) + ((at + d) % (2 * m) + i) ≡ at + (d + i) = omega arith in
    sym (mul-add-mod_self_left 2 pairs _)
    ∙ ap (λ (x : ℕ). x % 2) (sym (mul-add-div pos (2 * pairs) _) ∙ ap (λ (x : ℕ). x / m) whole)

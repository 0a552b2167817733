-- Byte lists by the bytes at their places.
use Rattle.std.proofs.Common.{◌≡◌, ℕ, ◌+◌, ◌*◌, ◌/◌, ◌%◌, ◌<◌, ◌≤◌, false, not, ◌==◌, List, [], ◌∷◌, ◌++◌, length, drop, slice_index, refl}
use Rattle.std.proofs.Common.{arith, ◌∙◌, ap, inl, inr}
use Rattle.std.specs.List.{list_any}
use Rattle.std.proofs.lemmas.Bool.Decides.{eqb_tells}
use Rattle.std.proofs.lemmas.List.{drop_all, append-nil}

-- a list of at least eight bytes, by its first eight
pub first_eight : (bytes : List ℕ) → 8 ≤ length bytes →
    bytes ≡ slice_index bytes 0 ∷ slice_index bytes 1 ∷ slice_index bytes 2 ∷ slice_index bytes 3
    ∷ slice_index bytes 4 ∷ slice_index bytes 5 ∷ slice_index bytes 6 ∷ slice_index bytes 7 ∷ drop 8 bytes
first_eight (a ∷ b ∷ c ∷ d ∷ e ∷ f ∷ g ∷ h ∷ rest) enough = refl
first_eight _ enough = absurd (omega arith)

-- the last part of a list is all that is left there
pub last_part : (bytes part : List ℕ) (at next : ℕ) → drop at bytes ≡ part ++ drop next bytes → length bytes ≡ next → drop at bytes ≡ part
last_part bytes part at next parts ends = parts ∙ ap (λ rest. part ++ rest) (drop_all next bytes (omega arith)) ∙ append-nil part

-- the bytes at these places are 0
abbrev pub AreZero : List ℕ → List ℕ → Type 0
AreZero bytes [] = Unit {0}
AreZero bytes (place ∷ places) = (slice_index bytes place ≡ 0) × AreZero bytes places

-- none of the bytes at these places is set
pub none_set : (bytes places : List ℕ) → list_any (λ place. not (slice_index bytes place == 0)) places ≡ false → AreZero bytes places
none_set bytes [] none = tt
none_set bytes (place ∷ places) none =
    elim (eqb_tells (slice_index bytes place) 0) [
      | inl zero ↦ (zero.1, none_set bytes places (rw zero.0 at none))
      | inr set ↦ absurd (let set_there = rw set.0 at none in cc)
    ]

-- the two bytes of a number are those that it was read from
pub number_bytes : (high low n : ℕ) → high < 256 → low < 256 → n ≡ high * 256 + low → (n / 256 % 256 ≡ high) × (n % 256 ≡ low)
number_bytes high low n high_small low_small is = (omega arith, omega arith)

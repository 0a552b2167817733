-- The front of a list of zeros is one.
use Rattle.std.proofs.Common.{◌≡◌, ℕ, zero, suc, ◌≤◌, List, take, refl, ap, arith}
use Rattle.std.specs.Prelude.{replicate, ◌∷◌}

pub front_of_zeros : (count most : ℕ) → count ≤ most → take count (replicate {A = ℕ} most 0) ≡ replicate count 0
front_of_zeros zero most fits = refl
front_of_zeros (suc count) zero fits = absurd (omega (arith, fits))
front_of_zeros (suc count) (suc most) fits = ap (λ (xs : List ℕ). 0 ∷ xs) (front_of_zeros count most (omega (arith, fits)))

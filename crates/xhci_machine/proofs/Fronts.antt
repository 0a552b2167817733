-- The front of a list, also where it is asked for more than there is.
use Rattle.std.proofs.Common.{◌≡◌, ℕ, zero, suc, min, List, [], ◌∷◌, length, take, refl, ap, arith}

pub front_taken : (cells : List ℕ) (at end : ℕ) → end ≡ min at (length cells) → take end cells ≡ take at cells
front_taken [] zero zero e = refl
front_taken [] (suc at) zero e = refl
front_taken [] at (suc end) e = absurd (omega (arith, e))
front_taken (c ∷ cells) zero zero e = refl
front_taken (c ∷ cells) zero (suc end) e = absurd (omega (arith, e))
front_taken (c ∷ cells) (suc at) zero e = absurd (omega (arith, e))
front_taken (c ∷ cells) (suc at) (suc end) e = ap (λ (l : List ℕ). c ∷ l) (front_taken cells at end (omega (arith, e)))

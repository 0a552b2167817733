-- The elements of parts of a list, one by one.
use Rattle.std.proofs.Common.{◌≡◌, ℕ, zero, suc, ◌+◌, ◌-◌, ◌<◌, ◌≤◌, List, [], ◌∷◌, ◌++◌, length, take, drop, slice_get, refl, arith}

module _ {X : Type 0} where
  pub get_left : (xs ys : List X) (k : ℕ) → k < length xs → slice_get (xs ++ ys) k ≡ slice_get xs k
  get_left [] ys k below = absurd (omega (arith, below))
  get_left (x ∷ xs) ys zero below = refl
  get_left (x ∷ xs) ys (suc k) below = get_left xs ys k (omega (arith, below))

  pub get_right : (xs ys : List X) (k : ℕ) → length xs ≤ k → slice_get (xs ++ ys) k ≡ slice_get ys (k - length xs)
  get_right [] ys k past = let e : k - 0 ≡ k = omega arith in rw e refl
  get_right (x ∷ xs) ys zero past = absurd (omega (arith, past))
  get_right (x ∷ xs) ys (suc k) past =
      let e : suc k - suc (length xs) ≡ k - length xs = omega arith in
      rw e (get_right xs ys k (omega (arith, past)))

  pub get_take : (n : ℕ) (xs : List X) (k : ℕ) → k < n → slice_get (take n xs) k ≡ slice_get xs k
  get_take zero xs k below = absurd (omega (arith, below))
  get_take (suc n) [] k below = refl
  get_take (suc n) (x ∷ xs) zero below = refl
  get_take (suc n) (x ∷ xs) (suc k) below = get_take n xs k (omega (arith, below))

  pub get_drop : (n : ℕ) (xs : List X) (k : ℕ) → slice_get (drop n xs) k ≡ slice_get xs (n + k)
  get_drop zero xs k = let e : 0 + k ≡ k = omega arith in rw e refl
  get_drop (suc n) [] k = refl
  get_drop (suc n) (x ∷ xs) k = let e : suc n + k ≡ suc (n + k) = omega arith in rw e (get_drop n xs k)

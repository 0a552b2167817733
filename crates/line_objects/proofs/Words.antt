-- How many bytes stand before the first of a kind.
use Rattle.std.proofs.Common.{◌≡◌, ◌≤◌, ℕ, Bool, cond, not, true, false, List, length, Some, None, refl, arith}
use Rattle.std.specs.Prelude.{nat_lt, position}
use Rattle.std.specs.List.{position_or_len}
use Rattle.std.specs.Option.{unwrap_or}
use Rattle.std.proofs.lemmas.Bool.{ltb-false}
use Rattle.std.proofs.lemmas.List.Sums.{prefix_len-le-length}

place : (n l : ℕ) (b : Bool) → nat_lt n l ≡ b → n ≤ l → unwrap_or (cond b (Some n) None) l ≡ n
place n l true is fits = refl
place n l false is fits = omega (arith, ltb-false n l is)

-- the place of the first, or how many there are
pub place-or-len : (p : ℕ → Bool) (xs : List ℕ) → unwrap_or (position p xs) (length xs) ≡ position_or_len p xs
place-or-len p xs = place (position_or_len p xs) (length xs) (nat_lt (position_or_len p xs) (length xs)) refl (prefix_len-le-length (λ x. not (p x)) xs)

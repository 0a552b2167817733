-- What a device gave into the front of a buffer.
use Rattle.std.proofs.Common.{◌≡◌, ℕ, true, List, [], ◌∷◌, ◌++◌, length, take, Option, Some, None, refl, sym, ap, ◌∙◌}
use Rattle.std.specs.Prelude.{is_some, unwrap_or}
use Rattle.std.proofs.lemmas.Bool.{false≢true}

take_front : (xs ys : List ℕ) → take (length xs) (xs ++ ys) ≡ xs
take_front [] ys = refl
take_front (x ∷ xs) ys = ap (λ zs. x ∷ zs) (take_front xs ys)

pub front_of_given : (given : Option (List ℕ)) (part rest old : List ℕ) (count : ℕ) → part ≡ unwrap_or given old → length part ≡ count
    → is_some given ≡ true → take count (part ++ rest) ≡ unwrap_or given []
front_of_given None part rest old count is size some = absurd (false≢true some)
front_of_given (Some bytes) part rest old count is size some =
    ap (λ n. take n (part ++ rest)) (sym size) ∙ take_front part rest ∙ is

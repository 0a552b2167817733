-- Decimal numbers in data.
use Rattle.std.specs.Prelude.{ℕ, ◌+◌, ◌/◌, ◌%◌, List, [], ◌∷◌}

-- eight decimal digits: 123 is `00000123`
abbrev pub digit : ℕ → ℕ
digit n = 48 + n % 10

abbrev pub eight_digits : ℕ → List ℕ
eight_digits n =
    digit (n / 10000000) ∷ digit (n / 1000000) ∷ digit (n / 100000) ∷ digit (n / 10000)
    ∷ digit (n / 1000) ∷ digit (n / 100) ∷ digit (n / 10) ∷ digit n ∷ []

-- How often something was, as 64 bits count it.
use Rattle.std.specs.Prelude.{ℕ, ◌+◌, ◌-◌, ◌^◌, min}

abbrev pub counted : ℕ → ℕ
counted times = min (times + 1) (2 ^ 64 - 1)

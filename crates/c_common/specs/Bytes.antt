-- What C has as bytes: yes and no, and sense data in a room of fixed size.
use Rattle.std.specs.Prelude.{ℕ, Bool, true, false, List, ◌++◌, drop, replicate}

-- yes or no as a byte
abbrev pub yes : Bool → ℕ
yes true = 1
yes false = 0

-- the sense, and zeros behind it up to 96 bytes
abbrev pub padded : List ℕ → ℕ → List ℕ
padded sense length = sense ++ drop length (replicate 96 0)

-- Bytes written over a part of others.
use Rattle.std.specs.Prelude.{ℕ, List, ◌++◌, take, drop, length}
use Rattle.std.specs.List.{refill}

-- The bytes `old` with `new` written over them from the place `from` on. The length stays: what would stand past the end is cut.
-- By hand: 1 2 3 4 with 8 9 written from place 1 on is 1 8 9 4.
abbrev pub spliced : List ℕ → ℕ → List ℕ → List ℕ
spliced old from new = refill (length old) old (take from old ++ (new ++ drop (length new) (drop from old)))

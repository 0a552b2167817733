-- Bytes that are written by position.
use Rattle.std.specs.Prelude.{◌≡◌, ℕ, ◌+◌, List, ◌++◌, length, take, drop}

-- the list with these bytes from this place on: 9 from place 1 on in 1, 2, 3 gives 1, 9, 3
unfoldable pub written_over : List ℕ → ℕ → List ℕ → List ℕ
written_over list offset bytes = take offset list ++ (bytes ++ drop (offset + length bytes) list)

-- So many bytes from this place on may have changed, and no other: with 2 of them from place 1 on 1, 2, 3, 4 may be 1, 7, 8, 4.
pub record IsSameOutside (offset count : ℕ) (old new : List ℕ) : Type 0 where
  pub before : take offset new ≡ take offset old
  pub behind : drop (offset + count) new ≡ drop (offset + count) old

-- The bytes of a buffer, which contracts see as a list.
use Rattle.std.specs.Prelude.{ℕ, ◌+◌, List, ◌++◌, length, take, drop}

-- the list with these bytes written over its own from this place on: 9 from place 1 on in 1, 2, 3 gives 1, 9, 3
unfoldable pub with_bytes_at : List ℕ → ℕ → List ℕ → List ℕ
with_bytes_at list at bytes = take at list ++ (bytes ++ drop (at + length bytes) list)

-- the same, cut to the length of the list where the bytes go past its end: 8, 9 from place 2 on in 1, 2, 3 gives 1, 2, 8
unfoldable pub written_at : List ℕ → ℕ → List ℕ → List ℕ
written_at list at bytes = take (length list) (with_bytes_at list at bytes)

-- What of a request one command moves.
use Rattle.std.specs.Prelude.{◌≡◌, ℕ, ◌+◌, ◌%◌, ◌<◌, ◌≤◌, ◌⊎◌}

-- bytes from this place on that are 1 to 128 whole blocks, or lie in one block
pub record IsPiece (at count : ℕ) : Type 0 where
  pub some : 0 < count
  pub most : count ≤ 65536
  pub shape : ((at % 512 ≡ 0) × (count % 512 ≡ 0)) ⊎ (at % 512 + count ≤ 512)

-- What is in a window.
use Rattle.std.specs.Prelude.{ℕ, Bool, List}

-- the bytes that aren't taken, and whether they are all that is left
pub record Shown : Type 0 where
  pub bytes : List ℕ
  pub has_ended : Bool

-- What a writer has got.
use Rattle.std.specs.Prelude.{ℕ, List, Option}
use Rattle.std.specs.Io.KnownBytes.{Appends}

-- a writer that tells its bytes has got these behind those that it had, and nothing else
pub record Wrote {W : Type 0} (contents : W → Option (List ℕ)) (old new : W) (bytes : List ℕ) : Type 0 where
  pub appends : Appends (contents old) (contents new) bytes

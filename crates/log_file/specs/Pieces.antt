-- A sink and the bytes that wait for it.
use Rattle.std.specs.Prelude.{ℕ, List, ◌++◌, Option, Some, None}
use Rattle.std.specs.Io.KnownBytes.{Appends}

-- what a sink has taken, and what waits for it behind that
abbrev pub with_waiting : Option (List ℕ) → List ℕ → Option (List ℕ)
with_waiting None waiting = None
with_waiting (Some written) waiting = Some (written ++ waiting)

-- Of a sink that tells its bytes: it and what waits for it have these bytes behind those that they had.
pub record Gave {O : Type 0} (written : O → Option (List ℕ)) (old : O) (waiting : List ℕ) (new : O) (left : List ℕ) (bytes : List ℕ) : Type 0 where
  pub appends : Appends (with_waiting (written old) waiting) (with_waiting (written new) left) bytes

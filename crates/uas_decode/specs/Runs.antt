-- The run: the answers of all lines of a text, in their order.
use Rattle.std.specs.Prelude.{◌≡◌, ℕ, ◌==◌, ◌||◌, Bool, if◌then◌else◌, List, [], ◌∷◌, ◌++◌, map, Option}
use Rattle.std.specs.List.{join_with_byte, list_any}
use Rattle.std.specs.Io.KnownBytes.{Appends}
use Rattle.byte_io.specs.Words.{pieces}
use Rattle.uas_decode.specs.Printed.{answered, is_refused}

-- A text with the answer of each of its lines, and whether one was refused. Line feeds stay where they are: what follows the last one is
-- a line too, mostly an empty one.
abbrev pub decoded : List ℕ → List ℕ
decoded bytes = join_with_byte 10 (map answered (pieces bytes))

abbrev pub has_refusal : List ℕ → Bool
has_refusal bytes = list_any is_refused (pieces bytes)

-- the same by bytes, behind the beginning of a line
unfoldable pub decoded_from : List ℕ → List ℕ → List ℕ
decoded_from line [] = answered line
decoded_from line (byte ∷ rest) = if byte == 10 then answered line ++ (10 ∷ decoded_from [] rest) else decoded_from (line ++ byte ∷ []) rest

unfoldable pub refused_from : List ℕ → List ℕ → Bool
refused_from line [] = is_refused line
refused_from line (byte ∷ rest) = if byte == 10 then is_refused line || refused_from [] rest else refused_from (line ++ byte ∷ []) rest

-- the exit status
abbrev pub status_of : Bool → ℕ
status_of is_refused = if is_refused then 1 else 0

-- A run over known bytes that was not stopped: the decoded text was written, and the status tells whether a line was refused.
pub record Decodes (bytes : List ℕ) (old new : Option (List ℕ)) (status : ℕ) : Type 0 where
  pub text : Appends old new (decoded bytes)
  pub told : status ≡ status_of (has_refusal bytes)

-- A run that was stopped: what was written is the beginning of the decoded text.
pub record Begins (bytes : List ℕ) (old new : Option (List ℕ)) : Type 0 where
  pub written : List ℕ
  pub rest : List ℕ
  pub text : Appends old new written
  pub beginning : decoded bytes ≡ written ++ rest

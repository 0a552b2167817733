-- What a reader gave, and what a writer took.
use Rattle.std.specs.Prelude.{◌≡◌, ℕ, ◌<◌, List, ◌++◌, length, Option}
use Rattle.std.specs.Io.KnownBytes.{Appends, Consumes}

-- a reader whose bytes were these and are those gave so many bytes
pub record Gave (old new : Option (List ℕ)) (count : ℕ) : Type 0 where
  pub bytes : List ℕ
  pub read : Consumes old new bytes
  pub len : length bytes ≡ count

-- it gave fewer
pub record GaveFewer (old new : Option (List ℕ)) (count : ℕ) : Type 0 where
  pub bytes : List ℕ
  pub read : Consumes old new bytes
  pub few : length bytes < count

-- a writer whose bytes were these and are those took a beginning of `bytes`
pub record Began (old new : Option (List ℕ)) (bytes : List ℕ) : Type 0 where
  pub part : List ℕ
  pub rest : List ℕ
  pub front : part ++ rest ≡ bytes
  pub wrote : Appends old new part

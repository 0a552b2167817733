-- What a buffer's bytes end as, where a part of them is lent.
use Rattle.std.specs.Prelude.{ℕ, List}
use Rattle.std.specs.Borrow.{Lends, MutBor, Fml, Array, u8 as byte}
use Rattle.frame_store.specs.Splice.{spliced}
use Rattle.frame_store.specs.contracts.Bytes.{the_row}

-- The part from a place on ends as the last bytes written through `part`.
abbrev pub LendsPart : MutBor (List ℕ) → ℕ → MutBor (List ℕ) → Fml
LendsPart bytes from part = Lends the_row (Array byte 0) bytes part (spliced bytes.now from)

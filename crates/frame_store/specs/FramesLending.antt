-- What the store ends as, where bytes of it are lent.
use Rattle.std.specs.Prelude.{ℕ, List}
use Rattle.std.specs.Borrow.{Lends, MutBor, Fml, Array, u8 as byte}
use Rattle.frame_store.specs.declared.Place.{Place}
use Rattle.frame_store.specs.declared.TagBuffers.{TagBuffers}
use Rattle.frame_store.specs.Buffers.{with_bytes, written}
use Rattle.frame_store.specs.contracts.Frames.{the_row}

-- The bytes from a place on end as the last ones written through `part`, and all others stay.
abbrev pub LendsFrom : MutBor (List TagBuffers) → Place → MutBor (List ℕ) → Fml
LendsFrom frames place part = Lends the_row (Array byte 0) frames part (with_bytes frames.now place)

-- The bytes that an address and a length name end as the last ones written through `part`, and all others stay.
abbrev pub LendsWindow : MutBor (List TagBuffers) → ℕ → ℕ → MutBor (List ℕ) → Fml
LendsWindow frames address len part = Lends the_row (Array byte 0) frames part (written frames.now address len)

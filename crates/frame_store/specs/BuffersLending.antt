-- What a tag's buffers end as, where a part of one is lent.
use Rattle.std.specs.Prelude.{ℕ, List}
use Rattle.std.specs.Borrow.{Lends, MutBor, Fml, Array, u8 as byte}
use Rattle.frame_store.specs.declared.Buffer.{Buffer}
use Rattle.frame_store.specs.declared.TagBuffers.{TagBuffers}
use Rattle.frame_store.specs.Buffers.{with_part}
use Rattle.frame_store.specs.contracts.TagBuffers.{the_row}

-- The part of one buffer ends as the last bytes written through `part`, and the others stay.
abbrev pub LendsBufferPart : MutBor TagBuffers → Buffer → ℕ → MutBor (List ℕ) → Fml
LendsBufferPart held buffer from part = Lends the_row (Array byte 0) held part (with_part held.now buffer from)

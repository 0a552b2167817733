-- Where the parts of a driver's memory begin that depend on its shape, from its beginning on, and how many bytes it has.
use Rattle.std.specs.Prelude.{ℕ, ◌+◌, ◌*◌, ◌==◌, nat_lt, if◌then◌else◌}
use Rattle.host_layout.specs.declared.shape.Shape.{Shape}
use Rattle.host_layout.specs.Sizes.{page_bytes, ring_bytes, round_up}

-- MaxPStreams (6.2.3) of an array with a context for each tag
abbrev pub max_primary : ℕ → ℕ
max_primary tags =
    if nat_lt tags 4 then 1 else if nat_lt tags 8 then 2 else if nat_lt tags 16 then 3 else if nat_lt tags 32 then 4
    else if nat_lt tags 64 then 5 else if nat_lt tags 128 then 6 else 7

-- the least power of two above the tags, at least 4
abbrev pub stream_contexts : ℕ → ℕ
stream_contexts tags =
    if nat_lt tags 4 then 4 else if nat_lt tags 8 then 8 else if nat_lt tags 16 then 16 else if nat_lt tags 32 then 32
    else if nat_lt tags 64 then 64 else if nat_lt tags 128 then 128 else 256

-- the data rings, behind 64 KiB and 512 bytes of each tag
abbrev pub rings_offset : Shape → ℕ
rings_offset shape = 65536 + round_up (512 * shape.tags) 4096

-- a page of nothing behind the data rings, two of each tag
abbrev pub empty_offset : Shape → ℕ
empty_offset shape = rings_offset shape + round_up (shape.tags * (2 * ring_bytes shape.pieces)) 4096

-- the end without scratchpads
abbrev pub plain_bytes : Shape → ℕ
plain_bytes shape = empty_offset shape + 4096

-- the array of scratchpads, at a page of the controller's
abbrev pub array_offset : Shape → ℕ
array_offset shape = round_up (plain_bytes shape) (page_bytes shape.page)

-- the scratchpads, from the first page on behind the array's 8 KiB
abbrev pub scratchpads_offset : Shape → ℕ
scratchpads_offset shape = round_up (array_offset shape + 8192) (page_bytes shape.page)

-- Bytes in all. Worked: of 15 tags and 31 pieces 126,976, of 31 tags and 127 pieces 466,944, both without scratchpads.
abbrev pub bytes_of : Shape → ℕ
bytes_of shape =
    if shape.scratchpads == 0 then plain_bytes shape
    else scratchpads_offset shape + shape.scratchpads * page_bytes shape.page

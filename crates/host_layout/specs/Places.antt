-- Where each area of a driver's memory stands, and how many bytes it has.
use Rattle.std.specs.Prelude.{◌≡◌, ℕ, ◌+◌, ◌-◌, ◌*◌, ◌<◌, ◌≤◌, ◌&&◌, nat_le, nat_lt, if◌then◌else◌, Bool, true, Option, Some, None}
use Rattle.host_trbs.specs.Contexts.{context_size}
use Rattle.host_layout.specs.declared.layout.Area.{Area}
use Rattle.host_layout.specs.declared.layout.Area.TheVariants.{At, OfTag, EmptyPage, ScratchpadArray, Scratchpad}
use Rattle.host_layout.specs.declared.layout.Fixed.{Fixed}
use Rattle.host_layout.specs.declared.layout.Fixed.TheVariants.{DeviceContexts, SegmentTable, CommandRing, ControlRing, InputContext, DeviceContext, CommandPipe, Buffer, StatusStreams, DataInStreams, DataOutStreams, EventRing}
use Rattle.host_layout.specs.declared.layout.Layout.{Layout}
use Rattle.host_layout.specs.declared.layout.TagArea.{TagArea}
use Rattle.host_layout.specs.declared.layout.TagArea.TheVariants.{CommandUnit, UnmapList, StatusRing, StatusUnit, DataInRing, DataOutRing}
use Rattle.host_layout.specs.declared.shape.Shape.{Shape}
use Rattle.host_layout.specs.Sizes.{page_bytes, ring_bytes}
use Rattle.host_layout.specs.Shapes.{array_offset, empty_offset, rings_offset, scratchpads_offset, stream_contexts}

-- 0, 800h, 840h, 980h, 1000h, 2000h, 3000h, 4000h, 5000h, 6000h, 7000h and 8000h
abbrev pub fixed_offset : Fixed → ℕ
fixed_offset DeviceContexts = 0
fixed_offset SegmentTable = 2048
fixed_offset CommandRing = 2112
fixed_offset ControlRing = 2432
fixed_offset InputContext = 4096
fixed_offset DeviceContext = 8192
fixed_offset CommandPipe = 12288
fixed_offset Buffer = 16384
fixed_offset StatusStreams = 20480
fixed_offset DataInStreams = 24576
fixed_offset DataOutStreams = 28672
fixed_offset EventRing = 32768

abbrev pub fixed_bytes : Shape → Fixed → ℕ
fixed_bytes shape DeviceContexts = 8 * 256
fixed_bytes shape SegmentTable = 16 * 1
fixed_bytes shape CommandRing = 16 * 16
fixed_bytes shape ControlRing = 3 * (16 * 4)
fixed_bytes shape InputContext = 33 * context_size shape.contexts
fixed_bytes shape DeviceContext = 32 * context_size shape.contexts
fixed_bytes shape CommandPipe = 16 * 256
fixed_bytes shape Buffer = 4096
fixed_bytes shape StatusStreams = 16 * stream_contexts shape.tags
fixed_bytes shape DataInStreams = 16 * stream_contexts shape.tags
fixed_bytes shape DataOutStreams = 16 * stream_contexts shape.tags
fixed_bytes shape EventRing = 16 * 2048

-- 512 bytes of each tag from 10000h on; of each tag two data rings
abbrev pub tag_offset : Shape → ℕ → TagArea → ℕ
tag_offset shape tag CommandUnit = 65536 + 512 * (tag - 1)
tag_offset shape tag UnmapList = 65536 + 512 * (tag - 1) + 32
tag_offset shape tag StatusRing = 65536 + 512 * (tag - 1) + 64
tag_offset shape tag StatusUnit = 65536 + 512 * (tag - 1) + 256
tag_offset shape tag DataInRing = rings_offset shape + (tag - 1) * (2 * ring_bytes shape.pieces)
tag_offset shape tag DataOutRing = rings_offset shape + (tag - 1) * (2 * ring_bytes shape.pieces) + ring_bytes shape.pieces

abbrev pub tag_bytes : Shape → TagArea → ℕ
tag_bytes shape CommandUnit = 32
tag_bytes shape UnmapList = 32
tag_bytes shape StatusRing = 3 * (16 * 2)
tag_bytes shape StatusUnit = 112
tag_bytes shape DataInRing = ring_bytes shape.pieces
tag_bytes shape DataOutRing = ring_bytes shape.pieces

-- the areas that a layout of a shape has
abbrev pub has_area : Shape → Area → Bool
has_area shape (At area) = true
has_area shape (OfTag tag area) = nat_le 1 tag && nat_le tag shape.tags
has_area shape EmptyPage = true
has_area shape ScratchpadArray = nat_lt 0 shape.scratchpads
has_area shape (Scratchpad number) = nat_lt number shape.scratchpads

-- where an area begins, from the layout's beginning on
abbrev pub offset_of : Shape → Area → ℕ
offset_of shape (At area) = fixed_offset area
offset_of shape (OfTag tag area) = tag_offset shape tag area
offset_of shape EmptyPage = empty_offset shape
offset_of shape ScratchpadArray = array_offset shape
offset_of shape (Scratchpad number) = scratchpads_offset shape + number * page_bytes shape.page

-- its bytes
abbrev pub area_bytes : Shape → Area → ℕ
area_bytes shape (At area) = fixed_bytes shape area
area_bytes shape (OfTag tag area) = tag_bytes shape area
area_bytes shape EmptyPage = 4096
area_bytes shape ScratchpadArray = 8 * 1024
area_bytes shape (Scratchpad number) = page_bytes shape.page

-- the byte at an offset is of an area that there is
pub record HasByte (shape : Shape) (area : Area) (offset : ℕ) : Type 0 where
  pub there : has_area shape area ≡ true
  pub from : offset_of shape area ≤ offset
  pub below : offset < offset_of shape area + area_bytes shape area

-- the address of an area
abbrev pub address_of : Layout → Area → ℕ
address_of layout area = layout.base + offset_of layout.shape area

-- the address of an area that the layout has
abbrev pub place_of : Layout → Area → Option ℕ
place_of layout area = if has_area layout.shape area then Some (address_of layout area) else None

-- the address of a context, of so many from the beginning of an area on
abbrev pub context_of : Layout → Fixed → ℕ → ℕ → Option ℕ
context_of layout area count index =
    if nat_lt index count then Some (address_of layout (At area) + index * context_size layout.shape.contexts) else None

-- What an area's address is a multiple of: 64 for what registers and the device context array name without their bits 5:0 (5.4.5, 5.4.6,
-- 5.5.2.3, 6.1, 6.5), 16 for other rings and stream arrays, a page for scratchpads.
abbrev pub alignment_of : Shape → Area → ℕ
alignment_of shape (At ControlRing) = 16
alignment_of shape (At area) = 64
alignment_of shape (OfTag tag area) = 16
alignment_of shape EmptyPage = 4096
alignment_of shape ScratchpadArray = page_bytes shape.page
alignment_of shape (Scratchpad number) = page_bytes shape.page

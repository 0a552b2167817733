-- Alignments, and the 64 KiB blocks that ring segments lie in.
use Rattle.std.proofs.Common.{◌≡◌, ℕ, ◌+◌, ◌-◌, ◌*◌, ◌%◌, ◌<◌, ◌≤◌, arith}
use Rattle.host_layout.specs.declared.layout.Area.{Area}
use Rattle.host_layout.specs.declared.layout.Area.TheVariants.{At, OfTag, EmptyPage, ScratchpadArray, Scratchpad}
use Rattle.host_layout.specs.declared.layout.Fixed.TheVariants.{DeviceContexts, SegmentTable, CommandRing, ControlRing, InputContext, DeviceContext, CommandPipe as PipeRing, Buffer, StatusStreams, DataInStreams, DataOutStreams, EventRing}
use Rattle.host_layout.specs.declared.layout.Layout.{Layout}
use Rattle.host_layout.specs.declared.layout.TagArea.TheVariants.{CommandUnit, UnmapList, StatusRing, StatusUnit, DataInRing, DataOutRing}
use Rattle.host_layout.specs.declared.rings.Ring.{Ring}
use Rattle.host_layout.specs.declared.rings.Ring.TheVariants.{Command, CommandPipe, Control, Status, DataIn, DataOut}
use Rattle.host_layout.specs.declared.shape.PageSize.{PageSize}
use Rattle.host_layout.specs.declared.shape.PageSize.TheVariants.{Kib4, Kib8, Kib16, Kib32, Kib64}
use Rattle.host_layout.specs.declared.shape.Pieces.{Pieces}
use Rattle.host_layout.specs.declared.shape.Pieces.TheVariants.{Seven, Fifteen, ThirtyOne, SixtyThree, HundredTwentySeven}
use Rattle.host_layout.specs.Sizes.{page_bytes, pieces_number, ring_bytes, round_up}
use Rattle.host_layout.specs.Shapes.{array_offset, plain_bytes}
use Rattle.host_layout.specs.Places.{address_of, alignment_of}
use Rattle.host_layout.specs.Rings.{places_of, segment_of, segments_of}

-- behind a multiple of 65,536, the multiple of a page that is reached
page_aligned : (page : PageSize) (base bytes number : ℕ) → base % 65536 ≡ 0
    → (base + (round_up bytes (page_bytes page) + number * page_bytes page)) % page_bytes page ≡ 0
page_aligned Kib4 base bytes number b = omega (arith, b)
page_aligned Kib8 base bytes number b = omega (arith, b)
page_aligned Kib16 base bytes number b = omega (arith, b)
page_aligned Kib32 base bytes number b = omega (arith, b)
page_aligned Kib64 base bytes number b = omega (arith, b)

array_aligned : (page : PageSize) (base bytes : ℕ) → base % 65536 ≡ 0 → (base + round_up bytes (page_bytes page)) % page_bytes page ≡ 0
array_aligned Kib4 base bytes b = omega (arith, b)
array_aligned Kib8 base bytes b = omega (arith, b)
array_aligned Kib16 base bytes b = omega (arith, b)
array_aligned Kib32 base bytes b = omega (arith, b)
array_aligned Kib64 base bytes b = omega (arith, b)

-- the beginning of a data ring
data_aligned : (pieces : Pieces) (base tags before : ℕ) → base % 65536 ≡ 0
    → (base + (65536 + round_up (512 * tags) 4096 + before * (2 * ring_bytes pieces))) % 16 ≡ 0
data_aligned Seven base tags before b = omega (arith, b)
data_aligned Fifteen base tags before b = omega (arith, b)
data_aligned ThirtyOne base tags before b = omega (arith, b)
data_aligned SixtyThree base tags before b = omega (arith, b)
data_aligned HundredTwentySeven base tags before b = omega (arith, b)

rings_aligned : (pieces : Pieces) → ring_bytes pieces % 16 ≡ 0
rings_aligned pieces = omega arith

pub area_aligned : (layout : Layout) (area : Area) → address_of layout area % alignment_of layout.shape area ≡ 0
area_aligned layout (At DeviceContexts) = let b = layout.aligned in omega (arith, b)
area_aligned layout (At SegmentTable) = let b = layout.aligned in omega (arith, b)
area_aligned layout (At CommandRing) = let b = layout.aligned in omega (arith, b)
area_aligned layout (At ControlRing) = let b = layout.aligned in omega (arith, b)
area_aligned layout (At InputContext) = let b = layout.aligned in omega (arith, b)
area_aligned layout (At DeviceContext) = let b = layout.aligned in omega (arith, b)
area_aligned layout (At PipeRing) = let b = layout.aligned in omega (arith, b)
area_aligned layout (At Buffer) = let b = layout.aligned in omega (arith, b)
area_aligned layout (At StatusStreams) = let b = layout.aligned in omega (arith, b)
area_aligned layout (At DataInStreams) = let b = layout.aligned in omega (arith, b)
area_aligned layout (At DataOutStreams) = let b = layout.aligned in omega (arith, b)
area_aligned layout (At EventRing) = let b = layout.aligned in omega (arith, b)
area_aligned layout (OfTag tag CommandUnit) = let b = layout.aligned in omega (arith, b)
area_aligned layout (OfTag tag UnmapList) = let b = layout.aligned in omega (arith, b)
area_aligned layout (OfTag tag StatusRing) = let b = layout.aligned in omega (arith, b)
area_aligned layout (OfTag tag StatusUnit) = let b = layout.aligned in omega (arith, b)
area_aligned layout (OfTag tag DataInRing) = data_aligned layout.shape.pieces layout.base layout.shape.tags (tag - 1) layout.aligned
area_aligned layout (OfTag tag DataOutRing) =
    let first = data_aligned layout.shape.pieces layout.base layout.shape.tags (tag - 1) layout.aligned in
    let ring = rings_aligned layout.shape.pieces in
    omega (arith, first, ring)
area_aligned layout EmptyPage = let b = layout.aligned in omega (arith, b)
area_aligned layout ScratchpadArray = array_aligned layout.shape.page layout.base (plain_bytes layout.shape) layout.aligned
area_aligned layout (Scratchpad number) = page_aligned layout.shape.page layout.base (array_offset layout.shape + 8192) number layout.aligned

-- a third of a data ring
data_block : (pieces : Pieces) (base tags before second segment : ℕ) → base % 65536 ≡ 0
    → (base + (65536 + round_up (512 * tags) 4096 + before * (2 * ring_bytes pieces) + second * ring_bytes pieces + 16 * (segment * (pieces_number pieces + 1) + 0))) % 65536
    + 16 * (pieces_number pieces + 1) ≤ 65536
data_block Seven base tags before second segment b = omega (arith, b)
data_block Fifteen base tags before second segment b = omega (arith, b)
data_block ThirtyOne base tags before second segment b = omega (arith, b)
data_block SixtyThree base tags before second segment b = omega (arith, b)
data_block HundredTwentySeven base tags before second segment b = omega (arith, b)

pub segment_block : (layout : Layout) (ring : Ring) (segment : ℕ) → segment < segments_of ring
    → segment_of layout ring segment % 65536 + 16 * places_of layout.shape ring ≤ 65536
segment_block layout Command segment s = let b = layout.aligned in omega (arith, b, s)
segment_block layout CommandPipe segment s = let b = layout.aligned in omega (arith, b, s)
segment_block layout Control segment s = let b = layout.aligned in omega (arith, b, s)
segment_block layout (Status tag) segment s = let b = layout.aligned in omega (arith, b, s)
segment_block layout (DataIn tag) segment s =
    let whole = data_block layout.shape.pieces layout.base layout.shape.tags (tag - 1) 0 segment layout.aligned in
    omega (arith, whole)
segment_block layout (DataOut tag) segment s =
    let whole = data_block layout.shape.pieces layout.base layout.shape.tags (tag - 1) 1 segment layout.aligned in
    omega (arith, whole)

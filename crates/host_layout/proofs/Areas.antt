-- The area that a byte is of.
use Rattle.std.proofs.Common.{◌≡◌, ℕ, ◌+◌, ◌-◌, ◌*◌, ◌/◌, ◌%◌, ◌<◌, ◌≤◌, ◌==◌, if◌then◌else◌, true, false, nat_le, nat_lt, refl, sym, ap, ◌∙◌, arith}
use Rattle.std.proofs.lemmas.Bool.{and_parts, le-ltb, leb-true, lt-ltb, ltb-true}
use Rattle.std.proofs.lemmas.Bool.Decides.{nat_tests}
use Rattle.host_layout.specs.declared.layout.Area.{Area}
use Rattle.host_layout.specs.declared.layout.Area.TheVariants.{At, OfTag, EmptyPage, ScratchpadArray, Scratchpad}
use Rattle.host_layout.specs.declared.layout.Fixed.{Fixed}
use Rattle.host_layout.specs.declared.layout.Fixed.TheVariants.{DeviceContexts, SegmentTable, CommandRing, ControlRing, InputContext, DeviceContext, CommandPipe, Buffer, StatusStreams, DataInStreams, DataOutStreams, EventRing}
use Rattle.host_layout.specs.declared.layout.TagArea.{TagArea}
use Rattle.host_layout.specs.declared.layout.TagArea.TheVariants.{CommandUnit, UnmapList, StatusRing, StatusUnit, DataInRing, DataOutRing}
use Rattle.host_layout.specs.declared.shape.PageSize.{PageSize}
use Rattle.host_layout.specs.declared.shape.PageSize.TheVariants.{Kib4, Kib8, Kib16, Kib32, Kib64}
use Rattle.host_layout.specs.declared.shape.Pieces.{Pieces}
use Rattle.host_layout.specs.declared.shape.Pieces.TheVariants.{Seven, Fifteen, ThirtyOne, SixtyThree, HundredTwentySeven}
use Rattle.host_layout.specs.declared.shape.Shape.{Shape}
use Rattle.host_layout.specs.Sizes.{page_bytes, ring_bytes}
use Rattle.host_layout.specs.Shapes.{array_offset, bytes_of, empty_offset, plain_bytes, rings_offset, scratchpads_offset}
use Rattle.host_layout.specs.Places.{HasByte, area_bytes, fixed_bytes, fixed_offset, has_area, offset_of, tag_bytes, tag_offset}
use Rattle.host_layout.proofs.Within.{context_size_within, fixed_below, fixed_within, plain_within, rings_within, streams_within, tag_within}

-- the fixed area at an offset
fixed_at : ℕ → Fixed
fixed_at o =
    if nat_lt o 2048 then DeviceContexts
    else if nat_lt o 2112 then SegmentTable
    else if nat_lt o 2432 then CommandRing
    else if nat_lt o 4096 then ControlRing
    else if nat_lt o 8192 then InputContext
    else if nat_lt o 12288 then DeviceContext
    else if nat_lt o 16384 then CommandPipe
    else if nat_lt o 20480 then Buffer
    else if nat_lt o 24576 then StatusStreams
    else if nat_lt o 28672 then DataInStreams
    else if nat_lt o 32768 then DataOutStreams
    else EventRing

fixed_found : (shape : Shape) (area : Fixed) (i : ℕ) → i < fixed_bytes shape area → fixed_at (fixed_offset area + i) ≡ area
unfolding fixed_at
fixed_found shape DeviceContexts i h =
    let e0 : nat_lt (0 + i) 2048 ≡ true = lt-ltb _ _ (omega arith) in
    rw e0 refl
fixed_found shape SegmentTable i h =
    let e0 : nat_lt (2048 + i) 2048 ≡ false = le-ltb _ _ (omega arith) in
    let e1 : nat_lt (2048 + i) 2112 ≡ true = lt-ltb _ _ (omega arith) in
    rw (e0, e1) refl
fixed_found shape CommandRing i h =
    let e0 : nat_lt (2112 + i) 2048 ≡ false = le-ltb _ _ (omega arith) in
    let e1 : nat_lt (2112 + i) 2112 ≡ false = le-ltb _ _ (omega arith) in
    let e2 : nat_lt (2112 + i) 2432 ≡ true = lt-ltb _ _ (omega arith) in
    rw (e0, e1, e2) refl
fixed_found shape ControlRing i h =
    let e0 : nat_lt (2432 + i) 2048 ≡ false = le-ltb _ _ (omega arith) in
    let e1 : nat_lt (2432 + i) 2112 ≡ false = le-ltb _ _ (omega arith) in
    let e2 : nat_lt (2432 + i) 2432 ≡ false = le-ltb _ _ (omega arith) in
    let e3 : nat_lt (2432 + i) 4096 ≡ true = lt-ltb _ _ (omega arith) in
    rw (e0, e1, e2, e3) refl
fixed_found shape InputContext i h =
    let size = context_size_within shape.contexts in
    let e0 : nat_lt (4096 + i) 2048 ≡ false = le-ltb _ _ (omega arith) in
    let e1 : nat_lt (4096 + i) 2112 ≡ false = le-ltb _ _ (omega arith) in
    let e2 : nat_lt (4096 + i) 2432 ≡ false = le-ltb _ _ (omega arith) in
    let e3 : nat_lt (4096 + i) 4096 ≡ false = le-ltb _ _ (omega arith) in
    let e4 : nat_lt (4096 + i) 8192 ≡ true = lt-ltb _ _ (omega arith) in
    rw (e0, e1, e2, e3, e4) refl
fixed_found shape DeviceContext i h =
    let size = context_size_within shape.contexts in
    let e0 : nat_lt (8192 + i) 2048 ≡ false = le-ltb _ _ (omega arith) in
    let e1 : nat_lt (8192 + i) 2112 ≡ false = le-ltb _ _ (omega arith) in
    let e2 : nat_lt (8192 + i) 2432 ≡ false = le-ltb _ _ (omega arith) in
    let e3 : nat_lt (8192 + i) 4096 ≡ false = le-ltb _ _ (omega arith) in
    let e4 : nat_lt (8192 + i) 8192 ≡ false = le-ltb _ _ (omega arith) in
    let e5 : nat_lt (8192 + i) 12288 ≡ true = lt-ltb _ _ (omega arith) in
    rw (e0, e1, e2, e3, e4, e5) refl
fixed_found shape CommandPipe i h =
    let e0 : nat_lt (12288 + i) 2048 ≡ false = le-ltb _ _ (omega arith) in
    let e1 : nat_lt (12288 + i) 2112 ≡ false = le-ltb _ _ (omega arith) in
    let e2 : nat_lt (12288 + i) 2432 ≡ false = le-ltb _ _ (omega arith) in
    let e3 : nat_lt (12288 + i) 4096 ≡ false = le-ltb _ _ (omega arith) in
    let e4 : nat_lt (12288 + i) 8192 ≡ false = le-ltb _ _ (omega arith) in
    let e5 : nat_lt (12288 + i) 12288 ≡ false = le-ltb _ _ (omega arith) in
    let e6 : nat_lt (12288 + i) 16384 ≡ true = lt-ltb _ _ (omega arith) in
    rw (e0, e1, e2, e3, e4, e5, e6) refl
fixed_found shape Buffer i h =
    let e0 : nat_lt (16384 + i) 2048 ≡ false = le-ltb _ _ (omega arith) in
    let e1 : nat_lt (16384 + i) 2112 ≡ false = le-ltb _ _ (omega arith) in
    let e2 : nat_lt (16384 + i) 2432 ≡ false = le-ltb _ _ (omega arith) in
    let e3 : nat_lt (16384 + i) 4096 ≡ false = le-ltb _ _ (omega arith) in
    let e4 : nat_lt (16384 + i) 8192 ≡ false = le-ltb _ _ (omega arith) in
    let e5 : nat_lt (16384 + i) 12288 ≡ false = le-ltb _ _ (omega arith) in
    let e6 : nat_lt (16384 + i) 16384 ≡ false = le-ltb _ _ (omega arith) in
    let e7 : nat_lt (16384 + i) 20480 ≡ true = lt-ltb _ _ (omega arith) in
    rw (e0, e1, e2, e3, e4, e5, e6, e7) refl
fixed_found shape StatusStreams i h =
    let size = streams_within shape.tags in
    let e0 : nat_lt (20480 + i) 2048 ≡ false = le-ltb _ _ (omega arith) in
    let e1 : nat_lt (20480 + i) 2112 ≡ false = le-ltb _ _ (omega arith) in
    let e2 : nat_lt (20480 + i) 2432 ≡ false = le-ltb _ _ (omega arith) in
    let e3 : nat_lt (20480 + i) 4096 ≡ false = le-ltb _ _ (omega arith) in
    let e4 : nat_lt (20480 + i) 8192 ≡ false = le-ltb _ _ (omega arith) in
    let e5 : nat_lt (20480 + i) 12288 ≡ false = le-ltb _ _ (omega arith) in
    let e6 : nat_lt (20480 + i) 16384 ≡ false = le-ltb _ _ (omega arith) in
    let e7 : nat_lt (20480 + i) 20480 ≡ false = le-ltb _ _ (omega arith) in
    let e8 : nat_lt (20480 + i) 24576 ≡ true = lt-ltb _ _ (omega arith) in
    rw (e0, e1, e2, e3, e4, e5, e6, e7, e8) refl
fixed_found shape DataInStreams i h =
    let size = streams_within shape.tags in
    let e0 : nat_lt (24576 + i) 2048 ≡ false = le-ltb _ _ (omega arith) in
    let e1 : nat_lt (24576 + i) 2112 ≡ false = le-ltb _ _ (omega arith) in
    let e2 : nat_lt (24576 + i) 2432 ≡ false = le-ltb _ _ (omega arith) in
    let e3 : nat_lt (24576 + i) 4096 ≡ false = le-ltb _ _ (omega arith) in
    let e4 : nat_lt (24576 + i) 8192 ≡ false = le-ltb _ _ (omega arith) in
    let e5 : nat_lt (24576 + i) 12288 ≡ false = le-ltb _ _ (omega arith) in
    let e6 : nat_lt (24576 + i) 16384 ≡ false = le-ltb _ _ (omega arith) in
    let e7 : nat_lt (24576 + i) 20480 ≡ false = le-ltb _ _ (omega arith) in
    let e8 : nat_lt (24576 + i) 24576 ≡ false = le-ltb _ _ (omega arith) in
    let e9 : nat_lt (24576 + i) 28672 ≡ true = lt-ltb _ _ (omega arith) in
    rw (e0, e1, e2, e3, e4, e5, e6, e7, e8, e9) refl
fixed_found shape DataOutStreams i h =
    let size = streams_within shape.tags in
    let e0 : nat_lt (28672 + i) 2048 ≡ false = le-ltb _ _ (omega arith) in
    let e1 : nat_lt (28672 + i) 2112 ≡ false = le-ltb _ _ (omega arith) in
    let e2 : nat_lt (28672 + i) 2432 ≡ false = le-ltb _ _ (omega arith) in
    let e3 : nat_lt (28672 + i) 4096 ≡ false = le-ltb _ _ (omega arith) in
    let e4 : nat_lt (28672 + i) 8192 ≡ false = le-ltb _ _ (omega arith) in
    let e5 : nat_lt (28672 + i) 12288 ≡ false = le-ltb _ _ (omega arith) in
    let e6 : nat_lt (28672 + i) 16384 ≡ false = le-ltb _ _ (omega arith) in
    let e7 : nat_lt (28672 + i) 20480 ≡ false = le-ltb _ _ (omega arith) in
    let e8 : nat_lt (28672 + i) 24576 ≡ false = le-ltb _ _ (omega arith) in
    let e9 : nat_lt (28672 + i) 28672 ≡ false = le-ltb _ _ (omega arith) in
    let e10 : nat_lt (28672 + i) 32768 ≡ true = lt-ltb _ _ (omega arith) in
    rw (e0, e1, e2, e3, e4, e5, e6, e7, e8, e9, e10) refl
fixed_found shape EventRing i h =
    let e0 : nat_lt (32768 + i) 2048 ≡ false = le-ltb _ _ (omega arith) in
    let e1 : nat_lt (32768 + i) 2112 ≡ false = le-ltb _ _ (omega arith) in
    let e2 : nat_lt (32768 + i) 2432 ≡ false = le-ltb _ _ (omega arith) in
    let e3 : nat_lt (32768 + i) 4096 ≡ false = le-ltb _ _ (omega arith) in
    let e4 : nat_lt (32768 + i) 8192 ≡ false = le-ltb _ _ (omega arith) in
    let e5 : nat_lt (32768 + i) 12288 ≡ false = le-ltb _ _ (omega arith) in
    let e6 : nat_lt (32768 + i) 16384 ≡ false = le-ltb _ _ (omega arith) in
    let e7 : nat_lt (32768 + i) 20480 ≡ false = le-ltb _ _ (omega arith) in
    let e8 : nat_lt (32768 + i) 24576 ≡ false = le-ltb _ _ (omega arith) in
    let e9 : nat_lt (32768 + i) 28672 ≡ false = le-ltb _ _ (omega arith) in
    let e10 : nat_lt (32768 + i) 32768 ≡ false = le-ltb _ _ (omega arith) in
    rw (e0, e1, e2, e3, e4, e5, e6, e7, e8, e9, e10) refl

-- the area of a tag's 512 bytes
unit_at : ℕ → TagArea
unit_at o = if nat_lt o 32 then CommandUnit else if nat_lt o 64 then UnmapList else if nat_lt o 256 then StatusRing else StatusUnit

unit_command : (o : ℕ) → o < 32 → unit_at o ≡ CommandUnit
unfolding unit_at
unit_command o h = let a : nat_lt o 32 ≡ true = lt-ltb _ _ h in rw a refl

unit_list : (o : ℕ) → 32 ≤ o → o < 64 → unit_at o ≡ UnmapList
unfolding unit_at
unit_list o l h = let a : nat_lt o 32 ≡ false = le-ltb _ _ l in let b : nat_lt o 64 ≡ true = lt-ltb _ _ h in rw (a, b) refl

unit_ring : (o : ℕ) → 64 ≤ o → o < 256 → unit_at o ≡ StatusRing
unfolding unit_at
unit_ring o l h =
    let a : nat_lt o 32 ≡ false = le-ltb _ _ (omega arith) in let b : nat_lt o 64 ≡ false = le-ltb _ _ l in
    let d : nat_lt o 256 ≡ true = lt-ltb _ _ h in rw (a, b, d) refl

unit_status : (o : ℕ) → 256 ≤ o → unit_at o ≡ StatusUnit
unfolding unit_at
unit_status o l =
    let a : nat_lt o 32 ≡ false = le-ltb _ _ (omega arith) in let b : nat_lt o 64 ≡ false = le-ltb _ _ (omega arith) in
    let d : nat_lt o 256 ≡ false = le-ltb _ _ l in rw (a, b, d) refl

-- the data ring of a number
data_at : ℕ → Area
data_at number = if number % 2 == 0 then OfTag (number / 2 + 1) DataInRing else OfTag (number / 2 + 1) DataOutRing

data_even : (number tag : ℕ) → number % 2 ≡ 0 → number / 2 + 1 ≡ tag → data_at number ≡ OfTag tag DataInRing
unfolding data_at
data_even number tag a b = rw (a, b) refl

data_odd : (number tag : ℕ) → number % 2 ≡ 1 → number / 2 + 1 ≡ tag → data_at number ≡ OfTag tag DataOutRing
unfolding data_at
data_odd number tag a b = rw (a, b) refl

ring_number : (pieces : Pieces) (number i : ℕ) → i < ring_bytes pieces → (number * ring_bytes pieces + i) / ring_bytes pieces ≡ number
ring_number Seven number i h = omega arith
ring_number Fifteen number i h = omega arith
ring_number ThirtyOne number i h = omega arith
ring_number SixtyThree number i h = omega arith
ring_number HundredTwentySeven number i h = omega arith

page_number : (page : PageSize) (number i : ℕ) → i < page_bytes page → (number * page_bytes page + i) / page_bytes page ≡ number
page_number Kib4 number i h = omega arith
page_number Kib8 number i h = omega arith
page_number Kib16 number i h = omega arith
page_number Kib32 number i h = omega arith
page_number Kib64 number i h = omega arith

-- the area at an offset
area_at : Shape → ℕ → Area
area_at shape o =
    if nat_lt o 65536 then At (fixed_at o)
    else if nat_lt o (rings_offset shape) then OfTag ((o - 65536) / 512 + 1) (unit_at ((o - 65536) % 512))
    else if nat_lt o (empty_offset shape) then data_at ((o - rings_offset shape) / ring_bytes shape.pieces)
    else if nat_lt o (plain_bytes shape) then EmptyPage
    else if nat_lt o (array_offset shape + 8192) then ScratchpadArray
    else Scratchpad ((o - scratchpads_offset shape) / page_bytes shape.page)

at_fixed : (shape : Shape) (o : ℕ) → o < 65536 → area_at shape o ≡ At (fixed_at o)
unfolding area_at
at_fixed shape o h = let a : nat_lt o 65536 ≡ true = lt-ltb _ _ h in rw a refl

at_tag : (shape : Shape) (o : ℕ) → 65536 ≤ o → o < rings_offset shape → area_at shape o ≡ OfTag ((o - 65536) / 512 + 1) (unit_at ((o - 65536) % 512))
unfolding area_at
at_tag shape o l h =
    let a : nat_lt o 65536 ≡ false = le-ltb _ _ l in
    let b : nat_lt o (rings_offset shape) ≡ true = lt-ltb _ _ h in
    rw (a, b) refl

at_data : (shape : Shape) (o : ℕ) → rings_offset shape ≤ o → o < empty_offset shape → area_at shape o ≡ data_at ((o - rings_offset shape) / ring_bytes shape.pieces)
unfolding area_at
at_data shape o l h =
    let a : nat_lt o 65536 ≡ false = le-ltb _ _ (omega arith) in
    let b : nat_lt o (rings_offset shape) ≡ false = le-ltb _ _ l in
    let d : nat_lt o (empty_offset shape) ≡ true = lt-ltb _ _ h in
    rw (a, b, d) refl

at_empty : (shape : Shape) (o : ℕ) → empty_offset shape ≤ o → o < plain_bytes shape → area_at shape o ≡ EmptyPage
unfolding area_at
at_empty shape o l h =
    let a : nat_lt o 65536 ≡ false = le-ltb _ _ (omega arith) in
    let b : nat_lt o (rings_offset shape) ≡ false = le-ltb _ _ (omega arith) in
    let d : nat_lt o (empty_offset shape) ≡ false = le-ltb _ _ l in
    let e : nat_lt o (plain_bytes shape) ≡ true = lt-ltb _ _ h in
    rw (a, b, d, e) refl

at_array : (shape : Shape) (o : ℕ) → array_offset shape ≤ o → o < array_offset shape + 8192 → area_at shape o ≡ ScratchpadArray
unfolding area_at
at_array shape o l h =
    let a : nat_lt o 65536 ≡ false = le-ltb _ _ (omega arith) in
    let b : nat_lt o (rings_offset shape) ≡ false = le-ltb _ _ (omega arith) in
    let d : nat_lt o (empty_offset shape) ≡ false = le-ltb _ _ (omega arith) in
    let e : nat_lt o (plain_bytes shape) ≡ false = le-ltb _ _ (omega arith) in
    let f : nat_lt o (array_offset shape + 8192) ≡ true = lt-ltb _ _ h in
    rw (a, b, d, e, f) refl

at_scratchpad : (shape : Shape) (o : ℕ) → scratchpads_offset shape ≤ o → area_at shape o ≡ Scratchpad ((o - scratchpads_offset shape) / page_bytes shape.page)
unfolding area_at
at_scratchpad shape o l =
    let a : nat_lt o 65536 ≡ false = le-ltb _ _ (omega arith) in
    let b : nat_lt o (rings_offset shape) ≡ false = le-ltb _ _ (omega arith) in
    let d : nat_lt o (empty_offset shape) ≡ false = le-ltb _ _ (omega arith) in
    let e : nat_lt o (plain_bytes shape) ≡ false = le-ltb _ _ (omega arith) in
    let f : nat_lt o (array_offset shape + 8192) ≡ false = le-ltb _ _ (omega arith) in
    rw (a, b, d, e, f) refl

-- so many bytes into the 512 bytes of a tag
in_unit : (shape : Shape) (tag o : ℕ) (area : TagArea) → 1 ≤ tag → tag ≤ shape.tags → o < 512 → unit_at o ≡ area
    → area_at shape (65536 + 512 * (tag - 1) + o) ≡ OfTag tag area
in_unit shape tag o area first last within is =
    let whole : (65536 + 512 * (tag - 1) + o - 65536) / 512 + 1 ≡ tag = omega arith in
    let rest : (65536 + 512 * (tag - 1) + o - 65536) % 512 ≡ o = omega arith in
    at_tag shape _ (omega arith) (omega arith) ∙ ap (λ t. OfTag t (unit_at ((65536 + 512 * (tag - 1) + o - 65536) % 512))) whole ∙ ap (λ r. OfTag tag (unit_at r)) rest ∙ ap (OfTag tag) is

tag_found : (shape : Shape) (tag : ℕ) (area : TagArea) (i : ℕ) → 1 ≤ tag → tag ≤ shape.tags → i < tag_bytes shape area
    → area_at shape (tag_offset shape tag area + i) ≡ OfTag tag area
tag_found shape tag CommandUnit i first last h = in_unit shape tag i _ first last (omega arith) (unit_command i h)
tag_found shape tag UnmapList i first last h =
    let same : 65536 + 512 * (tag - 1) + 32 + i ≡ 65536 + 512 * (tag - 1) + (32 + i) = omega arith in
    ap (area_at shape) same ∙ in_unit shape tag (32 + i) _ first last (omega arith) (unit_list _ (omega arith) (omega arith))
tag_found shape tag StatusRing i first last h =
    let same : 65536 + 512 * (tag - 1) + 64 + i ≡ 65536 + 512 * (tag - 1) + (64 + i) = omega arith in
    ap (area_at shape) same ∙ in_unit shape tag (64 + i) _ first last (omega arith) (unit_ring _ (omega arith) (omega arith))
tag_found shape tag StatusUnit i first last h =
    let same : 65536 + 512 * (tag - 1) + 256 + i ≡ 65536 + 512 * (tag - 1) + (256 + i) = omega arith in
    ap (area_at shape) same ∙ in_unit shape tag (256 + i) _ first last (omega arith) (unit_status _ (omega arith))
tag_found shape tag DataInRing i first last h =
    let bytes = ring_bytes shape.pieces in
    let inner = rings_within shape tag first last in
    let twice : (tag - 1) * (2 * bytes) ≡ 2 * (tag - 1) * bytes = grind arith in
    let at : tag_offset shape tag DataInRing + i - rings_offset shape ≡ 2 * (tag - 1) * bytes + i = omega (arith, twice) in
    at_data shape _ (omega arith) (omega (arith, inner, h)) ∙ ap (λ n. data_at (n / bytes)) at ∙ ap data_at (ring_number shape.pieces (2 * (tag - 1)) i h)
    ∙ data_even _ tag (omega arith) (omega (arith, first))
tag_found shape tag DataOutRing i first last h =
    let bytes = ring_bytes shape.pieces in
    let inner = rings_within shape tag first last in
    let twice : (tag - 1) * (2 * bytes) + bytes ≡ (2 * (tag - 1) + 1) * bytes = grind arith in
    let at : tag_offset shape tag DataOutRing + i - rings_offset shape ≡ (2 * (tag - 1) + 1) * bytes + i = omega (arith, twice) in
    at_data shape _ (omega arith) (omega (arith, inner, h)) ∙ ap (λ n. data_at (n / bytes)) at ∙ ap data_at (ring_number shape.pieces (2 * (tag - 1) + 1) i h)
    ∙ data_odd _ tag (omega arith) (omega (arith, first))

found : (shape : Shape) (area : Area) (i : ℕ) → has_area shape area ≡ true → i < area_bytes shape area → area_at shape (offset_of shape area + i) ≡ area
found shape (At area) i has h =
    let inner = fixed_below shape area in
    at_fixed shape _ (omega (arith, inner, h)) ∙ ap At (fixed_found shape area i h)
found shape (OfTag tag area) i has h =
    let in_tags : (nat_le 1 tag ≡ true) × (nat_le tag shape.tags ≡ true) = and_parts _ _ has in
    tag_found shape tag area i (leb-true _ _ in_tags.0) (leb-true _ _ in_tags.1) h
found shape EmptyPage i has h = at_empty shape _ (omega arith) (omega arith)
found shape ScratchpadArray i has h = at_array shape _ (omega arith) (omega arith)
found shape (Scratchpad number) i has h =
    let bytes = page_bytes shape.page in
    let at : scratchpads_offset shape + number * bytes + i - scratchpads_offset shape ≡ number * bytes + i = omega arith in
    at_scratchpad shape _ (omega arith) ∙ ap (λ n. Scratchpad (n / bytes)) at ∙ ap Scratchpad (page_number shape.page number i h)

-- the area that has a byte is found there
area_is : (shape : Shape) (area : Area) (offset : ℕ) → HasByte shape area offset → area_at shape offset ≡ area
area_is shape area offset h =
    let from = h.from in
    let below = h.below in
    let same : offset ≡ offset_of shape area + (offset - offset_of shape area) = omega (arith, from) in
    ap (area_at shape) same ∙ found shape area (offset - offset_of shape area) h.there (omega (arith, from, below))

-- a byte of two areas makes them one
pub apart : (shape : Shape) (first second : Area) (offset : ℕ) → HasByte shape first offset → HasByte shape second offset → first ≡ second
apart shape first second offset a b = sym (area_is shape first offset a) ∙ area_is shape second offset b

with_scratchpads : (shape : Shape) → 0 < shape.scratchpads → bytes_of shape ≡ scratchpads_offset shape + shape.scratchpads * page_bytes shape.page
with_scratchpads shape some = grind (arith, nat_tests, some)

one_more : (number count bytes : ℕ) → number < count → number * bytes + bytes ≤ count * bytes
one_more number count bytes h = grind (arith, h)

pub area_within : (shape : Shape) (area : Area) → has_area shape area ≡ true → offset_of shape area + area_bytes shape area ≤ bytes_of shape
area_within shape (At area) has = fixed_within shape area
area_within shape (OfTag tag area) has =
    let in_tags : (nat_le 1 tag ≡ true) × (nat_le tag shape.tags ≡ true) = and_parts _ _ has in
    tag_within shape tag area (leb-true _ _ in_tags.0) (leb-true _ _ in_tags.1)
area_within shape EmptyPage has = plain_within shape
area_within shape ScratchpadArray has =
    let whole = with_scratchpads shape (ltb-true _ _ has) in
    omega (arith, whole)
area_within shape (Scratchpad number) has =
    let below : number < shape.scratchpads = ltb-true _ _ has in
    let whole = with_scratchpads shape (omega arith) in
    let inner = one_more number shape.scratchpads (page_bytes shape.page) below in
    omega (arith, whole, inner)

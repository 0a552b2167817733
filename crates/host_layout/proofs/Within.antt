-- Each area ends within its layout.
use Rattle.std.proofs.Common.{ℕ, ◌+◌, ◌-◌, ◌*◌, ◌≤◌, arith}
use Rattle.std.proofs.lemmas.Bool.Decides.{nat_tests}
use Rattle.host_trbs.specs.declared.contexts.ContextSize.{ContextSize}
use Rattle.host_trbs.specs.declared.contexts.ContextSize.TheVariants.{Short, Long}
use Rattle.host_trbs.specs.Contexts.{context_size}
use Rattle.host_layout.specs.declared.layout.Fixed.{Fixed}
use Rattle.host_layout.specs.declared.layout.Fixed.TheVariants.{DeviceContexts, SegmentTable, CommandRing, ControlRing, InputContext, DeviceContext, CommandPipe, Buffer, StatusStreams, DataInStreams, DataOutStreams, EventRing}
use Rattle.host_layout.specs.declared.layout.TagArea.{TagArea}
use Rattle.host_layout.specs.declared.layout.TagArea.TheVariants.{CommandUnit, UnmapList, StatusRing, StatusUnit, DataInRing, DataOutRing}
use Rattle.host_layout.specs.declared.shape.Shape.{Shape}
use Rattle.host_layout.specs.Sizes.{ring_bytes}
use Rattle.host_layout.specs.Shapes.{bytes_of, empty_offset, plain_bytes, rings_offset, stream_contexts}
use Rattle.host_layout.specs.Places.{fixed_bytes, fixed_offset, tag_bytes, tag_offset}

-- what stands in front of the scratchpads
pub plain_within : (shape : Shape) → plain_bytes shape ≤ bytes_of shape
plain_within shape = grind (arith, nat_tests)

pub context_size_within : (size : ContextSize) → context_size size ≤ 64
context_size_within Short = omega arith
context_size_within Long = omega arith

pub streams_within : (tags : ℕ) → stream_contexts tags ≤ 256
streams_within tags = grind (arith, nat_tests)

pub fixed_below : (shape : Shape) (area : Fixed) → fixed_offset area + fixed_bytes shape area ≤ 65536
fixed_below shape DeviceContexts = omega arith
fixed_below shape SegmentTable = omega arith
fixed_below shape CommandRing = omega arith
fixed_below shape ControlRing = omega arith
fixed_below shape InputContext = omega (arith, context_size_within shape.contexts)
fixed_below shape DeviceContext = omega (arith, context_size_within shape.contexts)
fixed_below shape CommandPipe = omega arith
fixed_below shape Buffer = omega arith
fixed_below shape StatusStreams = omega (arith, streams_within shape.tags)
fixed_below shape DataInStreams = omega (arith, streams_within shape.tags)
fixed_below shape DataOutStreams = omega (arith, streams_within shape.tags)
fixed_below shape EventRing = omega arith

pub fixed_within : (shape : Shape) (area : Fixed) → fixed_offset area + fixed_bytes shape area ≤ bytes_of shape
fixed_within shape area =
    let inner = fixed_below shape area in
    let outer = plain_within shape in
    omega (arith, inner, outer)

-- one more of so many bytes, up to the last
pub times_within : (tag tags bytes : ℕ) → 1 ≤ tag → tag ≤ tags → (tag - 1) * bytes + bytes ≤ tags * bytes
times_within tag tags bytes first last = grind (arith, first, last)

-- the data rings of a tag
pub rings_within : (shape : Shape) (tag : ℕ) → 1 ≤ tag → tag ≤ shape.tags
    → rings_offset shape + (tag - 1) * (2 * ring_bytes shape.pieces) + 2 * ring_bytes shape.pieces ≤ empty_offset shape
rings_within shape tag first last =
    let h = times_within tag shape.tags (2 * ring_bytes shape.pieces) first last in
    omega (arith, h)

pub tag_below : (shape : Shape) (tag : ℕ) (area : TagArea) → 1 ≤ tag → tag ≤ shape.tags → tag_offset shape tag area + tag_bytes shape area ≤ empty_offset shape
tag_below shape tag CommandUnit first last = omega arith
tag_below shape tag UnmapList first last = omega arith
tag_below shape tag StatusRing first last = omega arith
tag_below shape tag StatusUnit first last = omega arith
tag_below shape tag DataInRing first last = omega (arith, rings_within shape tag first last)
tag_below shape tag DataOutRing first last = omega (arith, rings_within shape tag first last)

pub tag_within : (shape : Shape) (tag : ℕ) (area : TagArea) → 1 ≤ tag → tag ≤ shape.tags → tag_offset shape tag area + tag_bytes shape area ≤ bytes_of shape
tag_within shape tag area first last =
    let inner = tag_below shape tag area first last in
    let outer = plain_within shape in
    omega (arith, inner, outer)

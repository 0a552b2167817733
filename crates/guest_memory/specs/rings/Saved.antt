-- A producer that is made of plain values.
use Rattle.std.specs.Prelude.{ℕ, ◌+◌, ◌*◌, ◌^◌, nat_le, nat_lt, Bool, ◌&&◌, if◌then◌else◌, Option, Some, None}
use Rattle.guest_memory.specs.rings.Events.{EventEnd}

-- its place is one of the segment's, which has at most 4,096 places and ends within memory
abbrev pub has_segment : EventEnd → Bool
has_segment ring = nat_lt ring.place ring.places && (nat_le ring.places 4096 && nat_le (ring.base + 16 * ring.places) (2 ^ 64))

abbrev pub ring_restored : EventEnd → Option EventEnd
ring_restored ring = if has_segment ring then Some ring else None

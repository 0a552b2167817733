-- The TRBs of the rings: a ring's segments, of so many places each, one behind the other.
use Rattle.std.specs.Prelude.{ℕ, ◌+◌, ◌-◌, ◌*◌, ◌/◌, ◌%◌, ◌==◌, ◌&&◌, nat_le, nat_lt, if◌then◌else◌, Bool, Option, Some, None}
use Rattle.host_layout.specs.declared.layout.Area.{Area}
use Rattle.host_layout.specs.declared.layout.Area.TheVariants.{At, OfTag}
use Rattle.host_layout.specs.declared.layout.Fixed.TheVariants.{CommandRing, ControlRing, CommandPipe as PipeRing}
use Rattle.host_layout.specs.declared.layout.Layout.{Layout}
use Rattle.host_layout.specs.declared.layout.TagArea.TheVariants.{StatusRing, DataInRing, DataOutRing}
use Rattle.host_layout.specs.declared.rings.Ring.{Ring}
use Rattle.host_layout.specs.declared.rings.Ring.TheVariants.{Command, CommandPipe, Control, Status, DataIn, DataOut}
use Rattle.host_layout.specs.declared.rings.RingPlace.{RingPlace}
use Rattle.host_layout.specs.declared.shape.Shape.{Shape}
use Rattle.host_layout.specs.Sizes.{pieces_number, ring_bytes}
use Rattle.host_layout.specs.Shapes.{rings_offset}
use Rattle.host_layout.specs.Places.{has_area, offset_of}

-- where a ring stands
abbrev pub area_of : Ring → Area
area_of Command = At CommandRing
area_of CommandPipe = At PipeRing
area_of Control = At ControlRing
area_of (Status tag) = OfTag tag StatusRing
area_of (DataIn tag) = OfTag tag DataInRing
area_of (DataOut tag) = OfTag tag DataOutRing

abbrev pub segments_of : Ring → ℕ
segments_of Command = 1
segments_of CommandPipe = 1
segments_of _ = 3

-- the places of a segment, its Link included
abbrev pub places_of : Shape → Ring → ℕ
places_of shape Command = 16
places_of shape CommandPipe = 256
places_of shape Control = 4
places_of shape (Status tag) = 2
places_of shape (DataIn tag) = pieces_number shape.pieces + 1
places_of shape (DataOut tag) = pieces_number shape.pieces + 1

-- a ring, a segment and a place that there are
abbrev pub has_place : Shape → RingPlace → Bool
has_place shape at = has_area shape (area_of at.ring) && nat_lt at.segment (segments_of at.ring) && nat_lt at.place (places_of shape at.ring)

-- where a TRB begins, from the layout's beginning on
abbrev pub trb_offset : Shape → RingPlace → ℕ
trb_offset shape at = offset_of shape (area_of at.ring) + 16 * (at.segment * places_of shape at.ring + at.place)

-- the address of a TRB
abbrev pub trb_of : Layout → RingPlace → Option ℕ
trb_of layout at = if has_place layout.shape at then Some (layout.base + trb_offset layout.shape at) else None

-- the address at which a segment of a ring begins
abbrev pub segment_of : Layout → Ring → ℕ → ℕ
segment_of layout ring segment = layout.base + trb_offset layout.shape (record { ring = ring; segment = segment; place = 0 })

-- TD k stands alone at the beginning of third k mod 3
abbrev pub td_of : Ring → ℕ → RingPlace
td_of ring td = record { ring = ring; segment = td % 3; place = 0 }

-- the beginning of the next third
abbrev pub next_of : RingPlace → RingPlace
next_of at = record { ring = at.ring; segment = (at.segment + 1) % 3; place = 0 }

-- the place of a ring at so many bytes
abbrev pub place_at : Ring → ℕ → ℕ → RingPlace
place_at ring places bytes = record { ring = ring; segment = bytes / 16 / places % 256; place = bytes / 16 % places }

-- the place of a status ring, from the areas of tag 1 on
unfoldable pub guess_status : ℕ → RingPlace
guess_status offset = place_at (Status ((offset / 512 + 1) % 256)) 2 (offset % 512 - 64)

-- the data ring of a number, from 0 on
abbrev pub data_ring : ℕ → Ring
data_ring number = if number % 2 == 0 then DataIn ((number / 2 + 1) % 256) else DataOut ((number / 2 + 1) % 256)

-- the place of a data ring, from the first on
unfoldable pub guess_data : Shape → ℕ → RingPlace
guess_data shape offset =
    let bytes = ring_bytes shape.pieces in
    place_at (data_ring (offset / bytes)) (pieces_number shape.pieces + 1) (offset % bytes)

-- the one place whose TRB may begin at an offset
abbrev pub guess_of : Shape → ℕ → RingPlace
guess_of shape offset =
    if nat_le (rings_offset shape) offset then guess_data shape (offset - rings_offset shape)
    else if nat_le 65536 offset then guess_status (offset - 65536)
    else if nat_le 12288 offset then place_at CommandPipe 256 (offset - 12288)
    else if nat_le 2432 offset then place_at Control 4 (offset - 2432)
    else place_at Command 16 (offset - 2112)

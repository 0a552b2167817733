-- The TDs of a command are put: its data's alone in a third of its stream's ring, its status's likewise, its unit's on the command pipe's ring
-- (xHCI 1.2, 4.9 and 4.12); then the doorbells.
use Rattle.std.specs.Prelude.{ℕ, ◌+◌, ◌*◌, ◌^◌, ◌==◌, ◌&&◌, nat_le, nat_lt, not, if◌then◌else◌, Bool, true, false, Option, Some, None, is_some, List, length, ◌++◌}
use Rattle.byteorder.specs.Endian.{little_bytes}
use Rattle.bring_up.specs.declared.access.Access.{Access}
use Rattle.bring_up.specs.declared.access.Access.TheVariants.{Rest}
use Rattle.bring_up.specs.declared.access.Stored.TheVariants.{Four, Sixteen, ThirtyTwo, Zeros}
use Rattle.bring_up.specs.declared.controller.Controller.{Controller}
use Rattle.bring_up.specs.Accesses.{later, store_in, write_at}
use Rattle.bring_up.specs.Registers.{doorbell}
use Rattle.disk_up.specs.Controls.{at_or_zero, next_third}
use Rattle.host_layout.specs.declared.layout.Area.TheVariants.{At, OfTag}
use Rattle.host_layout.specs.declared.layout.Fixed.TheVariants.{CommandPipe as PipeArea}
use Rattle.host_layout.specs.declared.layout.Layout.{Layout}
use Rattle.host_layout.specs.declared.layout.TagArea.TheVariants.{CommandUnit, StatusUnit, UnmapList}
use Rattle.host_layout.specs.declared.rings.Ring.{Ring}
use Rattle.host_layout.specs.declared.rings.Ring.TheVariants as ring
use Rattle.host_layout.specs.declared.segments.Piece.{Piece}
use Rattle.host_layout.specs.Cutting.{data_trb_of}
use Rattle.host_layout.specs.Places.{address_of, place_of}
use Rattle.host_layout.specs.Rings.{places_of, trb_of}
use Rattle.host_trbs.specs.declared.transfers.DataTrb.{DataTrb}
use Rattle.host_trbs.specs.declared.words.Words.{Words}
use Rattle.host_trbs.specs.Transfers.{data_words, link_words}
use Rattle.host_trbs.specs.Words.{bytes_of}
use Rattle.usb_descriptors.specs.declared.Pipes.{Pipes}
use Rattle.usb_descriptors.specs.Endpoints.{context_index}
use Rattle.disk_ready.specs.declared.puts.PipeRing.{PipeRing}
use Rattle.disk_ready.specs.declared.puts.Put.{Put}
use Rattle.disk_ready.specs.declared.puts.Put.TheVariants as put
use Rattle.disk_ready.specs.declared.puts.Sent.{Sent}
use Rattle.disk_ready.specs.declared.puts.Spots.{Spots}
use Rattle.disk_ready.specs.declared.puts.Target.{Target}
use Rattle.disk_ready.specs.declared.puts.Way.{Way}
use Rattle.disk_ready.specs.declared.puts.Way.TheVariants.{Nothing, In, Out}

-- THE COMMAND PIPE'S RING: 255 places and a Link with Toggle Cycle (4.9.2)

abbrev pub pipe_begun : PipeRing
pipe_begun = record { place = 0; cycle = true }

abbrev pub next_pipe : PipeRing → PipeRing
next_pipe at = if nat_le 254 at.place then record { place = 0; cycle = not at.cycle } else record { place = at.place + 1; cycle = at.cycle }

-- WHERE THE TDS STAND

abbrev pub place_in : Layout → Ring → ℕ → ℕ → Option ℕ
place_in layout on third place = trb_of layout (record { ring = on; segment = third; place = place })

-- the ring of a command's data; of one without data no TRB is put there
abbrev pub way_ring : Way → ℕ → Ring
way_ring Nothing tag = ring.DataIn tag
way_ring In tag = ring.DataIn tag
way_ring Out tag = ring.DataOut tag

abbrev pub data_ring : Sent → Ring
data_ring sent = way_ring sent.way sent.tag

abbrev pub is_in : Way → Bool
is_in Nothing = false
is_in In = true
is_in Out = false

abbrev pub has_data : Way → Bool
has_data Nothing = false
has_data In = true
has_data Out = true

abbrev pub pipe_address : PipeRing → Layout → ℕ
pipe_address at layout = later (address_of layout (At PipeArea)) (16 * at.place)

-- THE TRBS

-- 112 bytes at most are a status unit
abbrev pub status_trb : ℕ → DataTrb
status_trb at = record { at = at; length = 112; packets_left = 0; is_last = true; is_in = true }

abbrev pub unit_trb : ℕ → DataTrb
unit_trb at = record { at = at; length = 32; packets_left = 0; is_last = true; is_in = false }

-- the Link behind a TD, to the next third
abbrev pub third_link : Layout → Ring → ℕ → Words
third_link layout on third = link_words (record { to = at_or_zero (place_in layout on (next_third third) 0); toggles = false }) true

abbrev pub pipe_link : PipeRing → Layout → Words
pipe_link at layout = link_words (record { to = address_of layout (At PipeArea); toggles = true }) at.cycle

-- THE STORES

abbrev pub zeros_stored : Layout → Ring → ℕ → Access
zeros_stored layout on third = store_in (place_in layout on (next_third third) 0) (Zeros (16 * places_of layout.shape on))

abbrev pub last_stored : Option ℕ → Words → Access
last_stored (Some at) words = store_in (Some (later at 12)) (Four (little_bytes 4 words.control))
last_stored None words = Rest 0

-- a TD's last TRB, and the Link behind it
abbrev pub pair_stored : Option ℕ → Words → Words → Access
pair_stored at words link = store_in at (ThirtyTwo (bytes_of words ++ bytes_of link))

-- a TD's first TRB has Cycle 0 until all are there
abbrev pub piece_at : Option DataTrb → Layout → Ring → ℕ → ℕ → Bool → Access
piece_at None layout on third number last = Rest 0
piece_at (Some trb) layout on third number last =
    if last then pair_stored (place_in layout on third number) (data_words trb (not (number == 0))) (third_link layout on third)
    else store_in (place_in layout on third number) (Sixteen (bytes_of (data_words trb (not (number == 0)))))

abbrev pub piece_stored : Layout → Sent → List Piece → ℕ → ℕ → Access
piece_stored layout sent pieces third number =
    piece_at (data_trb_of pieces number (is_in sent.way)) layout (data_ring sent) third number (nat_le (length pieces) (number + 1))

abbrev pub list_stored : Option ℕ → Option (List ℕ) → Access
list_stored at None = Rest 0
list_stored at (Some list) = store_in at (ThirtyTwo list)

abbrev pub first_stored : Option DataTrb → Option ℕ → Access
first_stored None at = Rest 0
first_stored (Some trb) at = last_stored at (data_words trb true)

-- the status unit's TD
abbrev pub status_stored : Option ℕ → Layout → Sent → ℕ → Access
status_stored None layout sent third = Rest 0
status_stored (Some at) layout sent third =
    pair_stored (place_in layout (ring.Status sent.tag) third 0) (data_words (status_trb at) false) (third_link layout (ring.Status sent.tag) third)

abbrev pub status_first : Option ℕ → Layout → Sent → ℕ → Access
status_first None layout sent third = Rest 0
status_first (Some at) layout sent third = last_stored (place_in layout (ring.Status sent.tag) third 0) (data_words (status_trb at) true)

-- the unit's TRB on the command pipe's ring, with the other Cycle bit; then its last word
abbrev pub unit_stored : Option ℕ → Layout → PipeRing → Access
unit_stored None layout at = Rest 0
unit_stored (Some unit) layout at = store_in (Some (pipe_address at layout)) (Sixteen (bytes_of (data_words (unit_trb unit) (not at.cycle))))

abbrev pub unit_last : Option ℕ → Layout → PipeRing → Access
unit_last None layout at = Rest 0
unit_last (Some unit) layout at = last_stored (Some (pipe_address at layout)) (data_words (unit_trb unit) at.cycle)

-- 5.6: DB Target in bits 7:0, DB Stream ID in bits 31:16
abbrev pub data_target : Pipes → Way → ℕ
data_target pipes Nothing = context_index pipes.data_in
data_target pipes In = context_index pipes.data_in
data_target pipes Out = context_index pipes.data_out

abbrev pub stream_bell : Controller → Target → ℕ → ℕ → Access
stream_bell c target index tag = write_at (doorbell c target.slot) (index + tag * 2 ^ 16)

abbrev pub put_access : Put → Controller → Layout → Target → Sent → Spots → List Piece → Access
put_access put.CommandUnit c layout target sent spots pieces = store_in (place_of layout (OfTag sent.tag CommandUnit)) (ThirtyTwo sent.unit)
put_access put.UnmapList c layout target sent spots pieces = list_stored (place_of layout (OfTag sent.tag UnmapList)) sent.list
put_access put.DataZeros c layout target sent spots pieces = zeros_stored layout (data_ring sent) spots.data_third
put_access (put.DataPiece number) c layout target sent spots pieces = piece_stored layout sent pieces spots.data_third number
put_access put.DataFirst c layout target sent spots pieces =
    first_stored (data_trb_of pieces 0 (is_in sent.way)) (place_in layout (data_ring sent) spots.data_third 0)
put_access put.StatusZeros c layout target sent spots pieces = zeros_stored layout (ring.Status sent.tag) spots.status_third
put_access put.StatusTrb c layout target sent spots pieces = status_stored (place_of layout (OfTag sent.tag StatusUnit)) layout sent spots.status_third
put_access put.StatusFirst c layout target sent spots pieces = status_first (place_of layout (OfTag sent.tag StatusUnit)) layout sent spots.status_third
put_access put.PipeLink c layout target sent spots pieces =
    store_in (Some (later (address_of layout (At PipeArea)) 4080)) (Sixteen (bytes_of (pipe_link spots.pipe layout)))
put_access put.PipeBody c layout target sent spots pieces = unit_stored (place_of layout (OfTag sent.tag CommandUnit)) layout spots.pipe
put_access put.PipeLast c layout target sent spots pieces = unit_last (place_of layout (OfTag sent.tag CommandUnit)) layout spots.pipe
put_access put.DataBell c layout target sent spots pieces = stream_bell c target (data_target target.pipes sent.way) sent.tag
put_access put.StatusBell c layout target sent spots pieces = stream_bell c target (context_index target.pipes.status) sent.tag
put_access put.PipeBell c layout target sent spots pieces = stream_bell c target (context_index target.pipes.command) 0

-- THE ORDER: the unit, the TDs of data, status and command, and the doorbells likewise

abbrev pub data_begun : Way → Put
data_begun way = if has_data way then put.DataZeros else put.StatusZeros

abbrev pub piece_after : ℕ → List Piece → Put
piece_after number pieces = if nat_lt number 255 && nat_lt (number + 1) (length pieces) then put.DataPiece (number + 1) else put.DataFirst

abbrev pub put_after : Put → Sent → Spots → List Piece → Option Put
put_after put.CommandUnit sent spots pieces = Some (if is_some sent.list then put.UnmapList else data_begun sent.way)
put_after put.UnmapList sent spots pieces = Some (data_begun sent.way)
put_after put.DataZeros sent spots pieces = Some (put.DataPiece 0)
put_after (put.DataPiece number) sent spots pieces = Some (piece_after number pieces)
put_after put.DataFirst sent spots pieces = Some put.StatusZeros
put_after put.StatusZeros sent spots pieces = Some put.StatusTrb
put_after put.StatusTrb sent spots pieces = Some put.StatusFirst
put_after put.StatusFirst sent spots pieces = Some (if nat_le 254 spots.pipe.place then put.PipeLink else put.PipeBody)
put_after put.PipeLink sent spots pieces = Some put.PipeBody
put_after put.PipeBody sent spots pieces = Some put.PipeLast
put_after put.PipeLast sent spots pieces = Some (if has_data sent.way then put.DataBell else put.StatusBell)
put_after put.DataBell sent spots pieces = Some put.StatusBell
put_after put.StatusBell sent spots pieces = Some put.PipeBell
put_after put.PipeBell sent spots pieces = None

abbrev pub spots_begun : Spots
spots_begun = record { data_third = 0; status_third = 0; pipe = pipe_begun }

-- behind a command that ended: the third of its data goes on where it had any
abbrev pub spots_after : Spots → Way → Spots
spots_after spots way = record {
  data_third = if has_data way then next_third spots.data_third else spots.data_third;
  status_third = next_third spots.status_third;
  pipe = next_pipe spots.pipe;
}

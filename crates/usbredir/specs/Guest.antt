-- The packets of a guest's side behind its hello, as bytes.
use Rattle.std.specs.Prelude.{ℕ, ◌+◌, ◌*◌, ◌/◌, ◌%◌, ◌^◌, ◌==◌, ◌&&◌, nat_le, if◌then◌else◌, List, [], ◌∷◌, ◌++◌, take, drop, length, slice_index}
use Rattle.std.specs.Prelude.{◌<◌, ⊤, Option, Some, None, Result, Ok, Err}
use Rattle.byteorder.specs.Endian.{little_bytes, little_number}
use Rattle.usbredir.specs.declared.PacketFault.{PacketFault}
use Rattle.usbredir.specs.declared.PacketFault.TheVariants as fault
use Rattle.usbredir.specs.declared.fields.BulkRequest.{BulkRequest}
use Rattle.usbredir.specs.declared.fields.ControlRequest.{ControlRequest}
use Rattle.usbredir.specs.declared.kinds.Head.{Head}
use Rattle.usbredir.specs.declared.kinds.Kind.{Kind}
use Rattle.usbredir.specs.declared.kinds.Kind.TheVariants as kind
use Rattle.usbredir.specs.declared.packets.GuestPacket.{GuestPacket}
use Rattle.usbredir.specs.declared.packets.GuestPacket.TheVariants as guest
use Rattle.usbredir.specs.Kinds.{head_text, is_in, kind_of, most_bytes, number_of_kind}

abbrev pub kind_of_guest : GuestPacket → Kind
kind_of_guest guest.Reset = kind.Reset
kind_of_guest (guest.SetConfiguration value) = kind.SetConfiguration
kind_of_guest guest.GetConfiguration = kind.GetConfiguration
kind_of_guest (guest.SetAltSetting interface setting) = kind.SetAltSetting
kind_of_guest (guest.GetAltSetting interface) = kind.GetAltSetting
kind_of_guest (guest.AllocBulkStreams endpoints streams) = kind.AllocBulkStreams
kind_of_guest (guest.FreeBulkStreams endpoints) = kind.FreeBulkStreams
kind_of_guest guest.CancelDataPacket = kind.CancelDataPacket
kind_of_guest guest.FilterReject = kind.FilterReject
kind_of_guest guest.FilterFilter = kind.FilterFilter
kind_of_guest (guest.Control request) = kind.Control
kind_of_guest (guest.Bulk request) = kind.Bulk

-- FIELDS

-- endpoint, request, type, a status that nobody reads, value, index, length: 10 bytes
unfoldable pub control_request_text : ControlRequest → List ℕ
control_request_text r =
    r.endpoint ∷ r.request ∷ r.request_type ∷ 0 ∷ little_bytes 2 r.value ++ little_bytes 2 r.index ++ little_bytes 2 r.length

unfoldable pub control_request_in : List ℕ → ControlRequest
control_request_in bytes = record {
  endpoint = slice_index bytes 0;
  request = slice_index bytes 1;
  request_type = slice_index bytes 2;
  value = little_number 2 (drop 4 bytes);
  index = little_number 2 (drop 6 bytes);
  length = little_number 2 (drop 8 bytes);
}

-- endpoint, a status that nobody reads, the length's low half, stream, its high half: 10 bytes
unfoldable pub bulk_request_text : BulkRequest → List ℕ
bulk_request_text r =
    r.endpoint ∷ 0 ∷ little_bytes 2 (r.length % 2 ^ 16) ++ little_bytes 4 r.stream ++ little_bytes 2 (r.length / 2 ^ 16)

unfoldable pub bulk_request_in : List ℕ → BulkRequest
bulk_request_in bytes = record {
  endpoint = slice_index bytes 0;
  length = little_number 2 (drop 2 bytes) + 2 ^ 16 * little_number 2 (drop 8 bytes);
  stream = little_number 4 (drop 4 bytes);
}

abbrev pub guest_fields_text : GuestPacket → List ℕ
guest_fields_text guest.Reset = []
guest_fields_text (guest.SetConfiguration value) = value ∷ []
guest_fields_text guest.GetConfiguration = []
guest_fields_text (guest.SetAltSetting interface setting) = interface ∷ setting ∷ []
guest_fields_text (guest.GetAltSetting interface) = interface ∷ []
guest_fields_text (guest.AllocBulkStreams endpoints streams) = little_bytes 4 endpoints ++ little_bytes 4 streams
guest_fields_text (guest.FreeBulkStreams endpoints) = little_bytes 4 endpoints
guest_fields_text guest.CancelDataPacket = []
guest_fields_text guest.FilterReject = []
guest_fields_text guest.FilterFilter = []
guest_fields_text (guest.Control request) = control_request_text request
guest_fields_text (guest.Bulk request) = bulk_request_text request

-- the packet of a kind with these fields; none of a kind that a guest doesn't send
abbrev pub guest_of : Option Kind → List ℕ → Option GuestPacket
guest_of (Some kind.Reset) bytes = Some guest.Reset
guest_of (Some kind.SetConfiguration) bytes = Some (guest.SetConfiguration (slice_index bytes 0))
guest_of (Some kind.GetConfiguration) bytes = Some guest.GetConfiguration
guest_of (Some kind.SetAltSetting) bytes = Some (guest.SetAltSetting (slice_index bytes 0) (slice_index bytes 1))
guest_of (Some kind.GetAltSetting) bytes = Some (guest.GetAltSetting (slice_index bytes 0))
guest_of (Some kind.AllocBulkStreams) bytes = Some (guest.AllocBulkStreams (little_number 4 bytes) (little_number 4 (drop 4 bytes)))
guest_of (Some kind.FreeBulkStreams) bytes = Some (guest.FreeBulkStreams (little_number 4 bytes))
guest_of (Some kind.CancelDataPacket) bytes = Some guest.CancelDataPacket
guest_of (Some kind.FilterReject) bytes = Some guest.FilterReject
guest_of (Some kind.FilterFilter) bytes = Some guest.FilterFilter
guest_of (Some kind.Control) bytes = Some (guest.Control (control_request_in bytes))
guest_of (Some kind.Bulk) bytes = Some (guest.Bulk (bulk_request_in bytes))
guest_of _ bytes = None

-- how many bytes of fields each kind of a guest has
abbrev pub fields_of_guest : Option Kind → Option ℕ
fields_of_guest (Some kind.Reset) = Some 0
fields_of_guest (Some kind.SetConfiguration) = Some 1
fields_of_guest (Some kind.GetConfiguration) = Some 0
fields_of_guest (Some kind.SetAltSetting) = Some 2
fields_of_guest (Some kind.GetAltSetting) = Some 1
fields_of_guest (Some kind.AllocBulkStreams) = Some 8
fields_of_guest (Some kind.FreeBulkStreams) = Some 4
fields_of_guest (Some kind.CancelDataPacket) = Some 0
fields_of_guest (Some kind.FilterReject) = Some 0
fields_of_guest (Some kind.FilterFilter) = Some 0
fields_of_guest (Some kind.Control) = Some 10
fields_of_guest (Some kind.Bulk) = Some 10
fields_of_guest _ = None

-- fields as they are written: nobody reads the status of a request, and it is written as 0
abbrev pub without_status : GuestPacket → List ℕ → List ℕ
without_status (guest.Control request) bytes = take 3 bytes ++ 0 ∷ drop 4 bytes
without_status (guest.Bulk request) bytes = take 1 bytes ++ 0 ∷ drop 2 bytes
without_status _ bytes = bytes

-- WHOLE PACKETS

-- how many bytes of data a packet has, of which so many bytes follow its head: an OUT request all that it transfers, an IN request none,
-- a filter what there is
abbrev pub data_of_guest : GuestPacket → ℕ → ℕ
data_of_guest (guest.Control request) following = if is_in request.endpoint then 0 else request.length
data_of_guest (guest.Bulk request) following = if is_in request.endpoint then 0 else request.length
data_of_guest guest.FilterFilter following = following
data_of_guest _ following = 0

-- the head of a packet with so many bytes of data
abbrev pub guest_head : ℕ → GuestPacket → ℕ → Head
guest_head id packet count = record {
  kind = number_of_kind (kind_of_guest packet);
  length = length (guest_fields_text packet) + count;
  id = id;
}

-- a packet in front of so many bytes of data
abbrev pub guest_text : ℕ → GuestPacket → ℕ → List ℕ
guest_text id packet count = head_text (guest_head id packet count) ++ guest_fields_text packet

-- how many bytes of fields to read behind a head
abbrev pub room_of : ℕ → Option ℕ → Result ℕ PacketFault
room_of following None = Err fault.UnexpectedPacket
room_of following (Some fields) =
    if nat_le fields following && nat_le following most_bytes then Ok fields else Err fault.BadLength

abbrev pub guest_room : Head → Result ℕ PacketFault
guest_room head = room_of head.length (fields_of_guest (kind_of head.kind))

-- a packet, where its fields and data are as many bytes as its head says
abbrev pub whole_guest : ℕ → ℕ → Option GuestPacket → Result GuestPacket PacketFault
whole_guest following fields None = Err fault.UnexpectedPacket
whole_guest following fields (Some packet) =
    if (nat_le following most_bytes && (fields == length (guest_fields_text packet)))
    && (following == fields + data_of_guest packet following)
    then Ok packet else Err fault.BadLength

-- the packet of a head and these fields
abbrev pub guest_in : Head → List ℕ → Result GuestPacket PacketFault
guest_in head bytes = whole_guest head.length (length bytes) (guest_of (kind_of head.kind) bytes)

-- each number fits its field, and no more than the most bytes follow the head
pub record FitsControl (r : ControlRequest) : Type 0 where
  pub endpoint : r.endpoint < 2 ^ 8
  pub request : r.request < 2 ^ 8
  pub request_type : r.request_type < 2 ^ 8
  pub value : r.value < 2 ^ 16
  pub index : r.index < 2 ^ 16
  pub length : r.length < 2 ^ 16

pub record FitsBulk (r : BulkRequest) : Type 0 where
  pub endpoint : r.endpoint < 2 ^ 8
  pub length : r.length < 2 ^ 32
  pub stream : r.stream < 2 ^ 32

abbrev pub FitsGuest : GuestPacket → Type 0
FitsGuest (guest.SetConfiguration value) = value < 2 ^ 8
FitsGuest (guest.SetAltSetting interface setting) = (interface < 2 ^ 8) × (setting < 2 ^ 8)
FitsGuest (guest.GetAltSetting interface) = interface < 2 ^ 8
FitsGuest (guest.AllocBulkStreams endpoints streams) = (endpoints < 2 ^ 32) × (streams < 2 ^ 32)
FitsGuest (guest.FreeBulkStreams endpoints) = endpoints < 2 ^ 32
FitsGuest (guest.Control request) = FitsControl request
FitsGuest (guest.Bulk request) = FitsBulk request
FitsGuest _ = ⊤

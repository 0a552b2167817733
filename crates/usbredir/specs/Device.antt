-- The packets of the device's side behind its hello, as bytes.
use Rattle.std.specs.Prelude.{◌≡◌, ℕ, zero, suc, ◌+◌, ◌*◌, ◌/◌, ◌%◌, ◌^◌, ◌==◌, ◌&&◌, nat_le, if◌then◌else◌, List, [], ◌∷◌, ◌++◌, take, drop, length, flat_map, slice_index}
use Rattle.std.specs.List.{AllByRecursion}
use Rattle.std.specs.Prelude.{◌<◌, ⊤, Option, Some, None, Result, Ok, Err}
use Rattle.byteorder.specs.Endian.{little_bytes, little_number}
use Rattle.usbredir.specs.declared.PacketFault.{PacketFault}
use Rattle.usbredir.specs.declared.PacketFault.TheVariants as fault
use Rattle.usbredir.specs.declared.fields.BulkAnswer.{BulkAnswer}
use Rattle.usbredir.specs.declared.fields.ControlAnswer.{ControlAnswer}
use Rattle.usbredir.specs.declared.fields.DeviceConnect.{DeviceConnect}
use Rattle.usbredir.specs.declared.fields.EndpointInfo.{EndpointInfo}
use Rattle.usbredir.specs.declared.fields.InterfaceInfo.{InterfaceInfo}
use Rattle.usbredir.specs.declared.kinds.Head.{Head}
use Rattle.usbredir.specs.declared.kinds.Kind.{Kind}
use Rattle.usbredir.specs.declared.kinds.Kind.TheVariants as kind
use Rattle.usbredir.specs.declared.kinds.Status.{Status}
use Rattle.usbredir.specs.declared.packets.DevicePacket.{DevicePacket}
use Rattle.usbredir.specs.declared.packets.DevicePacket.TheVariants as device
use Rattle.usbredir.specs.Guest.{room_of}
use Rattle.usbredir.specs.Kinds.{head_text, is_in, kind_of, most_bytes, number_of_kind, number_of_status, status_of}

abbrev pub kind_of_device : DevicePacket → Kind
kind_of_device (device.DeviceConnect device) = kind.DeviceConnect
kind_of_device (device.InterfaceInfo info) = kind.InterfaceInfo
kind_of_device (device.EndpointInfo info) = kind.EndpointInfo
kind_of_device (device.ConfigurationStatus status value) = kind.ConfigurationStatus
kind_of_device (device.AltSettingStatus status interface setting) = kind.AltSettingStatus
kind_of_device (device.BulkStreamsStatus endpoints streams status) = kind.BulkStreamsStatus
kind_of_device (device.Control answer) = kind.Control
kind_of_device (device.Bulk answer) = kind.Bulk

-- FIELDS

-- so many numbers of so many bytes each, one behind the other
unfoldable pub numbers_in : ℕ → ℕ → List ℕ → List ℕ
numbers_in width zero bytes = []
numbers_in width (suc count) bytes = little_number width bytes ∷ numbers_in width count (drop width bytes)

-- speed, class, subclass, protocol, vendor, product, version: 10 bytes
unfoldable pub device_connect_text : DeviceConnect → List ℕ
device_connect_text d =
    d.speed ∷ d.class ∷ d.subclass ∷ d.protocol ∷ little_bytes 2 d.vendor ++ little_bytes 2 d.product ++ little_bytes 2 d.version

unfoldable pub device_connect_in : List ℕ → DeviceConnect
device_connect_in bytes = record {
  speed = slice_index bytes 0;
  class = slice_index bytes 1;
  subclass = slice_index bytes 2;
  protocol = slice_index bytes 3;
  vendor = little_number 2 (drop 4 bytes);
  product = little_number 2 (drop 6 bytes);
  version = little_number 2 (drop 8 bytes);
}

-- count; of each of 32 interfaces number, class, subclass and protocol, as four tables: 132 bytes
unfoldable pub interface_info_text : InterfaceInfo → List ℕ
interface_info_text i = little_bytes 4 i.count ++ (i.numbers ++ (i.classes ++ (i.subclasses ++ i.protocols)))

unfoldable pub interface_info_in : List ℕ → InterfaceInfo
interface_info_in bytes = record {
  count = little_number 4 bytes;
  numbers = take 32 (drop 4 bytes);
  classes = take 32 (drop 36 bytes);
  subclasses = take 32 (drop 68 bytes);
  protocols = take 32 (drop 100 bytes);
}

-- of each of 32 places type, interval, interface, packet size and streams, as five tables: 288 bytes
unfoldable pub endpoint_info_text : EndpointInfo → List ℕ
endpoint_info_text e =
    e.types ++ (e.intervals ++ (e.interfaces ++ (flat_map (little_bytes 2) e.packet_sizes ++ flat_map (little_bytes 4) e.streams)))

unfoldable pub endpoint_info_in : List ℕ → EndpointInfo
endpoint_info_in bytes = record {
  types = take 32 bytes;
  intervals = take 32 (drop 32 bytes);
  interfaces = take 32 (drop 64 bytes);
  packet_sizes = numbers_in 2 32 (take 64 (drop 96 bytes));
  streams = numbers_in 4 32 (take 128 (drop 160 bytes));
}

-- endpoint, request, type, status, value, index, length: 10 bytes
unfoldable pub control_answer_text : ControlAnswer → List ℕ
control_answer_text a =
    a.endpoint ∷ a.request ∷ a.request_type ∷ number_of_status a.status
    ∷ little_bytes 2 a.value ++ little_bytes 2 a.index ++ little_bytes 2 a.length

abbrev pub control_answer_of : Option Status → List ℕ → Option DevicePacket
control_answer_of None bytes = None
control_answer_of (Some status) bytes = Some (device.Control (record {
  endpoint = slice_index bytes 0;
  request = slice_index bytes 1;
  request_type = slice_index bytes 2;
  status = status;
  value = little_number 2 (drop 4 bytes);
  index = little_number 2 (drop 6 bytes);
  length = little_number 2 (drop 8 bytes);
}))

-- endpoint, status, the length's low half, stream, its high half: 10 bytes
unfoldable pub bulk_answer_text : BulkAnswer → List ℕ
bulk_answer_text a =
    a.endpoint ∷ number_of_status a.status
    ∷ little_bytes 2 (a.length % 2 ^ 16) ++ little_bytes 4 a.stream ++ little_bytes 2 (a.length / 2 ^ 16)

abbrev pub bulk_answer_of : Option Status → List ℕ → Option DevicePacket
bulk_answer_of None bytes = None
bulk_answer_of (Some status) bytes = Some (device.Bulk (record {
  endpoint = slice_index bytes 0;
  status = status;
  length = little_number 2 (drop 2 bytes) + 2 ^ 16 * little_number 2 (drop 8 bytes);
  stream = little_number 4 (drop 4 bytes);
}))

-- status, value: 2 bytes; status, interface, setting: 3 bytes; mask of endpoints, streams, status: 9 bytes
abbrev pub device_fields_text : DevicePacket → List ℕ
device_fields_text (device.DeviceConnect d) = device_connect_text d
device_fields_text (device.InterfaceInfo info) = interface_info_text info
device_fields_text (device.EndpointInfo info) = endpoint_info_text info
device_fields_text (device.ConfigurationStatus status value) = number_of_status status ∷ value ∷ []
device_fields_text (device.AltSettingStatus status interface setting) = number_of_status status ∷ interface ∷ setting ∷ []
device_fields_text (device.BulkStreamsStatus endpoints streams status) =
    little_bytes 4 endpoints ++ little_bytes 4 streams ++ number_of_status status ∷ []
device_fields_text (device.Control answer) = control_answer_text answer
device_fields_text (device.Bulk answer) = bulk_answer_text answer

abbrev pub configuration_status_of : Option Status → List ℕ → Option DevicePacket
configuration_status_of None bytes = None
configuration_status_of (Some status) bytes = Some (device.ConfigurationStatus status (slice_index bytes 1))

abbrev pub alt_setting_status_of : Option Status → List ℕ → Option DevicePacket
alt_setting_status_of None bytes = None
alt_setting_status_of (Some status) bytes = Some (device.AltSettingStatus status (slice_index bytes 1) (slice_index bytes 2))

abbrev pub bulk_streams_status_of : Option Status → List ℕ → Option DevicePacket
bulk_streams_status_of None bytes = None
bulk_streams_status_of (Some status) bytes = Some (device.BulkStreamsStatus (little_number 4 bytes) (little_number 4 (drop 4 bytes)) status)

-- the packet of a kind with these fields; none of a kind that a device doesn't send, and none where the status has no name
abbrev pub device_of : Option Kind → List ℕ → Option DevicePacket
device_of (Some kind.DeviceConnect) bytes = Some (device.DeviceConnect (device_connect_in bytes))
device_of (Some kind.InterfaceInfo) bytes = Some (device.InterfaceInfo (interface_info_in bytes))
device_of (Some kind.EndpointInfo) bytes = Some (device.EndpointInfo (endpoint_info_in bytes))
device_of (Some kind.ConfigurationStatus) bytes = configuration_status_of (status_of (slice_index bytes 0)) bytes
device_of (Some kind.AltSettingStatus) bytes = alt_setting_status_of (status_of (slice_index bytes 0)) bytes
device_of (Some kind.BulkStreamsStatus) bytes = bulk_streams_status_of (status_of (slice_index bytes 8)) bytes
device_of (Some kind.Control) bytes = control_answer_of (status_of (slice_index bytes 3)) bytes
device_of (Some kind.Bulk) bytes = bulk_answer_of (status_of (slice_index bytes 1)) bytes
device_of _ bytes = None

-- how many bytes of fields each kind of a device has
abbrev pub fields_of_device : Option Kind → Option ℕ
fields_of_device (Some kind.DeviceConnect) = Some 10
fields_of_device (Some kind.InterfaceInfo) = Some 132
fields_of_device (Some kind.EndpointInfo) = Some 288
fields_of_device (Some kind.ConfigurationStatus) = Some 2
fields_of_device (Some kind.AltSettingStatus) = Some 3
fields_of_device (Some kind.BulkStreamsStatus) = Some 9
fields_of_device (Some kind.Control) = Some 10
fields_of_device (Some kind.Bulk) = Some 10
fields_of_device _ = None

-- WHOLE PACKETS

-- how many bytes of data a packet has: an IN answer all that came in, an OUT answer none
abbrev pub data_of_device : DevicePacket → ℕ
data_of_device (device.Control answer) = if is_in answer.endpoint then answer.length else 0
data_of_device (device.Bulk answer) = if is_in answer.endpoint then answer.length else 0
data_of_device _ = 0

-- the head of a packet
abbrev pub device_head : ℕ → DevicePacket → Head
device_head id packet = record {
  kind = number_of_kind (kind_of_device packet);
  length = length (device_fields_text packet) + data_of_device packet;
  id = id;
}

-- a packet in front of its data
abbrev pub device_text : ℕ → DevicePacket → List ℕ
device_text id packet = head_text (device_head id packet) ++ device_fields_text packet

-- how many bytes of fields to read behind a head
abbrev pub device_room : Head → Result ℕ PacketFault
device_room head = room_of head.length (fields_of_device (kind_of head.kind))

-- a packet, where its data are as many bytes as its head says; none is one whose status has no name
abbrev pub fitting_device : ℕ → ℕ → Option DevicePacket → Result DevicePacket PacketFault
fitting_device following fields None = Err fault.UnexpectedPacket
fitting_device following fields (Some packet) =
    if following == fields + data_of_device packet then Ok packet else Err fault.BadLength

-- and its fields as many as its kind has
abbrev pub whole_device : ℕ → ℕ → Option ℕ → Option DevicePacket → Result DevicePacket PacketFault
whole_device following fields None packet = Err fault.UnexpectedPacket
whole_device following fields (Some count) packet =
    if (fields == count) && nat_le following most_bytes then fitting_device following fields packet else Err fault.BadLength

-- the packet of a head and these fields
abbrev pub device_in : Head → List ℕ → Result DevicePacket PacketFault
device_in head bytes =
    whole_device head.length (length bytes) (fields_of_device (kind_of head.kind)) (device_of (kind_of head.kind) bytes)

-- each number fits its field, each table has 32 of them, and no more than the most bytes follow the head
pub record FitsConnect (d : DeviceConnect) : Type 0 where
  pub vendor : d.vendor < 2 ^ 16
  pub product : d.product < 2 ^ 16
  pub version : d.version < 2 ^ 16

pub record FitsInterfaces (i : InterfaceInfo) : Type 0 where
  pub count : i.count < 2 ^ 32
  pub numbers : length i.numbers ≡ 32
  pub classes : length i.classes ≡ 32
  pub subclasses : length i.subclasses ≡ 32
  pub protocols : length i.protocols ≡ 32

pub record FitsEndpoints (e : EndpointInfo) : Type 0 where
  pub types : length e.types ≡ 32
  pub intervals : length e.intervals ≡ 32
  pub interfaces : length e.interfaces ≡ 32
  pub packet_sizes : (length e.packet_sizes ≡ 32) × AllByRecursion (λ n. n < 2 ^ 16) e.packet_sizes
  pub streams : (length e.streams ≡ 32) × AllByRecursion (λ n. n < 2 ^ 32) e.streams

pub record FitsControlAnswer (a : ControlAnswer) : Type 0 where
  pub value : a.value < 2 ^ 16
  pub index : a.index < 2 ^ 16
  pub length : a.length < 2 ^ 16

pub record FitsBulkAnswer (a : BulkAnswer) : Type 0 where
  pub length : a.length < 2 ^ 32
  pub stream : a.stream < 2 ^ 32

abbrev pub FitsDevice : DevicePacket → Type 0
FitsDevice (device.DeviceConnect d) = FitsConnect d
FitsDevice (device.InterfaceInfo info) = FitsInterfaces info
FitsDevice (device.EndpointInfo info) = FitsEndpoints info
FitsDevice (device.BulkStreamsStatus endpoints streams status) = (endpoints < 2 ^ 32) × (streams < 2 ^ 32)
FitsDevice (device.Control answer) = FitsControlAnswer answer
FitsDevice (device.Bulk answer) = FitsBulkAnswer answer
FitsDevice _ = ⊤

-- Kinds of packets, statuses, and heads. All numbers are little endian.
use Rattle.std.specs.Prelude.{ℕ, ◌<◌, ◌^◌, ◌==◌, if◌then◌else◌, List, ◌++◌, drop, Bool, Option, Some, None, nat_le}
use Rattle.byteorder.specs.Endian.{little_bytes, little_number}
use Rattle.usbredir.specs.declared.kinds.Head.{Head}
use Rattle.usbredir.specs.declared.kinds.Kind.{Kind}
use Rattle.usbredir.specs.declared.kinds.Kind.TheVariants as kind
use Rattle.usbredir.specs.declared.kinds.Status.{Status}
use Rattle.usbredir.specs.declared.kinds.Status.TheVariants as status

abbrev pub number_of_kind : Kind → ℕ
number_of_kind kind.Hello = 0
number_of_kind kind.DeviceConnect = 1
number_of_kind kind.Reset = 3
number_of_kind kind.InterfaceInfo = 4
number_of_kind kind.EndpointInfo = 5
number_of_kind kind.SetConfiguration = 6
number_of_kind kind.GetConfiguration = 7
number_of_kind kind.ConfigurationStatus = 8
number_of_kind kind.SetAltSetting = 9
number_of_kind kind.GetAltSetting = 10
number_of_kind kind.AltSettingStatus = 11
number_of_kind kind.AllocBulkStreams = 18
number_of_kind kind.FreeBulkStreams = 19
number_of_kind kind.BulkStreamsStatus = 20
number_of_kind kind.CancelDataPacket = 21
number_of_kind kind.FilterReject = 22
number_of_kind kind.FilterFilter = 23
number_of_kind kind.Control = 100
number_of_kind kind.Bulk = 101

abbrev pub kind_of : ℕ → Option Kind
kind_of number =
    if number == 0 then Some kind.Hello
    else (if number == 1 then Some kind.DeviceConnect
    else (if number == 3 then Some kind.Reset
    else (if number == 4 then Some kind.InterfaceInfo
    else (if number == 5 then Some kind.EndpointInfo
    else (if number == 6 then Some kind.SetConfiguration
    else (if number == 7 then Some kind.GetConfiguration
    else (if number == 8 then Some kind.ConfigurationStatus
    else (if number == 9 then Some kind.SetAltSetting
    else (if number == 10 then Some kind.GetAltSetting
    else (if number == 11 then Some kind.AltSettingStatus
    else (if number == 18 then Some kind.AllocBulkStreams
    else (if number == 19 then Some kind.FreeBulkStreams
    else (if number == 20 then Some kind.BulkStreamsStatus
    else (if number == 21 then Some kind.CancelDataPacket
    else (if number == 22 then Some kind.FilterReject
    else (if number == 23 then Some kind.FilterFilter
    else (if number == 100 then Some kind.Control
    else (if number == 101 then Some kind.Bulk else None))))))))))))))))))

abbrev pub number_of_status : Status → ℕ
number_of_status status.Success = 0
number_of_status status.Cancelled = 1
number_of_status status.Invalid = 2
number_of_status status.IoError = 3
number_of_status status.Stall = 4
number_of_status status.Timeout = 5
number_of_status status.Babble = 6

abbrev pub status_of : ℕ → Option Status
status_of number =
    if number == 0 then Some status.Success
    else (if number == 1 then Some status.Cancelled
    else (if number == 2 then Some status.Invalid
    else (if number == 3 then Some status.IoError
    else (if number == 4 then Some status.Stall
    else (if number == 5 then Some status.Timeout
    else (if number == 6 then Some status.Babble else None))))))

-- HEADS

-- kind, length of what follows, id: 16 bytes
unfoldable pub head_text : Head → List ℕ
head_text head = little_bytes 4 head.kind ++ little_bytes 4 head.length ++ little_bytes 8 head.id

unfoldable pub head_in : List ℕ → Head
head_in bytes = record { kind = little_number 4 bytes; length = little_number 4 (drop 4 bytes); id = little_number 8 (drop 8 bytes) }

-- a hello's head: its id has 4 bytes
unfoldable pub hello_head_text : Head → List ℕ
hello_head_text head = little_bytes 4 head.kind ++ little_bytes 4 head.length ++ little_bytes 4 head.id

unfoldable pub hello_head_in : List ℕ → Head
hello_head_in bytes = record { kind = little_number 4 bytes; length = little_number 4 (drop 4 bytes); id = little_number 4 (drop 8 bytes) }

-- each field fits its width
pub record FitsHead (head : Head) : Type 0 where
  pub kind : head.kind < 2 ^ 32
  pub length : head.length < 2 ^ 32
  pub id : head.id < 2 ^ 64

-- the most bytes behind a head
abbrev pub most_bytes : ℕ
most_bytes = 134218752

-- bit 7 of an endpoint's address: data come in
abbrev pub is_in : ℕ → Bool
is_in endpoint = nat_le 128 endpoint

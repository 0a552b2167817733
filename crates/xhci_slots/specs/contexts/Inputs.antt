-- The input context of a command (xHCI 1.2, 6.2.5), and when its values aren't this disk's.
use Rattle.std.specs.Prelude.{ℕ, ◌/◌, ◌%◌, ◌^◌, ◌==◌, ◌&&◌, ◌||◌, nat_lt, Bool, not, drop, Option, Some}
use Rattle.byteorder.specs.Endian.{little_number}
use Rattle.guest_memory.specs.Bytes.{Memory, ◌>>=◌, bytes_from}
use Rattle.xhci_slots.specs.declared.contexts.DeviceContext.{DeviceContext}
use Rattle.xhci_slots.specs.declared.contexts.EndpointContext.{EndpointContext}
use Rattle.xhci_slots.specs.declared.contexts.EndpointKind.{EndpointKind}
use Rattle.xhci_slots.specs.declared.contexts.EndpointKind.TheVariants.{Control, BulkOut, BulkIn}
use Rattle.xhci_slots.specs.declared.contexts.InputContext.{InputContext}
use Rattle.xhci_slots.specs.declared.contexts.Number.{Number}
use Rattle.xhci_slots.specs.declared.contexts.Number.TheVariants.{ControlPipe, CommandPipe, StatusPipe, DataOutPipe, DataInPipe}
use Rattle.xhci_slots.specs.declared.contexts.SlotContext.{SlotContext}
use Rattle.xhci_slots.specs.contexts.Contexts.{context_at, device_at}

-- 6.2.5: the drop flags, the add flags, and behind the 32 bytes of this control context the contexts themselves
unfoldable pub input_at : Memory → ℕ → Option InputContext
input_at memory base = do
  flags ← bytes_from memory base 8
  device ← device_at memory (context_at base 1)
  Some (record { drops = little_number 4 flags; adds = little_number 4 (drop 4 flags); device = device })

-- whether a flag word has the flag of a context
abbrev pub has_flag : ℕ → ℕ → Bool
has_flag flags number = flags / 2 ^ number % 2 == 1

-- the device context index of an endpoint (4.8.1)
abbrev pub index_of : Number → ℕ
index_of ControlPipe = 1
index_of CommandPipe = 2
index_of StatusPipe = 3
index_of DataOutPipe = 4
index_of DataInPipe = 5

abbrev pub endpoint_of : DeviceContext → Number → EndpointContext
endpoint_of device ControlPipe = device.control
endpoint_of device CommandPipe = device.command
endpoint_of device StatusPipe = device.status
endpoint_of device DataOutPipe = device.data_out
endpoint_of device DataInPipe = device.data_in

-- what an endpoint of the disk is
abbrev pub kind_of : Number → EndpointKind
kind_of ControlPipe = Control
kind_of CommandPipe = BulkOut
kind_of StatusPipe = BulkIn
kind_of DataOutPipe = BulkOut
kind_of DataInPipe = BulkIn

-- EP Type (table 6-9)
abbrev pub type_number : EndpointKind → ℕ
type_number Control = 4
type_number BulkOut = 2
type_number BulkIn = 6

-- the most bytes of a packet at SuperSpeed
abbrev pub packet_bytes : EndpointKind → ℕ
packet_bytes Control = 512
packet_bytes BulkOut = 1024
packet_bytes BulkIn = 1024

-- Root Hub Port Number, bits 23:16 of the second word
abbrev pub port_of : SlotContext → ℕ
port_of slot = slot.port / 2 ^ 16 % 2 ^ 8

-- EP Type 5:3 and Max Packet Size 31:16 of the second word; MaxPStreams 14:10 and LSA 15 of the first
abbrev pub type_of : EndpointContext → ℕ
type_of endpoint = endpoint.kind / 2 ^ 3 % 2 ^ 3

abbrev pub packet_of : EndpointContext → ℕ
packet_of endpoint = endpoint.kind / 2 ^ 16

abbrev pub streams_of : EndpointContext → ℕ
streams_of endpoint = endpoint.state / 2 ^ 10 % 2 ^ 5

abbrev pub is_linear : EndpointContext → Bool
is_linear endpoint = endpoint.state / 2 ^ 15 % 2 == 1

-- the greatest MaxPStreams of an endpoint: endpoint 0 and the command pipe have no streams
abbrev pub most_streams : Number → ℕ
most_streams ControlPipe = 0
most_streams CommandPipe = 0
most_streams StatusPipe = 7
most_streams DataOutPipe = 7
most_streams DataInPipe = 7

-- an endpoint context that isn't of this endpoint of the disk, or has more streams than that, or secondary stream arrays
abbrev pub is_bad_endpoint : Number → EndpointContext → Bool
is_bad_endpoint number endpoint =
    not (type_of endpoint == type_number (kind_of number)) || not (packet_of endpoint == packet_bytes (kind_of number))
    || nat_lt (most_streams number) (streams_of endpoint) || (nat_lt 0 (streams_of endpoint) && not (is_linear endpoint))

-- D0 or D1 is set, or A0 isn't
abbrev pub has_bad_flags : InputContext → Bool
has_bad_flags input = has_flag input.drops 0 || has_flag input.drops 1 || not (has_flag input.adds 0)

-- Address Device (4.6.5): A1 is set too, and the disk is behind root hub port 2
abbrev pub is_bad_address : InputContext → Bool
is_bad_address input =
    has_bad_flags input || not (has_flag input.adds 1) || not (port_of input.device.slot == 2) || is_bad_endpoint ControlPipe input.device.control

-- an endpoint that is added
abbrev pub is_bad_added : InputContext → Number → Bool
is_bad_added input number = has_flag input.adds (index_of number) && is_bad_endpoint number (endpoint_of input.device number)

-- Configure Endpoint (4.6.6): the disk has no endpoint above index 5
abbrev pub is_bad_configuration : InputContext → Bool
is_bad_configuration input =
    has_bad_flags input || nat_lt 63 input.adds || is_bad_added input CommandPipe || is_bad_added input StatusPipe
    || is_bad_added input DataOutPipe || is_bad_added input DataInPipe

-- Evaluate Context (4.6.7): only the packet size of endpoint 0, where A1 is set, can be wrong
abbrev pub is_bad_evaluation : InputContext → Bool
is_bad_evaluation input =
    has_flag input.drops 0 || has_flag input.drops 1
    || (has_flag input.adds 1 && not (packet_of input.device.control == packet_bytes Control))

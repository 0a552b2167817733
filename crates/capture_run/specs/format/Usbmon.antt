-- A record of a transfer, in the form of Linux's usbmon with its header of 64 bytes.
use Rattle.std.specs.Prelude.{ℕ, ◌-◌, ◌/◌, ◌%◌, ◌^◌, ◌==◌, nat_le, if◌then◌else◌, Bool, true, false, List, [], ◌∷◌, ◌++◌, length, replicate}
use Rattle.std.specs.Prelude.{Option, Some, None}
use Rattle.byteorder.specs.Endian.{little_bytes}
use Rattle.uas_profile.specs.declared.Pipe.{Pipe}
use Rattle.uas_profile.specs.declared.Pipe.TheVariants as pipe
use Rattle.capture_run.specs.declared.format.Event.{Event}
use Rattle.capture_run.specs.declared.format.Event.TheVariants.{Submitted, Completed, Unlinked}
use Rattle.capture_run.specs.declared.format.Record.{Record}
use Rattle.capture_run.specs.declared.format.Transfer.{Transfer}
use Rattle.capture_run.specs.declared.format.Transfer.TheVariants.{Control, Bulk}
use Rattle.capture_run.specs.declared.format.descriptors.Request.{Request}
use Rattle.capture_run.specs.declared.format.descriptors.Request.TheVariants.{GetDevice, GetConfiguration, SetConfiguration}
use Rattle.capture_run.specs.format.Pcapng.{packet}

-- the letters S and C
unfoldable pub event_letter : Event → ℕ
event_letter Submitted = 0x53
event_letter Completed = 0x43
event_letter Unlinked = 0x43

-- -115 (EINPROGRESS), 0, and -104 (ECONNRESET), as words of 32 bits
unfoldable pub event_status : Event → ℕ
event_status Submitted = 2 ^ 32 - 115
event_status Completed = 0
event_status Unlinked = 2 ^ 32 - 104

-- control transfers are of kind 2, bulk transfers of kind 3
unfoldable pub transfer_kind : Transfer → ℕ
transfer_kind (Control request) = 2
transfer_kind (Bulk pipe) = 3

-- endpoints 1 OUT, 1 IN, 2 IN and 2 OUT, bit 7 set where bytes come in
abbrev pub pipe_endpoint : Pipe → ℕ
pipe_endpoint pipe.Command = 0x01
pipe_endpoint pipe.Status = 0x81
pipe_endpoint pipe.DataIn = 0x82
pipe_endpoint pipe.DataOut = 0x02

abbrev pub request_endpoint : Request → ℕ
request_endpoint GetDevice = 0x80
request_endpoint GetConfiguration = 0x80
request_endpoint SetConfiguration = 0

unfoldable pub endpoint_of : Transfer → ℕ
endpoint_of (Control request) = request_endpoint request
endpoint_of (Bulk pipe) = pipe_endpoint pipe

-- the setup packet of a request: its type, its code, value, index and length. By hand: the device descriptor is type 1 of 18 bytes.
unfoldable pub setup_packet : Request → List ℕ
setup_packet GetDevice = 0x80 ∷ 6 ∷ 0 ∷ 1 ∷ 0 ∷ 0 ∷ 18 ∷ 0 ∷ []
setup_packet GetConfiguration = 0x80 ∷ 6 ∷ 0 ∷ 2 ∷ 0 ∷ 0 ∷ 86 ∷ 0 ∷ []
setup_packet SetConfiguration = 0 ∷ 9 ∷ 1 ∷ 0 ∷ 0 ∷ 0 ∷ 0 ∷ 0 ∷ []

-- it goes with the submission of a request
abbrev pub setup_with : Event → Transfer → Option (List ℕ)
setup_with Submitted (Control request) = Some (setup_packet request)
setup_with Submitted (Bulk pipe) = None
setup_with Completed transfer = None
setup_with Unlinked transfer = None

unfoldable pub setup_of : Record → Option (List ℕ)
setup_of urb = setup_with urb.event urb.transfer

abbrev pub flag_with : Option (List ℕ) → ℕ
flag_with (Some setup) = 0
flag_with None = 0x2d

-- 0 where a setup packet goes with a record, else a dash
unfoldable pub setup_flag : Record → ℕ
setup_flag urb = flag_with (setup_of urb)

-- whether bytes come in
unfoldable pub comes_in : Transfer → Bool
comes_in transfer = nat_le 0x80 (endpoint_of transfer)

-- `<` of a submission where bytes come in later, `>` of an end where they went out before
abbrev pub flag_without : Event → Bool → ℕ
flag_without Submitted true = 0x3c
flag_without Submitted false = 0
flag_without Completed true = 0
flag_without Completed false = 0x3e
flag_without Unlinked true = 0
flag_without Unlinked false = 0x3e

-- 0 where bytes go with a record, and where there are none though they could; else `<` or `>`
unfoldable pub data_flag : Record → List ℕ → ℕ
data_flag urb [] = flag_without urb.event (comes_in urb.transfer)
data_flag urb (byte ∷ bytes) = 0

-- the flags of a transfer: URB_DIR_IN, 200h, where bytes come in
unfoldable pub transfer_flags : Transfer → ℕ
transfer_flags transfer = if comes_in transfer then 0x200 else 0

-- the eight bytes of the setup packet, zeros where there is none
unfoldable pub setup_bytes : Option (List ℕ) → List ℕ
setup_bytes (Some setup) = setup
setup_bytes None = replicate 8 0

-- which transfer it is: its number, letter, kind and endpoint, device 5 on bus 1, and the two flags
unfoldable pub head : Record → List ℕ → List ℕ
head urb payload =
    little_bytes 8 urb.number
    ++ (event_letter urb.event ∷ transfer_kind urb.transfer ∷ endpoint_of urb.transfer ∷ 5 ∷ [])
    ++ little_bytes 2 1 ++ (setup_flag urb ∷ data_flag urb payload ∷ [])

-- a time in seconds and microseconds
unfoldable pub moment : ℕ → List ℕ
moment time = little_bytes 8 (time / 1000000) ++ little_bytes 4 (time % 1000000)

-- when it was, its status, and its length
unfoldable pub state : Record → List ℕ
state urb = moment urb.time ++ little_bytes 4 (event_status urb.event) ++ little_bytes 4 urb.length

-- The words behind the setup packet: two of other kinds of transfer, the flags, and one more of other kinds.
unfoldable pub tail : Transfer → List ℕ
tail transfer = replicate 8 0 ++ little_bytes 4 (transfer_flags transfer) ++ replicate 4 0

-- the header of 64 bytes and the bytes that go with it, how many those are before the setup packet
unfoldable pub record_bytes : Record → List ℕ → List ℕ
record_bytes urb payload =
    head urb payload ++ state urb ++ little_bytes 4 (length payload) ++ setup_bytes (setup_of urb) ++ tail urb.transfer ++ payload

-- the packet of a record
unfoldable pub record_packet : Record → List ℕ → List ℕ → List ℕ
record_packet urb payload comment = packet urb.time (record_bytes urb payload) comment

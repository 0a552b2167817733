-- Packets byte by byte, as a guest and a disk send them. `any` is the status of a request, which nobody reads.
use Rattle.std.specs.Prelude.{◌≡◌, ℕ, List, [], ◌∷◌, ◌++◌, replicate, Ok}
use Rattle.byteorder.specs.Endian.{little_bytes}
use Rattle.usbredir.specs.declared.kinds.Status.TheVariants as status
use Rattle.usbredir.specs.declared.packets.DevicePacket.TheVariants as device
use Rattle.usbredir.specs.declared.packets.GuestPacket.{GuestPacket}
use Rattle.usbredir.specs.declared.packets.GuestPacket.TheVariants as guest
use Rattle.usbredir.specs.Device.{device_text}
use Rattle.usbredir.specs.Guest.{guest_in}
use Rattle.usbredir.specs.Hello.{hello_head, hello_text, our_hello}
use Rattle.usbredir.specs.Kinds.{hello_head_text}

-- the bytes of a kind, a length, and an id
abbrev pub front : ℕ → ℕ → ℕ → List ℕ
front kind following id = little_bytes 4 kind ++ little_bytes 4 following ++ little_bytes 8 id

-- the bytes of a head and fields are read as a packet
abbrev pub ReadsAs : ℕ → ℕ → ℕ → List ℕ → GuestPacket → Type 0
ReadsAs kind following id fields packet = guest_in (record { kind = kind; length = following; id = id }) fields ≡ Ok packet

-- OUR HELLO

abbrev pub RowHello : Type 0
RowHello =
    hello_head_text (hello_head our_hello) ++ hello_text our_hello
    ≡ (0 ∷ 0 ∷ 0 ∷ 0 ∷ 0x44 ∷ 0 ∷ 0 ∷ 0 ∷ 0 ∷ 0 ∷ 0 ∷ 0 ∷ [])
    ++ ((117 ∷ 97 ∷ 115 ∷ 100 ∷ 105 ∷ 115 ∷ 107 ∷ 32 ∷ 117 ∷ 115 ∷ 98 ∷ []) ++ (replicate 53 0 ++ (0x77 ∷ 0 ∷ 0 ∷ 0 ∷ [])))

-- STREAMS OF THREE PIPES

abbrev pub RowStreams : Type 0
RowStreams = (id : ℕ) → ReadsAs 0x12 8 id (4 ∷ 0 ∷ 6 ∷ 0 ∷ 0x80 ∷ 0 ∷ 0 ∷ 0 ∷ []) (guest.AllocBulkStreams 0x60004 128)

abbrev pub RowStreamsStatus : Type 0
RowStreamsStatus = (id : ℕ) →
    device_text id (device.BulkStreamsStatus 0x60004 128 status.Success) ≡ front 0x14 9 id ++ (4 ∷ 0 ∷ 6 ∷ 0 ∷ 0x80 ∷ 0 ∷ 0 ∷ 0 ∷ 0 ∷ [])

-- A COMMAND WITHOUT DATA: ITS STATUS TRANSFER, AND THE COMMAND OF 32 BYTES

abbrev pub RowStatusRequest : Type 0
RowStatusRequest = (id any : ℕ) →
    ReadsAs 0x65 0x0a id (0x81 ∷ any ∷ 0x70 ∷ 0 ∷ 1 ∷ 0 ∷ 0 ∷ 0 ∷ 0 ∷ 0 ∷ []) (guest.Bulk (record { endpoint = 0x81; length = 112; stream = 1 }))

abbrev pub RowCommand : Type 0
RowCommand = (id any : ℕ) →
    ReadsAs 0x65 0x2a id (1 ∷ any ∷ 0x20 ∷ 0 ∷ 0 ∷ 0 ∷ 0 ∷ 0 ∷ 0 ∷ 0 ∷ []) (guest.Bulk (record { endpoint = 1; length = 32; stream = 0 }))

abbrev pub RowCommandAnswer : Type 0
RowCommandAnswer = (id : ℕ) →
    device_text id (device.Bulk (record { endpoint = 1; status = status.Success; length = 32; stream = 0 }))
    ≡ front 0x65 0x0a id ++ (1 ∷ 0 ∷ 0x20 ∷ 0 ∷ 0 ∷ 0 ∷ 0 ∷ 0 ∷ 0 ∷ 0 ∷ [])

-- a unit of 16 bytes follows it
abbrev pub RowStatusAnswer : Type 0
RowStatusAnswer = (id : ℕ) →
    device_text id (device.Bulk (record { endpoint = 0x81; status = status.Success; length = 16; stream = 1 }))
    ≡ front 0x65 0x1a id ++ (0x81 ∷ 0 ∷ 0x10 ∷ 0 ∷ 1 ∷ 0 ∷ 0 ∷ 0 ∷ 0 ∷ 0 ∷ [])

-- DATA

abbrev pub RowRead : Type 0
RowRead = (id any : ℕ) →
    ReadsAs 0x65 0x0a id (0x82 ∷ any ∷ 0 ∷ 0x10 ∷ 1 ∷ 0 ∷ 0 ∷ 0 ∷ 0 ∷ 0 ∷ []) (guest.Bulk (record { endpoint = 0x82; length = 4096; stream = 1 }))

abbrev pub RowReadAnswer : Type 0
RowReadAnswer = (id : ℕ) →
    device_text id (device.Bulk (record { endpoint = 0x82; status = status.Success; length = 4096; stream = 1 }))
    ≡ front 0x65 0x100a id ++ (0x82 ∷ 0 ∷ 0 ∷ 0x10 ∷ 1 ∷ 0 ∷ 0 ∷ 0 ∷ 0 ∷ 0 ∷ [])

abbrev pub RowOut : Type 0
RowOut = (id any : ℕ) →
    ReadsAs 0x65 0x1000a id (2 ∷ any ∷ 0 ∷ 0 ∷ 1 ∷ 0 ∷ 0 ∷ 0 ∷ 1 ∷ 0 ∷ []) (guest.Bulk (record { endpoint = 2; length = 65536; stream = 1 }))

abbrev pub RowOutAnswer : Type 0
RowOutAnswer = (id : ℕ) →
    device_text id (device.Bulk (record { endpoint = 2; status = status.Success; length = 65536; stream = 1 }))
    ≡ front 0x65 0x0a id ++ (2 ∷ 0 ∷ 0 ∷ 0 ∷ 1 ∷ 0 ∷ 0 ∷ 0 ∷ 1 ∷ 0 ∷ [])

-- ENDS

abbrev pub RowStall : Type 0
RowStall = (id : ℕ) →
    device_text id (device.Bulk (record { endpoint = 0x82; status = status.Stall; length = 0; stream = 0 }))
    ≡ front 0x65 0x0a id ++ (0x82 ∷ 4 ∷ 0 ∷ 0 ∷ 0 ∷ 0 ∷ 0 ∷ 0 ∷ 0 ∷ 0 ∷ [])

abbrev pub RowCancel : Type 0
RowCancel = (id : ℕ) → ReadsAs 0x15 0 id [] guest.CancelDataPacket

abbrev pub RowCancelled : Type 0
RowCancelled = (id : ℕ) →
    device_text id (device.Bulk (record { endpoint = 0x81; status = status.Cancelled; length = 0; stream = 1 }))
    ≡ front 0x65 0x0a id ++ (0x81 ∷ 1 ∷ 0 ∷ 0 ∷ 1 ∷ 0 ∷ 0 ∷ 0 ∷ 0 ∷ 0 ∷ [])

-- ENDPOINTS: control, and bulk at 1, 2, 81h and 82h, the last three but 1 with 128 streams

abbrev pub RowEndpoints : Type 0
RowEndpoints = (id : ℕ) →
    device_text id (device.EndpointInfo (record {
      types = (0 ∷ 2 ∷ 2 ∷ []) ++ (replicate 13 255 ++ ((0 ∷ 2 ∷ 2 ∷ []) ++ replicate 13 255));
      intervals = replicate 32 0;
      interfaces = replicate 32 0;
      packet_sizes = (0 ∷ 1024 ∷ 1024 ∷ []) ++ (replicate 13 0 ++ ((0 ∷ 1024 ∷ 1024 ∷ []) ++ replicate 13 0));
      streams = (0 ∷ 0 ∷ 128 ∷ []) ++ (replicate 14 0 ++ ((128 ∷ 128 ∷ []) ++ replicate 13 0));
    }))
    ≡ front 5 0x120 id
    ++ ((0 ∷ 2 ∷ 2 ∷ []) ++ replicate 13 0xff ++ (0 ∷ 2 ∷ 2 ∷ []) ++ replicate 13 0xff ++ replicate 64 0
    ++ (0 ∷ 0 ∷ 0 ∷ 4 ∷ 0 ∷ 4 ∷ []) ++ replicate 26 0 ++ (0 ∷ 0 ∷ 0 ∷ 4 ∷ 0 ∷ 4 ∷ []) ++ replicate 26 0
    ++ replicate 8 0 ++ (0x80 ∷ 0 ∷ 0 ∷ 0 ∷ []) ++ replicate 56 0 ++ (0x80 ∷ 0 ∷ 0 ∷ 0 ∷ 0x80 ∷ 0 ∷ 0 ∷ 0 ∷ []) ++ replicate 52 0)

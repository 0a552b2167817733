-- Descriptors byte by byte.
use Rattle.std.specs.Prelude.{◌≡◌, ℕ, List, [], ◌∷◌, ◌++◌, take, Ok, Err}
use Rattle.usb_descriptors.specs.declared.Endpoint.{Endpoint}
use Rattle.usb_descriptors.specs.declared.UasFunction.{UasFunction}
use Rattle.usb_descriptors.specs.declared.DescriptorFault.TheVariants.{BadDescriptor, BadPipes, Hub, LongConfiguration, NoCompanion, NoStreams, NoUas}
use Rattle.usb_descriptors.specs.Device.{device_in}
use Rattle.usb_descriptors.specs.Endpoints.{context_index}
use Rattle.usb_descriptors.specs.Function.{uas_in}
use Rattle.usb_descriptors.specs.Streams.{streams_of}
use Rattle.usb_descriptors.specs.Totals.{bos_total_in, configuration_total_in}

abbrev pub endpoint : ℕ → ℕ → Endpoint
endpoint address max_streams = record { address = address; max_packet = 1024; burst = 15; max_streams = max_streams }

-- AN EMULATED DISK: pipes at 01h, 82h, 83h and 04h, with 16 streams each but commands; its name isn't looked at

abbrev pub emulated : ℕ → List ℕ
emulated name =
    9 ∷ 2 ∷ 86 ∷ 0 ∷ 1 ∷ 1 ∷ name ∷ 0xc0 ∷ 0 ∷ 9 ∷ 4 ∷ 0 ∷ 0 ∷ 4 ∷ 8 ∷ 6 ∷ 0x62 ∷ 0
    ∷ 7 ∷ 5 ∷ 0x01 ∷ 2 ∷ 0 ∷ 4 ∷ 0 ∷ 6 ∷ 0x30 ∷ 15 ∷ 0 ∷ 0 ∷ 0 ∷ 4 ∷ 0x24 ∷ 1 ∷ 0
    ∷ 7 ∷ 5 ∷ 0x82 ∷ 2 ∷ 0 ∷ 4 ∷ 0 ∷ 6 ∷ 0x30 ∷ 15 ∷ 4 ∷ 0 ∷ 0 ∷ 4 ∷ 0x24 ∷ 2 ∷ 0
    ∷ 7 ∷ 5 ∷ 0x83 ∷ 2 ∷ 0 ∷ 4 ∷ 0 ∷ 6 ∷ 0x30 ∷ 15 ∷ 4 ∷ 0 ∷ 0 ∷ 4 ∷ 0x24 ∷ 3 ∷ 0
    ∷ 7 ∷ 5 ∷ 0x04 ∷ 2 ∷ 0 ∷ 4 ∷ 0 ∷ 6 ∷ 0x30 ∷ 15 ∷ 4 ∷ 0 ∷ 0 ∷ 4 ∷ 0x24 ∷ 4 ∷ 0 ∷ []

abbrev pub emulated_function : UasFunction
emulated_function = record {
  configuration = 1;
  max_power = 0;
  interface = 0;
  alternate = 0;
  pipes = record { command = endpoint 0x01 0; status = endpoint 0x82 4; data_in = endpoint 0x83 4; data_out = endpoint 0x04 4 };
}

abbrev pub RowEmulated : Type 0
RowEmulated = (name : ℕ) → uas_in (emulated name) ≡ Ok emulated_function

-- its endpoint contexts, and the streams of 254 tags asked where the controller has arrays of at most 256 contexts: 15 tags, arrays of 16
abbrev pub RowContexts : Type 0
RowContexts =
    (context_index emulated_function.pipes.command ≡ 2) × (context_index emulated_function.pipes.status ≡ 5)
    × (context_index emulated_function.pipes.data_in ≡ 7) × (context_index emulated_function.pipes.data_out ≡ 8)

abbrev pub RowStreams : Type 0
RowStreams = streams_of 254 emulated_function.pipes 7 ≡ Ok (record { tags = 15; contexts = 16; max_primary_streams = 3 })

-- of a controller whose arrays have 2 contexts
abbrev pub RowNoStreams : Type 0
RowNoStreams = streams_of 254 emulated_function.pipes 0 ≡ Err NoStreams

-- the last byte is missing
abbrev pub RowShort : Type 0
RowShort = uas_in (take 85 (emulated 0)) ≡ Err BadDescriptor

-- A BRIDGE: Bulk-Only in setting 0, UAS in setting 1, usages before companions, and a descriptor of another type between them; 224 mA

abbrev pub bulk_only : List ℕ
bulk_only =
    9 ∷ 4 ∷ 0 ∷ 0 ∷ 2 ∷ 8 ∷ 6 ∷ 0x50 ∷ 0 ∷ 7 ∷ 5 ∷ 0x81 ∷ 2 ∷ 0 ∷ 4 ∷ 0 ∷ 6 ∷ 0x30 ∷ 15 ∷ 0 ∷ 0 ∷ 0
    ∷ 7 ∷ 5 ∷ 0x02 ∷ 2 ∷ 0 ∷ 4 ∷ 0 ∷ 6 ∷ 0x30 ∷ 15 ∷ 0 ∷ 0 ∷ 0 ∷ []

abbrev pub bridge : List ℕ
bridge =
    (9 ∷ 2 ∷ 124 ∷ 0 ∷ 1 ∷ 1 ∷ 0 ∷ 0x80 ∷ 28 ∷ []) ++ bulk_only ++ (9 ∷ 4 ∷ 0 ∷ 1 ∷ 4 ∷ 8 ∷ 6 ∷ 0x62 ∷ 0
    ∷ 7 ∷ 5 ∷ 0x81 ∷ 2 ∷ 0 ∷ 4 ∷ 0 ∷ 4 ∷ 0x24 ∷ 3 ∷ 0 ∷ 6 ∷ 0x30 ∷ 15 ∷ 5 ∷ 0 ∷ 0
    ∷ 7 ∷ 5 ∷ 0x02 ∷ 2 ∷ 0 ∷ 4 ∷ 0 ∷ 4 ∷ 0x24 ∷ 4 ∷ 0 ∷ 3 ∷ 0xff ∷ 7 ∷ 6 ∷ 0x30 ∷ 15 ∷ 5 ∷ 0 ∷ 0
    ∷ 7 ∷ 5 ∷ 0x83 ∷ 2 ∷ 0 ∷ 4 ∷ 0 ∷ 4 ∷ 0x24 ∷ 2 ∷ 0 ∷ 6 ∷ 0x30 ∷ 15 ∷ 5 ∷ 0 ∷ 0
    ∷ 7 ∷ 5 ∷ 0x04 ∷ 2 ∷ 0 ∷ 4 ∷ 0 ∷ 4 ∷ 0x24 ∷ 1 ∷ 0 ∷ 6 ∷ 0x30 ∷ 15 ∷ 0 ∷ 0 ∷ 0 ∷ [])

abbrev pub bridge_function : UasFunction
bridge_function = record {
  configuration = 1;
  max_power = 28;
  interface = 0;
  alternate = 1;
  pipes = record { command = endpoint 0x04 0; status = endpoint 0x83 5; data_in = endpoint 0x81 5; data_out = endpoint 0x02 5 };
}

abbrev pub RowBridge : Type 0
RowBridge = uas_in bridge ≡ Ok bridge_function

-- without its UAS setting
abbrev pub RowBulkOnly : Type 0
RowBulkOnly = uas_in ((9 ∷ 2 ∷ 44 ∷ 0 ∷ 1 ∷ 1 ∷ 0 ∷ 0x80 ∷ 28 ∷ []) ++ bulk_only) ≡ Err NoUas

-- REFUSED ENDPOINTS: of one pipe alone; without a companion; of one pipe twice

abbrev pub head : List ℕ
head = 9 ∷ 2 ∷ 0 ∷ 0 ∷ 1 ∷ 1 ∷ 0 ∷ 0xc0 ∷ 0 ∷ 9 ∷ 4 ∷ 0 ∷ 0 ∷ 4 ∷ 8 ∷ 6 ∷ 0x62 ∷ 0 ∷ []

abbrev pub RowOne : Type 0
RowOne = uas_in (head ++ (7 ∷ 5 ∷ 0x01 ∷ 2 ∷ 0 ∷ 4 ∷ 0 ∷ 6 ∷ 0x30 ∷ 15 ∷ 0 ∷ 0 ∷ 0 ∷ 4 ∷ 0x24 ∷ 1 ∷ 0 ∷ [])) ≡ Err BadPipes

abbrev pub RowNoCompanion : Type 0
RowNoCompanion = uas_in (head ++ (7 ∷ 5 ∷ 0x01 ∷ 2 ∷ 0 ∷ 4 ∷ 0 ∷ 4 ∷ 0x24 ∷ 1 ∷ 0 ∷ [])) ≡ Err NoCompanion

abbrev pub RowOtherSize : Type 0
RowOtherSize = uas_in (head ++ (7 ∷ 5 ∷ 0x01 ∷ 2 ∷ 0 ∷ 2 ∷ 0 ∷ 4 ∷ 0x24 ∷ 1 ∷ 0 ∷ [])) ≡ Err BadPipes

-- THE DEVICE DESCRIPTOR of an emulated disk, and of a hub; the totals that the first bytes of a configuration and of a BOS tell

abbrev pub RowDevice : Type 0
RowDevice =
    device_in (18 ∷ 1 ∷ 0 ∷ 3 ∷ 0 ∷ 0 ∷ 0 ∷ 9 ∷ 0xf4 ∷ 0x46 ∷ 3 ∷ 0 ∷ 0 ∷ 0 ∷ 1 ∷ 2 ∷ 3 ∷ 1 ∷ [])
    ≡ Ok (record {
      release = 0x0300;
      class = 0;
      subclass = 0;
      protocol = 0;
      max_packet_exponent = 9;
      vendor = 0x46f4;
      product = 0x0003;
      device = 0;
      manufacturer_string = 1;
      product_string = 2;
      serial_string = 3;
      configurations = 1;
    })

abbrev pub RowHub : Type 0
RowHub = device_in (18 ∷ 1 ∷ 0x10 ∷ 3 ∷ 9 ∷ 0 ∷ 3 ∷ 9 ∷ 0x09 ∷ 0x21 ∷ 0x12 ∷ 0x08 ∷ 0 ∷ 0 ∷ 1 ∷ 2 ∷ 0 ∷ 1 ∷ []) ≡ Err Hub

abbrev pub RowTotals : Type 0
RowTotals =
    (configuration_total_in (9 ∷ 2 ∷ 86 ∷ 0 ∷ 1 ∷ 1 ∷ 0 ∷ 0xc0 ∷ 0 ∷ []) ≡ Ok 86) × (bos_total_in (5 ∷ 0x0f ∷ 22 ∷ 0 ∷ 2 ∷ []) ≡ Ok 22)
    × (configuration_total_in (9 ∷ 2 ∷ 0x01 ∷ 0x10 ∷ 1 ∷ 1 ∷ 0 ∷ 0xc0 ∷ 0 ∷ []) ≡ Err LongConfiguration)

-- Rows 12 and 13: the requests to endpoint 0 (USB 3.2, 9.4), and what their answers lead to (9.6).
use Rattle.std.specs.Prelude.{ℕ, if◌then◌else◌, Bool, true, false, List, Some, Result, Ok, Err}
use Rattle.bring_up.specs.declared.why.Why.{Why}
use Rattle.bring_up.specs.declared.why.Why.TheVariants as why
use Rattle.host_trbs.specs.declared.transfers.SetupPacket.{SetupPacket}
use Rattle.usb_descriptors.specs.declared.DescriptorFault.{DescriptorFault}
use Rattle.usb_descriptors.specs.declared.DescriptorFault.TheVariants as fault
use Rattle.usb_descriptors.specs.declared.UasFunction.{UasFunction}
use Rattle.usb_descriptors.specs.declared.device.DeviceDescriptor.{DeviceDescriptor}
use Rattle.usb_descriptors.specs.declared.stream_tags.Streams.{Streams}
use Rattle.usb_descriptors.specs.Device.{device_in}
use Rattle.usb_descriptors.specs.Function.{uas_in}
use Rattle.usb_descriptors.specs.Streams.{streams_of}
use Rattle.usb_descriptors.specs.Totals.{bos_total_in, configuration_total_in}
use Rattle.disk_up.specs.declared.requests.Found.{Found}
use Rattle.disk_up.specs.declared.requests.Found.TheVariants.{Refused, Next}
use Rattle.disk_up.specs.declared.requests.Known.{Known}
use Rattle.disk_up.specs.declared.requests.Request.{Request}
use Rattle.disk_up.specs.declared.requests.Request.TheVariants.{Device, BosHead, Bos, ConfigurationHead, Configuration, SetConfiguration, SetInterface}
use Rattle.disk_up.specs.Bridges.{is_broken}

-- 9.4.3: GET_DESCRIPTOR, 6, of the type in the upper byte of wValue
abbrev pub get_descriptor : ℕ → ℕ → SetupPacket
get_descriptor value length = record { request_type = 0x80; request = 6; value = value; index = 0; length = length }

-- types 1 device, 2 configuration, 0Fh BOS; 9.4.7 SET_CONFIGURATION, 9; 9.4.10 SET_INTERFACE, 11
abbrev pub packet_of : Request → SetupPacket
packet_of Device = get_descriptor 0x0100 18
packet_of BosHead = get_descriptor 0x0f00 5
packet_of (Bos count) = get_descriptor 0x0f00 count
packet_of ConfigurationHead = get_descriptor 0x0200 9
packet_of (Configuration count) = get_descriptor 0x0200 count
packet_of (SetConfiguration value) = record { request_type = 0; request = 9; value = value; index = 0; length = 0 }
packet_of (SetInterface interface alternate) = record { request_type = 1; request = 11; value = alternate; index = interface; length = 0 }

-- a device may have no BOS
abbrev pub may_stall : Request → Bool
may_stall Device = false
may_stall BosHead = true
may_stall (Bos count) = true
may_stall ConfigurationHead = false
may_stall (Configuration count) = false
may_stall (SetConfiguration value) = false
may_stall (SetInterface interface alternate) = false

abbrev pub why_of : DescriptorFault → Why
why_of fault.BadDevice = why.BadDevice
why_of fault.Hub = why.Hub
why_of fault.LongConfiguration = why.LongConfiguration
why_of fault.BadDescriptor = why.BadDescriptor
why_of fault.NoUas = why.NoUas
why_of fault.BadPipes = why.BadPipes
why_of fault.NoCompanion = why.NoCompanion
why_of fault.NoStreams = why.NoStreams

-- the device descriptor, then the BOS
abbrev pub behind_device : Known → Result DeviceDescriptor DescriptorFault → Found
behind_device known (Err f) = Refused (why_of f)
behind_device known (Ok device) = Next (record { vendor = device.vendor; product = device.product; release = device.device; disk = known.disk }) BosHead

-- the whole BOS, where its head tells how long it is; then the configuration
abbrev pub behind_bos : Known → Result ℕ DescriptorFault → Found
behind_bos known (Err f) = Next known ConfigurationHead
behind_bos known (Ok total) = Next known (Bos total)

abbrev pub behind_head : Known → Result ℕ DescriptorFault → Found
behind_head known (Err f) = Refused (why_of f)
behind_head known (Ok total) = Next known (Configuration total)

-- the function and its tags; then SET_CONFIGURATION
abbrev pub behind_function : Known → UasFunction → Result Streams DescriptorFault → Found
behind_function known function (Err f) = Refused (why_of f)
behind_function known function (Ok streams) =
    Next (record known { disk = Some (record { 0 = function; 1 = streams }) }) (SetConfiguration function.configuration)

abbrev pub behind_configuration : Known → Result UasFunction DescriptorFault → ℕ → ℕ → Found
behind_configuration known (Err f) tags max_psa_size = Refused (why_of f)
behind_configuration known (Ok function) tags max_psa_size =
    if is_broken known function then Refused why.BrokenUas else behind_function known function (streams_of tags function.pipes max_psa_size)

abbrev pub read_answer : Known → Request → List ℕ → ℕ → ℕ → Found
read_answer known Device bytes tags max_psa_size = behind_device known (device_in bytes)
read_answer known BosHead bytes tags max_psa_size = behind_bos known (bos_total_in bytes)
read_answer known (Bos count) bytes tags max_psa_size = Next known ConfigurationHead
read_answer known ConfigurationHead bytes tags max_psa_size = behind_head known (configuration_total_in bytes)
read_answer known (Configuration count) bytes tags max_psa_size = behind_configuration known (uas_in bytes) tags max_psa_size
read_answer known (SetConfiguration value) bytes tags max_psa_size = Next known (SetConfiguration value)
read_answer known (SetInterface interface alternate) bytes tags max_psa_size = Next known (SetInterface interface alternate)

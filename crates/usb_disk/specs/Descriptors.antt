-- The descriptors of the disk (USB 3.2, 9.6; INCITS 471, pipe usage; USB MSC Bulk-Only Transport 1.0, 4.1). Numbers are little endian.
use Rattle.std.specs.Prelude.{ℕ, ◌==◌, if◌then◌else◌, List, [], ◌∷◌, ◌++◌, codes, Option, None, Some}
use Rattle.uas_profile.specs.declared.Pipe.{Pipe}
use Rattle.uas_profile.specs.declared.Pipe.TheVariants.{Command, Status, DataIn, DataOut}
use Rattle.usb_disk.specs.declared.Settings.{Settings}
use Rattle.usb_disk.specs.declared.Settings.TheVariants.{UasAlone, Both}
use Rattle.usb_disk.specs.declared.UsbStrings.{UsbStrings}
use Rattle.usb_disk.specs.Strings.{string_of}

-- 9.6.1: USB 3.0, each class is told by its interface, packets of 2^9 bytes on endpoint 0, 46f4:0003, strings 1 to 3, one configuration
abbrev pub device_descriptor : List ℕ
device_descriptor = 18 ∷ 1 ∷ 0 ∷ 3 ∷ 0 ∷ 0 ∷ 0 ∷ 9 ∷ 0xf4 ∷ 0x46 ∷ 3 ∷ 0 ∷ 0 ∷ 0 ∷ 1 ∷ 2 ∷ 3 ∷ 1 ∷ []

-- the address of a pipe's endpoint: bit 7 is set where bytes go to the host
abbrev pub address_of : Pipe → ℕ
address_of Command = 0x01
address_of DataOut = 0x02
address_of Status = 0x81
address_of DataIn = 0x82

-- the bulk endpoint of this address, with so many streams as a power of two (9.6.6, 9.6.7): 1,024 bytes a packet, bursts of 16 packets
abbrev pub endpoint_descriptors : ℕ → ℕ → List ℕ
endpoint_descriptors address streams = 7 ∷ 5 ∷ address ∷ 2 ∷ 0 ∷ 4 ∷ 0 ∷ 6 ∷ 0x30 ∷ 15 ∷ streams ∷ 0 ∷ 0 ∷ []

-- the pipe's number in its pipe usage descriptor
abbrev pub usage_of : Pipe → ℕ
usage_of Command = 1
usage_of Status = 2
usage_of DataIn = 3
usage_of DataOut = 4

-- how many streams the pipe has, as a power of two; none for commands
abbrev pub streams_of : Pipe → ℕ
streams_of Command = 0
streams_of Status = 7
streams_of DataIn = 7
streams_of DataOut = 7

-- a pipe's endpoint, and which pipe it is
abbrev pub pipe_descriptors : Pipe → List ℕ
pipe_descriptors pipe = endpoint_descriptors (address_of pipe) (streams_of pipe) ++ 4 ∷ 0x24 ∷ usage_of pipe ∷ 0 ∷ []

abbrev pub pipes_descriptors : List ℕ
pipes_descriptors = pipe_descriptors Command ++ pipe_descriptors Status ++ pipe_descriptors DataIn ++ pipe_descriptors DataOut

-- 9.6.3: so many bytes in all, one interface, configuration 1, self-powered
abbrev pub configuration_head : ℕ → List ℕ
configuration_head bytes = 9 ∷ 2 ∷ bytes ∷ 0 ∷ 1 ∷ 1 ∷ 0 ∷ 0xc0 ∷ 0 ∷ []

-- 9.6.5: an alternate setting with so many endpoints; mass storage (8), SCSI (6), and the transport: Bulk-Only (50h) or UAS (62h)
abbrev pub interface_descriptor : ℕ → ℕ → ℕ → List ℕ
interface_descriptor setting endpoints transport = 9 ∷ 4 ∷ 0 ∷ setting ∷ endpoints ∷ 8 ∷ 6 ∷ transport ∷ 0 ∷ []

-- Bulk-In and Bulk-Out, without streams
abbrev pub bulk_descriptors : List ℕ
bulk_descriptors = endpoint_descriptors (address_of DataIn) 0 ++ endpoint_descriptors (address_of DataOut) 0

abbrev pub configuration_descriptor : Settings → List ℕ
configuration_descriptor UasAlone = configuration_head 86 ++ interface_descriptor 0 4 0x62 ++ pipes_descriptors
configuration_descriptor (Both most_lun alternate) =
    configuration_head 121 ++ interface_descriptor 0 2 0x50 ++ bulk_descriptors ++ interface_descriptor 1 4 0x62 ++ pipes_descriptors

-- 9.6.2: 22 bytes in all, two capabilities: the USB 2.0 extension with link power management; SuperSpeed at 5 Gbit/s alone
abbrev pub bos_descriptor : List ℕ
bos_descriptor = 5 ∷ 15 ∷ 22 ∷ 0 ∷ 2 ∷ 7 ∷ 16 ∷ 2 ∷ 2 ∷ 0 ∷ 0 ∷ 0 ∷ 10 ∷ 16 ∷ 3 ∷ 0 ∷ 8 ∷ 0 ∷ 3 ∷ 0 ∷ 0 ∷ 0 ∷ []

-- 9.6.9: string 0 is the list of languages, which has English of the United States alone
abbrev pub language_descriptor : List ℕ
language_descriptor = 4 ∷ 3 ∷ 9 ∷ 4 ∷ []

-- the serial number; where there is Bulk-Only it has at least twelve digits (BOT 4.1.1)
abbrev pub serial_string : Settings → List ℕ → List ℕ
serial_string UasAlone serial = serial
serial_string (Both most_lun alternate) serial = codes "0000" ++ serial

-- the manufacturer is string 1, the product 2, the serial number 3
abbrev pub string_descriptor : Settings → UsbStrings → ℕ → Option (List ℕ)
string_descriptor settings strings index =
    if index == 0 then Some language_descriptor
    else (if index == 1 then Some (string_of strings.manufacturer)
    else (if index == 2 then Some (string_of strings.product)
    else (if index == 3 then Some (string_of (serial_string settings strings.serial))
    else None)))

-- the descriptors of which there is index 0 alone: device 1, configuration 2, BOS 15
abbrev pub single_descriptor : Settings → ℕ → Option (List ℕ)
single_descriptor settings kind =
    if kind == 1 then Some device_descriptor
    else (if kind == 2 then Some (configuration_descriptor settings)
    else (if kind == 15 then Some bos_descriptor
    else None))

-- the descriptor of a type (table 9-6) and an index; type 3 is strings
abbrev pub descriptor_of : Settings → UsbStrings → ℕ → ℕ → Option (List ℕ)
descriptor_of settings strings kind index =
    if kind == 3 then string_descriptor settings strings index
    else (if index == 0 then single_descriptor settings kind else None)

-- Exchanges with endpoint 0, byte by byte.
use Rattle.std.specs.Prelude.{◌≡◌, ℕ, List, [], ◌∷◌, ◌++◌, take}
use Rattle.usb_disk.specs.declared.Answer.{Answer}
use Rattle.usb_disk.specs.declared.Answer.TheVariants.{Data, Restarted, BulkReset, Stall}
use Rattle.usb_disk.specs.declared.UsbDisk.{UsbDisk}
use Rattle.usb_disk.specs.Answers.{both_disk, controlled, halted, reset_disk, reset_of}
use Rattle.usb_disk.specs.Requests.{setup_in}
use Rattle.uas_profile.specs.declared.Pipe.TheVariants.{Command, DataIn, DataOut}

-- what the eight bytes of a Setup packet are answered with, and the disk behind them
abbrev pub answer_to : UsbDisk → List ℕ → Answer
answer_to disk bytes = (controlled disk (setup_in bytes)).1

abbrev pub after : UsbDisk → List ℕ → UsbDisk
after disk bytes = (controlled disk (setup_in bytes)).0

abbrev pub told : List ℕ → Answer
told bytes = Data (record { items = bytes })

-- a disk of two logical units, the first with serial number 4,711
abbrev pub disk : UsbDisk
disk = both_disk 1 4711

-- BYTES OF DESCRIPTORS

abbrev pub device_bytes : List ℕ
device_bytes = 0x12 ∷ 0x01 ∷ 0x00 ∷ 0x03 ∷ 0x00 ∷ 0x00 ∷ 0x00 ∷ 0x09 ∷ 0xf4 ∷ 0x46 ∷ 0x03 ∷ 0x00 ∷ 0x00 ∷ 0x00 ∷ 0x01 ∷ 0x02 ∷ 0x03 ∷ 0x01 ∷ []

abbrev pub bos_bytes : List ℕ
bos_bytes =
    (0x05 ∷ 0x0f ∷ 0x16 ∷ 0x00 ∷ 0x02 ∷ []) ++ (0x07 ∷ 0x10 ∷ 0x02 ∷ 0x02 ∷ 0x00 ∷ 0x00 ∷ 0x00 ∷ [])
    ++ (0x0a ∷ 0x10 ∷ 0x03 ∷ 0x00 ∷ 0x08 ∷ 0x00 ∷ 0x03 ∷ 0x00 ∷ 0x00 ∷ 0x00 ∷ [])

-- an endpoint and its companion: the endpoint's address, its burst and how many streams it has as a power of two
abbrev pub endpoint_bytes : ℕ → ℕ → List ℕ
endpoint_bytes address streams = 0x07 ∷ 0x05 ∷ address ∷ 0x02 ∷ 0x00 ∷ 0x04 ∷ 0x00 ∷ 0x06 ∷ 0x30 ∷ 0x0f ∷ streams ∷ 0x00 ∷ 0x00 ∷ []

abbrev pub usage_bytes : ℕ → List ℕ
usage_bytes pipe = 0x04 ∷ 0x24 ∷ pipe ∷ 0x00 ∷ []

-- the four pipes of UAS, in the order of their descriptors
abbrev pub pipes_bytes : List ℕ
pipes_bytes =
    endpoint_bytes 0x01 0x00 ++ usage_bytes 1 ++ endpoint_bytes 0x81 0x07 ++ usage_bytes 2 ++ endpoint_bytes 0x82 0x07 ++ usage_bytes 3
    ++ endpoint_bytes 0x02 0x07 ++ usage_bytes 4

-- of a disk with both alternate settings, 121 bytes; and with UAS alone, 86
abbrev pub both_bytes : List ℕ
both_bytes =
    (0x09 ∷ 0x02 ∷ 0x79 ∷ 0x00 ∷ 0x01 ∷ 0x01 ∷ 0x00 ∷ 0xc0 ∷ 0x00 ∷ []) ++ (0x09 ∷ 0x04 ∷ 0x00 ∷ 0x00 ∷ 0x02 ∷ 0x08 ∷ 0x06 ∷ 0x50 ∷ 0x00 ∷ [])
    ++ endpoint_bytes 0x82 0x00 ++ endpoint_bytes 0x02 0x00
    ++ (0x09 ∷ 0x04 ∷ 0x00 ∷ 0x01 ∷ 0x04 ∷ 0x08 ∷ 0x06 ∷ 0x62 ∷ 0x00 ∷ []) ++ pipes_bytes

abbrev pub alone_bytes : List ℕ
alone_bytes =
    (0x09 ∷ 0x02 ∷ 0x56 ∷ 0x00 ∷ 0x01 ∷ 0x01 ∷ 0x00 ∷ 0xc0 ∷ 0x00 ∷ []) ++ (0x09 ∷ 0x04 ∷ 0x00 ∷ 0x00 ∷ 0x04 ∷ 0x08 ∷ 0x06 ∷ 0x62 ∷ 0x00 ∷ [])
    ++ pipes_bytes

-- the twelve digits 000000004711
abbrev pub serial_bytes : List ℕ
serial_bytes =
    0x1a ∷ 0x03 ∷ 0x30 ∷ 0 ∷ 0x30 ∷ 0 ∷ 0x30 ∷ 0 ∷ 0x30 ∷ 0 ∷ 0x30 ∷ 0 ∷ 0x30 ∷ 0 ∷ 0x30 ∷ 0 ∷ 0x30 ∷ 0 ∷ 0x34 ∷ 0 ∷ 0x37 ∷ 0 ∷ 0x31 ∷ 0 ∷ 0x31 ∷ 0 ∷ []

-- SETUP PACKETS

-- GET_DESCRIPTOR of a type and an index, with so many bytes at most
abbrev pub get_descriptor : ℕ → ℕ → ℕ → List ℕ
get_descriptor kind index most = 0x80 ∷ 0x06 ∷ index ∷ kind ∷ 0x00 ∷ 0x00 ∷ most ∷ 0x00 ∷ []

abbrev pub set_configuration : List ℕ
set_configuration = 0x00 ∷ 0x09 ∷ 0x01 ∷ 0x00 ∷ 0x00 ∷ 0x00 ∷ 0x00 ∷ 0x00 ∷ []

abbrev pub set_interface : ℕ → List ℕ
set_interface setting = 0x01 ∷ 0x0b ∷ setting ∷ 0x00 ∷ 0x00 ∷ 0x00 ∷ 0x00 ∷ 0x00 ∷ []

abbrev pub get_interface : List ℕ
get_interface = 0x81 ∷ 0x0a ∷ 0x00 ∷ 0x00 ∷ 0x00 ∷ 0x00 ∷ 0x01 ∷ 0x00 ∷ []

abbrev pub get_max_lun : List ℕ
get_max_lun = 0xa1 ∷ 0xfe ∷ 0x00 ∷ 0x00 ∷ 0x00 ∷ 0x00 ∷ 0x01 ∷ 0x00 ∷ []

abbrev pub bulk_reset : List ℕ
bulk_reset = 0x21 ∷ 0xff ∷ 0x00 ∷ 0x00 ∷ 0x00 ∷ 0x00 ∷ 0x00 ∷ 0x00 ∷ []

-- of the endpoint with this address: CLEAR_FEATURE and SET_FEATURE of ENDPOINT_HALT, and GET_STATUS
abbrev pub clear_halt : ℕ → List ℕ
clear_halt address = 0x02 ∷ 0x01 ∷ 0x00 ∷ 0x00 ∷ address ∷ 0x00 ∷ 0x00 ∷ 0x00 ∷ []

abbrev pub set_halt : ℕ → List ℕ
set_halt address = 0x02 ∷ 0x03 ∷ 0x00 ∷ 0x00 ∷ address ∷ 0x00 ∷ 0x00 ∷ 0x00 ∷ []

abbrev pub get_status : ℕ → List ℕ
get_status address = 0x82 ∷ 0x00 ∷ 0x00 ∷ 0x00 ∷ address ∷ 0x00 ∷ 0x02 ∷ 0x00 ∷ []

-- ROWS

-- the configured disk in alternate setting 0, and in 1
abbrev pub in_bulk_only : UsbDisk
in_bulk_only = after disk set_configuration

abbrev pub in_uas : UsbDisk
in_uas = after in_bulk_only (set_interface 1)

abbrev pub RowDescriptors : Type 0
RowDescriptors =
    (answer_to disk (get_descriptor 1 0 18) ≡ told device_bytes) × (answer_to disk (get_descriptor 1 0 8) ≡ told (take 8 device_bytes))
    × (answer_to disk (get_descriptor 15 0 22) ≡ told bos_bytes) × (answer_to disk (get_descriptor 2 0 9) ≡ told (take 9 both_bytes))
    × (answer_to disk (get_descriptor 2 0 121) ≡ told both_bytes) × (answer_to disk (get_descriptor 3 3 255) ≡ told serial_bytes)

-- the same bytes in either setting
abbrev pub RowInSettings : Type 0
RowInSettings =
    (answer_to in_bulk_only (get_descriptor 2 0 121) ≡ told both_bytes) × (answer_to in_uas (get_descriptor 2 0 121) ≡ told both_bytes)

-- with UAS alone; its string 3 is `0001`
abbrev pub RowAlone : Type 0
RowAlone =
    (answer_to reset_disk (get_descriptor 2 0 86) ≡ told alone_bytes)
    × (answer_to reset_disk (get_descriptor 3 3 255) ≡ told (0x0a ∷ 0x03 ∷ 0x30 ∷ 0 ∷ 0x30 ∷ 0 ∷ 0x30 ∷ 0 ∷ 0x31 ∷ 0 ∷ []))
    × (answer_to (after reset_disk set_configuration) get_max_lun ≡ Stall)
    × (answer_to (after reset_disk set_configuration) (set_interface 1) ≡ Stall)

-- SET_CONFIGURATION leads to setting 0, SET_INTERFACE to either, a reset to the start
abbrev pub RowSettings : Type 0
RowSettings =
    (answer_to disk set_configuration ≡ Restarted) × (answer_to in_bulk_only get_interface ≡ told (0 ∷ []))
    × (answer_to in_bulk_only (set_interface 1) ≡ Restarted) × (answer_to in_uas get_interface ≡ told (1 ∷ []))
    × (answer_to in_uas (set_interface 2) ≡ Stall) × (after in_uas (set_interface 0) ≡ in_bulk_only)
    × (after in_uas set_configuration ≡ in_bulk_only) × (reset_of in_uas.settings in_uas.strings ≡ disk)

-- the class's requests, in setting 0 alone; the reset leaves halts
abbrev pub RowClass : Type 0
RowClass =
    (answer_to in_bulk_only get_max_lun ≡ told (1 ∷ [])) × (answer_to in_bulk_only bulk_reset ≡ BulkReset)
    × (after (halted in_bulk_only DataIn) bulk_reset ≡ halted in_bulk_only DataIn)
    × (answer_to in_uas get_max_lun ≡ Stall) × (answer_to in_uas bulk_reset ≡ Stall)

-- halts of the current setting's endpoints: a halt is told, cleared by CLEAR_FEATURE, and gone where a setting is chosen
abbrev pub RowHalts : Type 0
RowHalts =
    (answer_to (halted in_bulk_only DataIn) (get_status 0x82) ≡ told (1 ∷ 0 ∷ [])) × (after (halted in_bulk_only DataIn) (clear_halt 0x82) ≡ in_bulk_only)
    × (after in_bulk_only (set_halt 0x02) ≡ halted in_bulk_only DataOut) × (answer_to in_bulk_only (get_status 0x01) ≡ Stall)
    × (answer_to in_bulk_only (clear_halt 0x81) ≡ Stall) × (answer_to in_bulk_only (get_status 0x80) ≡ told (0 ∷ 0 ∷ []))
    × (after in_uas (set_halt 0x01) ≡ halted in_uas Command) × (after (halted in_uas Command) (set_interface 1) ≡ in_uas)

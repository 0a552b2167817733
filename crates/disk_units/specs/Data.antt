-- The bytes of the data that tell of a logical unit (SPC, SBC). Byte 0 is 7Fh where it isn't there.
use Rattle.std.specs.Prelude.{ℕ, ◌+◌, ◌*◌, ◌^◌, Bool, true, false, List, [], ◌∷◌, ◌++◌, length, Option, Some, None}
use Rattle.scsi_cmd.specs.Data.{peripheral_byte}
use Rattle.scsi_cmd.specs.Fields.{two_bytes, four_bytes, eight_bytes, zeros}
use Rattle.disk_units.specs.declared.designators.Eui.{Eui}
use Rattle.disk_units.specs.declared.designators.Naa.{Naa}
use Rattle.disk_units.specs.declared.designators.Uuid.{Uuid}
use Rattle.disk_units.specs.declared.names.UnitNames.{UnitNames}
use Rattle.disk_units.specs.declared.pages.BlockLimits.{BlockLimits}
use Rattle.disk_units.specs.declared.pages.DiskData.{DiskData}
use Rattle.disk_units.specs.declared.pages.DiskData.TheVariants.{Inquiry, Page, LongCapacity}
use Rattle.disk_units.specs.declared.pages.DiskPage.{DiskPage}
use Rattle.disk_units.specs.declared.pages.DiskPage.TheVariants.{SupportedPages, UnitSerialNumber, DeviceIdentification, ExtendedInquiry}
use Rattle.disk_units.specs.declared.pages.DiskPage.TheVariants.{BlockLimits as LimitsPage, Characteristics, Provisioning}
use Rattle.disk_units.specs.declared.pages.Identification.{Identification}
use Rattle.disk_units.specs.declared.pages.UnitSerial.{UnitSerial}
use Rattle.disk_units.specs.declared.pages.UnitSerial.TheVariants.{Number, Text}
use Rattle.disk_units.specs.declared.pages.UnmapLimits.{UnmapLimits}
use Rattle.disk_units.specs.declared.unit.FormFactor.{FormFactor}
use Rattle.disk_units.specs.Designators.{eui_name, naa_name}
use Rattle.disk_units.specs.Digits.{eight_digits}
use Rattle.disk_units.specs.Names.{serial_text}
use Rattle.disk_units.specs.Units.{form_code}

-- a bit that is set, or isn't
abbrev pub bit_if : Bool → ℕ → ℕ
bit_if true bit = bit
bit_if false bit = 0

-- STANDARD INQUIRY DATA: 8 bytes of header (RMB is bit 7 of byte 1, and 91 bytes follow byte 4), names, and from byte 58 on what is kept:
-- SAM-5, UAS, SPC-4 and SBC-3, by their version descriptors
abbrev pub versions : List ℕ
versions = 0x00 ∷ 0xa0 ∷ 0x17 ∷ 0x40 ∷ 0x04 ∷ 0x60 ∷ 0x04 ∷ 0xc0 ∷ []

unfoldable pub inquiry_data : Bool → Bool → UnitNames → List ℕ
inquiry_data present removable names =
    (peripheral_byte present ∷ bit_if removable 0x80 ∷ 6 ∷ 2 ∷ 0x5b ∷ 0 ∷ 0 ∷ 2 ∷ [])
    ++ names.vendor ++ names.product ++ names.revision ++ zeros 22 ++ versions ++ zeros 30

-- DEVICE IDENTIFICATION: designators, each with its code set and type, and its length in byte 3

abbrev pub serial_bytes : UnitSerial → List ℕ
serial_bytes (Number number) = eight_digits number
serial_bytes (Text text) = serial_text text

-- of ASCII characters, T10 vendor ID based: vendor, product and serial number, 24 bytes and these
abbrev pub vendor_designator : UnitNames → UnitSerial → List ℕ
vendor_designator names serial =
    (0x02 ∷ 0x01 ∷ 0 ∷ (24 + length (serial_bytes serial)) ∷ []) ++ names.vendor ++ names.product ++ serial_bytes serial

-- of a number without another name: NAA, locally assigned, 3 in four bits and the number in sixty
abbrev pub number_designator : Option Naa → Option Eui → Option Uuid → UnitSerial → List ℕ
number_designator None None None (Number number) = (0x01 ∷ 0x03 ∷ 0 ∷ 0x08 ∷ []) ++ eight_bytes (3 * 2 ^ 60 + number)
number_designator naa eui uuid serial = []

-- NAA
abbrev pub naa_designator : Option Naa → List ℕ
naa_designator None = []
naa_designator (Some naa) = (0x01 ∷ 0x03 ∷ 0 ∷ length (naa_name naa) ∷ []) ++ naa_name naa

-- EUI-64 based
abbrev pub eui_designator : Option Eui → List ℕ
eui_designator None = []
eui_designator (Some eui) = (0x01 ∷ 0x02 ∷ 0 ∷ length (eui_name eui) ∷ []) ++ eui_name eui

-- UUID: 10h and 0 before it
abbrev pub uuid_designator : Option Uuid → List ℕ
uuid_designator None = []
uuid_designator (Some uuid) = (0x01 ∷ 0x0a ∷ 0 ∷ 0x12 ∷ 0x10 ∷ 0 ∷ []) ++ uuid.bytes

unfoldable pub designators : Identification → List ℕ
designators told =
    vendor_designator told.names told.serial ++ number_designator told.naa told.eui told.uuid told.serial
    ++ naa_designator told.naa ++ eui_designator told.eui ++ uuid_designator told.uuid

-- BLOCK LIMITS

-- from byte 20 on: the most blocks and descriptors of UNMAP, its granularity, and that this is so (UGAVALID, bit 31)
abbrev pub unmap_limits : Option UnmapLimits → List ℕ
unmap_limits None = zeros 16
unmap_limits (Some limits) = four_bytes limits.blocks ++ four_bytes limits.descriptors ++ four_bytes limits.granularity ++ four_bytes 0x80000000

-- WSNZ and the most of COMPARE AND WRITE from byte 4 on, granularity, most and best of a transfer, no limit of PRE-FETCH, UNMAP, and from byte 36
-- on the most of WRITE SAME
unfoldable pub limits_bytes : BlockLimits → List ℕ
limits_bytes limits =
    (bit_if limits.no_zero 1 ∷ limits.compared ∷ []) ++ two_bytes limits.granularity ++ four_bytes limits.maximum ++ four_bytes limits.maximum
    ++ zeros 4 ++ unmap_limits limits.unmapped ++ eight_bytes limits.same ++ zeros 20

-- LOGICAL BLOCK PROVISIONING: LBPU, LBPWS, LBPWS10 and LBPRZ 001b in byte 5, thin in byte 6
abbrev pub provisioning : Bool → List ℕ
provisioning true = 0 ∷ 0xe4 ∷ 0x02 ∷ 0 ∷ []
provisioning false = zeros 4

-- PAGES: peripheral byte, page code, and the length of what follows
abbrev pub page_of_code : Bool → ℕ → List ℕ → List ℕ
page_of_code present code follows = (peripheral_byte present ∷ code ∷ 0 ∷ length follows ∷ []) ++ follows

-- Page 86h: SIMPSUP in byte 5, and V_SUP, a cache that is lost without power, in byte 6. Worked: B1h of 7,200 rounds and 3.5 inches is
-- 00 b1 00 3c 1c 20 00 02 and 56 zeros.
unfoldable pub disk_page_bytes : DiskPage → Bool → List ℕ
disk_page_bytes SupportedPages present = page_of_code present 0x00 (0x00 ∷ 0x80 ∷ 0x83 ∷ 0x86 ∷ 0xb0 ∷ 0xb1 ∷ 0xb2 ∷ [])
disk_page_bytes (UnitSerialNumber serial) present = page_of_code present 0x80 (serial_bytes serial)
disk_page_bytes (DeviceIdentification told) present = page_of_code present 0x83 (designators told)
disk_page_bytes ExtendedInquiry present = page_of_code present 0x86 ((0 ∷ 0x01 ∷ 0x01 ∷ 0 ∷ []) ++ zeros 56)
disk_page_bytes (LimitsPage limits) present = page_of_code present 0xb0 (limits_bytes limits)
disk_page_bytes (Characteristics rotation form) present = page_of_code present 0xb1 (two_bytes rotation ++ (0 ∷ form_code form ∷ []) ++ zeros 56)
disk_page_bytes (Provisioning thin) present = page_of_code present 0xb2 (provisioning thin)

-- READ CAPACITY(16): the last block, the bytes of a block, no protection, the exponent of the medium's blocks, LBPME and LBPRZ (C0h)
unfoldable pub long_capacity_data : ℕ → ℕ → ℕ → Bool → List ℕ
long_capacity_data last_block block_bytes exponent thin =
    eight_bytes last_block ++ four_bytes block_bytes ++ (0 ∷ exponent ∷ bit_if thin 0xc0 ∷ 0 ∷ []) ++ zeros 16

abbrev pub disk_bytes : DiskData → List ℕ
disk_bytes (Inquiry present removable names) = inquiry_data present removable names
disk_bytes (Page page present) = disk_page_bytes page present
disk_bytes (LongCapacity last_block block_bytes exponent thin) = long_capacity_data last_block block_bytes exponent thin

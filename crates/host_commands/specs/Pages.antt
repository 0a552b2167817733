-- Vital product data (SPC, SBC). Byte 0 is 7Fh where no logical unit is, in each page.
use Rattle.std.specs.Prelude.{ℕ, ◌+◌, ◌*◌, ◌^◌, ◌==◌, Bool, if◌then◌else◌, List, [], ◌∷◌, ◌++◌, Option, Some, None}
use Rattle.scsi_cmd.specs.Data.{peripheral_byte}
use Rattle.scsi_cmd.specs.Fields.{four_bytes, eight_bytes, zeros}
use Rattle.host_commands.specs.declared.VitalPage.{VitalPage}
use Rattle.host_commands.specs.declared.VitalPage.TheVariants.{SupportedPages, UnitSerialNumber, DeviceIdentification, BlockLimits}
use Rattle.host_commands.specs.declared.VitalPage.TheVariants.{BlockDeviceCharacteristics, LogicalBlockProvisioning}
use Rattle.disk_units.specs.declared.names.UnitNames.{UnitNames}
use Rattle.disk_units.specs.Digits.{eight_digits}

-- the page of a page code, for a logical unit of this serial number and names, and reads and writes of at most so many blocks
abbrev pub page_of : ℕ → ℕ → UnitNames → ℕ → Option VitalPage
page_of code serial names maximum =
    if code == 0x00 then Some SupportedPages
    else (if code == 0x80 then Some (UnitSerialNumber serial)
    else (if code == 0x83 then Some (DeviceIdentification serial names)
    else (if code == 0xb0 then Some (BlockLimits maximum)
    else (if code == 0xb1 then Some BlockDeviceCharacteristics
    else (if code == 0xb2 then Some LogicalBlockProvisioning
    else None)))))

-- peripheral byte, page code, and the length of what follows
abbrev pub page_header : Bool → ℕ → ℕ → List ℕ
page_header present code size = peripheral_byte present ∷ code ∷ 0 ∷ size ∷ []

-- a designator of ASCII characters, T10 vendor ID based, for the logical unit: 02 01 00 20, vendor, product, serial number
abbrev pub vendor_designator : ℕ → UnitNames → List ℕ
vendor_designator serial names = (0x02 ∷ 0x01 ∷ 0 ∷ 0x20 ∷ []) ++ names.vendor ++ names.product ++ eight_digits serial

-- a binary NAA designator of eight bytes, locally assigned: 01 03 00 08, then 3 in four bits and the serial number in sixty
abbrev pub name_designator : ℕ → List ℕ
name_designator serial = (0x01 ∷ 0x03 ∷ 0 ∷ 0x08 ∷ []) ++ eight_bytes (3 * 2 ^ 60 + serial)

-- The bytes of a page. Worked: B0h of at most 128 blocks is 00 b0 00 3c 00 00 00 08 00 00 00 80 00 00 00 80 and 48 zeros; 80h of
-- serial number 12 is 00 80 00 08 30 30 30 30 30 30 31 32.
unfoldable pub page_bytes : VitalPage → Bool → List ℕ
page_bytes SupportedPages present = page_header present 0x00 6 ++ (0x00 ∷ 0x80 ∷ 0x83 ∷ 0xb0 ∷ 0xb1 ∷ 0xb2 ∷ [])
page_bytes (UnitSerialNumber serial) present = page_header present 0x80 8 ++ eight_digits serial
page_bytes (DeviceIdentification serial names) present =
    page_header present 0x83 0x30 ++ vendor_designator serial names ++ name_designator serial
-- optimal transfer length granularity 8 in byte 7; maximum and optimal transfer length
page_bytes (BlockLimits maximum) present =
    page_header present 0xb0 0x3c ++ (0 ∷ 0 ∷ 0 ∷ 8 ∷ []) ++ four_bytes maximum ++ four_bytes maximum ++ zeros 48
-- medium rotation rate 0001h: it doesn't turn
page_bytes BlockDeviceCharacteristics present = page_header present 0xb1 0x3c ++ (0 ∷ 1 ∷ []) ++ zeros 58
page_bytes LogicalBlockProvisioning present = page_header present 0xb2 4 ++ zeros 4

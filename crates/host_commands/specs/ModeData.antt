-- Mode data (SPC, MODE SENSE; SBC, caching page).
use Rattle.std.specs.Prelude.{ℕ, ◌+◌, ◌==◌, Bool, true, false, ◌&&◌, ◌||◌, if◌then◌else◌, List, [], ◌∷◌, ◌++◌, length, Option, Some, None}
use Rattle.scsi_cmd.specs.Fields.{two_bytes, zeros}
use Rattle.host_commands.specs.declared.BlockDescriptor.{BlockDescriptor}
use Rattle.host_commands.specs.declared.ModeData.{ModeData}
use Rattle.host_commands.specs.declared.ModeForm.{ModeForm}
use Rattle.host_commands.specs.declared.ModeForm.TheVariants.{Six, Ten}
use Rattle.host_commands.specs.declared.ModePages.{ModePages}
use Rattle.host_commands.specs.declared.ModePages.TheVariants.{Caching, Control, All}
use Rattle.host_commands.specs.Fields.{four_bytes_at_most}
use Rattle.host_commands.specs.Shapes.{block_bytes}

-- the pages of a page code and a subpage code: 08h and 0Ah with subpage 00h, and all with 00h or FFh
abbrev pub pages_of : ℕ → ℕ → Option ModePages
pages_of page subpage =
    if page == 0x08 && subpage == 0 then Some Caching
    else (if page == 0x0a && subpage == 0 then Some Control
    else (if page == 0x3f && (subpage == 0 || subpage == 0xff) then Some All
    else None))

-- a bit that is set in the values in effect and can't be changed
abbrev pub in_effect : Bool → ℕ → ℕ
in_effect true bits = 0
in_effect false bits = bits

-- 08h: whether writes are cached (WCE, bit 2 of byte 2)
abbrev pub write_cache : Bool → ℕ
write_cache false = 0
write_cache true = 4

abbrev pub caching_page : Bool → Bool → List ℕ
caching_page changeable cached = (0x08 ∷ 0x12 ∷ in_effect changeable (write_cache cached) ∷ []) ++ zeros 17

-- 0Ah: no log parameter is saved by itself (GLTSD, bit 1 of byte 2), and commands may be reordered (1 in bits 7 to 4 of byte 3)
abbrev pub control_page : Bool → List ℕ
control_page changeable = (0x0a ∷ 0x0a ∷ in_effect changeable 2 ∷ in_effect changeable 0x10 ∷ []) ++ zeros 8

abbrev pub mode_pages : ModePages → Bool → Bool → List ℕ
mode_pages Caching changeable cached = caching_page changeable cached
mode_pages Control changeable cached = control_page changeable
mode_pages All changeable cached = caching_page changeable cached ++ control_page changeable

-- the number of blocks in four bytes, 0, the bytes of a block in three
abbrev pub descriptor_bytes : Option BlockDescriptor → List ℕ
descriptor_bytes None = []
descriptor_bytes (Some descriptor) =
    four_bytes_at_most descriptor.blocks ++ (0 ∷ 0 ∷ []) ++ two_bytes (block_bytes descriptor.block_length)

-- the device-specific parameter of a disk: DPO and FUA are there (DPOFUA, 10h), and whether it is read only (WP, 80h)
abbrev pub device_parameter : Bool → ℕ
device_parameter false = 0x10
device_parameter true = 0x90

-- the bytes that follow the length, medium type 0, the device-specific parameter, the bytes of the descriptors
abbrev pub mode_header : ModeForm → Bool → ℕ → ℕ → List ℕ
mode_header Six read_only descriptors rest = (3 + rest) ∷ 0 ∷ device_parameter read_only ∷ descriptors ∷ []
mode_header Ten read_only descriptors rest =
    two_bytes (6 + rest) ++ (0 ∷ device_parameter read_only ∷ 0 ∷ 0 ∷ []) ++ two_bytes descriptors

-- Header, block descriptor, pages. Worked: page 08h of 100 blocks of 512 bytes in the form of 6 is
-- 1f 00 10 08 00 00 00 64 00 00 02 00 08 12 04 and 17 zeros, and 90 for 10 where that is read only; all pages without a descriptor in that of 10 are
-- 00 26 00 10 00 00 00 00 08 12 04, 17 zeros, 0a 0a 02 10 and eight zeros.
unfoldable pub mode_bytes : ModeData → List ℕ
mode_bytes mode =
    mode_header mode.form mode.read_only (length (descriptor_bytes mode.descriptor))
    (length (descriptor_bytes mode.descriptor) + length (mode_pages mode.pages mode.changeable mode.writes_cached))
    ++ descriptor_bytes mode.descriptor ++ mode_pages mode.pages mode.changeable mode.writes_cached

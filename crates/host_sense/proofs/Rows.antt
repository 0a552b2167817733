-- Worked rows: what the definitions give, byte by byte.
use Rattle.std.proofs.Common.{◌≡◌, ℕ, [], ◌∷◌, ◌++◌, None, Some, refl}
use Rattle.scsi_cmd.specs.Fields.{zeros}
use Rattle.host_sense.specs.declared.Detail.TheVariants.{Nothing, Information, Field}
use Rattle.host_sense.specs.declared.FieldPlace.TheVariants.{Cdb, Parameters}
use Rattle.host_sense.specs.declared.SenseData.{SenseData}
use Rattle.host_sense.specs.declared.SenseFormat.TheVariants.{Fixed, Descriptor}
use Rattle.host_sense.specs.Formats.{pointer_bytes, sense_data_bytes}

-- 5/24/00: ANCHOR of WRITE SAME(16), bit 4 of byte 1
anchor : SenseData
anchor = record { sense = record { key = 5; asc = 0x24; ascq = 0 }; detail = Field (record { place = Cdb; byte = 1; bit = Some 4 }) }

anchor_fixed : sense_data_bytes anchor Fixed
    ≡ 0x70 ∷ 0 ∷ 5 ∷ 0 ∷ 0 ∷ 0 ∷ 0 ∷ 0x0a ∷ 0 ∷ 0 ∷ 0 ∷ 0 ∷ 0x24 ∷ 0 ∷ 0 ∷ 0xcc ∷ 0 ∷ 1 ∷ []
unfolding anchor
anchor_fixed = refl

anchor_descriptor : sense_data_bytes anchor Descriptor
    ≡ 0x72 ∷ 5 ∷ 0x24 ∷ 0 ∷ 0 ∷ 0 ∷ 0 ∷ 8 ∷ 2 ∷ 6 ∷ 0 ∷ 0 ∷ 0xcc ∷ 0 ∷ 1 ∷ 0 ∷ []
unfolding anchor
anchor_descriptor = refl

-- its count of 0, bytes 10 to 13; and bit 0 of byte 6 of the parameters of MODE SELECT
count : pointer_bytes (record { place = Cdb; byte = 10; bit = None }) ≡ 0xc0 ∷ 0 ∷ 0x0a ∷ []
count = refl

parameter : pointer_bytes (record { place = Parameters; byte = 6; bit = Some 0 }) ≡ 0x88 ∷ 0 ∷ 6 ∷ []
parameter = refl

-- E/1D/00: byte 515 differs
differs : sense_data_bytes (record { sense = record { key = 0x0e; asc = 0x1d; ascq = 0 }; detail = Information 515 }) Fixed
    ≡ 0xf0 ∷ 0 ∷ 0x0e ∷ 0 ∷ 0 ∷ 2 ∷ 3 ∷ 0x0a ∷ 0 ∷ 0 ∷ 0 ∷ 0 ∷ 0x1d ∷ 0 ∷ 0 ∷ 0 ∷ 0 ∷ 0 ∷ []
differs = refl

-- 3/11/00: block 12 is bad
bad : SenseData
bad = record { sense = record { key = 3; asc = 0x11; ascq = 0 }; detail = Information 12 }

bad_fixed : sense_data_bytes bad Fixed
    ≡ 0xf0 ∷ 0 ∷ 3 ∷ 0 ∷ 0 ∷ 0 ∷ 0x0c ∷ 0x0a ∷ 0 ∷ 0 ∷ 0 ∷ 0 ∷ 0x11 ∷ 0 ∷ 0 ∷ 0 ∷ 0 ∷ 0 ∷ []
unfolding bad
bad_fixed = refl

bad_descriptor : sense_data_bytes bad Descriptor
    ≡ 0x72 ∷ 3 ∷ 0x11 ∷ 0 ∷ 0 ∷ 0 ∷ 0 ∷ 0x0c ∷ 0 ∷ 0x0a ∷ 0x80 ∷ 0 ∷ 0 ∷ 0 ∷ 0 ∷ 0 ∷ 0 ∷ 0 ∷ 0 ∷ 0x0c ∷ []
unfolding bad
bad_descriptor = refl

-- a block from 2^32 on doesn't fit the fixed format
far : sense_data_bytes (record { sense = record { key = 3; asc = 0x11; ascq = 0 }; detail = Information 4294967296 }) Fixed
    ≡ 0x70 ∷ 0 ∷ 3 ∷ 0 ∷ 0 ∷ 0 ∷ 0 ∷ 0x0a ∷ 0 ∷ 0 ∷ 0 ∷ 0 ∷ 0x11 ∷ 0 ∷ 0 ∷ 0 ∷ 0 ∷ 0 ∷ []
far = refl

-- 6/2A/09, a new size, has none
changed : sense_data_bytes (record { sense = record { key = 6; asc = 0x2a; ascq = 9 }; detail = Nothing }) Fixed
    ≡ (0x70 ∷ 0 ∷ 6 ∷ 0 ∷ 0 ∷ 0 ∷ 0 ∷ 0x0a ∷ 0 ∷ 0 ∷ 0 ∷ 0 ∷ 0x2a ∷ 9 ∷ []) ++ zeros 4
changed = refl

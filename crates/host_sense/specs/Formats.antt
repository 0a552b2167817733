-- The bytes of sense data (SPC, fixed and descriptor format sense data).
use Rattle.std.specs.Prelude.{ℕ, ◌+◌, ◌%◌, ◌^◌, nat_lt, true, false, if◌then◌else◌, List, [], ◌∷◌, ◌++◌, Option, None, Some}
use Rattle.scsi_cmd.specs.Fields.{eight_bytes, four_bytes, two_bytes, zeros}
use Rattle.host_sense.specs.declared.Detail.{Detail}
use Rattle.host_sense.specs.declared.Detail.TheVariants.{Nothing, Information, Field}
use Rattle.host_sense.specs.declared.FieldPlace.{FieldPlace}
use Rattle.host_sense.specs.declared.FieldPlace.TheVariants.{Cdb, Parameters}
use Rattle.host_sense.specs.declared.FieldPointer.{FieldPointer}
use Rattle.host_sense.specs.declared.SenseData.{SenseData}
use Rattle.host_sense.specs.declared.SenseFormat.{SenseFormat}
use Rattle.host_sense.specs.declared.SenseFormat.TheVariants.{Fixed, Descriptor}

-- FIELD POINTER, three bytes: SKSV 80h, C/D 40h where the field is in the CDB, BPV 08h with the number of its highest bit where it is less than
-- a byte; then the byte in which it begins. Worked: bit 4 of byte 1 of a CDB is cc 00 01, its bytes from 10 on are c0 00 0a, and bit 0 of byte 6
-- of parameters is 88 00 06.
abbrev pub place_flag : FieldPlace → ℕ
place_flag Cdb = 0x40
place_flag Parameters = 0

abbrev pub bit_flags : Option ℕ → ℕ
bit_flags None = 0
bit_flags (Some bit) = 0x08 + bit % 8

abbrev pub pointer_flags : FieldPointer → ℕ
pointer_flags field = 0x80 + place_flag field.place + bit_flags field.bit

abbrev pub pointer_bytes : FieldPointer → List ℕ
pointer_bytes field = pointer_flags field ∷ two_bytes field.byte

-- THE FIXED FORMAT: 70h, or F0h with information in four bytes (VALID)
abbrev pub information : Detail → ℕ × List ℕ
information Nothing = (0x70, zeros 4)
information (Information place) = if nat_lt place (2 ^ 32) then (0xf0, four_bytes place) else (0x70, zeros 4)
information (Field field) = (0x70, zeros 4)

abbrev pub specific : Detail → List ℕ
specific Nothing = zeros 3
specific (Information place) = zeros 3
specific (Field field) = pointer_bytes field

-- Worked: block 12 is bad, f0 00 03 00 00 00 0c 0a 00 00 00 00 11 00 and four zeros.
abbrev pub fixed_bytes : SenseData → List ℕ
fixed_bytes told =
    ((information told.detail).0 ∷ 0 ∷ told.sense.key ∷ []) ++ (information told.detail).1
    ++ (0x0a ∷ 0 ∷ 0 ∷ 0 ∷ 0 ∷ told.sense.asc ∷ told.sense.ascq ∷ 0 ∷ []) ++ specific told.detail

-- THE DESCRIPTOR FORMAT: 72h, key and codes, and a descriptor of type 00h for information, 02h for a field
abbrev pub descriptor : Detail → List ℕ
descriptor Nothing = []
descriptor (Information place) = (0x00 ∷ 0x0a ∷ 0x80 ∷ 0 ∷ []) ++ eight_bytes place
descriptor (Field field) = (0x02 ∷ 0x06 ∷ 0 ∷ 0 ∷ []) ++ pointer_bytes field ++ zeros 1

abbrev pub descriptor_size : Detail → ℕ
descriptor_size Nothing = 0
descriptor_size (Information place) = 0x0c
descriptor_size (Field field) = 0x08

abbrev pub descriptor_bytes : SenseData → List ℕ
descriptor_bytes told =
    (0x72 ∷ told.sense.key ∷ told.sense.asc ∷ told.sense.ascq ∷ 0 ∷ 0 ∷ 0 ∷ descriptor_size told.detail ∷ []) ++ descriptor told.detail

abbrev pub sense_data_bytes : SenseData → SenseFormat → List ℕ
sense_data_bytes told Fixed = fixed_bytes told
sense_data_bytes told Descriptor = descriptor_bytes told

-- Fields of CDBs and of data that scsi_cmd doesn't have.
use Rattle.std.specs.Prelude.{ℕ, ◌+◌, ◌*◌, ◌%◌, ◌^◌, ◌-◌, min, if◌then◌else◌, ◌==◌, List, slice_index, replicate}
use Rattle.scsi_cmd.specs.Fields.{field_of_eight, field_of_four, field_of_two, four_bytes}
use Rattle.host_commands.specs.declared.fields.Extent.{Extent}

-- byte 0, the operation code
abbrev pub code_in : List ℕ → ℕ
code_in cdb = slice_index cdb 0

-- the service action, bits 4 to 0 of byte 1
abbrev pub action_in : List ℕ → ℕ
action_in cdb = slice_index cdb 1 % 2 ^ 5

-- THE FIRST BLOCK AND THE COUNT

-- of 6 bytes: the block in bits 4 to 0 of byte 1 and in bytes 2 and 3, the count in byte 4, of which 0 is 256
abbrev pub short_extent : List ℕ → Extent
short_extent cdb = record {
  lba = 2 ^ 16 * action_in cdb + field_of_two cdb 2;
  count = if slice_index cdb 4 == 0 then 256 else slice_index cdb 4;
}

-- of 10 bytes: 2-5 and 7-8
abbrev pub ten_extent : List ℕ → Extent
ten_extent cdb = record { lba = field_of_four cdb 2; count = field_of_two cdb 7 }

-- of 12 bytes: 2-5 and 6-9
abbrev pub twelve_extent : List ℕ → Extent
twelve_extent cdb = record { lba = field_of_four cdb 2; count = field_of_four cdb 6 }

-- of 16 bytes: 2-9 and 10-13
abbrev pub sixteen_extent : List ℕ → Extent
sixteen_extent cdb = record { lba = field_of_eight cdb 2; count = field_of_four cdb 10 }

-- FIELDS OF DATA

-- a field of so many bytes of which every bit is used
abbrev pub ones : ℕ → List ℕ
ones n = replicate n 0xff

-- a number in a field of four bytes, or FFFFFFFFh where it doesn't fit
abbrev pub four_bytes_at_most : ℕ → List ℕ
four_bytes_at_most n = four_bytes (min n (2 ^ 32 - 1))

-- A logical unit of which C says what there is to tell, in a record of bytes that begins with its size.
use Rattle.std.specs.Prelude.{ℕ, ◌-◌, ◌^◌, ◌==◌, nat_lt, nat_le, min, Bool, not, ◌&&◌, ◌||◌, if◌then◌else◌, List, ◌++◌, drop, length, replicate}
use Rattle.std.specs.Prelude.{slice_index, take}
use Rattle.std.specs.Prelude.{Option, None, Some, option_and_then, option_map, Result, Ok, Err}
use Rattle.std.specs.Result.{result_ok}
use Rattle.std.specs.List.{list_all, position_or_len}
use Rattle.byteorder.specs.Endian.{little_number}
use Rattle.scsi_cmd.specs.Fields.{is_bit_set}
use Rattle.disk_units.specs.declared.designators.Eui.{Eui}
use Rattle.disk_units.specs.declared.designators.Naa.{Naa}
use Rattle.disk_units.specs.declared.designators.Uuid.{Uuid}
use Rattle.disk_units.specs.declared.names.UnitNames.{UnitNames}
use Rattle.disk_units.specs.declared.serial.SerialText.{SerialText}
use Rattle.disk_units.specs.declared.unit.DiskUnit.{DiskUnit}
use Rattle.disk_units.specs.Designators.{eui_of, kind_of, naa_of}
use Rattle.disk_units.specs.Names.{name_of, serial_of, usual_product, usual_revision, usual_vendor}
use Rattle.disk_units.specs.Units.{form_of, rotation_of, transfer_length}
use Rattle.host_commands.specs.declared.BlockLength.{BlockLength}
use Rattle.host_commands.specs.declared.BlockLength.TheVariants.{Bytes512, Bytes4096}
use Rattle.host_commands.specs.Shapes.{Shape, plain_shape, with_disk}
use Rattle.c_disks.specs.declared.RecordFault.{RecordFault}
use Rattle.c_disks.specs.declared.RecordFault.TheVariants.{Size, Blocks, BlockBytes, Field}
use Rattle.c_disks.specs.declared.fields.DiskRecord.{DiskRecord}
use Rattle.c_disks.specs.declared.fields.LimitFields.{LimitFields}
use Rattle.c_disks.specs.declared.fields.TextFields.{TextFields}
use Rattle.c_disks.specs.declared.fields.UnitFields.{UnitFields}
use Rattle.c_disks.specs.declared.fields.WorldFields.{WorldFields}

-- THE BYTES OF A RECORD: its size in the first four; the lowest byte of a number is the first

abbrev pub is_zero : List ℕ → Bool
is_zero bytes = list_all (λ byte. byte == 0) bytes

-- those from a place on are 0
abbrev pub ends_in_zeros : ℕ → List ℕ → Bool
ends_in_zeros place bytes = nat_le (length bytes) place || is_zero (drop place bytes)

-- it has as many bytes as it says, 16 or more, and those behind 152 are 0
unfoldable pub has_size : List ℕ → Bool
has_size bytes = not (nat_lt (length bytes) 16) && (little_number 4 bytes == length bytes && ends_in_zeros 152 bytes)

-- Records lie one behind another. The first has as many bytes as it says, or those that are there: then it isn't whole.
abbrev pub first_size : List ℕ → ℕ
first_size bytes = if nat_lt (length bytes) 16 then length bytes else min (little_number 4 bytes) (length bytes)

-- so many bytes: the first of more, or with zeros behind them
abbrev pub sized : ℕ → List ℕ → List ℕ
sized most bytes = if nat_lt most (length bytes) then take most bytes else bytes ++ replicate (most - length bytes) 0

-- so many bytes at a place
abbrev pub field : ℕ → ℕ → List ℕ → List ℕ
field place count bytes = take count (drop place bytes)

abbrev pub unit_in : List ℕ → UnitFields
unit_in bytes = record {
  flags = little_number 4 (drop 4 bytes);
  blocks = little_number 8 (drop 8 bytes);
  block_bytes = little_number 4 (drop 16 bytes);
  physical_bytes = little_number 4 (drop 20 bytes);
}

abbrev pub limits_in : List ℕ → LimitFields
limits_in bytes = record {
  most = little_number 4 (drop 24 bytes);
  discard_blocks = little_number 4 (drop 28 bytes);
  rotation = little_number 2 (drop 32 bytes);
  form = slice_index bytes 34;
}

abbrev pub texts_in : List ℕ → TextFields
texts_in bytes =
    record { revision = field 36 4 bytes; vendor = field 40 8 bytes; product = field 48 16 bytes; serial = field 64 36 bytes }

abbrev pub world_in : List ℕ → WorldFields
world_in bytes = record {
  reserved = field 100 4 bytes;
  naa = field 104 16 bytes;
  eui_bytes = slice_index bytes 35;
  eui = field 120 16 bytes;
  uuid = field 136 16 bytes;
}

abbrev pub record_in : List ℕ → DiskRecord
record_in bytes = record { unit = unit_in bytes; limits = limits_in bytes; texts = texts_in bytes; world = world_in bytes }

-- fields that its user doesn't have are 0
unfoldable pub record_of : List ℕ → DiskRecord
record_of bytes = record_in (sized 152 bytes)

-- WHAT A FIELD SAYS: zeros are the usual

-- a text ends before its first 0
abbrev pub text_of : List ℕ → List ℕ
text_of field = take (position_or_len (λ byte. byte == 0) field) field

abbrev pub vendor_of : List ℕ → Option (List ℕ)
vendor_of text = if length text == 0 then Some usual_vendor else result_ok (name_of 8 text)

abbrev pub product_of : List ℕ → Option (List ℕ)
product_of text = if length text == 0 then Some usual_product else result_ok (name_of 16 text)

abbrev pub revision_of : List ℕ → Option (List ℕ)
revision_of text = if length text == 0 then Some usual_revision else result_ok (name_of 4 text)

abbrev pub serial_asked : List ℕ → Option (Option SerialText)
serial_asked text = if length text == 0 then Some None else option_map Some (result_ok (serial_of text))

-- an NAA name that begins with 6 has all 16 bytes; another has 8, and zeros behind them
abbrev pub naa_named : List ℕ → Option (Option Naa)
naa_named name = option_map Some (result_ok (naa_of name))

abbrev pub naa_asked : List ℕ → Option (Option Naa)
naa_asked field =
    if is_zero field then Some None
    else (if kind_of field == 6 then naa_named field
    else (if is_zero (drop 8 field) then naa_named (take 8 field)
    else None))

-- an EUI-64 name of so many bytes
abbrev pub is_eui_size : ℕ → Bool
is_eui_size bytes = bytes == 0 || (bytes == 8 || (bytes == 12 || bytes == 16))

abbrev pub eui_named : List ℕ → Option (Option Eui)
eui_named name = if is_zero name then Some None else option_map Some (result_ok (eui_of name))

-- zeros are behind it
abbrev pub eui_asked : ℕ → List ℕ → Option (Option Eui)
eui_asked bytes field =
    if not (is_eui_size bytes) then None
    else (if is_zero (drop bytes field) then eui_named (take bytes field) else None)

abbrev pub uuid_asked : List ℕ → Option Uuid
uuid_asked field = if is_zero field then None else Some (record { bytes = field })

abbrev pub most_of : ℕ → Option ℕ
most_of blocks = if blocks == 0 then Some 128 else (if nat_lt 65535 blocks then None else result_ok (transfer_length blocks))

abbrev pub rotation_asked : ℕ → Option ℕ
rotation_asked rate = if rate == 0 then Some 1 else result_ok (rotation_of rate)

-- flags: READ_ONLY 1, THIN 2, REMOVABLE 4, WRITE_THROUGH 8; QUIET 16 is refused with those that nothing has
abbrev pub disk_of : DiskRecord → Option DiskUnit
disk_of disk =
    option_and_then (λ most. option_and_then (λ rotation. option_and_then (λ form.
    option_and_then (λ serial. option_and_then (λ naa. option_and_then (λ eui. Some (record {
      removable = is_bit_set disk.unit.flags 2;
      thin = is_bit_set disk.unit.flags 1;
      write_through = is_bit_set disk.unit.flags 3;
      quiet = is_bit_set disk.unit.flags 4;
      physical_bytes = disk.unit.physical_bytes;
      most = most;
      discard_blocks = disk.limits.discard_blocks;
      rotation = rotation;
      form = form;
      serial = serial;
      naa = naa;
      eui = eui;
      uuid = uuid_asked disk.world.uuid;
    })) (eui_asked disk.world.eui_bytes disk.world.eui)) (naa_asked disk.world.naa)) (serial_asked (text_of disk.texts.serial)))
    (result_ok (form_of disk.limits.form))) (rotation_asked disk.limits.rotation)) (most_of disk.limits.most)

abbrev pub names_of : DiskRecord → Option UnitNames
names_of disk =
    option_and_then (λ vendor. option_and_then (λ product. option_and_then (λ revision.
    Some (record { vendor = vendor; product = product; revision = revision }))
    (revision_of (text_of disk.texts.revision))) (product_of (text_of disk.texts.product))) (vendor_of (text_of disk.texts.vendor))

-- a block of 0 bytes is one of 512
abbrev pub block_bytes_of : DiskRecord → ℕ
block_bytes_of disk = if disk.unit.block_bytes == 0 then 512 else disk.unit.block_bytes

abbrev pub block_length_of : ℕ → BlockLength
block_length_of bytes = if bytes == 4096 then Bytes4096 else Bytes512

-- the logical unit of a number, unless something can't be told of it
abbrev pub named_shape : ℕ → DiskRecord → UnitNames → Shape
named_shape number disk names =
    record (plain_shape disk.unit.blocks (block_length_of (block_bytes_of disk)) number) { read_only = is_bit_set disk.unit.flags 0; names = names }

abbrev pub shape_said : ℕ → DiskRecord → Option Shape
shape_said number disk =
    if nat_lt 15 disk.unit.flags || not (is_zero disk.world.reserved) then None
    else option_and_then (λ names. option_and_then (λ unit. result_ok (with_disk (named_shape number disk names) unit)) (disk_of disk)) (names_of disk)

-- FAULTS

-- 1 to 2^48 blocks, of 512 or 4,096 bytes
abbrev pub has_blocks : DiskRecord → Bool
has_blocks disk = not (disk.unit.blocks == 0) && not (nat_lt (2 ^ 48) disk.unit.blocks)

abbrev pub has_block_bytes : DiskRecord → Bool
has_block_bytes disk = block_bytes_of disk == 512 || block_bytes_of disk == 4096

abbrev pub shape_or_fault : Option Shape → Result Shape RecordFault
shape_or_fault None = Err Field
shape_or_fault (Some shape) = Ok shape

abbrev pub shape_asked : ℕ → DiskRecord → Result Shape RecordFault
shape_asked number disk =
    if not (has_blocks disk) then Err Blocks
    else (if not (has_block_bytes disk) then Err BlockBytes
    else shape_or_fault (shape_said number disk))

-- The logical unit of a number, or its first fault: the size of its record, blocks, their bytes, and then any other field.
abbrev pub disk_asked : ℕ → List ℕ → Result Shape RecordFault
disk_asked number bytes = if not (has_size bytes) then Err Size else shape_asked number (record_of bytes)

-- What 16 bytes ask of a unit of so many blocks: an operation, or the sense that tells the first fault.
use Rattle.std.specs.Prelude.{ℕ, ◌+◌, ◌/◌, ◌%◌, ◌^◌, Bool, false, not, ◌||◌, if◌then◌else◌, ◌==◌, nat_lt, nat_le, List, slice_index, Option}
use Rattle.std.specs.Prelude.{None, Some, Result, Ok, Err}
use Rattle.scsi_cmd.specs.Fields.{field_of_two, field_of_four, field_of_eight, is_bit_set}
use Rattle.scsi_cmd.specs.Sense.{invalid_operation_code, invalid_field_in_cdb, out_of_range}
use Rattle.scsi_cmd.specs.declared.Op.{Op}
use Rattle.scsi_cmd.specs.declared.Op.TheVariants.{TestUnitReady, Inquiry, ReadCapacity, Read, Write, Sync, Read16, Write16, ReadCapacity16}
use Rattle.scsi_cmd.specs.declared.Sense.{Sense}
use Rattle.uas_profile.specs.declared.TheConstants.{MOST_BLOCKS_MOVED}

-- the operation that byte 0, the code, and the fields name; the code of READ CAPACITY(16) has other service actions too
abbrev pub named_op : List ℕ → Option Op
named_op bytes =
    let code = slice_index bytes 0 in
    let lba = field_of_four bytes 2 in
    let count = field_of_two bytes 7 in
    let long_lba = field_of_eight bytes 2 in
    let long_count = field_of_four bytes 10 in
    let fua = is_bit_set (slice_index bytes 1) 3 in
    if code == 0x00 then Some TestUnitReady
    else (if code == 0x12 then Some (Inquiry (field_of_two bytes 3))
    else (if code == 0x25 then Some ReadCapacity
    else (if code == 0x28 then Some (Read lba count fua)
    else (if code == 0x2a then Some (Write lba count fua)
    else (if code == 0x35 then Some (Sync lba count)
    else (if code == 0x88 then Some (Read16 long_lba long_count fua)
    else (if code == 0x8a then Some (Write16 long_lba long_count fua)
    else (if code == 0x9e then Some (ReadCapacity16 long_count)
    else None))))))))

-- EVPD, bit 0 of byte 1, is set, or byte 2 names a page
abbrev pub asks_for_page : List ℕ → Bool
asks_for_page bytes = is_bit_set (slice_index bytes 1) 0 || not (slice_index bytes 2 == 0)

-- the protect field, bits 7 to 5 of byte 1, isn't 0
abbrev pub asks_for_protection : List ℕ → Bool
asks_for_protection bytes = not (slice_index bytes 1 / 2 ^ 5 == 0)

-- the service action, bits 4 to 0 of byte 1, isn't that of READ CAPACITY(16); the bits above it are ignored: 10h and 30h are
abbrev pub asks_for_other_action : List ℕ → Bool
asks_for_other_action bytes = not (slice_index bytes 1 % 2 ^ 5 == 0x10)

-- a field of this operation's CDB has a value that isn't supported
abbrev pub has_invalid_field : Op → List ℕ → Bool
has_invalid_field TestUnitReady bytes = false
has_invalid_field (Inquiry allocation) bytes = asks_for_page bytes
has_invalid_field ReadCapacity bytes = false
has_invalid_field (Read lba count fua) bytes = asks_for_protection bytes
has_invalid_field (Write lba count fua) bytes = asks_for_protection bytes
has_invalid_field (Sync lba count) bytes = false
has_invalid_field (Read16 lba count fua) bytes = asks_for_protection bytes
has_invalid_field (Write16 lba count fua) bytes = asks_for_protection bytes
has_invalid_field (ReadCapacity16 allocation) bytes = asks_for_other_action bytes

-- The first block isn't there, or the last one isn't. Checked by hand: of 100 blocks, 98 with count 2 and 99 with count 0
-- are there; 99 with count 2 and 100 with count 0 aren't.
abbrev pub range_fault : ℕ → ℕ → ℕ → Option Sense
range_fault lba count blocks =
    if nat_le blocks lba || nat_lt blocks (lba + count) then Some out_of_range else None

-- more than 128 blocks for one transfer; else a fault of the range
abbrev pub transfer_fault : ℕ → ℕ → ℕ → Option Sense
transfer_fault lba count blocks = if nat_lt MOST_BLOCKS_MOVED count then Some invalid_field_in_cdb else range_fault lba count blocks

-- what is wrong with an operation on a unit of so many blocks
abbrev pub op_fault : Op → ℕ → Option Sense
op_fault TestUnitReady blocks = None
op_fault (Inquiry allocation) blocks = None
op_fault ReadCapacity blocks = None
op_fault (Read lba count fua) blocks = transfer_fault lba count blocks
op_fault (Write lba count fua) blocks = transfer_fault lba count blocks
op_fault (Sync lba count) blocks = range_fault lba count blocks
op_fault (Read16 lba count fua) blocks = transfer_fault lba count blocks
op_fault (Write16 lba count fua) blocks = transfer_fault lba count blocks
op_fault (ReadCapacity16 allocation) blocks = None

-- the operation, or its fault
abbrev pub checked : Op → ℕ → Result Op Sense
checked op blocks = unless_fault (op_fault op blocks)
  where
    unless_fault : Option Sense → Result Op Sense
    unless_fault None = Ok op
    unless_fault (Some sense) = Err sense

-- Command meaning: another code, then an invalid field (too many blocks among them), then the range. Checked by hand: on
-- 100 blocks, READ from block 100 on is 5/24/00 for 129 blocks and 5/21/00 for 128.
unfoldable pub asked : List ℕ → ℕ → Result Op Sense
asked bytes blocks = of_named (named_op bytes)
  where
    of_named : Option Op → Result Op Sense
    of_named None = Err invalid_operation_code
    of_named (Some op) = if has_invalid_field op bytes then Err invalid_field_in_cdb else checked op blocks

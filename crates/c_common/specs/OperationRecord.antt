-- An operation as C's record, and the operation that a record names.
use Rattle.std.specs.Prelude.{ℕ, Bool, true, if◌then◌else◌, ◌==◌, ◌&&◌, nat_le, nat_lt, Option, None, Some}
use Rattle.scsi_cmd.specs.Op.{moved_bytes, direction_of}
use Rattle.scsi_cmd.specs.declared.Op.{Op}
use Rattle.scsi_cmd.specs.declared.Op.TheVariants.{TestUnitReady, Inquiry, ReadCapacity, Read, Write, Sync, Read16, Write16, ReadCapacity16}
use Rattle.uas_profile.specs.declared.Direction.{Direction}
use Rattle.uas_profile.specs.declared.Direction.TheVariants.{Nothing, ToHost, ToDevice}
use Rattle.c_common.specs.trb.RecordFault.{fault_of}
use Rattle.c_common.specs.declared.faults.TheConstants.{CDB_UNFIT, CDB_UNKNOWN_OPCODE}
use Rattle.c_common.specs.Bytes.{yes}
use Rattle.c_common.specs.declared.operation.UasOperation.{UasOperation}

-- the operation's code and fields; a field that it doesn't have is 0, and so are the bytes and the way
abbrev pub operation_fields : Op → UasOperation
operation_fields TestUnitReady = record { lba = 0; count = 0; bytes = 0; opcode = 0x00; fua = 0; direction = 0; reserved = 0 }
operation_fields (Inquiry allocation) =
    record { lba = 0; count = allocation; bytes = 0; opcode = 0x12; fua = 0; direction = 0; reserved = 0 }
operation_fields ReadCapacity = record { lba = 0; count = 0; bytes = 0; opcode = 0x25; fua = 0; direction = 0; reserved = 0 }
operation_fields (Read lba count fua) =
    record { lba = lba; count = count; bytes = 0; opcode = 0x28; fua = yes fua; direction = 0; reserved = 0 }
operation_fields (Write lba count fua) =
    record { lba = lba; count = count; bytes = 0; opcode = 0x2a; fua = yes fua; direction = 0; reserved = 0 }
operation_fields (Sync lba count) =
    record { lba = lba; count = count; bytes = 0; opcode = 0x35; fua = 0; direction = 0; reserved = 0 }
operation_fields (Read16 lba count fua) =
    record { lba = lba; count = count; bytes = 0; opcode = 0x88; fua = yes fua; direction = 0; reserved = 0 }
operation_fields (Write16 lba count fua) =
    record { lba = lba; count = count; bytes = 0; opcode = 0x8a; fua = yes fua; direction = 0; reserved = 0 }
operation_fields (ReadCapacity16 allocation) =
    record { lba = 0; count = allocation; bytes = 0; opcode = 0x9e; fua = 0; direction = 0; reserved = 0 }

-- which way data goes, as a byte
abbrev pub way_number : Direction → ℕ
way_number Nothing = 0
way_number ToHost = 1
way_number ToDevice = 2

-- the record of an operation
abbrev pub operation_record : Op → UasOperation
operation_record op =
    record (operation_fields op) { bytes = moved_bytes op; direction = way_number (direction_of op) }

-- the operation that a record names by its code
abbrev pub named_operation : UasOperation → Option Op
named_operation r =
    if r.opcode == 0x00 then Some TestUnitReady
    else (if r.opcode == 0x12 then Some (Inquiry r.count)
    else (if r.opcode == 0x25 then Some ReadCapacity
    else (if r.opcode == 0x28 then Some (Read r.lba r.count (r.fua == 1))
    else (if r.opcode == 0x2a then Some (Write r.lba r.count (r.fua == 1))
    else (if r.opcode == 0x35 then Some (Sync r.lba r.count)
    else (if r.opcode == 0x88 then Some (Read16 r.lba r.count (r.fua == 1))
    else (if r.opcode == 0x8a then Some (Write16 r.lba r.count (r.fua == 1))
    else (if r.opcode == 0x9e then Some (ReadCapacity16 r.count)
    else None))))))))

-- a block's number and a count of a command of 10 bytes: four bytes and two
abbrev pub short_fits : UasOperation → Bool
short_fits r = nat_le r.lba 4294967295 && nat_le r.count 65535

-- an operation's own fields fit: those of a command of 10 bytes, an allocation length of INQUIRY two, and FUA is 0 or 1
abbrev pub operation_fits : UasOperation → Op → Bool
operation_fits r TestUnitReady = true
operation_fits r (Inquiry allocation) = nat_le r.count 65535
operation_fits r ReadCapacity = true
operation_fits r (Read lba count fua) = short_fits r && nat_lt r.fua 2
operation_fits r (Write lba count fua) = short_fits r && nat_lt r.fua 2
operation_fits r (Sync lba count) = short_fits r
operation_fits r (Read16 lba count fua) = nat_lt r.fua 2
operation_fits r (Write16 lba count fua) = nat_lt r.fua 2
operation_fits r (ReadCapacity16 allocation) = true

-- the fault of a record that is to name an operation
abbrev pub operation_fault : UasOperation → ℕ
operation_fault r = fault_of CDB_UNKNOWN_OPCODE (λ op. if operation_fits r op then 0 else CDB_UNFIT) (named_operation r)

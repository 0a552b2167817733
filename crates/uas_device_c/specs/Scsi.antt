-- Sense data as C's record, what came of a CDB, and READ CAPACITY data of a unit without blocks.
use Rattle.std.specs.Prelude.{◌≡◌, ℕ, if◌then◌else◌, ◌==◌, Result, Ok, Err}
use Rattle.scsi_cmd.specs.declared.Op.{Op}
use Rattle.scsi_cmd.specs.declared.Sense.{Sense}
use Rattle.c_common.specs.declared.faults.TheConstants.{CAPACITY_NO_BLOCKS, CDB_CHECK}
use Rattle.c_common.specs.OperationRecord.{operation_record}
use Rattle.c_common.specs.declared.operation.UasOperation.{UasOperation}
use Rattle.uas_device_c.specs.declared.scsi.UasSense.{UasSense}

-- the record of sense data
abbrev pub sense_record : Sense → UasSense
sense_record sense = record { key = sense.key; asc = sense.asc; ascq = sense.ascq; reserved = 0 }

-- the sense data of a record
abbrev pub sense_in : UasSense → Sense
sense_in r = record { key = r.key; asc = r.asc; ascq = r.ascq }

-- what a CDB that asks this leaves of the number and the two records: one of them is written
abbrev pub Parsed : Result Op Sense → ℕ → UasOperation × UasOperation → UasSense × UasSense → Type 0
Parsed (Ok op) number operation sense =
    (number ≡ 0) × (operation.1 ≡ operation_record op) × (sense.1 ≡ sense.0)
Parsed (Err fault) number operation sense =
    (number ≡ CDB_CHECK) × (operation.1 ≡ operation.0) × (sense.1 ≡ sense_record fault)

-- READ CAPACITY data needs a last block
abbrev pub capacity_fault : ℕ → ℕ
capacity_fault blocks = if blocks == 0 then CAPACITY_NO_BLOCKS else 0

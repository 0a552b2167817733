-- An information unit as C's record: its parts under one name each, and 0 where it has no such part.
use Rattle.std.specs.Prelude.{ℕ, ◌+◌, Bool, if◌then◌else◌, ◌==◌, nat_lt, ◌&&◌, take, Option, None, Some, replicate}
use Rattle.arrayvec.specs.ArrayVec.{array_vec_len}
use Rattle.uas_iu.specs.declared.Iu.{Iu}
use Rattle.uas_iu.specs.declared.Iu.TheVariants.{Command, Sense, Response, Task}
use Rattle.uas_iu.specs.declared.IuFault.{IuFault}
use Rattle.uas_iu.specs.declared.IuFault.TheVariants.{UnknownId, Short, Long, ReservedSet, LengthField}
use Rattle.c_common.specs.trb.RecordFault.{fault_of}
use Rattle.c_common.specs.declared.faults.TheConstants.{UNIT_LENGTH_FIELD, UNIT_LONG, UNIT_NO_ROOM, UNIT_RESERVED_SET, UNIT_SHORT, UNIT_UNFIT, UNIT_UNKNOWN_ID}
use Rattle.c_common.specs.Bytes.{padded}
use Rattle.uas_device_c.specs.declared.unit.UasUnit.{UasUnit}

-- every part 0
abbrev pub no_unit : UasUnit
no_unit = record {
  id = 0;
  tag = 0;
  task_tag = 0;
  lun = replicate 8 0;
  cdb = replicate 16 0;
  function = 0;
  code = 0;
  status = 0;
  sense_length = 0;
  sense = replicate 96 0;
  reserved = replicate 3 0;
}

-- the record of a unit
abbrev pub unit_record : Iu → UasUnit
unit_record (Command tag lun cdb) = record no_unit { id = 1; tag = tag; lun = lun; cdb = cdb }
unit_record (Sense tag status sense) =
    record no_unit { id = 3; tag = tag; status = status; sense_length = array_vec_len sense; sense = padded sense.items (array_vec_len sense) }
unit_record (Response tag code) = record no_unit { id = 4; tag = tag; code = code }
unit_record (Task tag function task_tag lun) =
    record no_unit { id = 5; tag = tag; function = function; task_tag = task_tag; lun = lun }

-- the unit that a record names by its identifier
abbrev pub named_unit : UasUnit → Option Iu
named_unit r =
    if r.id == 1 then Some (Command r.tag r.lun r.cdb)
    else (if r.id == 3 then Some (Sense r.tag r.status (record { items = take r.sense_length r.sense }))
    else (if r.id == 4 then Some (Response r.tag r.code)
    else (if r.id == 5 then Some (Task r.tag r.function r.task_tag r.lun)
    else None)))

-- the bytes of a record's unit
abbrev pub record_size : UasUnit → ℕ
record_size r = if r.id == 1 then 32 else (if r.id == 3 then 16 + r.sense_length else (if r.id == 4 then 8 else 16))

-- a Sense of more bytes than a unit has
abbrev pub has_too_much_sense : UasUnit → Bool
has_too_much_sense r = r.id == 3 && nat_lt 96 r.sense_length

-- the fault of writing a record to this much room: no such unit, more sense than a unit has, too little room
abbrev pub unit_write_fault : UasUnit → ℕ → ℕ
unit_write_fault r room =
    fault_of UNIT_UNKNOWN_ID
    (λ unit. if has_too_much_sense r then UNIT_UNFIT else (if nat_lt room (record_size r) then UNIT_NO_ROOM else 0)) (named_unit r)

-- the fault of reading bytes, in the order of the tests
abbrev pub unit_read_fault : Option IuFault → ℕ
unit_read_fault None = 0
unit_read_fault (Some UnknownId) = UNIT_UNKNOWN_ID
unit_read_fault (Some Short) = UNIT_SHORT
unit_read_fault (Some Long) = UNIT_LONG
unit_read_fault (Some ReservedSet) = UNIT_RESERVED_SET
unit_read_fault (Some LengthField) = UNIT_LENGTH_FIELD

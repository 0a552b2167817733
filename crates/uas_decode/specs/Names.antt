-- The names of codes, statuses and refusals.
use Rattle.std.specs.Prelude.{ℕ, ◌==◌, ◌&&◌, Bool, if◌then◌else◌, List, [], codes, Option, Some, None}
use Rattle.uas_iu.specs.declared.IuFault.{IuFault}
use Rattle.uas_iu.specs.declared.IuFault.TheVariants as unit
use Rattle.xhci_trb.specs.declared.TrbFault.{TrbFault}
use Rattle.xhci_trb.specs.declared.TrbFault.TheVariants as trb
use Rattle.scsi_cmd.specs.declared.Sense.{Sense}
use Rattle.uas_decode.specs.declared.LineFault.{LineFault}
use Rattle.uas_decode.specs.declared.LineFault.TheVariants as line

abbrev pub line_fault_name : LineFault → List ℕ
line_fault_name line.NoDigits = codes "NoDigits"
line_fault_name line.NotHex = codes "NotHex"
line_fault_name line.WrongNumberOfDigits = codes "WrongNumberOfDigits"
line_fault_name line.NumberOutOfRange = codes "NumberOutOfRange"
line_fault_name line.ReservedSet = codes "ReservedSet"
line_fault_name line.NotFixedFormat = codes "NotFixedFormat"

abbrev pub trb_fault_name : TrbFault → List ℕ
trb_fault_name (trb.UnknownType kind) = codes "UnknownType"
trb_fault_name trb.LengthOver = codes "LengthOver"
trb_fault_name trb.ReservedSet = codes "ReservedSet"

abbrev pub unit_fault_name : IuFault → List ℕ
unit_fault_name unit.UnknownId = codes "UnknownId"
unit_fault_name unit.Short = codes "Short"
unit_fault_name unit.Long = codes "Long"
unit_fault_name unit.ReservedSet = codes "ReservedSet"
unit_fault_name unit.LengthField = codes "LengthField"

-- completion codes (xHCI 6.4.5)
unfoldable pub code_name : ℕ → Option (List ℕ)
code_name code =
    if code == 1 then Some (codes "Success")
    else (if code == 5 then Some (codes "TRB Error")
    else (if code == 13 then Some (codes "Short Packet")
    else (if code == 19 then Some (codes "Context State Error")
    else (if code == 34 then Some (codes "Invalid Stream ID")
    else None))))

-- statuses (SAM)
unfoldable pub status_name : ℕ → Option (List ℕ)
status_name status =
    if status == 0x00 then Some (codes "GOOD")
    else (if status == 0x02 then Some (codes "CHECK CONDITION")
    else (if status == 0x04 then Some (codes "CONDITION MET")
    else (if status == 0x08 then Some (codes "BUSY")
    else (if status == 0x18 then Some (codes "RESERVATION CONFLICT")
    else (if status == 0x28 then Some (codes "TASK SET FULL")
    else (if status == 0x30 then Some (codes "ACA ACTIVE")
    else (if status == 0x40 then Some (codes "TASK ABORTED")
    else None)))))))

-- response codes and functions of a task management (INCITS 471)
unfoldable pub response_name : ℕ → List ℕ
response_name code =
    if code == 0x00 then codes " COMPLETE"
    else (if code == 0x02 then codes " INVALID INFORMATION UNIT"
    else (if code == 0x04 then codes " NOT SUPPORTED"
    else (if code == 0x08 then codes " SUCCEEDED"
    else (if code == 0x09 then codes " INCORRECT LUN"
    else []))))

unfoldable pub function_name : ℕ → Option (List ℕ)
function_name function =
    if function == 0x01 then Some (codes "ABORT TASK")
    else (if function == 0x08 then Some (codes "LOGICAL UNIT RESET")
    else (if function == 0x80 then Some (codes "QUERY TASK")
    else None))

-- what a sense key, code and qualifier mean (SPC)
abbrev pub is_sense : ℕ → ℕ → ℕ → Sense → Bool
is_sense key asc ascq sense = (sense.key == key) && (sense.asc == asc) && (sense.ascq == ascq)

unfoldable pub sense_name : Sense → List ℕ
sense_name sense =
    if is_sense 0x3 0x0c 0x00 sense then codes " write error"
    else (if is_sense 0x3 0x11 0x00 sense then codes " unrecovered read error"
    else (if is_sense 0x5 0x20 0x00 sense then codes " invalid command operation code"
    else (if is_sense 0x5 0x21 0x00 sense then codes " logical block address out of range"
    else (if is_sense 0x5 0x24 0x00 sense then codes " invalid field in cdb"
    else (if is_sense 0x5 0x25 0x00 sense then codes " logical unit not supported"
    else (if is_sense 0x6 0x29 0x03 sense then codes " bus device reset function occurred"
    else []))))))

-- the targets of doorbells (xHCI 5.6): 0 is the controller's own
unfoldable pub door_name : ℕ → List ℕ
door_name target =
    if target == 0 then codes " (command ring)"
    else (if target == 2 then codes " (command)"
    else (if target == 3 then codes " (status)"
    else (if target == 4 then codes " (data-out)"
    else (if target == 5 then codes " (data-in)"
    else []))))

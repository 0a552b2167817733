-- Sense data in the fixed format (SPC, fixed format sense data).
use Rattle.std.specs.Prelude.{ℕ, List, [], ◌∷◌}
use Rattle.scsi_cmd.specs.declared.Sense.{Sense}

-- The 18 bytes: response code 70h in byte 0, the key in byte 2, ten more bytes after byte 7, the codes in
-- bytes 12 and 13. Checked by hand: 5/21/00 is 70 00 05 00 00 00 00 0a 00 00 00 00 21 00 00 00 00 00.
abbrev pub sense_bytes : Sense → List ℕ
sense_bytes sense =
    0x70 ∷ 0 ∷ sense.key ∷ 0 ∷ 0 ∷ 0 ∷ 0 ∷ 0x0a ∷ 0 ∷ 0 ∷ 0 ∷ 0 ∷ sense.asc ∷ sense.ascq ∷ 0 ∷ 0 ∷ 0 ∷ 0 ∷ []

-- ILLEGAL REQUEST, which is key 5, with one of its codes
abbrev pub illegal_request : ℕ → Sense
illegal_request asc = record { key = 5; asc = asc; ascq = 0 }

-- INVALID COMMAND OPERATION CODE
abbrev pub invalid_operation_code : Sense
invalid_operation_code = illegal_request 0x20

-- INVALID FIELD IN CDB
abbrev pub invalid_field_in_cdb : Sense
invalid_field_in_cdb = illegal_request 0x24

-- LOGICAL BLOCK ADDRESS OUT OF RANGE
abbrev pub out_of_range : Sense
out_of_range = illegal_request 0x21

-- LOGICAL UNIT NOT SUPPORTED
abbrev pub unit_not_supported : Sense
unit_not_supported = illegal_request 0x25

-- BUS DEVICE RESET FUNCTION OCCURRED, a UNIT ATTENTION
abbrev pub reset_occurred : Sense
reset_occurred = record { key = 6; asc = 0x29; ascq = 3 }

-- UNRECOVERED READ ERROR and WRITE ERROR, both of MEDIUM ERROR
abbrev pub unrecovered_read_error : Sense
unrecovered_read_error = record { key = 3; asc = 0x11; ascq = 0 }

abbrev pub write_error : Sense
write_error = record { key = 3; asc = 0x0c; ascq = 0 }

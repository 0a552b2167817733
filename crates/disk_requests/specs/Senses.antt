-- Sense data of both formats (SPC-4, 4.5), and what a TEST UNIT READY's answer says of the disk.
use Rattle.std.specs.Prelude.{ℕ, ◌%◌, ◌==◌, ◌&&◌, ◌||◌, nat_le, if◌then◌else◌, List, length, slice_index, Option, None, Some}
use Rattle.scsi_cmd.specs.declared.Sense.{Sense}
use Rattle.disk_requests.specs.declared.senses.Readiness.{Readiness}
use Rattle.disk_requests.specs.declared.senses.Readiness.TheVariants.{Ready, Again, Start, Wait, NoMedium, Busy, Failed}

-- the response code, bits 6 to 0 of byte 0: 70h and 71h are of the fixed format, 72h and 73h of that with descriptors
abbrev pub response_code : List ℕ → ℕ
response_code bytes = slice_index bytes 0 % 128

-- Key and codes; a code behind the end is 0. The key is bits 3 to 0 of its byte. Fixed: bytes 2, 12 and 13, three bytes at least; with
-- descriptors: bytes 1, 2 and 3, two at least. Checked by hand: 72 02 04 01 is 2/04/01.
abbrev pub sense_in : List ℕ → Option Sense
sense_in bytes =
    let code = response_code bytes in
    if (code == 0x70 || code == 0x71) && nat_le 3 (length bytes)
    then Some (record { key = slice_index bytes 2 % 16; asc = slice_index bytes 12; ascq = slice_index bytes 13 })
    else (if (code == 0x72 || code == 0x73) && nat_le 2 (length bytes)
    then Some (record { key = slice_index bytes 1 % 16; asc = slice_index bytes 2; ascq = slice_index bytes 3 })
    else None)

-- UNIT ATTENTION (6): again. NOT READY (2) with 04h, LOGICAL UNIT NOT READY: an initializing command is asked for by 02h, else it becomes ready
-- by itself; with 3Ah there is no medium.
abbrev pub readiness_of : Option Sense → Readiness
readiness_of None = Failed
readiness_of (Some sense) =
    if sense.key == 6 then Again
    else (if (sense.key == 2) && (sense.asc == 0x04) && (sense.ascq == 0x02) then Start
    else (if (sense.key == 2) && (sense.asc == 0x04) then Wait
    else (if (sense.key == 2) && (sense.asc == 0x3a) then NoMedium
    else Failed)))

-- GOOD is ready; CHECK CONDITION (2) is what its sense says; BUSY (8) and TASK SET FULL (28h) say that it is to be asked later; any other status is
-- a failure
abbrev pub readiness_in : ℕ → List ℕ → Readiness
readiness_in status sense =
    if status == 0x00 then Ready
    else (if status == 0x02 then readiness_of (sense_in sense)
    else (if status == 0x08 || status == 0x28 then Busy
    else Failed))

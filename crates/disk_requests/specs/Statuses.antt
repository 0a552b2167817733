-- The information units that the disk sends (INCITS 471), by their fields alone: reserved bytes aren't looked at.
use Rattle.std.specs.Prelude.{ℕ, ◌==◌, nat_le, min, if◌then◌else◌, List, length, take, drop, slice_index, Option, None, Some}
use Rattle.arrayvec.specs.ArrayVec.{ArrayVec}
use Rattle.scsi_cmd.specs.Fields.{field_of_two}
use Rattle.disk_requests.specs.declared.StatusUnit.{StatusUnit}
use Rattle.disk_requests.specs.declared.StatusKind.{StatusKind}
use Rattle.disk_requests.specs.declared.StatusKind.TheVariants.{Sense, Response, ReadReady, WriteReady}
use Rattle.uas_iu.specs.declared.TheConstants.{MAX_SENSE_BYTES}

-- the sense behind the 16 bytes of a Sense unit's head: as much as its length in bytes 14 and 15 tells, as came, and 96 bytes at most
abbrev pub sense_in : List ℕ → ArrayVec ℕ
sense_in bytes = record { items = take (min (field_of_two bytes 14) MAX_SENSE_BYTES) (drop 16 bytes) }

-- What byte 0 names: Sense 03h with its status in byte 6, Response 04h with its code in byte 7, Read Ready 06h, Write Ready 07h; each with all
-- the bytes of its head.
abbrev pub kind_in : List ℕ → Option StatusKind
kind_in bytes =
    let id = slice_index bytes 0 in
    if id == 0x03 then (if nat_le 16 (length bytes) then Some (Sense (slice_index bytes 6) (sense_in bytes)) else None)
    else (if id == 0x04 then (if nat_le 8 (length bytes) then Some (Response (slice_index bytes 7)) else None)
    else (if id == 0x06 then (if nat_le 4 (length bytes) then Some ReadReady else None)
    else (if id == 0x07 then (if nat_le 4 (length bytes) then Some WriteReady else None)
    else None)))

-- with the tag in bytes 2 and 3
abbrev pub with_tag : ℕ → Option StatusKind → Option StatusUnit
with_tag tag None = None
with_tag tag (Some kind) = Some (record { tag = tag; kind = kind })

-- Checked by hand: 03 00 00 07 00 00 02 and seven zeros, 00 12 and 18 bytes is CHECK CONDITION on tag 7, with these 18 bytes.
abbrev pub status_in : List ℕ → Option StatusUnit
status_in bytes = with_tag (field_of_two bytes 2) (kind_in bytes)

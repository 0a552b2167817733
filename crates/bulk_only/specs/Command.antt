-- The Command Block Wrapper (BOT 5.1). Numbers are little endian.
use Rattle.std.specs.Prelude.{◌≡◌, ℕ, ◌-◌, ◌/◌, ◌%◌, ◌^◌, ◌<◌, ◌≤◌, ◌==◌, ◌&&◌, not, nat_le, if◌then◌else◌}
use Rattle.std.specs.Prelude.{Bool, List, [], ◌∷◌, ◌++◌, length, take, drop, replicate, slice_index, Result, Ok, Err}
use Rattle.byteorder.specs.Endian.{little_bytes, little_number}
use Rattle.bulk_only.specs.declared.command.Cbw.{Cbw}
use Rattle.bulk_only.specs.declared.command.CbwFault.{CbwFault}
use Rattle.bulk_only.specs.declared.command.CbwFault.TheVariants.{Length, Signature, CommandLength}

-- CBWCB: so many bytes from byte 15 on, and zeros behind them
unfoldable pub cdb_in : List ℕ → ℕ → List ℕ
cdb_in bytes count = take count (drop 15 bytes) ++ replicate (16 - count) 0

-- dCBWTag in bytes 4 to 7; dCBWDataTransferLength in 8 to 11; bmCBWFlags in 12, bit 7 the direction; bCBWLUN in bits 3:0 of byte 13;
-- bCBWCBLength in bits 4:0 of byte 14; the CBWCB. The other bits are reserved.
abbrev pub cbw_of : List ℕ → Cbw
cbw_of bytes = record {
  tag = little_number 4 (drop 4 bytes);
  length = little_number 4 (drop 8 bytes);
  is_in = nat_le (2 ^ 7) (slice_index bytes 12);
  lun = slice_index bytes 13 % 2 ^ 4;
  cdb = cdb_in bytes (slice_index bytes 14 % 2 ^ 5);
  cdb_length = slice_index bytes 14 % 2 ^ 5;
}

-- 5.1: a CDB has 1 to 16 bytes
abbrev pub is_cdb_length : ℕ → Bool
is_cdb_length count = nat_le 1 count && nat_le count 16

-- What bytes are, or their first fault, in this order: 31 bytes and the signature (6.2.1); a CDB length (5.1).
-- Worked: 30 bytes have the fault Length, whatever they are; 31 zeros Signature; 55 53 42 43 and 27 zeros CommandLength.
abbrev pub cbw_in : List ℕ → Result Cbw CbwFault
cbw_in bytes =
    if not (length bytes == 31) then Err Length
    else if not (little_number 4 bytes == 0x43425355) then Err Signature
    else if not (is_cdb_length (slice_index bytes 14 % 2 ^ 5)) then Err CommandLength
    else Ok (cbw_of bytes)

-- bmCBWFlags
abbrev pub flags_of : Bool → ℕ
flags_of is_in = if is_in then 2 ^ 7 else 0

-- The 31 bytes of a CBW, reserved bits 0
unfoldable pub cbw_text : Cbw → List ℕ
cbw_text cbw =
    little_bytes 4 0x43425355 ++ little_bytes 4 cbw.tag ++ little_bytes 4 cbw.length
    ++ (flags_of cbw.is_in ∷ cbw.lun % 2 ^ 4 ∷ cbw.cdb_length % 2 ^ 5 ∷ []) ++ cbw.cdb

-- a CBW whose parts fit their places, with a CDB of 1 to 16 bytes and zeros behind it
pub record FitsCbw (cbw : Cbw) : Type 0 where
  pub tag : cbw.tag < 2 ^ 32
  pub data_length : cbw.length < 2 ^ 32
  pub lun : cbw.lun < 2 ^ 4
  pub some : 1 ≤ cbw.cdb_length
  pub few : cbw.cdb_length ≤ 16
  pub place : length cbw.cdb ≡ 16
  pub zeros : drop cbw.cdb_length cbw.cdb ≡ replicate (16 - cbw.cdb_length) 0

-- SCSI-2, 7.2.2: the logical unit number in bits 7:5 of byte 1, which later standards use otherwise.
-- Worked: 28 20 .. of LUN 1, and of LUN 9, becomes 28 00 ..; of LUN 0 it stays.
abbrev pub cleared_lun : List ℕ → ℕ → List ℕ
cleared_lun cdb lun =
    if slice_index cdb 1 / 2 ^ 5 == lun % 2 ^ 3 then slice_index cdb 0 ∷ slice_index cdb 1 % 2 ^ 5 ∷ drop 2 cdb else cdb

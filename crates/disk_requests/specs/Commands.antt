-- The CDBs of requests and of the commands of a bring-up (SPC-4, SBC-3), and the UNMAP parameter list.
use Rattle.std.specs.Prelude.{ℕ, ◌^◌, ◌||◌, nat_le, Bool, false, if◌then◌else◌, List, [], ◌∷◌, ◌++◌, Option, None, Some}
use Rattle.scsi_cmd.specs.Fields.{eight_bytes, four_bytes, two_bytes, zeros}
use Rattle.scsi_cmd.specs.Op.{cdb_bytes, long_cdb}
use Rattle.scsi_cmd.specs.declared.Op.{Op}
use Rattle.scsi_cmd.specs.declared.Op.TheVariants as op
use Rattle.disk_requests.specs.declared.Asking.{Asking}
use Rattle.disk_requests.specs.declared.Asking.TheVariants as asking
use Rattle.disk_requests.specs.declared.Request.{Request}
use Rattle.disk_requests.specs.declared.Request.TheVariants.{Read, Write, Sync, Unmap, Ready}
use Rattle.disk_requests.specs.declared.TheConstants.{LONG_CAPACITY_BYTES}

-- a CDB of 16 bytes is needed where the disk has more than 2^32 blocks, and where a block or a count doesn't fit one of 10 bytes
abbrev pub is_wide : ℕ → ℕ → Bool → Bool
is_wide block count is_long = is_long || nat_le (2 ^ 32) block || nat_le (2 ^ 16) count

abbrev pub read_op : ℕ → ℕ → Bool → Op
read_op block count is_long = if is_wide block count is_long then op.Read16 block count false else op.Read block count false

abbrev pub write_op : ℕ → ℕ → Bool → Bool → Op
write_op block count fua is_long = if is_wide block count is_long then op.Write16 block count fua else op.Write block count fua

-- The CDB of a request. SYNCHRONIZE CACHE of 16 bytes is 91h; both are of all blocks. UNMAP is 42h, with a parameter list of 24 bytes.
abbrev pub request_cdb : Request → Bool → List ℕ
request_cdb (Read block count) is_long = cdb_bytes (read_op block count is_long)
request_cdb (Write block count fua) is_long = cdb_bytes (write_op block count fua is_long)
request_cdb Sync is_long = if is_long then long_cdb 0x91 0 0 0 else cdb_bytes (op.Sync 0 0)
request_cdb (Unmap block count) is_long = (0x42 ∷ zeros 6) ++ two_bytes 24 ++ zeros 7
request_cdb Ready is_long = cdb_bytes op.TestUnitReady

-- INQUIRY with EVPD, bit 0 of byte 1, is of the page in byte 2
abbrev pub inquiry_cdb : Option ℕ → ℕ → List ℕ
inquiry_cdb None length = cdb_bytes (op.Inquiry length)
inquiry_cdb (Some page) length = (0x12 ∷ 1 ∷ page ∷ []) ++ two_bytes length ++ zeros 11

-- START STOP UNIT is 1Bh, with START in bit 0 of byte 4
abbrev pub start_unit_cdb : List ℕ
start_unit_cdb = 0x1b ∷ 0 ∷ 0 ∷ 0 ∷ 1 ∷ zeros 11

-- The CDB of a command of a bring-up. Checked by hand: INQUIRY of page B0h and 64 bytes
-- is 12 01 b0 00 40 and eleven zeros.
abbrev pub asking_cdb : Asking → List ℕ
asking_cdb (asking.Inquiry page length) = inquiry_cdb page length
asking_cdb asking.TestUnitReady = cdb_bytes op.TestUnitReady
asking_cdb asking.StartUnit = start_unit_cdb
asking_cdb asking.ReadCapacity10 = cdb_bytes op.ReadCapacity
asking_cdb asking.ReadCapacity16 = cdb_bytes (op.ReadCapacity16 LONG_CAPACITY_BYTES)

-- The UNMAP parameter list: 22 bytes and 16 bytes follow the first two numbers; one descriptor, of a block and a count. Checked by hand: 8
-- blocks from 1000h on are 00 16 00 10 00 00 00 00 00 00 00 00 00 00 10 00 00 00 00 08 00 00 00 00.
abbrev pub unmap_list : ℕ → ℕ → List ℕ
unmap_list block count = two_bytes 22 ++ two_bytes 16 ++ zeros 4 ++ eight_bytes block ++ four_bytes count ++ zeros 4

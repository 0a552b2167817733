-- An operation and the CDB that asks for it (SPC and SBC, the command descriptor blocks).
use Rattle.std.specs.Prelude.{ℕ, ◌*◌, ◌^◌, ◌<◌, Bool, true, false, if◌then◌else◌, ◌==◌, min, List, [], ◌∷◌, ◌++◌}
use Rattle.scsi_cmd.specs.Fields.{two_bytes, four_bytes, eight_bytes, zeros}
use Rattle.scsi_cmd.specs.declared.Op.{Op}
use Rattle.scsi_cmd.specs.declared.Op.TheVariants.{TestUnitReady, Inquiry, ReadCapacity, Read, Write, Sync, Read16, Write16, ReadCapacity16}
use Rattle.uas_profile.specs.declared.Direction.{Direction}
use Rattle.uas_profile.specs.declared.Direction.TheVariants.{Nothing, ToHost, ToDevice}
use Rattle.uas_profile.specs.declared.TheConstants.{BLOCK_BYTES}

-- each field fits its bytes: a block number has four, a count and an allocation length two; in the long commands eight and four
abbrev pub FitsCdb : Op → Type 0
FitsCdb TestUnitReady = Unit {0}
FitsCdb (Inquiry allocation) = allocation < 2 ^ 16
FitsCdb ReadCapacity = Unit {0}
FitsCdb (Read lba count fua) = (lba < 2 ^ 32) × (count < 2 ^ 16)
FitsCdb (Write lba count fua) = (lba < 2 ^ 32) × (count < 2 ^ 16)
FitsCdb (Sync lba count) = (lba < 2 ^ 32) × (count < 2 ^ 16)
FitsCdb (Read16 lba count fua) = (lba < 2 ^ 64) × (count < 2 ^ 32)
FitsCdb (Write16 lba count fua) = (lba < 2 ^ 64) × (count < 2 ^ 32)
FitsCdb (ReadCapacity16 allocation) = allocation < 2 ^ 32

-- byte 1 of READ and WRITE, the long ones too: FUA is bit 3
abbrev pub fua_byte : Bool → ℕ
fua_byte true = 8
fua_byte false = 0

-- the CDB of a command on blocks: code, byte 1, block number 2-5, 0, count 7-8, zeros
abbrev pub block_cdb : ℕ → ℕ → ℕ → ℕ → List ℕ
block_cdb code flags lba count =
    (code ∷ flags ∷ []) ++ four_bytes lba ++ (0 ∷ []) ++ two_bytes count ++ zeros 7

-- the CDB of a long command: code, byte 1, block number 2-9, count or allocation length 10-13, zeros
abbrev pub long_cdb : ℕ → ℕ → ℕ → ℕ → List ℕ
long_cdb code flags lba count = (code ∷ flags ∷ []) ++ eight_bytes lba ++ four_bytes count ++ zeros 2

-- The 16 bytes of the CDB; READ CAPACITY(16) is the service action 10h of its code. Checked by hand: INQUIRY of 36 is
-- 12 00 00 00 24 and eleven zeros; READ of 2 blocks from 01020304h on with FUA is 28 08 01 02 03 04 00 00 02 and seven zeros;
-- READ(16) of block 2^32 is 88 00 00 00 00 01 00 00 00 00 00 00 00 01 00 00.
unfoldable pub cdb_bytes : Op → List ℕ
cdb_bytes TestUnitReady = zeros 16
cdb_bytes (Inquiry allocation) = (0x12 ∷ 0 ∷ 0 ∷ []) ++ two_bytes allocation ++ zeros 11
cdb_bytes ReadCapacity = 0x25 ∷ zeros 15
cdb_bytes (Read lba count fua) = block_cdb 0x28 (fua_byte fua) lba count
cdb_bytes (Write lba count fua) = block_cdb 0x2a (fua_byte fua) lba count
cdb_bytes (Sync lba count) = block_cdb 0x35 0 lba count
cdb_bytes (Read16 lba count fua) = long_cdb 0x88 (fua_byte fua) lba count
cdb_bytes (Write16 lba count fua) = long_cdb 0x8a (fua_byte fua) lba count
cdb_bytes (ReadCapacity16 allocation) = long_cdb 0x9e 0x10 0 allocation

-- How many bytes the operation moves; INQUIRY data has 36, READ CAPACITY data 8, the long one 32, a block 512. Checked by
-- hand: INQUIRY with allocation 5 moves 5, with 255 it moves 36; READ CAPACITY(16) with allocation 12 moves 12.
abbrev pub moved_bytes : Op → ℕ
moved_bytes TestUnitReady = 0
moved_bytes (Inquiry allocation) = min allocation 36
moved_bytes ReadCapacity = 8
moved_bytes (Read lba count fua) = BLOCK_BYTES * count
moved_bytes (Write lba count fua) = BLOCK_BYTES * count
moved_bytes (Sync lba count) = 0
moved_bytes (Read16 lba count fua) = BLOCK_BYTES * count
moved_bytes (Write16 lba count fua) = BLOCK_BYTES * count
moved_bytes (ReadCapacity16 allocation) = min allocation 32

-- which way the bytes go, where there are any
abbrev pub way_of : Op → Direction
way_of TestUnitReady = Nothing
way_of (Inquiry allocation) = ToHost
way_of ReadCapacity = ToHost
way_of (Read lba count fua) = ToHost
way_of (Write lba count fua) = ToDevice
way_of (Sync lba count) = Nothing
way_of (Read16 lba count fua) = ToHost
way_of (Write16 lba count fua) = ToDevice
way_of (ReadCapacity16 allocation) = ToHost

-- no direction where no byte moves: READ of no blocks has none
abbrev pub direction_of : Op → Direction
direction_of op = if moved_bytes op == 0 then Nothing else way_of op

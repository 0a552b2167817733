-- Which requests a disk is asked.
use Rattle.std.specs.Prelude.{◌≡◌, ◌≢◌, ℕ, ◌+◌, ◌*◌, ◌≤◌, ◌==◌, ◌&&◌, nat_lt, Bool, true, false, not, if◌then◌else◌, Option, None, Some}
use Rattle.disk_requests.specs.declared.Request.{Request}
use Rattle.disk_requests.specs.declared.Request.TheVariants.{Read, Write, Sync, Unmap, Ready}
use Rattle.disk_requests.specs.declared.refusals.DiskShape.{DiskShape}
use Rattle.disk_requests.specs.declared.refusals.Refusal.{Refusal}
use Rattle.disk_requests.specs.declared.refusals.Refusal.TheVariants.{Range, TooLong, NoUnmap, NoFua, Length}

-- the first block and the blocks that a request names: none of SYNCHRONIZE CACHE, which is of all, and of TEST UNIT READY
abbrev pub first_block : Request → ℕ
first_block (Read block count) = block
first_block (Write block count fua) = block
first_block Sync = 0
first_block (Unmap block count) = block
first_block Ready = 0

abbrev pub named_blocks : Request → ℕ
named_blocks (Read block count) = count
named_blocks (Write block count fua) = count
named_blocks Sync = 0
named_blocks (Unmap block count) = count
named_blocks Ready = 0

-- the bytes that its caller lends: those of the blocks that READ and WRITE move
abbrev pub moved_bytes : Request → ℕ → ℕ
moved_bytes (Read block count) block_bytes = count * block_bytes
moved_bytes (Write block count fua) block_bytes = count * block_bytes
moved_bytes Sync block_bytes = 0
moved_bytes (Unmap block count) block_bytes = 0
moved_bytes Ready block_bytes = 0

-- the most blocks of one such request; 0 is no limit
abbrev pub most_of : Request → DiskShape → ℕ
most_of (Read block count) disk = disk.most_blocks
most_of (Write block count fua) disk = disk.most_blocks
most_of Sync disk = 0
most_of (Unmap block count) disk = disk.most_unmap
most_of Ready disk = 0

abbrev pub is_unmap : Request → Bool
is_unmap (Unmap block count) = true
is_unmap _ = false

abbrev pub is_fua : Request → Bool
is_fua (Write block count fua) = fua
is_fua _ = false

-- the first of these that holds: a block isn't there; more blocks than one request has; UNMAP, or FUA, of a disk without it; other bytes lent
-- than are moved
abbrev pub refusal_of : Request → DiskShape → ℕ → Option Refusal
refusal_of request disk lent =
    if nat_lt disk.blocks (first_block request + named_blocks request) then Some Range
    else (if not (most_of request disk == 0) && nat_lt (most_of request disk) (named_blocks request) then Some TooLong
    else (if is_unmap request && not disk.can_unmap then Some NoUnmap
    else (if is_fua request && not disk.has_fua then Some NoFua
    else (if not (lent == moved_bytes request disk.block_bytes) then Some Length
    else None))))

-- a request that the disk is asked
pub record IsAsked (request : Request) (disk : DiskShape) (lent : ℕ) : Type 0 where
  pub range : first_block request + named_blocks request ≤ disk.blocks
  pub few : most_of request disk ≢ 0 → named_blocks request ≤ most_of request disk
  pub unmap : is_unmap request ≡ true → disk.can_unmap ≡ true
  pub fua : is_fua request ≡ true → disk.has_fua ≡ true
  pub length : lent ≡ moved_bytes request disk.block_bytes

-- All chunks of a READ or a WRITE in turn (SBC): the blocks from the LBA on, in full and in order.
use Rattle.std.specs.Prelude.{◌≡◌, ℕ, zero, suc, ◌+◌, ◌*◌, ◌<◌, ◌≤◌, Bool, true, false, List, [], ◌++◌, length, min, take, unwrap_or}
use Rattle.block_unit.specs.BlockMaps.{BlockMaps, blocks_read, bytes_from, meets_bad, written}
use Rattle.block_unit.specs.Laws.{IsSized}
use Rattle.scsi_cmd.specs.declared.Work.{Work}
use Rattle.scsi_cmd.specs.declared.Work.TheVariants.{Reads, Writes}
use Rattle.scsi_cmd.specs.Sense.{unrecovered_read_error, write_error}
use Rattle.device_server.specs.declared.Answer.TheVariants.{Good, Check}
use Rattle.device_server.specs.declared.Progress.{Progress}
use Rattle.device_server.specs.declared.Progress.TheVariants.{Moving, Ended}
use Rattle.device_server.specs.Server.{chunk_given, meets_bad_chunk, progress_after, unit_taken}
use Rattle.uas_profile.specs.declared.TheConstants.{BLOCK_BYTES, CHUNK_BLOCKS, CHUNK_BYTES}

-- THE CHUNKS IN TURN

-- the bytes that the first so many chunks give, on blocks that don't change
abbrev pub chunks_given : BlockMaps → Work → ℕ → List ℕ
chunks_given unit work zero = []
chunks_given unit work (suc chunk) = chunks_given unit work chunk ++ unwrap_or (chunk_given unit chunk work) []

-- the bytes of a chunk, of those that were handed in
abbrev pub chunk_of : List ℕ → ℕ → List ℕ
chunk_of bytes chunk = bytes_from bytes (CHUNK_BYTES * chunk) CHUNK_BYTES

-- the unit once it took the first so many chunks of these bytes
abbrev pub chunks_taken : BlockMaps → List ℕ → Work → ℕ → BlockMaps
chunks_taken unit bytes work zero = unit
chunks_taken unit bytes work (suc chunk) = unit_taken (chunks_taken unit bytes work chunk) (chunk_of bytes chunk) chunk work

-- the blocks of the first so many chunks, of a command of so many: of 20 blocks two chunks are 16, and three are 20
abbrev pub blocks_in : ℕ → ℕ → ℕ
blocks_in count chunks = min count (CHUNK_BLOCKS * chunks)

-- READ

-- chunks of which none meets a bad block give the blocks from the LBA on; enough chunks give all
abbrev pub ReadsGiveAll : Type 0
ReadsGiveAll = (unit : BlockMaps) (lba count chunks : ℕ) → meets_bad unit lba (blocks_in count chunks) ≡ false
    → chunks_given unit (Reads lba count) chunks ≡ blocks_read unit lba (blocks_in count chunks)

-- a chunk that isn't the last goes on to the next, and the last one ends with GOOD
pub record Advances (unit : BlockMaps) (count chunk : ℕ) (work : Work) : Type 0 where
  pub next : CHUNK_BLOCKS * (chunk + 1) < count → progress_after unit chunk work ≡ Moving (chunk + 1)
  pub last : count ≤ CHUNK_BLOCKS * (chunk + 1) → progress_after unit chunk work ≡ Ended Good

abbrev pub ReadsAdvance : Type 0
ReadsAdvance = (unit : BlockMaps) (lba count chunk : ℕ) → meets_bad_chunk unit lba count chunk ≡ false
    → Advances unit count chunk (Reads lba count)

-- a chunk that meets a bad block gives nothing, and ends the command with an unrecovered read error
abbrev pub ReadsStopAtBad : Type 0
ReadsStopAtBad = (unit : BlockMaps) (lba count chunk : ℕ) → meets_bad_chunk unit lba count chunk ≡ true
    → (chunks_given unit (Reads lba count) (suc chunk) ≡ chunks_given unit (Reads lba count) chunk)
    × (progress_after unit chunk (Reads lba count) ≡ Ended (Check unrecovered_read_error))

-- WRITE

-- A WRITE of so many blocks with as many bytes, on blocks that are there: chunks of which none meets a bad block leave the unit as one
-- write of their bytes does. Enough chunks write all.
abbrev pub WritesTakeAll : Type 0
WritesTakeAll = (unit : BlockMaps) (lba count : ℕ) (through : Bool) (bytes : List ℕ) (chunks : ℕ) → IsSized unit → lba + count ≤ unit.count
    → length bytes ≡ BLOCK_BYTES * count → CHUNK_BLOCKS * chunks < count + CHUNK_BLOCKS → meets_bad unit lba (blocks_in count chunks) ≡ false
    → chunks_taken unit bytes (Writes lba count through) chunks ≡ written unit lba (take (BLOCK_BYTES * blocks_in count chunks) bytes) through

abbrev pub WritesAdvance : Type 0
WritesAdvance = (unit : BlockMaps) (lba count : ℕ) (through : Bool) (chunk : ℕ) → meets_bad_chunk unit lba count chunk ≡ false
    → Advances unit count chunk (Writes lba count through)

-- a chunk that meets a bad block is taken nowhere, and ends the command with a write error
abbrev pub WritesStopAtBad : Type 0
WritesStopAtBad = (unit : BlockMaps) (lba count : ℕ) (through : Bool) (bytes : List ℕ) (chunk : ℕ) → meets_bad_chunk unit lba count chunk ≡ true
    → (unit_taken unit bytes chunk (Writes lba count through) ≡ unit)
    × (progress_after unit chunk (Writes lba count through) ≡ Ended (Check write_error))

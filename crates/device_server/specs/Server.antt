-- What one command does to one logical unit: how it begins, its data chunk by chunk, and its answer.
use Rattle.std.specs.Prelude.{ℕ, ◌≡◌, ◌+◌, ◌-◌, ◌*◌, ◌<◌, ◌==◌, nat_lt, min, Bool, true, false, not, ◌&&◌, if◌then◌else◌, List, [], Option}
use Rattle.std.specs.Prelude.{Some, None, Result, Ok, Err}
use Rattle.block_unit.specs.BlockMaps.{BlockMaps, blocks_read, meets_bad, synced, with_attention, written}
use Rattle.scsi_cmd.specs.declared.Op.{Op}
use Rattle.scsi_cmd.specs.declared.Sense.{Sense}
use Rattle.scsi_cmd.specs.declared.Work.{Work}
use Rattle.scsi_cmd.specs.declared.Work.TheVariants.{Nothing, Gives, Reads, Writes, Synchronizes}
use Rattle.scsi_cmd.specs.Meaning.{op_fault}
use Rattle.scsi_cmd.specs.Op.{moved_bytes}
use Rattle.scsi_cmd.specs.Sense.{sense_bytes, reset_occurred, unrecovered_read_error, write_error}
use Rattle.scsi_cmd.specs.Work.{work_bytes}
use Rattle.device_server.specs.declared.Answer.{Answer}
use Rattle.device_server.specs.declared.Answer.TheVariants.{Good, Check}
use Rattle.device_server.specs.declared.Progress.{Progress}
use Rattle.device_server.specs.declared.Progress.TheVariants.{Moving, Ended}
use Rattle.uas_profile.specs.declared.TheConstants.{BLOCK_BYTES, CHUNK_BLOCKS, CHUNK_BYTES}

-- THE BEGINNING

-- SYNCHRONIZE CACHE acts at once; no other work changes the blocks before it moves data
abbrev pub synchronized : BlockMaps → Work → BlockMaps
synchronized unit Nothing = unit
synchronized unit (Gives bytes) = unit
synchronized unit (Reads lba count) = unit
synchronized unit (Writes lba count through) = unit
synchronized unit (Synchronizes lba count) = synced unit lba count

-- what moves no data has ended: READ of no blocks is GOOD
abbrev pub first_progress : ℕ → Progress
first_progress bytes = if bytes == 0 then Ended Good else Moving 0

-- a fault ends it
abbrev pub progress_asked : Result Work Sense → Progress
progress_asked (Ok work) = first_progress (work_bytes work)
progress_asked (Err sense) = Ended (Check sense)

abbrev pub unit_asked : BlockMaps → Result Work Sense → BlockMaps
unit_asked unit (Ok work) = synchronized unit work
unit_asked unit (Err sense) = unit

-- A command that reports attentions and asks for this work. A unit attention comes before a fault, ends the command, and is
-- then gone. Checked by hand: with an attention INQUIRY is as ever, then TEST UNIT READY or an unknown code is 6/29/03, and
-- the next TEST UNIT READY is GOOD.
abbrev pub begun : BlockMaps → Bool → Result Work Sense → BlockMaps × Progress
begun unit reports asked =
    if reports && unit.attention
    then (with_attention unit false, Ended (Check reset_occurred))
    else (unit_asked unit asked, progress_asked asked)

-- ONE CHUNK, of at most 8 (CHUNK_BLOCKS) blocks, on the blocks of this moment

-- the blocks of a chunk, of so many blocks in all: of 20 these are 8, 8 and 4
abbrev pub chunk_blocks : ℕ → ℕ → ℕ
chunk_blocks count chunk = min CHUNK_BLOCKS (count - CHUNK_BLOCKS * chunk)

-- the bytes of a chunk, of so many bytes in all: of 5,120 these are 4,096 and 1,024, of 36 they are 36
abbrev pub chunk_bytes : ℕ → ℕ → ℕ
chunk_bytes bytes chunk = min CHUNK_BYTES (bytes - CHUNK_BYTES * chunk)

-- does the chunk meet a bad block
abbrev pub meets_bad_chunk : BlockMaps → ℕ → ℕ → ℕ → Bool
meets_bad_chunk unit lba count chunk = meets_bad unit (lba + CHUNK_BLOCKS * chunk) (chunk_blocks count chunk)

-- the bytes that it gives, or None where it meets a bad block or gives none
abbrev pub chunk_given : BlockMaps → ℕ → Work → Option (List ℕ)
chunk_given unit chunk Nothing = None
chunk_given unit chunk (Gives bytes) = Some bytes.items
chunk_given unit chunk (Reads lba count) =
    if meets_bad_chunk unit lba count chunk then None else Some (blocks_read unit (lba + CHUNK_BLOCKS * chunk) (chunk_blocks count chunk))
chunk_given unit chunk (Writes lba count through) = None
chunk_given unit chunk (Synchronizes lba count) = None

-- whether it is taken: where it is data for the unit, and no block of it is bad
abbrev pub chunk_fits : BlockMaps → ℕ → Work → Bool
chunk_fits unit chunk Nothing = false
chunk_fits unit chunk (Gives bytes) = false
chunk_fits unit chunk (Reads lba count) = false
chunk_fits unit chunk (Writes lba count through) = not (meets_bad_chunk unit lba count chunk)
chunk_fits unit chunk (Synchronizes lba count) = false

-- the unit once it was offered these bytes; FUA reaches the medium too, and a bad block leaves all as it was
abbrev pub unit_taken : BlockMaps → List ℕ → ℕ → Work → BlockMaps
unit_taken unit bytes chunk Nothing = unit
unit_taken unit bytes chunk (Gives given) = unit
unit_taken unit bytes chunk (Reads lba count) = unit
unit_taken unit bytes chunk (Writes lba count through) =
    if meets_bad_chunk unit lba count chunk then unit else written unit (lba + CHUNK_BLOCKS * chunk) bytes through
unit_taken unit bytes chunk (Synchronizes lba count) = unit

-- the last chunk ends the command: of 8,192 bytes chunk 0 gives Moving 1 and chunk 1 ends it, of 4,096 chunk 0 does
abbrev pub next_progress : ℕ → ℕ → Progress
next_progress bytes chunk = if nat_lt (CHUNK_BYTES * (chunk + 1)) bytes then Moving (chunk + 1) else Ended Good

-- a bad block ends the command with this sense; the chunks before it stand
abbrev pub progress_after_blocks : BlockMaps → ℕ → ℕ → ℕ → Sense → Progress
progress_after_blocks unit lba count chunk sense =
    if meets_bad_chunk unit lba count chunk then Ended (Check sense) else next_progress (BLOCK_BYTES * count) chunk

abbrev pub progress_after : BlockMaps → ℕ → Work → Progress
progress_after unit chunk Nothing = Ended Good
progress_after unit chunk (Gives bytes) = Ended Good
progress_after unit chunk (Reads lba count) = progress_after_blocks unit lba count chunk unrecovered_read_error
progress_after unit chunk (Writes lba count through) = progress_after_blocks unit lba count chunk write_error
progress_after unit chunk (Synchronizes lba count) = Ended Good

-- whether a chunk that led here met no bad block
abbrev pub chunk_moved : Progress → Bool
chunk_moved (Moving chunk) = true
chunk_moved (Ended Good) = true
chunk_moved (Ended (Check sense)) = false

-- THE ANSWER

-- GOOD is 00h, CHECK CONDITION 02h (SAM)
abbrev pub status_of : Answer → ℕ
status_of Good = 0
status_of (Check sense) = 2

-- GOOD comes without sense data
abbrev pub sense_of : Answer → List ℕ
sense_of Good = []
sense_of (Check sense) = sense_bytes sense

-- WHAT IS TRUE OF EVERY COMMAND THAT HAS BEGUN

-- one that moves data has bytes left to move, and its blocks are on the unit: READ of 16 blocks is at chunk 0 or 1
abbrev pub HasChunk : ℕ → Op → Progress → Type 0
HasChunk count op (Moving chunk) = (CHUNK_BYTES * chunk < moved_bytes op) × (op_fault op count ≡ None)
HasChunk count op (Ended answer) = Unit {0}

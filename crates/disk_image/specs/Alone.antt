-- One command alone: what it comes to on a bus of one client, and what `dump` and `fill` tell of it.
use Rattle.std.specs.Prelude.{ℕ, zero, suc, ◌+◌, ◌*◌, ◌/◌, ◌%◌, ◌^◌, true, false, if◌then◌else◌, List, [], ◌∷◌, ◌++◌, length, take, drop, replicate, codes}
use Rattle.std.specs.Prelude.{slice_get, Option, Some, None}
use Rattle.std.specs.Option.{option_map_or}
use Rattle.std.specs.Int.{w32, to_be_bytes}
use Rattle.hex.specs.Hex.{encode_lower}
use Rattle.block_unit.specs.BlockMaps.{BlockMaps}
use Rattle.scsi_cmd.specs.declared.Op.TheVariants.{Read, Write}
use Rattle.scsi_cmd.specs.declared.Reply.{Reply}
use Rattle.scsi_cmd.specs.declared.Reply.TheVariants.{Status, Aborted, Task}
use Rattle.shared_machine.specs.declared.Step.TheVariants as step
use Rattle.shared_machine.specs.declared.Outcome.{Outcome}
use Rattle.shared_machine.specs.Shared.{Shared, opening}
use Rattle.uas_profile.specs.declared.TheConstants.{TAGS}
use Rattle.uas_script.specs.declared.Request.{Request}
use Rattle.uas_replay.specs.Printed.{is_good, sense_line}
use Rattle.uas_replay.specs.Told.{step_of, drained_machine, drain_limit, command_of}

-- THE COMMAND

-- A request on a bus of this unit alone: client 0 submits it on its first tag, 1, with its first ticket, 0; the bus is drained, and
-- the client takes the reply, where one is ready.
unfoldable pub answered : BlockMaps → Request → Shared × Outcome
answered unit request =
    step_of (drained_machine (step_of (opening TAGS (unit ∷ [])) (step.Submit 0 1 0 (command_of request))).0 drain_limit) (step.Take 0)

-- a READ of so many blocks
abbrev pub read_request : ℕ → ℕ → Request
read_request lba count = record { op = Read lba count false; fill = 0 }

-- a WRITE with FUA of so many blocks of this byte
abbrev pub fill_request : ℕ → ℕ → ℕ → Request
fill_request lba count byte = record { op = Write lba count true; fill = byte }

-- the medium of the bus's one unit
abbrev pub medium_of : Shared → List ℕ
medium_of machine = option_map_or (λ part. part.unit.medium) (slice_get machine.parts 0) []

-- WHAT IS TOLD

-- What is told of a reply, where this is the text of a GOOD with its buffer; and the exit status, 1 but for a GOOD. Nothing is told
-- of a command whose status didn't come.
abbrev pub told_of : (List ℕ → List ℕ) → Option Reply → List ℕ × ℕ
told_of good None = ([], 1)
told_of good (Some (Status tag ticket status sense buffer)) = if is_good status then (good buffer, 0) else (sense_line sense.items, 1)
told_of good (Some (Aborted tag ticket buffer)) = ([], 1)
told_of good (Some (Task tag ticket code)) = ([], 1)

-- DUMP

-- the offset of a row of 16 bytes from the disk's start, where the first one begins with this block. An image has fewer than 2^32 bytes.
abbrev pub row_offset : ℕ → ℕ → ℕ
row_offset lba row = (512 * lba + 16 * row) % 2 ^ 32

-- an offset in 8 hexadecimal digits, and 16 bytes.
-- By hand: 16 bytes of ones at the start of block 1 print `00000200 ffffffffffffffffffffffffffffffff`.
abbrev pub row_line : ℕ → List ℕ → List ℕ
row_line offset bytes = encode_lower (to_be_bytes w32 offset) ++ codes " " ++ encode_lower bytes ++ codes "\n"

-- the rows below this one
abbrev pub rows_below : ℕ → ℕ → List ℕ → List ℕ
rows_below zero lba bytes = []
rows_below (suc row) lba bytes = rows_below row lba bytes ++ row_line (row_offset lba row) (take 16 (drop (16 * row) bytes))

-- the lines of bytes that stand from this block on, 32 of them for each block
unfoldable pub dump_lines : ℕ → List ℕ → List ℕ
dump_lines lba bytes = rows_below (length bytes / 16) lba bytes

-- what `dump` tells of a unit
unfoldable pub dumped : BlockMaps → ℕ → ℕ → List ℕ × ℕ
dumped unit lba count = told_of (dump_lines lba) (answered unit (read_request lba count)).1.reply

-- the bytes of so many blocks of an image from this one on
unfoldable pub blocks_at : List ℕ → ℕ → ℕ → List ℕ
blocks_at image lba count = take (512 * count) (drop (512 * lba) image)

-- FILL

abbrev pub good_text : List ℕ
good_text = codes "good\n"

-- what `fill` tells of a unit
unfoldable pub filled : BlockMaps → ℕ → ℕ → ℕ → List ℕ × ℕ
filled unit lba count byte = told_of (λ buffer. good_text) (answered unit (fill_request lba count byte)).1.reply

-- the medium that it leaves, which the file gets after a GOOD
unfoldable pub filled_medium : BlockMaps → ℕ → ℕ → ℕ → List ℕ
filled_medium unit lba count byte = medium_of (answered unit (fill_request lba count byte)).0

-- the image with so many blocks from this one on each of this byte, and all before and behind them as it was
unfoldable pub filled_image : List ℕ → ℕ → ℕ → ℕ → List ℕ
filled_image image lba count byte = take (512 * lba) image ++ replicate (512 * count) byte ++ drop (512 * (lba + count)) image

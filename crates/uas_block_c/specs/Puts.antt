-- What submitting a command makes of the driver and the command.
use Rattle.std.specs.Prelude.{◌≡◌, ℕ, ◌<◌, ◌≤◌, ◌==◌, not, List, [], ◌∷◌, length, map, Option, None, Some, Result, Ok, Err, IfErr, IfOk, OnErr}
use Rattle.c_common.specs.Door.{numbered}
use Rattle.disk_requests.specs.declared.Request.{Request}
use Rattle.disk_requests.specs.declared.Request.TheVariants.{Read, Write, Sync, Unmap, Ready}
use Rattle.host_layout.specs.declared.segments.Segment.{Segment}
use Rattle.block_driver.specs.declared.BlockDriver.{BlockDriver}
use Rattle.block_driver.specs.declared.Fault.{Fault}
use Rattle.block_driver.specs.Submits.{submit_refusal, submitted_on}
use Rattle.block_driver.specs.Table.{entry_at, mark_of}
use Rattle.uas_block_c.specs.declared.faults.TheConstants.{BLOCK_CALL, BLOCK_PIECES}
use Rattle.uas_block_c.specs.declared.puts.UasBlockCommand.{UasBlockCommand}
use Rattle.uas_block_c.specs.declared.puts.UasSegment.{UasSegment}
use Rattle.uas_block_c.specs.Numbers.{put_number}

-- 1 reads, 2 writes, 3 brings to the medium, 4 unmaps, 5 asks whether the disk is ready
abbrev pub request_of : UasBlockCommand → Option Request
request_of command =
    numbered ((1, Read command.block command.count) ∷ (2, Write command.block command.count (not (command.fua == 0))) ∷ (3, Sync)
    ∷ (4, Unmap command.block command.count) ∷ (5, Ready) ∷ []) command.kind

abbrev pub segment_of : UasSegment → Segment
segment_of segment = record { address = segment.address; length = segment.length }

abbrev pub tag_or_number : Result ℕ Fault → ℕ
tag_or_number (Ok tag) = 0
tag_or_number (Err fault) = put_number fault

abbrev pub with_tag : UasBlockCommand → Result ℕ Fault → UasBlockCommand
with_tag command (Ok tag) = record command { tag = tag }
with_tag command (Err fault) = command

-- the command is taken or refused as of `BlockDriver::submit`
abbrev pub Submits : BlockDriver → BlockDriver → UasBlockCommand → Request → List Segment → Result ℕ Fault → Type 0
Submits had now command request segments result =
    IfErr result (λ fault. submit_refusal had command.disk request segments ≡ Some fault)
    × OnErr result (now ≡ had)
    × IfOk result (λ tag. (submit_refusal had command.disk request segments ≡ None)
    × (now ≡ submitted_on had request segments command.mark command.limit tag))
    × IfOk result (λ tag. mark_of (entry_at had.blocks.tags tag) ≡ None)

abbrev pub IsRefused : BlockDriver → BlockDriver → UasBlockCommand → UasBlockCommand → ℕ → ℕ → Type 0
IsRefused had now command told number fault = (number ≡ fault) × (now ≡ had) × (told ≡ command)

-- no command has more than 127 segments
abbrev pub PutAs : Option Request → BlockDriver → BlockDriver → UasBlockCommand → UasBlockCommand → List UasSegment → ℕ → Type 0
PutAs None had now command told segments number = IsRefused had now command told number BLOCK_CALL
PutAs (Some request) had now command told segments number =
    (127 < length segments → IsRefused had now command told number BLOCK_PIECES)
    × (length segments ≤ 127 → (result : Result ℕ Fault) × (number ≡ tag_or_number result) × (told ≡ with_tag command result)
    × Submits had now command request (map segment_of segments) result)

-- the number of the refusal, or 0; the segments stay as they are
abbrev pub Put : BlockDriver → BlockDriver → UasBlockCommand → UasBlockCommand → List UasSegment → List UasSegment → ℕ → Type 0
Put had now command told segments left number = PutAs (request_of command) had now command told segments number × (left ≡ segments)

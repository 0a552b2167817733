-- What makes a submission faulty, before anything of it reaches a device.
use Rattle.std.specs.Prelude.{ℕ, ◌==◌, nat_lt, Bool, false, not, if◌then◌else◌, length, Option, Some, None}
use Rattle.scsi_cmd.specs.declared.Op.{Op}
use Rattle.scsi_cmd.specs.declared.Op.TheVariants.{TestUnitReady, Inquiry, ReadCapacity, Read, Write, Sync, Read16, Write16, ReadCapacity16}
use Rattle.scsi_cmd.specs.declared.Command.{Command}
use Rattle.scsi_cmd.specs.declared.SubmitFault.{SubmitFault}
use Rattle.scsi_cmd.specs.declared.SubmitFault.TheVariants.{NotYours, InUse, BadLength, TooLong, OutOfTurn, NoSuchTask}
use Rattle.scsi_cmd.specs.Op.{moved_bytes}
use Rattle.uas_profile.specs.declared.TheConstants.{MOST_BLOCKS_MOVED}

-- READ and WRITE have at most 128 blocks, so 129 are too long; no other command is, SYNCHRONIZE CACHE of 65,535 blocks neither
abbrev pub is_too_long : Op → Bool
is_too_long TestUnitReady = false
is_too_long (Inquiry allocation) = false
is_too_long ReadCapacity = false
is_too_long (Read lba count fua) = nat_lt MOST_BLOCKS_MOVED count
is_too_long (Write lba count fua) = nat_lt MOST_BLOCKS_MOVED count
is_too_long (Sync lba count) = false
is_too_long (Read16 lba count fua) = nat_lt MOST_BLOCKS_MOVED count
is_too_long (Write16 lba count fua) = nat_lt MOST_BLOCKS_MOVED count
is_too_long (ReadCapacity16 allocation) = false

-- The first fault of a submission, or none. It reads only whether the tag is a command tag of the client, what the
-- client has under it, and the client's least ticket. Checked by hand: one block with 511 bytes is BadLength, and 129
-- blocks with 66,048 bytes are TooLong.
abbrev pub first_submit_fault : Bool → Bool → ℕ → ℕ → Command → Option SubmitFault
first_submit_fault yours in_use least_ticket ticket command =
    if not yours then Some NotYours
    else (if in_use then Some InUse
    else (if not (length command.buffer == moved_bytes command.op) then Some BadLength
    else (if is_too_long command.op then Some TooLong
    else (if nat_lt ticket least_ticket then Some (OutOfTurn least_ticket)
    else None))))

-- The first fault of a task management, or none. It reads only whether there is such a client, what it has under its task
-- tag, its least ticket, and whether what is to be managed is there. Checked by hand: an abort of a free tag with a used
-- ticket is OutOfTurn.
abbrev pub first_task_fault : Bool → Bool → ℕ → ℕ → Bool → Option SubmitFault
first_task_fault yours in_use least_ticket ticket has_task =
    if not yours then Some NotYours
    else (if in_use then Some InUse
    else (if nat_lt ticket least_ticket then Some (OutOfTurn least_ticket)
    else (if not has_task then Some NoSuchTask
    else None)))

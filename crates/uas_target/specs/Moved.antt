-- What a task's data is, whichever command asks for it, and what it wants and leaves by that alone.
use Rattle.std.specs.Prelude.{◌*◌, ◌<◌}
use Rattle.scsi_cmd.specs.declared.Op.{Op}
use Rattle.scsi_cmd.specs.declared.Op.TheVariants.{TestUnitReady, Inquiry, ReadCapacity, Read, Write, Sync, Read16, Write16, ReadCapacity16}
use Rattle.scsi_cmd.specs.Op.{moved_bytes}
use Rattle.device_server.specs.declared.Progress.{Progress}
use Rattle.device_server.specs.declared.Progress.TheVariants.{Moving as MovingOn, Ended as EndedWith}
use Rattle.uas_target.specs.declared.DeviceAnswer.TheVariants.{Status}
use Rattle.uas_target.specs.declared.DeviceTask.{DeviceTask}
use Rattle.uas_target.specs.declared.DeviceTask.TheVariants.{Moving, Ended}
use Rattle.uas_target.specs.declared.moved.Moved.{Moved}
use Rattle.uas_target.specs.declared.moved.Moved.TheVariants.{Nothing, Reads, Writes, Gives}
use Rattle.uas_profile.specs.declared.TheConstants.{CHUNK_BYTES}

-- what an operation moves: blocks, or a few bytes to the host, all at once
abbrev pub moved_by : Op → Moved
moved_by TestUnitReady = Nothing
moved_by (Inquiry allocation) = Gives (moved_bytes (Inquiry allocation))
moved_by ReadCapacity = Gives (moved_bytes ReadCapacity)
moved_by (Read lba count fua) = Reads lba count
moved_by (Write lba count fua) = Writes lba count fua
moved_by (Sync lba count) = Nothing
moved_by (Read16 lba count fua) = Reads lba count
moved_by (Write16 lba count fua) = Writes lba count fua
moved_by (ReadCapacity16 allocation) = Gives (moved_bytes (ReadCapacity16 allocation))

-- what a task moves; one that has ended moves nothing
abbrev pub moved_of : DeviceTask → Moved
moved_of (Moving unit op chunk) = moved_by op
moved_of (Ended unit answer) = Nothing

-- a task that moves data has bytes left to move
abbrev pub HasLeft : DeviceTask → Type 0
HasLeft (Moving unit op chunk) = CHUNK_BYTES * chunk < moved_bytes op
HasLeft (Ended unit answer) = Unit {0}

-- a task that moves data, once its command is at this
abbrev pub gone_on : DeviceTask → Progress → DeviceTask
gone_on (Moving unit op chunk) (MovingOn next) = Moving unit op next
gone_on (Moving unit op chunk) (EndedWith answer) = Ended unit (Status answer)
gone_on (Ended unit answer) progress = Ended unit answer

-- What a request asks of the pipes.
use Rattle.std.specs.Prelude.{ℕ, Bool, true, false, if◌then◌else◌, []}
use Rattle.arrayvec.specs.ArrayVec.{ArrayVec}
use Rattle.uas_profile.specs.declared.Direction.{Direction}
use Rattle.uas_profile.specs.declared.Direction.TheVariants.{Nothing}
use Rattle.scsi_cmd.specs.declared.Request.{Request}
use Rattle.scsi_cmd.specs.declared.Request.TheVariants.{Execute, Manage}
use Rattle.scsi_cmd.specs.declared.Task.{Task}
use Rattle.scsi_cmd.specs.declared.Task.TheVariants.{Abort, Reset, Query}
use Rattle.scsi_cmd.specs.Op.{direction_of}

-- which way its data goes; a task management moves none
abbrev pub request_direction : Request → Direction
request_direction (Execute op) = direction_of op
request_direction (Manage task noted) = Nothing

-- it is a command's, not a task management's
abbrev pub is_command : Request → Bool
is_command (Execute op) = true
is_command (Manage task noted) = false

-- a task management ends commands (SAM, ABORT TASK and LOGICAL UNIT RESET); QUERY TASK asks after one and changes none
abbrev pub ends_commands : Task → Bool
ends_commands (Abort tag) = true
ends_commands Reset = true
ends_commands (Query tag) = false

-- of the tickets that it noted those of the commands that it ends: all, or none
abbrev pub ended_by : Task → ArrayVec ℕ → ArrayVec ℕ
ended_by task noted = if ends_commands task then noted else record { items = [] }

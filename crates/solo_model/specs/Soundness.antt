-- What is true of every task that a client has, on a unit of so many blocks.
use Rattle.std.specs.Prelude.{◌≡◌, ℕ, List, Option, length}
use Rattle.scsi_cmd.specs.declared.Op.{Op}
use Rattle.scsi_cmd.specs.Op.{moved_bytes}
use Rattle.uas_profile.specs.declared.TheConstants.{MOST_TAGS}
use Rattle.uas_profile.specs.Tags.{AreTags}
use Rattle.scsi_cmd.specs.Held.{AllHeld}
use Rattle.scsi_cmd.specs.declared.Request.{Request}
use Rattle.scsi_cmd.specs.declared.Request.TheVariants.{Execute, Manage}
use Rattle.solo_model.specs.declared.Phase.{Phase}
use Rattle.solo_model.specs.declared.Phase.TheVariants.{Queued, Begun, Sent, Gone}
use Rattle.device_server.specs.declared.Progress.TheVariants.{Moving as MovingOn}
use Rattle.device_server.specs.Server.{HasChunk}
use Rattle.solo_model.specs.declared.TaskProgress.{TaskProgress}
use Rattle.solo_model.specs.declared.TaskProgress.TheVariants.{Moving, Ended}
use Rattle.solo_model.specs.TaggedTask.{TaggedTask}

-- a task that moves data has bytes left to move, and its blocks are on the unit
abbrev pub IsSoundProgress : ℕ → Op → TaskProgress → Type 0
IsSoundProgress count op (Moving chunk) = HasChunk count op (MovingOn chunk)
IsSoundProgress count op (Ended answer) = Unit {0}

-- what the device has begun is sound there
abbrev pub IsSoundPhase : ℕ → Op → Phase → Type 0
IsSoundPhase count op Queued = Unit {0}
IsSoundPhase count op (Begun progress) = IsSoundProgress count op progress
IsSoundPhase count op (Sent answer) = Unit {0}
IsSoundPhase count op Gone = Unit {0}

-- the buffer has the length that the operation moves
pub record IsSoundOp (count : ℕ) (task : TaggedTask) (op : Op) : Type 0 where
  pub whole : length task.buffer ≡ moved_bytes op
  pub chunk : IsSoundPhase count op task.phase

-- a task management moves no data and isn't itself managed
abbrev pub IsManagementPhase : Phase → Type 0
IsManagementPhase Queued = Unit {0}
IsManagementPhase (Begun (Moving chunk)) = ⊥
IsManagementPhase (Begun (Ended answer)) = Unit {0}
IsManagementPhase (Sent answer) = Unit {0}
IsManagementPhase Gone = ⊥

abbrev pub IsSoundRequest : ℕ → TaggedTask → Request → Type 0
IsSoundRequest count task (Execute op) = IsSoundOp count task op
IsSoundRequest count task (Manage what noted) = IsManagementPhase task.phase

abbrev pub IsSound : ℕ → TaggedTask → Type 0
IsSound count task = IsSoundRequest count task task.request

-- each tag has its place, and each task is sound
pub record IsSoundSolo (tags count : ℕ) (held : List (Option TaggedTask)) : Type 0 where
  pub number : AreTags tags
  pub places : length held ≡ MOST_TAGS
  pub tasks : AllHeld (IsSound count) held

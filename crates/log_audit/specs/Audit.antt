-- When a client's own account of its submissions and replies is that of a log.
use Rattle.std.specs.Prelude.{◌≡◌, ℕ, ◌-◌, ◌/◌, ◌==◌, Bool, false, List, ◌++◌, filter, map, Some, slice_get}
use Rattle.block_unit.specs.BlockMaps.{BlockMaps}
use Rattle.scsi_cmd.specs.declared.Reply.{Reply}
use Rattle.scsi_cmd.specs.Replies.{reply_tag}
use Rattle.solo_model.specs.Solo.{SoloState, solo_run, opening as solo_opening}
use Rattle.shared_machine.specs.declared.Step.{Step}
use Rattle.shared_machine.specs.declared.Step.TheVariants.{Submit, Task, CommandPipe, Data, Status, Engine, Event, Retire, Take}
use Rattle.isolation.specs.Isolation.{own_labels, renumbered}
use Rattle.uas_log.specs.declared.Log.{Log}
use Rattle.uas_log.specs.Booking.{first_units, log_replay}

-- WHAT WAS SENT

-- a step is a submission of this client
abbrev pub is_asked_by : ℕ → Step → Bool
is_asked_by client (Submit owner tag ticket command) = owner == client
is_asked_by client (Task owner ticket task) = owner == client
is_asked_by client CommandPipe = false
is_asked_by client (Data tag) = false
is_asked_by client (Status tag) = false
is_asked_by client Engine = false
is_asked_by client Event = false
is_asked_by client (Retire pipe tag) = false
is_asked_by client (Take owner) = false

-- the submissions of a client, refused ones too, in order
abbrev pub submissions_of : ℕ → List Step → List Step
submissions_of client steps = filter (is_asked_by client) steps

-- a list's first items, in order, are these
pub record IsBeginning (first whole : List Step) : Type 0 where
  pub rest : List Step
  pub is : whole ≡ first ++ rest

-- WHAT WAS TAKEN

-- a reply brings back a tag of this client, for so many tags of each: of 16 tags 1 to 16 are client 0's, and of 8 tags 1 to 8
abbrev pub is_taken_by : ℕ → ℕ → Reply → Bool
is_taken_by tags client reply = (reply_tag reply - 1) / tags == client

-- The solo machine of the log's number of tags on the client's first unit, run over the client's own labels of the log's steps, gives these replies.
pub record AreSolos (log : Log) (client : ℕ) (replies : List Reply) : Type 0 where
  pub unit : BlockMaps
  pub there : slice_get (first_units log) client ≡ Some unit
  pub last : SoloState
  pub run : solo_run (solo_opening log.tags unit) (own_labels log.tags client log.steps (log_replay log).1) ≡ Some (last, replies)

-- THE AUDIT

-- An audit is true: the client's submissions of the log are the first that it sent, and its replies, their tags as the client's own
-- indices, are the solo machine's.
pub record IsAudited (log : Log) (client : ℕ) (sent : List Step) (replies : List Reply) : Type 0 where
  pub asked : IsBeginning (submissions_of client log.steps) sent
  pub told : AreSolos log client (map (renumbered log.tags client) replies)

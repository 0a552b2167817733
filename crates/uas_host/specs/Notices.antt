-- What an event tells.
use Rattle.std.specs.Prelude.{ℕ}
use Rattle.arrayvec.specs.ArrayVec.{ArrayVec}
use Rattle.uas_profile.specs.declared.Pipe.{Pipe}

-- The command was received; the data TD of a pipe is done; the command ended with this status and this sense; the task
-- management was answered with this code; the left-over TD on this pipe is off its ring.
pub data Notice : Type 0 where
  CommandSeen : Notice
  DataInSeen : Notice
  DataOutSeen : Notice
  Answered : ℕ → ArrayVec ℕ → Notice
  Responded : ℕ → Notice
  TdRetired : Pipe → Notice

-- What a reply waits for.
use Rattle.std.specs.Prelude.{◌≡◌, true, false, is_some}
use Rattle.block_requests.specs.declared.outcomes.Outcome.TheVariants.{Good}
use Rattle.block_driver.specs.declared.table.Came.{Came}
use Rattle.block_driver.specs.declared.table.Ending.TheVariants as ending
use Rattle.block_driver.specs.declared.table.Entry.TheVariants as entry
use Rattle.block_driver.specs.declared.table.Outstanding.{Outstanding}
use Rattle.block_driver.specs.Table.{is_pending, settled_command, unanswered}

-- a reply waits for the data and the status of its command
abbrev pub ReplyWaits : Type 0
ReplyWaits =
    (command : Outstanding) (came : Came) → settled_command command ≡ entry.Replied came
    → (is_pending command.data_state ≡ false) × (is_some command.status ≡ true)

-- one that is GOOD has all bytes
abbrev pub GoodHasAll : Type 0
GoodHasAll =
    (command : Outstanding) (came : Came) → settled_command command ≡ entry.Replied came → came.ending ≡ ending.Told Good → came.moved ≡ command.wanted

-- so does one of a command that was aborted, whose data ended or were taken off
abbrev pub AbortWaits : Type 0
AbortWaits =
    (command : Outstanding) (came : Came) → unanswered command ≡ entry.Replied came
    → (is_pending command.data_state ≡ false) × (command.is_aborted ≡ true) × (is_some command.status ≡ false)

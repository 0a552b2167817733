-- A log of clients of 8 tags as one of clients of 16.
use Rattle.std.specs.Prelude.{◌≡◌, ℕ, ◌+◌, ◌*◌, ◌/◌, ◌%◌, ◌==◌, ◌||◌, nat_lt, if◌then◌else◌, length, map, Result, Ok, Err}
use Rattle.scsi_cmd.specs.declared.Reply.{Reply}
use Rattle.scsi_cmd.specs.declared.Reply.TheVariants as replies
use Rattle.scsi_cmd.specs.declared.Task.{Task}
use Rattle.scsi_cmd.specs.declared.Task.TheVariants.{Abort, Reset, Query}
use Rattle.shared_machine.specs.declared.Step.{Step}
use Rattle.shared_machine.specs.declared.Step.TheVariants as steps
use Rattle.log_text.specs.declared.MigrateFault.{MigrateFault}
use Rattle.log_text.specs.declared.MigrateFault.TheVariants.{TooManyClients, NoMemory}
use Rattle.log_text.specs.declared.SavedReply.{SavedReply}
use Rattle.log_text.specs.declared.Version.{Version}
use Rattle.log_text.specs.declared.Version.TheVariants.{First, Second}
use Rattle.log_text.specs.Text.{Saved}

-- Of client c the tag 8c + i becomes 16c + i, and 8c + 8, of task managements, 16c + 16; a tag of no client becomes 0.
unfoldable pub moved_tag : ℕ → ℕ → ℕ
moved_tag clients tag =
    if tag == 0 || nat_lt (8 * clients) tag then 0 else (if tag % 8 == 0 then 2 * tag else tag + 8 * (tag / 8))

abbrev pub moved_task : ℕ → Task → Task
moved_task clients (Abort tag) = Abort (moved_tag clients tag)
moved_task clients Reset = Reset
moved_task clients (Query tag) = Query (moved_tag clients tag)

abbrev pub moved_step : ℕ → Step → Step
moved_step clients (steps.Submit client tag ticket command) = steps.Submit client (moved_tag clients tag) ticket command
moved_step clients (steps.Task client ticket task) = steps.Task client ticket (moved_task clients task)
moved_step clients steps.CommandPipe = steps.CommandPipe
moved_step clients (steps.Data tag) = steps.Data (moved_tag clients tag)
moved_step clients (steps.Status tag) = steps.Status (moved_tag clients tag)
moved_step clients steps.Engine = steps.Engine
moved_step clients steps.Event = steps.Event
moved_step clients (steps.Retire pipe tag) = steps.Retire pipe (moved_tag clients tag)
moved_step clients (steps.Take client) = steps.Take client

abbrev pub moved_reply : ℕ → Reply → Reply
moved_reply clients (replies.Status tag ticket status sense buffer) = replies.Status (moved_tag clients tag) ticket status sense buffer
moved_reply clients (replies.Aborted tag ticket buffer) = replies.Aborted (moved_tag clients tag) ticket buffer
moved_reply clients (replies.Task tag ticket code) = replies.Task (moved_tag clients tag) ticket code

abbrev pub moved_saved : ℕ → SavedReply → SavedReply
moved_saved clients saved = record { client = saved.client; reply = moved_reply clients saved.reply }

-- all tags of a log
abbrev pub moved_log : Saved → Saved
moved_log log = record {
  version = Second;
  units = log.units;
  steps = map (moved_step (length log.units)) log.steps;
  replies = map (moved_saved (length log.units)) log.replies;
}

-- a log of 16 tags stays; one of 8 has too many clients above 15
abbrev pub of_version : Version → Saved → Result Saved MigrateFault
of_version First log = if nat_lt 15 (length log.units) then Err TooManyClients else Ok (moved_log log)
of_version Second log = Ok log

abbrev pub migrated : Saved → Result Saved MigrateFault
migrated log = of_version log.version log

-- a call answers what this is, want of memory apart
abbrev pub Migrates : Result Saved MigrateFault → Result Saved MigrateFault → Type 0
Migrates (Ok log) moved = moved ≡ Ok log
Migrates (Err TooManyClients) moved = moved ≡ Err TooManyClients
Migrates (Err NoMemory) moved = Unit {0}

-- A log whose tags were renumbered is within the limits of clients of 16 tags.
use Rattle.std.proofs.Common.{◌≡◌, ℕ, ◌+◌, ◌*◌, ◌/◌, ◌%◌, ◌^◌, ◌<◌, ◌≤◌, ◌==◌, ◌||◌, Bool, true, false, cond, List, [], ◌∷◌, length, map, refl, arith, sym, ◌∙◌}
use Rattle.std.specs.Prelude.{nat_lt}
use Rattle.std.specs.List.{AllByRecursion}
use Rattle.std.proofs.lemmas.Bool.{ltb-false}
use Rattle.scsi_cmd.specs.declared.Reply.{Reply}
use Rattle.scsi_cmd.specs.declared.Reply.TheVariants as replies
use Rattle.scsi_cmd.specs.declared.Task.{Task}
use Rattle.scsi_cmd.specs.declared.Task.TheVariants.{Abort, Reset, Query}
use Rattle.shared_machine.specs.declared.Step.{Step}
use Rattle.shared_machine.specs.declared.Step.TheVariants as steps
use Rattle.log_text.specs.declared.SavedReply.{SavedReply}
use Rattle.log_text.specs.Migration.{moved_log, moved_reply, moved_saved, moved_step, moved_tag, moved_task}
use Rattle.log_text.specs.declared.Version.{Version}
use Rattle.log_text.specs.declared.Version.TheVariants.{Second}
use Rattle.log_text.specs.Text.{IsWithin, ReplyFits, Saved, StepFits, TaskFits}
use Rattle.log_text.proofs.Keeping.{length-map}

chosen_small : (none even : Bool) (clients tag : ℕ) → clients ≤ 15 → (none ≡ false → tag ≤ 8 * clients)
    → cond none 0 (cond even (2 * tag) (tag + 8 * (tag / 8))) < 2 ^ 16
chosen_small true even clients tag few most = omega arith
chosen_small false true clients tag few most = omega (arith, most refl)
chosen_small false false clients tag few most = omega (arith, most refl)

not_above : (zero above : Bool) (tag limit : ℕ) → above ≡ nat_lt limit tag → (zero || above) ≡ false → tag ≤ limit
not_above true above tag limit is e = absurd cc
not_above false above tag limit is e = ltb-false _ _ (sym is ∙ e)

tag_small : (clients tag : ℕ) → clients ≤ 15 → moved_tag clients tag < 2 ^ 16
unfolding moved_tag
tag_small clients tag few =
    chosen_small (tag == 0 || nat_lt (8 * clients) tag) (tag % 8 == 0) clients tag few (λ e. not_above (tag == 0) (nat_lt (8 * clients) tag) tag (8 * clients) refl e)

task_fits : (version : Version) (clients : ℕ) (task : Task) → clients ≤ 15 → TaskFits version task → TaskFits Second (moved_task clients task)
task_fits version clients (Abort tag) few fits = tag_small clients tag few
task_fits version clients Reset few fits = tt
task_fits version clients (Query tag) few fits = (refl, tag_small clients tag few)

step_fits : (version : Version) (clients of : ℕ) (step : Step) → clients ≤ 15 → StepFits version of step → StepFits Second of (moved_step clients step)
step_fits version clients of (steps.Submit client tag ticket command) few fits = (fits.0, tag_small clients tag few, fits.2, fits.3, fits.4)
step_fits version clients of (steps.Task client ticket task) few fits = (fits.0, fits.1, task_fits version clients task few fits.2)
step_fits version clients of steps.CommandPipe few fits = fits
step_fits version clients of (steps.Data tag) few fits = tag_small clients tag few
step_fits version clients of (steps.Status tag) few fits = tag_small clients tag few
step_fits version clients of steps.Engine few fits = fits
step_fits version clients of steps.Event few fits = fits
step_fits version clients of (steps.Retire pipe tag) few fits = (fits.0, tag_small clients tag few)
step_fits version clients of (steps.Take client) few fits = fits

steps_fit : (version : Version) (clients of : ℕ) (list : List Step) → clients ≤ 15 → AllByRecursion (StepFits version of) list
    → AllByRecursion (StepFits Second of) (map (moved_step clients) list)
steps_fit version clients of [] few fits = tt
steps_fit version clients of (step ∷ rest) few fits = (step_fits version clients of step few fits.0, steps_fit version clients of rest few fits.1)

reply_fits : (clients of client : ℕ) (reply : Reply) → clients ≤ 15 → ReplyFits of (record { client = client; reply = reply })
    → ReplyFits of (record { client = client; reply = moved_reply clients reply })
reply_fits clients of client (replies.Status tag ticket status sense buffer) few it =
    record { client = it.client; tag = tag_small clients tag few; ticket = it.ticket; body = it.body }
reply_fits clients of client (replies.Aborted tag ticket buffer) few it =
    record { client = it.client; tag = tag_small clients tag few; ticket = it.ticket; body = it.body }
reply_fits clients of client (replies.Task tag ticket code) few it =
    record { client = it.client; tag = tag_small clients tag few; ticket = it.ticket; body = it.body }

replies_fit : (clients of : ℕ) (list : List SavedReply) → clients ≤ 15 → AllByRecursion (ReplyFits of) list → AllByRecursion (ReplyFits of) (map (moved_saved clients) list)
replies_fit clients of [] few fits = tt
replies_fit clients of (saved ∷ rest) few fits = (reply_fits clients of saved.client saved.reply few fits.0, replies_fit clients of rest few fits.1)

pub moved_within : (log : Saved) → length log.units ≤ 15 → IsWithin log → IsWithin (moved_log log)
moved_within log few it = record {
  some = it.some;
  most = few;
  units = it.units;
  steps = steps_fit log.version (length log.units) (length log.units) log.steps few it.steps;
  few_steps = omega (arith, it.few_steps, length-map (moved_step (length log.units)) log.steps);
  replies = replies_fit (length log.units) (length log.units) log.replies few it.replies;
  few_replies = omega (arith, it.few_replies, length-map (moved_saved (length log.units)) log.replies);
}

-- What a log keeps once it is saved.
use Rattle.std.specs.Prelude.{◌≡◌, ℕ, ◌-◌, ◌/◌, ◌^◌, ◌<◌, ◌==◌, ◌⊎◌, if◌then◌else◌, List, [], ◌∷◌, length, map}
use Rattle.std.specs.List.{AllByRecursion}
use Rattle.scsi_cmd.specs.declared.Reply.{Reply}
use Rattle.scsi_cmd.specs.Replies.{reply_tag}
use Rattle.shared_machine.specs.declared.Step.{Step}
use Rattle.uas_log.specs.declared.Log.{Log}
use Rattle.log_text.specs.declared.SavedReply.{SavedReply}
use Rattle.log_text.specs.declared.Version.{Version}
use Rattle.log_text.specs.declared.Version.TheVariants.{First, Second}
use Rattle.log_text.specs.Text.{IsWithin, ReplyFits, Saved, StepFits, UnitFits}

-- the steps that weren't refused: those whose refusal has the number 0
abbrev pub kept : List Step → List ℕ → List Step
kept [] refusals = []
kept (step ∷ steps) [] = []
kept (step ∷ steps) (number ∷ refusals) = if number == 0 then step ∷ kept steps refusals else kept steps refusals

-- a reply and the client whose tag it brings back
abbrev pub with_client : ℕ → Reply → SavedReply
with_client tags reply = record { client = (reply_tag reply - 1) / tags; reply = reply }

-- the version whose clients have so many tags
abbrev pub version_with : ℕ → Version
version_with tags = if tags == 8 then First else Second

-- a log as it is saved
abbrev pub saved_log : Log → Saved
saved_log log = record {
  version = version_with log.tags;
  units = log.units;
  steps = kept log.steps log.refusals;
  replies = map (with_client log.tags) log.replies;
}

-- a log that can be saved
pub record IsSavable (log : Log) : Type 0 where
  pub tags : (log.tags ≡ 8) ⊎ (log.tags ≡ 16)
  pub told : length log.refusals ≡ length log.steps
  pub within : IsWithin (saved_log log)

-- What a text of any number of tags tells of a log fits its fields: the units, the steps that weren't refused, and the replies.
pub record FitsText (log : Log) : Type 0 where
  pub told : length log.refusals ≡ length log.steps
  pub units_fit : AllByRecursion UnitFits log.units
  pub steps_fit : AllByRecursion (StepFits Second (length log.units)) (kept log.steps log.refusals)
  pub few_steps : length (kept log.steps log.refusals) < 2 ^ 32
  pub replies_fit : AllByRecursion (ReplyFits (length log.units)) (map (with_client log.tags) log.replies)
  pub few_replies : length (map (with_client log.tags) log.replies) < 2 ^ 32

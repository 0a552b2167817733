-- A log as it is replayed: without its refused steps, of clients of any number of tags.
use Rattle.std.specs.Prelude.{ℕ, ◌≤◌, ◌<◌, ◌^◌, List, length, map}
use Rattle.std.specs.List.{AllByRecursion}
use Rattle.uas_profile.specs.Tags.{AreTags, most_clients}
use Rattle.shared_machine.specs.declared.Step.{Step}
use Rattle.uas_log.specs.declared.FirstUnit.{FirstUnit}
use Rattle.uas_log.specs.declared.Log.{Log}
use Rattle.log_text.specs.declared.SavedReply.{SavedReply}
use Rattle.log_text.specs.declared.Version.TheVariants.{Second}
use Rattle.log_text.specs.Kept.{kept, with_client}
use Rattle.log_text.specs.Text.{Saved, StepFits, UnitFits, version_tags}

-- how many tags each client has, the units, the steps that weren't refused, and the replies with their clients
pub record Plain : Type 0 where
  pub tags : ℕ
  pub units : List FirstUnit
  pub steps : List Step
  pub replies : List SavedReply

-- a log whose steps a bus can be asked for: there are as many clients at most as can have so many tags
pub record IsPlain (log : Plain) : Type 0 where
  pub are_tags : AreTags log.tags
  pub some : 1 ≤ length log.units
  pub most : length log.units ≤ most_clients log.tags
  pub units_fit : AllByRecursion UnitFits log.units
  pub steps_fit : AllByRecursion (StepFits Second (length log.units)) log.steps
  pub few : length log.steps < 2 ^ 32

-- that of a text: 8 tags of the first version, and 16 of the second
abbrev pub plain_of : Saved → Plain
plain_of saved = record { tags = version_tags saved.version; units = saved.units; steps = saved.steps; replies = saved.replies }

-- that of a log
abbrev pub plain_log : Log → Plain
plain_log log = record {
  tags = log.tags;
  units = log.units;
  steps = kept log.steps log.refusals;
  replies = map (with_client log.tags) log.replies;
}

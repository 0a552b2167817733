-- The text of a log's file.
use Rattle.std.specs.Prelude.{◌≢◌, ◌==◌, ℕ, if◌then◌else◌, List, length, Some}
use Rattle.uas_profile.specs.declared.TheConstants.{TAGS}
use Rattle.uas_log.specs.declared.Log.{Log}
use Rattle.log_text.specs.Kept.{saved_log}
use Rattle.log_text.specs.Text.{log_text}
use Rattle.kept_log.specs.declared.Why.TheVariants.{Complete}
use Rattle.kept_log.specs.Form.{Kept, kept_text}
use Rattle.log_keeper.specs.Entries.{AllFit, AreUnits, log_entries}

-- a log as the third version tells it: all its steps, refused ones too, and its end
abbrev pub whole_log : Log → Kept
whole_log log = record { tags = log.tags; units = log.units; entries = log_entries log; ending = Some Complete }

-- Of clients of 16 tags it is a text of the second version, and of any other number one of the third.
abbrev pub file_text : Log → List ℕ
file_text log = if log.tags == TAGS then log_text (saved_log log) else kept_text (whole_log log)

-- the units and all steps of a log, refused ones too, are within the limits of the third version
abbrev pub IsKeepable : Log → Type 0
IsKeepable log = AreUnits log.tags log.units × AllFit (length log.units) (log_entries log)

-- a log of another number of tags than 16 that is past them
abbrev pub IsPastLimits : Log → Type 0
IsPastLimits log = (log.tags ≢ TAGS) × (IsKeepable log → ⊥)

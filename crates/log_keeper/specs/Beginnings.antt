-- A text that is the beginning of a log, and one that is whole.
use Rattle.std.specs.Prelude.{◌≡◌, ℕ, List, ◌++◌, length, Some}
use Rattle.uas_log.specs.declared.FirstUnit.{FirstUnit}
use Rattle.uas_log.specs.declared.Log.{Log}
use Rattle.kept_log.specs.declared.Entry.{Entry}
use Rattle.kept_log.specs.declared.Why.{Why}
use Rattle.kept_log.specs.Form.{front_sum, front_text, kept_text}
use Rattle.log_keeper.specs.declared.Place.{Place}
use Rattle.log_keeper.specs.Entries.{entries_behind}

-- a head of clients of so many tags with these logical units, and the records of as many entries as a place has steps before it
pub record IsBeginning (tags : ℕ) (units : List FirstUnit) (place : Place) (bytes : List ℕ) : Type 0 where
  pub entries : List Entry
  pub text : bytes ≡ front_text tags units entries
  pub sum : place.sum ≡ front_sum tags units entries
  pub steps : place.steps ≡ length entries

-- The whole text of a log that ended for this reason: as many entries as there are steps before some place, then all that this log has
-- behind it, and the end.
pub record IsWhole (log : Log) (why : Why) (bytes : List ℕ) : Type 0 where
  pub place : Place
  pub entries : List Entry
  pub steps : place.steps ≡ length entries
  pub text : bytes ≡ kept_text (record { tags = log.tags; units = log.units; entries = entries ++ entries_behind log place; ending = Some why })

-- What the file of a log that is kept has, and what waits for it.
use Rattle.std.specs.Prelude.{◌≡◌, ℕ, Bool, IsTrue, List, ◌++◌, length, Option, None, Some}
use Rattle.uas_log.specs.declared.FirstUnit.{FirstUnit}
use Rattle.uas_log.specs.declared.Log.{Log}
use Rattle.kept_log.specs.declared.Entry.{Entry}
use Rattle.kept_log.specs.declared.Why.{Why}
use Rattle.kept_log.specs.declared.Why.TheVariants as why
use Rattle.kept_log.specs.Form.{kept_text}
use Rattle.log_keeper.specs.declared.Place.{Place}
use Rattle.log_keeper.specs.Beginnings.{IsBeginning, IsWhole}
use Rattle.log_keeper.specs.declared.stops.KeepStop.{KeepStop}
use Rattle.log_keeper.specs.declared.stops.KeepStop.TheVariants as stop

-- WHILE IT GROWS

-- Of a file that tells its bytes: they and those that wait for it are the beginning of a log of clients of so many tags with these units, up
-- to a place.
pub record HasKept (tells : Bool) (tags : ℕ) (units : List FirstUnit) (place : Place) (written : Option (List ℕ)) (waiting : List ℕ) : Type 0 where
  pub given : List ℕ
  pub known : IsTrue tells → written ≡ Some given
  pub begins : IsBeginning tags units place (given ++ waiting)

-- AT ITS END

-- a file has the whole text of a log that ended for this reason, with all that this log has behind some place
pub record HasWhole (log : Log) (why : Why) (held : Option (List ℕ)) : Type 0 where
  pub bytes : List ℕ
  pub known : held ≡ Some bytes
  pub whole : IsWhole log why bytes

-- a file has the whole text of a log of clients of so many tags with these units, and of why it ended, where it did
pub record HasText (tags : ℕ) (units : List FirstUnit) (ending : Option Why) (held : Option (List ℕ)) : Type 0 where
  pub entries : List Entry
  pub known : held ≡ Some (kept_text (record { tags = tags; units = units; entries = entries; ending = ending }))

-- so it has, of as many entries as there are steps before a place
pub record HasEnded (tags : ℕ) (units : List FirstUnit) (place : Place) (reason : Why) (held : Option (List ℕ)) : Type 0 where
  pub text : HasText tags units (Some reason) held
  pub steps : place.steps ≡ length text.entries

-- so it has, with an end or without: a beginning
pub record HasBeginning (tags : ℕ) (units : List FirstUnit) (held : Option (List ℕ)) : Type 0 where
  pub ending : Option Why
  pub text : HasText tags units ending held

-- why a log ended: why its records couldn't be gathered or written any more, if so
abbrev pub reason_of : Option KeepStop → Why → Why
reason_of None reason = reason
reason_of (Some stop.Limits) reason = why.LogFull
reason_of (Some stop.NoMemory) reason = why.NoMemory
reason_of (Some stop.File) reason = why.LogFile

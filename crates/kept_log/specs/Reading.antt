-- What a head and a record's body say, or the first fault of their fields.
use Rattle.std.specs.Prelude.{ℕ, ◌==◌, if◌then◌else◌, List, length, Result, Ok, Err, Some, None}
use Rattle.shared_machine.specs.declared.Step as machine
use Rattle.uas_log.specs.declared.FirstUnit.{FirstUnit}
use Rattle.log_text.specs.declared.LogFault.{LogFault}
use Rattle.log_text.specs.declared.LogFault.TheVariants.{BadHeader, TrailingBytes}
use Rattle.uas_profile.specs.declared.TheConstants.{LEAST_TAGS, MOST_TAGS}
use Rattle.log_text.specs.declared.Version.TheVariants.{Second}
use Rattle.uas_profile.specs.Tags.{most_clients}
use Rattle.log_text.specs.Reading.{◌>>=◌, field_at, name_number, number_at, reply_at, step_at, units_at}
use Rattle.kept_log.specs.declared.Body.{Body}
use Rattle.kept_log.specs.declared.Body.TheVariants.{Step, End}
use Rattle.kept_log.specs.declared.Entry.TheVariants.{Acted, Refused}
use Rattle.kept_log.specs.declared.Why.{Why}
use Rattle.kept_log.specs.declared.Why.TheVariants as why
use Rattle.kept_log.specs.Form.{is_take}

-- what a head says: how many tags each client has, the units, and its checksum
pub record ReadHead : Type 0 where
  pub tags : ℕ
  pub units : List FirstUnit
  pub sum : ℕ

-- what a head says, and the bytes behind it; there are at most as many clients as can have so many tags
unfoldable pub head_at : List ℕ → Result (ReadHead × List ℕ) LogFault
head_at bytes = do
  name ← number_at BadHeader 6 name_number name_number bytes
  version ← number_at BadHeader 2 3 3 name.1
  tags ← number_at BadHeader 1 LEAST_TAGS MOST_TAGS version.1
  units ← units_at (most_clients tags.0) tags.1
  sum ← field_at 4 0 0xffffffff units.1
  Ok (record { tags = tags.0; units = units.0; sum = sum.0 }, sum.1)

-- the reply that a Take gave
unfoldable pub given_at : ℕ → machine.Step → List ℕ → Result Body LogFault
given_at clients step bytes = do
  reply ← reply_at clients bytes
  if length reply.1 == 0 then Ok (Step (Acted step (Some reply.0))) else Err TrailingBytes

-- a step, and behind a Take the reply that it gave
unfoldable pub acted_at : ℕ → List ℕ → Result Body LogFault
acted_at clients bytes = do
  step ← step_at Second clients bytes
  if length step.1 == 0 then Ok (Step (Acted step.0 None))
      else if is_take step.0 then given_at clients step.0 step.1
      else Err TrailingBytes

-- a step, and its refusal's number
unfoldable pub refused_at : ℕ → List ℕ → Result Body LogFault
refused_at clients bytes = do
  step ← step_at Second clients bytes
  number ← field_at 1 1 0xff step.1
  if length number.1 == 0 then Ok (Step (Refused step.0 number.0)) else Err TrailingBytes

abbrev pub why_of : ℕ → Why
why_of number = if number == 0 then why.Complete else if number == 1 then why.NoMemory else if number == 2 then why.LogFull else why.LogFile

-- the number of steps, and why the log ended
unfoldable pub end_at : List ℕ → Result Body LogFault
end_at bytes = do
  count ← field_at 8 0 0xffffffffffffffff bytes
  reason ← field_at 1 0 3 count.1
  if length reason.1 == 0 then Ok (End count.0 (why_of reason.0)) else Err TrailingBytes

-- the body of each kind
unfoldable pub body_at : ℕ → List ℕ → Result Body LogFault
body_at clients bytes = do
  kind ← field_at 1 1 3 bytes
  if kind.0 == 1 then acted_at clients kind.1
      else if kind.0 == 2 then refused_at clients kind.1
      else end_at kind.1

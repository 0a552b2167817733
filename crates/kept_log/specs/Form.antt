-- The text of a log that is kept as it grows: a head, and a record for each step.
use Rattle.std.specs.Prelude.{◌≡◌, ℕ, ◌^◌, ◌<◌, ◌≤◌, Bool, true, false, List, [], ◌∷◌, ◌++◌, length, map, codes, Option, Some, None}
use Rattle.std.specs.List.{flat_map, AllByRecursion}
use Rattle.shared_machine.specs.declared.Step.{Step}
use Rattle.shared_machine.specs.declared.Step.TheVariants as steps
use Rattle.uas_profile.specs.Tags.{AreTags}
use Rattle.uas_log.specs.declared.FirstUnit.{FirstUnit}
use Rattle.log_records.specs.checksum.Division.{crc32c_of}
use Rattle.log_records.specs.Records.{last_sum, records_text}
use Rattle.log_text.specs.declared.SavedReply.{SavedReply}
use Rattle.log_text.specs.declared.Version.TheVariants.{Second}
use Rattle.log_text.specs.Text.{ReplyFits, StepFits, UnitFits, field, reply_text, step_text, unit_text}
use Rattle.uas_profile.specs.Tags.{most_clients}
use Rattle.kept_log.specs.declared.Entry.{Entry}
use Rattle.kept_log.specs.declared.Entry.TheVariants.{Acted, Refused}
use Rattle.kept_log.specs.declared.Why.{Why}
use Rattle.kept_log.specs.declared.Why.TheVariants as why

-- a log as its text tells it: how many tags each client has, the units, the steps, refused ones too, and why it ended, where it did
pub record Kept : Type 0 where
  pub tags : ℕ
  pub units : List FirstUnit
  pub entries : List Entry
  pub ending : Option Why

-- THE HEAD

-- name, version 3, how many tags each client has, and the units behind their count
abbrev pub head_front : ℕ → List FirstUnit → List ℕ
head_front tags units = codes "UASLOG" ++ field 2 3 ++ field 1 tags ++ (field 1 (length units) ++ flat_map unit_text units)

abbrev pub head_sum : ℕ → List FirstUnit → ℕ
head_sum tags units = crc32c_of (head_front tags units)

abbrev pub head_text : ℕ → List FirstUnit → List ℕ
head_text tags units = head_front tags units ++ field 4 (head_sum tags units)

-- THE BODIES OF RECORDS

-- the reply that a Take gave
abbrev pub given_text : Option SavedReply → List ℕ
given_text None = []
given_text (Some saved) = reply_text saved

-- a step, and what it gave; a refused step, and its refusal's number
abbrev pub entry_text : Entry → List ℕ
entry_text (Acted step given) = field 1 1 ++ step_text step ++ given_text given
entry_text (Refused step number) = field 1 2 ++ step_text step ++ field 1 number

abbrev pub why_number : Why → ℕ
why_number why.Complete = 0
why_number why.NoMemory = 1
why_number why.LogFull = 2
why_number why.LogFile = 3

-- the end: how many steps there are, and why it ended
abbrev pub end_text : ℕ → Why → List ℕ
end_text count reason = field 1 3 ++ field 8 count ++ field 1 (why_number reason)

abbrev pub end_bodies : ℕ → Option Why → List (List ℕ)
end_bodies count None = []
end_bodies count (Some reason) = end_text count reason ∷ []

-- THE WHOLE

-- the head and the records of these entries
abbrev pub front_text : ℕ → List FirstUnit → List Entry → List ℕ
front_text tags units entries = head_text tags units ++ records_text (head_sum tags units) (map entry_text entries)

-- the last checksum of them
abbrev pub front_sum : ℕ → List FirstUnit → List Entry → ℕ
front_sum tags units entries = last_sum (head_sum tags units) (map entry_text entries)

abbrev pub kept_text : Kept → List ℕ
kept_text kept =
    front_text kept.tags kept.units kept.entries
    ++ records_text (front_sum kept.tags kept.units kept.entries) (end_bodies (length kept.entries) kept.ending)

-- LIMITS

abbrev pub is_take : Step → Bool
is_take (steps.Submit client tag ticket command) = false
is_take (steps.Task client ticket task) = false
is_take steps.CommandPipe = false
is_take (steps.Data tag) = false
is_take (steps.Status tag) = false
is_take steps.Engine = false
is_take steps.Event = false
is_take (steps.Retire pipe tag) = false
is_take (steps.Take client) = true

-- a Take alone gives a reply
abbrev pub GivenFits : ℕ → Step → Option SavedReply → Type 0
GivenFits clients step None = Unit {0}
GivenFits clients step (Some saved) = (is_take step ≡ true) × ReplyFits clients saved

abbrev pub EntryFits : ℕ → Entry → Type 0
EntryFits clients (Acted step given) = StepFits Second clients step × GivenFits clients step given
EntryFits clients (Refused step number) = StepFits Second clients step × (1 ≤ number) × (number < 2 ^ 8)

-- the parts of a log that has a text
pub record AreKeepable (tags : ℕ) (units : List FirstUnit) (entries : List Entry) : Type 0 where
  pub are_tags : AreTags tags
  pub some : 1 ≤ length units
  pub most : length units ≤ most_clients tags
  pub units_fit : AllByRecursion UnitFits units
  pub entries_fit : AllByRecursion (EntryFits (length units)) entries
  pub few : length entries < 2 ^ 32

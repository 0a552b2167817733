-- The records of a log's steps, and where a text stands that grows.
use Rattle.std.specs.Prelude.{◌≡◌, ℕ, ◌+◌, ◌≤◌, ◌&&◌, ◌==◌, if◌then◌else◌, Bool, List, [], ◌∷◌, ◌++◌, drop, length, map, take, Some, None}
use Rattle.std.specs.List.{AllByRecursion}
use Rattle.scsi_cmd.specs.declared.Reply.{Reply}
use Rattle.shared_machine.specs.declared.Step.{Step}
use Rattle.uas_log.specs.declared.FirstUnit.{FirstUnit}
use Rattle.uas_log.specs.declared.Log.{Log}
use Rattle.log_records.specs.Records.{last_sum, record_text, records_text, sum_after}
use Rattle.uas_profile.specs.Tags.{AreTags}
use Rattle.log_text.specs.Kept.{with_client}
use Rattle.log_text.specs.Text.{UnitFits}
use Rattle.uas_profile.specs.Tags.{most_clients}
use Rattle.kept_log.specs.declared.Entry.{Entry}
use Rattle.kept_log.specs.declared.Entry.TheVariants.{Acted, Refused}
use Rattle.kept_log.specs.Form.{EntryFits, entry_text, front_sum, front_text, is_take}
use Rattle.log_keeper.specs.declared.Place.{Place}

-- ENTRIES

-- a step without a reply: the number of its refusal is 0 where it wasn't refused
abbrev pub bare_entry : ℕ → Step → Entry
bare_entry number step = if number == 0 then Acted step None else Refused step number

-- a Take that wasn't refused gave a reply
abbrev pub gives : ℕ → Step → Bool
gives number step = (number == 0) && is_take step

-- Steps with their refusals' numbers, and the replies in order: each Take that wasn't refused has the next of them, of the client whose tag
-- it brings back.
abbrev pub entries_of : ℕ → List Step → List ℕ → List Reply → List Entry
entries_of tags [] numbers replies = []
entries_of tags (step ∷ steps) [] replies = []
entries_of tags (step ∷ steps) (number ∷ numbers) [] = bare_entry number step ∷ entries_of tags steps numbers []
entries_of tags (step ∷ steps) (number ∷ numbers) (reply ∷ replies) =
    if gives number step
    then Acted step (Some (with_client tags reply)) ∷ entries_of tags steps numbers replies
    else bare_entry number step ∷ entries_of tags steps numbers (reply ∷ replies)

-- the entries of a log
abbrev pub log_entries : Log → List Entry
log_entries log = entries_of log.tags log.steps log.refusals log.replies

-- those behind a place
abbrev pub entries_behind : Log → Place → List Entry
entries_behind log place = entries_of log.tags (drop place.steps log.steps) (drop place.steps log.refusals) (drop place.replies log.replies)

-- their records
abbrev pub records_behind : Log → Place → List ℕ
records_behind log place = records_text place.sum (map entry_text (entries_behind log place))

-- the last checksum once they are written
abbrev pub sum_behind : Log → Place → ℕ
sum_behind log place = last_sum place.sum (map entry_text (entries_behind log place))

-- LIMITS

-- each client of a log has 2 to 16 tags, and the logical units are within the limits of its text
abbrev pub AreUnits : ℕ → List FirstUnit → Type 0
AreUnits tags units = AreTags tags × (1 ≤ length units) × (length units ≤ most_clients tags) × AllByRecursion UnitFits units

-- all of these fit a log of so many clients
abbrev pub AllFit : ℕ → List Entry → Type 0
AllFit clients entries = AllByRecursion (EntryFits clients) entries

-- the first of these fits a log of so many clients
abbrev pub FirstFits : ℕ → List Entry → Type 0
FirstFits clients [] = Unit {0}
FirstFits clients (entry ∷ entries) = EntryFits clients entry

-- The entry of a step that wasn't refused fits a log of so many clients; a refused one may be past the limits.
abbrev pub ActedFits : ℕ → Entry → Type 0
ActedFits clients (Acted step given) = EntryFits clients (Acted step given)
ActedFits clients (Refused step number) = Unit {0}

abbrev pub AllActedFit : ℕ → List Entry → Type 0
AllActedFit clients entries = AllByRecursion (ActedFits clients) entries

-- ADDING

-- A text got the records of the first of the entries behind a place, each whole and within the limits, and the place moved behind them.
pub record Added (log : Log) (old : Place) (before : List ℕ) (new : Place) (after : List ℕ) : Type 0 where
  pub entries : List Entry
  pub more : entries_behind log old ≡ entries ++ entries_behind log new
  pub text : after ≡ before ++ records_text old.sum (map entry_text entries)
  pub sum : new.sum ≡ last_sum old.sum (map entry_text entries)
  pub steps : new.steps ≡ old.steps + length entries
  pub fit : AllFit (length log.units) entries

-- ONE MORE

-- A text got the record of the entry at a place, which moved behind it.
pub record OneMore (log : Log) (old : Place) (before : List ℕ) (new : Place) (after : List ℕ) : Type 0 where
  pub entry : Entry
  pub more : entries_behind log old ≡ entry ∷ entries_behind log new
  pub text : after ≡ before ++ record_text old.sum (entry_text entry)
  pub sum : new.sum ≡ sum_after old.sum (entry_text entry)
  pub steps : new.steps ≡ old.steps + 1
  pub fits : EntryFits (length log.units) entry

-- STANDING

-- the entries before a place
abbrev pub entries_before : Log → Place → List Entry
entries_before log place = entries_of log.tags (take place.steps log.steps) (take place.steps log.refusals) (take place.replies log.replies)

-- a text is the head of a log and the records of the entries before a place
pub record StandsAt (log : Log) (place : Place) (bytes : List ℕ) : Type 0 where
  pub text : bytes ≡ front_text log.tags log.units (entries_before log place)
  pub sum : place.sum ≡ front_sum log.tags log.units (entries_before log place)

-- how many replies these steps gave
abbrev pub given_count : List Step → List ℕ → ℕ
given_count [] numbers = 0
given_count (step ∷ steps) [] = 0
given_count (step ∷ steps) (number ∷ numbers) = (if gives number step then 1 else 0) + given_count steps numbers

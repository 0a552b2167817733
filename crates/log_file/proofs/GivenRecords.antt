-- Records that are given to a sink a piece at a time.
use Rattle.std.proofs.Common.{◌≡◌, ℕ, ◌+◌, List, [], ◌∷◌, ◌++◌, length, map, Option, Some, None, sym, ap, subst, ◌∙◌, append_assoc, append-nil, arith}
use Rattle.std.specs.Io.KnownBytes.{Appends}
use Rattle.std.proofs.lemmas.List.{length-append, map-append}
use Rattle.uas_log.specs.declared.Log.{Log}
use Rattle.log_records.specs.Records.{last_sum, record_text, records_text}
use Rattle.log_records.proofs.Growing.{last_sum-append, records-append}
use Rattle.kept_log.specs.declared.Entry.{Entry}
use Rattle.kept_log.specs.declared.Why.TheVariants.{Complete}
use Rattle.kept_log.specs.Form.{end_text, entry_text, front_sum, front_text, head_sum, head_text, kept_text}
use Rattle.log_keeper.specs.declared.Place.{Place}
use Rattle.log_keeper.specs.Entries.{Added, AllFit, FirstFits, entries_behind, log_entries, records_behind, sum_behind}
use Rattle.log_keeper.proofs.Behind.{added_same, all_written}
use Rattle.log_file.specs.FileText.{whole_log}
use Rattle.log_file.specs.Pieces.{Gave, with_waiting}
use Rattle.log_file.proofs.Gaves.{gave_last, gave_then}

-- BYTES

-- bytes that are added to those that wait
waits_more : (held : Option (List ℕ)) (waiting left bytes : List ℕ) → left ≡ waiting ++ bytes → Appends (with_waiting held waiting) (with_waiting held left) bytes
waits_more None waiting left bytes is = tt
waits_more (Some given) waiting left bytes is = ap (λ (back : List ℕ). given ++ back) is ∙ sym (append_assoc given waiting bytes)

pub gave_waiting : {O : Type 0} (written : O → Option (List ℕ)) (out : O) (waiting left bytes : List ℕ) → left ≡ waiting ++ bytes
    → Gave written out waiting out left bytes
gave_waiting written out waiting left bytes is = record { appends = waits_more (written out) waiting left bytes is }

-- bytes that are written once they wait
goes_out : (old new : Option (List ℕ)) (waiting between left bytes : List ℕ) → between ≡ waiting ++ bytes → left ≡ [] → Appends old new between
    → Appends (with_waiting old waiting) (with_waiting new left) bytes
goes_out None new waiting between left bytes is none more = tt
goes_out (Some given) None waiting between left bytes is none more = absurd more
goes_out (Some given) (Some all) waiting between left bytes is none more =
    ap (λ (back : List ℕ). all ++ back) none ∙ append-nil all ∙ more ∙ ap (λ (back : List ℕ). given ++ back) is ∙ sym (append_assoc given waiting bytes)

pub gave_written : {O : Type 0} (written : O → Option (List ℕ)) (old new : O) (waiting between left bytes : List ℕ) → between ≡ waiting ++ bytes → left ≡ []
    → Appends (written old) (written new) between → Gave written old waiting new left bytes
gave_written written old new waiting between left bytes is none more =
    record { appends = goes_out (written old) (written new) waiting between left bytes is none more }

-- ADDED

all_more : (clients : ℕ) (front back : List Entry) → AllFit clients front → AllFit clients back → AllFit clients (front ++ back)
all_more clients [] back fit other = other
all_more clients (entry ∷ rest) back fit other = (fit.0, all_more clients rest back fit.1 other)

first_of_all : (clients : ℕ) (front back : List Entry) → AllFit clients (front ++ back) → FirstFits clients back
first_of_all clients [] [] fit = tt
first_of_all clients [] (entry ∷ rest) fit = fit.0
first_of_all clients (one ∷ front) back fit = first_of_all clients front back fit.1

-- the records of these entries behind a place
abbrev pub records_of : Place → List Entry → List ℕ
records_of place entries = records_text place.sum (map entry_text entries)

-- what was added behind what was added before
pub added_more : (log : Log) (first next last : Place) (one two three four : List ℕ) (p : Added log first one next two) (q : Added log next three last four)
    → Added log first one last (two ++ records_of next q.entries)
added_more log first next last one two three four p q =
    let front : List Entry = p.entries in
    let back : List Entry = q.entries in
    let bodies : List (List ℕ) = map entry_text front in
    let others : List (List ℕ) = map entry_text back in
    let both : map entry_text (front ++ back) ≡ bodies ++ others = map-append entry_text front back in
    record {
      entries = front ++ back;
      more = p.more ∙ ap (λ (behind : List Entry). front ++ behind) q.more ∙ sym (append_assoc front back (entries_behind log last));
      text = ap (λ (text : List ℕ). text ++ records_text next.sum others) p.text
          ∙ ap (λ n. (one ++ records_text first.sum bodies) ++ records_text n others) p.sum
          ∙ append_assoc one (records_text first.sum bodies) (records_text (last_sum first.sum bodies) others)
          ∙ ap (λ (text : List ℕ). one ++ text) (sym (records-append first.sum bodies others) ∙ ap (records_text first.sum) (sym both));
      sum = q.sum ∙ ap (λ n. last_sum n others) p.sum ∙ sym (last_sum-append first.sum bodies others) ∙ ap (last_sum first.sum) (sym both);
      steps = omega (arith, p.steps, q.steps, length-append front back);
      fit = all_more (length log.units) front back p.fit q.fit;
    }

-- GIVEN

-- The records of the entries between two places were given, some of which may wait.
pub record HasGiven {O : Type 0} (written : O → Option (List ℕ)) (log : Log) (first : Place) (old : O) (waiting : List ℕ) (place : Place) (new : O)
    (left : List ℕ) : Type 0 where
  pub text : List ℕ
  pub gave : Gave written old waiting new left text
  pub added : Added log first [] place text

pub given_none : {O : Type 0} (written : O → Option (List ℕ)) (log : Log) (place : Place) (out : O) (waiting : List ℕ)
    → HasGiven written log place out waiting place out waiting
given_none written log place out waiting = record {
  text = [];
  gave = gave_waiting written out waiting waiting [] (sym (append-nil waiting));
  added = added_same log place [];
}

pub given_waiting : {O : Type 0} (written : O → Option (List ℕ)) (log : Log) (first place next : Place) (old out : O) (waiting left after : List ℕ)
    → HasGiven written log first old waiting place out left → Added log place left next after → HasGiven written log first old waiting next out after
given_waiting written log first place next old out waiting left after given more = record {
  text = given.text ++ records_of place more.entries;
  gave = gave_then given.gave (gave_waiting written out left after (records_of place more.entries) more.text);
  added = added_more log first place next [] given.text left after given.added more;
}

pub given_written : {O : Type 0} (written : O → Option (List ℕ)) (log : Log) (first place next : Place) (old out new : O) (waiting left after none : List ℕ)
    → HasGiven written log first old waiting place out left → Added log place left next after → Appends (written out) (written new) after → none ≡ []
    → HasGiven written log first old waiting next new none
given_written written log first place next old out new waiting left after none given more appends is = record {
  text = given.text ++ records_of place more.entries;
  gave = gave_then given.gave (gave_written written out new left after none (records_of place more.entries) more.text is appends);
  added = added_more log first place next [] given.text left after given.added more;
}

-- where none is left, those of all entries were given
pub given_all : {O : Type 0} (written : O → Option (List ℕ)) (log : Log) (first place : Place) (old new : O) (waiting left : List ℕ)
    → HasGiven written log first old waiting place new left → entries_behind log place ≡ []
    → Gave written old waiting new left (records_behind log first)
given_all written log first place old new waiting left given none =
    subst (λ (text : List ℕ). Gave written old waiting new left text) (all_written log first place [] given.text given.added none) given.gave

-- where the next entry is past the limits, they don't all fit
pub not_all_fit : {O : Type 0} (written : O → Option (List ℕ)) (log : Log) (first place next : Place) (old out : O) (waiting left after : List ℕ)
    → HasGiven written log first old waiting place out left → Added log place left next after
    → (FirstFits (length log.units) (entries_behind log next) → ⊥) → AllFit (length log.units) (entries_behind log first) → ⊥
not_all_fit written log first place next old out waiting left after given more past fit =
    let all : entries_behind log first ≡ (given.added.entries ++ more.entries) ++ entries_behind log next =
    given.added.more ∙ ap (λ (behind : List Entry). given.added.entries ++ behind) more.more
    ∙ sym (append_assoc given.added.entries more.entries (entries_behind log next)) in
    past (first_of_all (length log.units) (given.added.entries ++ more.entries) (entries_behind log next) (subst (AllFit (length log.units)) all fit))

-- THE WHOLE

-- where a log's text begins
abbrev pub begin_place : Log → Place
begin_place log = record { steps = 0; replies = 0; sum = head_sum log.tags log.units }

-- the head, the records of all entries and the end are the text
whole_text : (log : Log) (place : Place) (steps sum : ℕ) → place ≡ begin_place log → steps ≡ place.steps + length (entries_behind log place)
    → sum ≡ sum_behind log place
    → (head_text log.tags log.units ++ records_behind log place) ++ record_text sum (end_text steps Complete) ≡ kept_text (whole_log log)
whole_text log place steps sum start many summed =
    let entries : List Entry = log_entries log in
    let front : List ℕ = front_text log.tags log.units entries in
    let total : ℕ = front_sum log.tags log.units entries in
    let count : steps ≡ length entries = many ∙ ap (λ (p : Place). p.steps + length (entries_behind log p)) start ∙ omega arith in
    let last : sum ≡ total = summed ∙ ap (λ (p : Place). sum_behind log p) start in
    ap (λ (p : Place). (head_text log.tags log.units ++ records_behind log p) ++ record_text sum (end_text steps Complete)) start
    ∙ ap (λ n. front ++ record_text n (end_text steps Complete)) last
    ∙ ap (λ n. front ++ record_text total (end_text n Complete)) count
    ∙ ap (λ (back : List ℕ). front ++ back) (sym (append-nil (record_text total (end_text (length entries) Complete))))

-- the three parts were given one behind the other, and all that waits is written
pub gave_text : {O : Type 0} (written : O → Option (List ℕ)) (log : Log) (place : Place) (steps sum : ℕ) (old middle new : O)
    (none one two three : List ℕ) → none ≡ [] → one ≡ none ++ head_text log.tags log.units → place ≡ begin_place log
    → Gave written old one middle two (records_behind log place) → steps ≡ place.steps + length (entries_behind log place) → sum ≡ sum_behind log place
    → three ≡ two ++ record_text sum (end_text steps Complete) → Appends (written middle) (written new) three
    → Appends (written old) (written new) (kept_text (whole_log log))
gave_text written log place steps sum old middle new none one two three empty begun start gave many summed ended appends =
    let head : List ℕ = head_text log.tags log.units in
    let records : List ℕ = records_behind log place in
    let last : List ℕ = record_text sum (end_text steps Complete) in
    let all : Gave written old none middle three ((head ++ records) ++ last) =
    gave_then (gave_then (gave_waiting written old none one head begun) gave) (gave_waiting written middle two three last ended) in
    subst (Appends (written old) (written new)) (whole_text log place steps sum start many summed)
    (gave_last written old middle new none three ((head ++ records) ++ last) empty all appends)

-- the entries behind its beginning are the log's
pub all_entries : (log : Log) (place : Place) → place ≡ begin_place log → AllFit (length log.units) (entries_behind log place)
    → AllFit (length log.units) (log_entries log)
all_entries log place start fit = subst (λ (p : Place). AllFit (length log.units) (entries_behind log p)) start fit

pub entries_fit : (log : Log) (place : Place) → place ≡ begin_place log → AllFit (length log.units) (log_entries log)
    → AllFit (length log.units) (entries_behind log place)
entries_fit log place start fit = subst (λ (p : Place). AllFit (length log.units) (entries_behind log p)) (sym start) fit

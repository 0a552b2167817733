-- A text that began as a log's goes on as one, and is whole with its end.
use Rattle.std.proofs.Common.{◌≡◌, ℕ, ◌+◌, List, [], ◌++◌, length, map, refl, sym, ap, ◌∙◌, append_assoc, arith}
use Rattle.std.proofs.lemmas.List.{append-nil, length-append, map-append}
use Rattle.uas_log.specs.declared.FirstUnit.{FirstUnit}
use Rattle.uas_log.specs.declared.Log.{Log}
use Rattle.log_records.specs.Records.{last_sum, record_text, records_text}
use Rattle.log_records.proofs.Growing.{last_sum-append}
use Rattle.kept_log.specs.declared.Entry.{Entry}
use Rattle.kept_log.specs.declared.Why.{Why}
use Rattle.kept_log.specs.Form.{end_text, entry_text, front_sum, front_text, head_sum, head_text}
use Rattle.kept_log.proofs.Growing.{text_goes_on}
use Rattle.log_keeper.specs.declared.Place.{Place}
use Rattle.log_keeper.specs.Entries.{Added, entries_behind, records_behind, sum_behind}
use Rattle.log_keeper.specs.Beginnings.{IsBeginning, IsWhole}

-- a head alone
pub begun : (tags : ℕ) (units : List FirstUnit) → IsBeginning tags units (record { steps = 0; replies = 0; sum = head_sum tags units }) (head_text tags units)
begun tags units = record { entries = []; text = sym (append-nil (head_text tags units)); sum = refl; steps = refl }

sum_goes_on : (tags : ℕ) (units : List FirstUnit) (entries more : List Entry) → front_sum tags units (entries ++ more) ≡ last_sum (front_sum tags units entries) (map entry_text more)
sum_goes_on tags units entries more =
    ap (last_sum (head_sum tags units)) (map-append entry_text entries more) ∙ last_sum-append (head_sum tags units) (map entry_text entries) (map entry_text more)

-- with what was added behind the bytes that wait
pub begun_more : (tags : ℕ) (units : List FirstUnit) (log : Log) (old new : Place) (given before after : List ℕ) → IsBeginning tags units old (given ++ before)
    → Added log old before new after → IsBeginning tags units new (given ++ after)
begun_more tags units log old new given before after begins added =
    let bodies : List (List ℕ) = map entry_text added.entries in
    record {
      entries = begins.entries ++ added.entries;
      text = ap (λ (back : List ℕ). given ++ back) added.text ∙ sym (append_assoc given before (records_text old.sum bodies))
          ∙ ap (λ (front : List ℕ). front ++ records_text old.sum bodies) begins.text
          ∙ ap (λ n. front_text tags units begins.entries ++ records_text n bodies) begins.sum ∙ sym (text_goes_on tags units begins.entries added.entries);
      sum = added.sum ∙ ap (λ n. last_sum n bodies) begins.sum ∙ sym (sum_goes_on tags units begins.entries added.entries);
      steps = omega (arith, begins.steps, added.steps, length-append begins.entries added.entries);
    }

-- and with all that the log has, and its end
pub whole : (log : Log) (why : Why) (old new : Place) (given waiting : List ℕ) → IsBeginning log.tags log.units old (given ++ waiting)
    → new.steps ≡ old.steps + length (entries_behind log old)
    → IsWhole log why (given ++ ((waiting ++ records_behind log old) ++ record_text (sum_behind log old) (end_text new.steps why)))
whole log why old new given waiting begins counted =
    let tags : ℕ = log.tags in
    let units : List FirstUnit = log.units in
    let entries : List Entry = begins.entries in
    let behind : List Entry = entries_behind log old in
    let bodies : List (List ℕ) = map entry_text behind in
    let records : List ℕ = records_behind log old in
    let last : List ℕ = record_text (sum_behind log old) (end_text new.steps why) in
    let all : List Entry = entries ++ behind in
    let front : (given ++ waiting) ++ records ≡ front_text tags units all =
    ap (λ (text : List ℕ). text ++ records) begins.text ∙ ap (λ n. front_text tags units entries ++ records_text n bodies) begins.sum
    ∙ sym (text_goes_on tags units entries behind) in
    let summed : sum_behind log old ≡ front_sum tags units all = ap (λ n. last_sum n bodies) begins.sum ∙ sym (sum_goes_on tags units entries behind) in
    let many : new.steps ≡ length all = omega (arith, counted, begins.steps, length-append entries behind) in
    record {
      place = old;
      entries = entries;
      steps = begins.steps;
      text = sym (append_assoc given (waiting ++ records) last)
          ∙ ap (λ (text : List ℕ). text ++ last) (sym (append_assoc given waiting records) ∙ front)
          ∙ ap (λ n. front_text tags units all ++ record_text n (end_text new.steps why)) summed
          ∙ ap (λ n. front_text tags units all ++ record_text (front_sum tags units all) (end_text n why)) many
          ∙ ap (λ (text : List ℕ). front_text tags units all ++ text) (sym (append-nil (record_text (front_sum tags units all) (end_text (length all) why))));
    }

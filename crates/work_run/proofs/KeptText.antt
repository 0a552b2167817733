-- What the file of a log has that is kept, with the bytes that wait for it.
use Rattle.std.proofs.Common.{◌≡◌, ℕ, Bool, true, false, List, [], ◌++◌, length, Option, None, Some, IsTrue, Result, Ok, Err, sym, ap, subst, ◌∙◌, append_assoc, inl, inr}
use Rattle.std.specs.Prelude.{◌⊎◌, if◌then◌else◌, IfErr, OnOk}
use Rattle.std.proofs.Math.Logic.{∥∥₁_map}
use Rattle.log_keeper.specs.declared.stops.KeepStop.{KeepStop}
use Rattle.log_keeper.specs.declared.stops.KeepStop.TheVariants as stop
use Rattle.kept_log.specs.declared.Why.TheVariants as why
use Rattle.std.specs.Io.KnownBytes.{Appends}
use Rattle.std.proofs.lemmas.List.{append-nil}
use Rattle.uas_log.specs.declared.FirstUnit.{FirstUnit}
use Rattle.uas_log.specs.declared.Log.{Log}
use Rattle.kept_log.specs.declared.Entry.{Entry}
use Rattle.kept_log.specs.declared.Why.{Why}
use Rattle.kept_log.specs.Form.{end_text, front_sum, front_text, head_sum, head_text, kept_text}
use Rattle.log_records.specs.Records.{record_text}
use Rattle.log_keeper.specs.declared.Place.{Place}
use Rattle.log_keeper.specs.Beginnings.{IsBeginning}
use Rattle.log_keeper.specs.Entries.{Added, entries_behind}
use Rattle.log_keeper.proofs.Begun.{begun, begun_more}
use Rattle.work_run.specs.KeptTexts.{HasBeginning, HasEnded, HasKept, HasText, HasWhole, reason_of}

-- known bytes that grew
grown : (held : Option (List ℕ)) (given bytes : List ℕ) → Appends (Some given) held bytes → held ≡ Some (given ++ bytes)
grown None given bytes more = absurd more
grown (Some all) given bytes more = ap Some more

appended : (old new : Option (List ℕ)) (given bytes : List ℕ) → old ≡ Some given → Appends old new bytes → new ≡ Some (given ++ bytes)
appended old new given bytes is more = grown new given bytes (subst (λ (before : Option (List ℕ)). Appends before new bytes) is more)

-- a file that has the head alone
pub has_begun : (tells : Bool) (tags : ℕ) (units : List FirstUnit) (place : Place) (written : Option (List ℕ)) (waiting : List ℕ)
    → (IsTrue tells → written ≡ Some (head_text tags units)) → waiting ≡ [] → place ≡ record { steps = 0; replies = 0; sum = head_sum tags units }
    → HasKept tells tags units place written waiting
has_begun tells tags units place written waiting head none start = record {
  given = head_text tags units;
  known = head;
  begins = subst (λ (rest : List ℕ). IsBeginning tags units place (head_text tags units ++ rest)) (sym none)
      (subst (IsBeginning tags units place) (sym (append-nil (head_text tags units)))
      (subst (λ (at : Place). IsBeginning tags units at (head_text tags units)) (sym start) (begun tags units)));
}

-- bytes that are a beginning of a log
pub held_beginning : (tags : ℕ) (units : List FirstUnit) (place : Place) (bytes : List ℕ) (held : Option (List ℕ)) → IsBeginning tags units place bytes
    → held ≡ Some bytes → HasBeginning tags units held
held_beginning tags units place bytes held begins known = record {
  ending = None;
  text = record {
    entries = begins.entries;
    known = known ∙ ap Some (begins.text ∙ sym (append-nil (front_text tags units begins.entries)));
  };
}

-- so is the head
pub head_beginning : (tags : ℕ) (units : List FirstUnit) (held : Option (List ℕ)) → held ≡ Some (head_text tags units) → HasBeginning tags units held
head_beginning tags units held known = held_beginning tags units _ (head_text tags units) held (begun tags units) known

-- records were gathered
pub has_more : (tells : Bool) (tags : ℕ) (units : List FirstUnit) (log : Log) (old new : Place) (written : Option (List ℕ)) (before after : List ℕ)
    → HasKept tells tags units old written before → Added log old before new after → HasKept tells tags units new written after
has_more tells tags units log old new written before after kept added = record {
  given = kept.given;
  known = kept.known;
  begins = begun_more tags units log old new kept.given before after kept.begins added;
}

-- what waited was written
pub has_written : (tells : Bool) (tags : ℕ) (units : List FirstUnit) (place : Place) (old new : Option (List ℕ)) (waiting left : List ℕ)
    → HasKept tells tags units place old waiting → Appends old new waiting → left ≡ [] → HasKept tells tags units place new left
has_written tells tags units place old new waiting left kept more none = record {
  given = kept.given ++ waiting;
  known = λ told. appended old new kept.given waiting (kept.known told) more;
  begins = subst (λ (rest : List ℕ). IsBeginning tags units place ((kept.given ++ waiting) ++ rest)) (sym none)
      (subst (IsBeginning tags units place) (sym (append-nil (kept.given ++ waiting))) kept.begins);
}

-- what was synced, once what waited was written
pub synced_more : (did tells : Bool) (tags : ℕ) (units : List FirstUnit) (place : Place) (old new written : Option (List ℕ)) (left : List ℕ)
    → ∥ HasKept tells tags units place written left ∥₁ → left ≡ [] → new ≡ (if did then written else old) → IsTrue tells
    → ∥ HasBeginning tags units old ∥₁ → ∥ HasBeginning tags units new ∥₁
synced_more true tells tags units place old new written left kept none is told before =
    ∥∥₁_map {B = HasBeginning tags units new} kept (λ (it : HasKept tells tags units place written left).
    held_beginning tags units place (it.given ++ left) new it.begins
    (is ∙ it.known told ∙ ap Some (sym (append-nil it.given) ∙ ap (λ (rest : List ℕ). it.given ++ rest) (sym none))))
synced_more false tells tags units place old new written left kept none is told before =
    subst (λ (held : Option (List ℕ)). ∥ HasBeginning tags units held ∥₁) (sym is) before

-- THE END

-- what waited, and the end
pub has_ended : (tells : Bool) (tags : ℕ) (units : List FirstUnit) (place : Place) (reason : Why) (written held : Option (List ℕ)) (waiting : List ℕ)
    → HasKept tells tags units place written waiting → Appends written held (waiting ++ record_text place.sum (end_text place.steps reason)) → IsTrue tells
    → HasEnded tags units place reason held
has_ended tells tags units place reason written held waiting kept more told =
    let entries : List Entry = kept.begins.entries in
    let front : List ℕ = front_text tags units entries in
    let last : List ℕ = record_text place.sum (end_text place.steps reason) in
    record {
      text = record {
        entries = entries;
        known = appended written held kept.given (waiting ++ last) (kept.known told) more
            ∙ ap Some (sym (append_assoc kept.given waiting last) ∙ ap (λ (text : List ℕ). text ++ last) kept.begins.text
            ∙ ap (λ n. front ++ record_text n (end_text place.steps reason)) kept.begins.sum
            ∙ ap (λ n. front ++ record_text (front_sum tags units entries) (end_text n reason)) kept.begins.steps
            ∙ ap (λ (text : List ℕ). front ++ text) (sym (append-nil (record_text (front_sum tags units entries) (end_text (length entries) reason)))));
      };
      steps = kept.begins.steps;
    }

-- where the end couldn't be written
pub left_by : (tells : Bool) (tags : ℕ) (units : List FirstUnit) (place : Place) (written old new : Option (List ℕ)) (waiting : List ℕ)
    → ∥ HasKept tells tags units place written waiting ∥₁ → (new ≡ old) ⊎ Appends written new waiting → IsTrue tells → ∥ HasBeginning tags units old ∥₁
    → ∥ HasBeginning tags units new ∥₁
left_by tells tags units place written old new waiting kept (inl same) told before =
    subst (λ (held : Option (List ℕ)). ∥ HasBeginning tags units held ∥₁) (sym same) before
left_by tells tags units place written old new waiting kept (inr more) told before =
    ∥∥₁_map {B = HasBeginning tags units new} kept (λ (it : HasKept tells tags units place written waiting).
    held_beginning tags units place (it.given ++ waiting) new it.begins (appended written new it.given waiting (it.known told) more))

pub ended_beginning : (tags : ℕ) (units : List FirstUnit) (place : Place) (reason : Why) (held : Option (List ℕ)) → HasEnded tags units place reason held
    → HasBeginning tags units held
ended_beginning tags units place reason held it = record { ending = Some reason; text = it.text }

-- unless it has stopped, a log ended for the reason that is given
pub ended_on_ok : (told_by : Result (Unit {0}) KeepStop) (reached : Option KeepStop) (tells : Bool) (tags : ℕ) (units : List FirstUnit) (place : Place)
    (reason : Why) (written held : Option (List ℕ)) (waiting : List ℕ) → OnOk told_by (reached ≡ None) → ∥ HasKept tells tags units place written waiting ∥₁
    → Appends written held (waiting ++ record_text place.sum (end_text place.steps (reason_of reached reason)))
    → OnOk told_by (IsTrue tells → ∥ HasEnded tags units place reason held ∥₁)
ended_on_ok (Ok done) reached tells tags units place reason written held waiting goes kept more = λ told.
    ∥∥₁_map {B = HasEnded tags units place reason held} kept (λ (it : HasKept tells tags units place written waiting).
    has_ended tells tags units place reason written held waiting it
    (subst (λ (at : Option KeepStop). Appends written held (waiting ++ record_text place.sum (end_text place.steps (reason_of at reason)))) goes more) told)
ended_on_ok (Err fault) reached tells tags units place reason written held waiting goes kept more = tt

-- at the limits the log was full
pub full_at_limits : (told_by : Result (Unit {0}) KeepStop) (reached : Option KeepStop) (tells : Bool) (tags : ℕ) (units : List FirstUnit) (place : Place)
    (reason : Why) (written held : Option (List ℕ)) (waiting : List ℕ) → IfErr told_by (λ fault. reached ≡ Some fault)
    → ∥ HasKept tells tags units place written waiting ∥₁
    → Appends written held (waiting ++ record_text place.sum (end_text place.steps (reason_of reached reason)))
    → told_by ≡ Err stop.Limits → IsTrue tells → ∥ HasText tags units (Some why.LogFull) held ∥₁
full_at_limits told_by reached tells tags units place reason written held waiting stopped kept more is told =
    let at : reached ≡ Some stop.Limits = subst (λ (r : Result (Unit {0}) KeepStop). IfErr r (λ fault. reached ≡ Some fault)) is stopped in
    ∥∥₁_map {B = HasText tags units (Some why.LogFull) held} kept (λ (it : HasKept tells tags units place written waiting).
    (has_ended tells tags units place why.LogFull written held waiting it
    (subst (λ (s : Option KeepStop). Appends written held (waiting ++ record_text place.sum (end_text place.steps (reason_of s reason)))) at more) told).text)

-- and whatever the reason, the file has a beginning
pub ended_left : (tells : Bool) (tags : ℕ) (units : List FirstUnit) (place : Place) (reason : Why) (written held : Option (List ℕ)) (waiting : List ℕ)
    → ∥ HasKept tells tags units place written waiting ∥₁ → Appends written held (waiting ++ record_text place.sum (end_text place.steps reason)) → IsTrue tells
    → ∥ HasBeginning tags units held ∥₁
ended_left tells tags units place reason written held waiting kept more told =
    ∥∥₁_map {B = HasBeginning tags units held} kept (λ (it : HasKept tells tags units place written waiting).
    ended_beginning tags units place reason held (has_ended tells tags units place reason written held waiting it more told))

-- with all that a log has
pub has_whole : (log : Log) (reason : Why) (place : Place) (held : Option (List ℕ)) → entries_behind log place ≡ []
    → HasEnded log.tags log.units place reason held → HasWhole log reason held
has_whole log reason place held none it =
    let entries : List Entry = it.text.entries in
    record {
      bytes = kept_text (record { tags = log.tags; units = log.units; entries = entries; ending = Some reason });
      known = it.text.known;
      whole = record {
        place = place;
        entries = entries;
        steps = it.steps;
        text = ap (λ (all : List Entry). kept_text (record { tags = log.tags; units = log.units; entries = all; ending = Some reason }))
            (sym (append-nil entries) ∙ ap (λ (rest : List Entry). entries ++ rest) (sym none));
      };
    }

-- likewise, where the end was written
pub whole_on_ok : (written : Result (Unit {0}) KeepStop) (tells : Bool) (tags : ℕ) (units : List FirstUnit) (log : Log) (reason : Why) (place : Place)
    (held : Option (List ℕ)) (Goes : Type 0) → log.tags ≡ tags → log.units ≡ units → OnOk written Goes → (Goes → entries_behind log place ≡ [])
    → OnOk written (IsTrue tells → ∥ HasEnded tags units place reason held ∥₁) → OnOk written (IsTrue tells → ∥ HasWhole log reason held ∥₁)
whole_on_ok (Ok done) tells tags units log reason place held Goes same_tags same_units goes all ended = λ told.
    ∥∥₁_map {B = HasWhole log reason held} (ended told) (λ (it : HasEnded tags units place reason held).
    has_whole log reason place held (all goes)
    (subst (λ (p : ℕ × List FirstUnit). HasEnded p.0 p.1 place reason held) (λ i. (sym same_tags i, sym same_units i)) it))
whole_on_ok (Err fault) tells tags units log reason place held Goes same_tags same_units goes all ended = tt

pub whole_text : (log : Log) (reason : Why) (held : Option (List ℕ)) → HasWhole log reason held → HasText log.tags log.units (Some reason) held
whole_text log reason held it = record {
  entries = it.whole.entries ++ entries_behind log it.whole.place;
  known = it.known ∙ ap Some it.whole.text;
}

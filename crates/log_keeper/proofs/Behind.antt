-- A text that grows by the record of a step.
use Rattle.std.proofs.Common.{◌≡◌, ℕ, zero, suc, ◌+◌, ◌^◌, ◌<◌, ◌≤◌, ◌==◌, ◌&&◌, Bool, true, false, cond, List, [], ◌∷◌, ◌++◌, length, get_or, drop, map, Some, None, refl, sym, ap, ◌∙◌, subst, add-one, append_assoc, arith, inl, inr}
use Rattle.std.specs.Prelude.{◌⊎◌, nat_lt}
use Rattle.std.proofs.Math.Dec.{eqb-suc-zero}
use Rattle.std.proofs.Math.Seq.{drop-cons}
use Rattle.std.proofs.lemmas.Bool.{lt-ltb}
use Rattle.std.proofs.lemmas.List.{append-nil, length-append, length-drop, map-append, nil_from_length}
use Rattle.scsi_cmd.specs.declared.Reply.{Reply}
use Rattle.shared_machine.specs.declared.Step.{Step}
use Rattle.uas_log.specs.declared.Log.{Log}
use Rattle.log_records.specs.Records.{last_sum, record_text, records_text, sum_after}
use Rattle.log_records.proofs.Growing.{last_sum-append, records-append}
use Rattle.log_text.specs.declared.Version.TheVariants.{Second}
use Rattle.log_text.specs.Kept.{with_client}
use Rattle.log_text.specs.Text.{ReplyFits, StepFits}
use Rattle.kept_log.specs.declared.Entry.{Entry}
use Rattle.kept_log.specs.declared.Entry.TheVariants.{Acted, Refused}
use Rattle.kept_log.specs.Form.{EntryFits, entry_text, is_take}
use Rattle.log_keeper.specs.declared.Place.{Place}
use Rattle.log_keeper.specs.Entries.{Added, AllFit, FirstFits, OneMore, bare_entry, entries_behind, entries_of, gives, records_behind, sum_behind}

-- ADDED

pub added_same : (log : Log) (place : Place) (text : List ℕ) → Added log place text place text
added_same log place text = record {
  entries = [];
  more = refl;
  text = sym (append-nil text);
  sum = refl;
  steps = omega arith;
  fit = tt;
}

fit_more : (clients : ℕ) (entries : List Entry) (entry : Entry) → AllFit clients entries → EntryFits clients entry → AllFit clients (entries ++ entry ∷ [])
fit_more clients [] entry all fits = (fits, tt)
fit_more clients (first ∷ rest) entry all fits = (all.0, fit_more clients rest entry all.1 fits)

-- one more behind those that were added
pub added_then : (log : Log) (first next last : Place) (one two three : List ℕ) → Added log first one next two → OneMore log next two last three
    → Added log first one last three
added_then log first next last one two three p q =
    let front : List Entry = p.entries in
    let back : List Entry = q.entry ∷ [] in
    let bodies : List (List ℕ) = map entry_text front in
    let body : List ℕ = entry_text q.entry in
    let sum : ℕ = last_sum first.sum bodies in
    let both : map entry_text (front ++ back) ≡ bodies ++ body ∷ [] = map-append entry_text front back in
    let records : records_text first.sum bodies ++ record_text sum body ≡ records_text first.sum (map entry_text (front ++ back)) =
    ap (λ (text : List ℕ). records_text first.sum bodies ++ text) (sym (append-nil (record_text sum body)))
    ∙ sym (records-append first.sum bodies (body ∷ [])) ∙ ap (records_text first.sum) (sym both) in
    record {
      entries = front ++ back;
      more = p.more ∙ ap (λ (behind : List Entry). front ++ behind) q.more ∙ sym (append_assoc front back (entries_behind log last));
      text = q.text ∙ ap (λ (text : List ℕ). text ++ record_text next.sum body) p.text
          ∙ ap (λ n. (one ++ records_text first.sum bodies) ++ record_text n body) p.sum
          ∙ append_assoc one (records_text first.sum bodies) (record_text sum body) ∙ ap (λ (text : List ℕ). one ++ text) records;
      sum = q.sum ∙ ap (λ n. sum_after n body) p.sum ∙ sym (last_sum-append first.sum bodies (body ∷ []))
          ∙ ap (last_sum first.sum) (sym both);
      steps = omega (arith, p.steps, q.steps, length-append front back);
      fit = fit_more (length log.units) front q.entry p.fit q.fits;
    }

-- where nothing is left, all that was behind the place was added
pub all_added : (log : Log) (old new : Place) (before after : List ℕ) (added : Added log old before new after) → entries_behind log new ≡ []
    → entries_behind log old ≡ added.entries
all_added log old new before after added none =
    added.more ∙ ap (λ (behind : List Entry). added.entries ++ behind) none ∙ append-nil added.entries

pub all_written : (log : Log) (old new : Place) (before after : List ℕ) → Added log old before new after → entries_behind log new ≡ []
    → after ≡ before ++ records_behind log old
all_written log old new before after added none =
    added.text ∙ ap (λ (entries : List Entry). before ++ records_text old.sum (map entry_text entries)) (sym (all_added log old new before after added none))

pub all_summed : (log : Log) (old new : Place) (before after : List ℕ) → Added log old before new after → entries_behind log new ≡ []
    → new.sum ≡ sum_behind log old
all_summed log old new before after added none =
    added.sum ∙ ap (λ (entries : List Entry). last_sum old.sum (map entry_text entries)) (sym (all_added log old new before after added none))

pub all_counted : (log : Log) (old new : Place) (before after : List ℕ) → Added log old before new after → entries_behind log new ≡ []
    → new.steps ≡ old.steps + length (entries_behind log old)
all_counted log old new before after added none =
    added.steps ∙ ap (λ (entries : List Entry). old.steps + length entries) (sym (all_added log old new before after added none))

pub all_fit : (log : Log) (old new : Place) (before after : List ℕ) → Added log old before new after → entries_behind log new ≡ []
    → AllFit (length log.units) (entries_behind log old)
all_fit log old new before after added none =
    subst (AllFit (length log.units)) (sym (all_added log old new before after added none)) added.fit

-- THE NEXT ENTRY

both_false : (a b : Bool) → (a && b) ≡ false → b ≡ true → a ≡ false
both_false true b e p = absurd cc
both_false false b e p = refl

pub bare_head : (tags number : ℕ) (step : Step) (steps : List Step) (numbers : List ℕ) (replies : List Reply)
    → (1 ≤ length replies → gives number step ≡ false)
    → entries_of tags (step ∷ steps) (number ∷ numbers) replies ≡ bare_entry number step ∷ entries_of tags steps numbers replies
bare_head tags number step steps numbers [] bare = refl
bare_head tags number step steps numbers (reply ∷ replies) bare =
    ap (λ (given : Bool). cond given (Acted step (Some (with_client tags reply)) ∷ entries_of tags steps numbers replies)
    (bare_entry number step ∷ entries_of tags steps numbers (reply ∷ replies))) (bare (omega arith))

taken_head : (tags number : ℕ) (step : Step) (steps : List Step) (numbers : List ℕ) (reply : Reply) (replies : List Reply) → gives number step ≡ true
    → entries_of tags (step ∷ steps) (number ∷ numbers) (reply ∷ replies) ≡ Acted step (Some (with_client tags reply)) ∷ entries_of tags steps numbers replies
taken_head tags number step steps numbers reply replies given =
    ap (λ (given : Bool). cond given (Acted step (Some (with_client tags reply)) ∷ entries_of tags steps numbers replies)
    (bare_entry number step ∷ entries_of tags steps numbers (reply ∷ replies))) given

here : {A : Type 0} (list : List A) (at : ℕ) (one : A) → at < length list → get_or list at one ≡ one → drop at list ≡ one ∷ drop (at + 1) list
here list at one within is =
    drop-cons list at one within ∙ ap (λ first. first ∷ drop (suc at) list) is ∙ ap (λ n. one ∷ drop n list) (sym (add-one at))

numbers_here : (list : List ℕ) (at one : ℕ) → at < length list → get_or list at 0 ≡ one → drop at list ≡ one ∷ drop (at + 1) list
numbers_here list at one within is =
    drop-cons list at 0 within ∙ ap (λ first. first ∷ drop (suc at) list) is ∙ ap (λ n. one ∷ drop n list) (sym (add-one at))

pub bare_behind : (log : Log) (place : Place) (step : Step) (number sum : ℕ) → place.steps < length log.steps → place.steps < length log.refusals
    → get_or log.steps place.steps step ≡ step → get_or log.refusals place.steps 0 ≡ number
    → (gives number step && nat_lt place.replies (length log.replies)) ≡ false
    → entries_behind log place ≡ bare_entry number step ∷ entries_behind log (record { steps = place.steps + 1; replies = place.replies; sum = sum })
bare_behind log place step number sum within told is-step is-number bare =
    let replies : List Reply = drop place.replies log.replies in
    ap (λ (steps : List Step). entries_of log.tags steps (drop place.steps log.refusals) replies) (here log.steps place.steps step within is-step)
    ∙ ap (λ (numbers : List ℕ). entries_of log.tags (step ∷ drop (place.steps + 1) log.steps) numbers replies)
    (numbers_here log.refusals place.steps number told is-number)
    ∙ bare_head log.tags number step (drop (place.steps + 1) log.steps) (drop (place.steps + 1) log.refusals) replies (λ some.
    both_false (gives number step) (nat_lt place.replies (length log.replies)) bare
    (lt-ltb place.replies (length log.replies) (omega (arith, some, length-drop place.replies log.replies))))

pub second_true : (a b : Bool) → (a && b) ≡ true → b ≡ true
second_true true b e = e
second_true false b e = absurd cc

pub first_true : (a b : Bool) → (a && b) ≡ true → a ≡ true
first_true true b e = refl
first_true false b e = absurd cc

pub taken_behind : (log : Log) (place : Place) (step : Step) (number sum : ℕ) (reply : Reply) → place.steps < length log.steps
    → place.steps < length log.refusals → place.replies < length log.replies → get_or log.steps place.steps step ≡ step
    → get_or log.refusals place.steps 0 ≡ number → get_or log.replies place.replies reply ≡ reply
    → (gives number step && nat_lt place.replies (length log.replies)) ≡ true
    → entries_behind log place ≡ Acted step (Some (with_client log.tags reply))
    ∷ entries_behind log (record { steps = place.steps + 1; replies = place.replies + 1; sum = sum })
taken_behind log place step number sum reply within told some is-step is-number is-reply given =
    let steps : List Step = drop (place.steps + 1) log.steps in
    let numbers : List ℕ = drop (place.steps + 1) log.refusals in
    let replies : List Reply = drop (place.replies + 1) log.replies in
    ap (λ (list : List Step). entries_of log.tags list (drop place.steps log.refusals) (drop place.replies log.replies)) (here log.steps place.steps step within is-step)
    ∙ ap (λ (list : List ℕ). entries_of log.tags (step ∷ steps) list (drop place.replies log.replies)) (numbers_here log.refusals place.steps number told is-number)
    ∙ ap (λ (list : List Reply). entries_of log.tags (step ∷ steps) (number ∷ numbers) list) (here log.replies place.replies reply some is-reply)
    ∙ taken_head log.tags number step steps numbers reply replies (first_true (gives number step) (nat_lt place.replies (length log.replies)) given)

-- NOTHING MORE

no_numbers : (tags : ℕ) (steps : List Step) (replies : List Reply) → entries_of tags steps [] replies ≡ []
no_numbers tags [] replies = refl
no_numbers tags (step ∷ steps) replies = refl

dropped : {A : Type 0} (at : ℕ) (list : List A) → length list ≤ at → drop at list ≡ []
dropped at list past = nil_from_length (drop at list) (omega (arith, past, length-drop at list))

pub nothing_behind : (log : Log) (place : Place) (count : ℕ) → (count ≡ length log.steps) ⊎ (count ≡ length log.refusals) → count ≤ place.steps
    → entries_behind log place ≡ []
nothing_behind log place count all past =
    elim all [
      | inl steps ↦
          ap (λ (list : List Step). entries_of log.tags list (drop place.steps log.refusals) (drop place.replies log.replies))
          (dropped place.steps log.steps (omega (arith, past, steps)))
      | inr numbers ↦
          ap (λ (list : List ℕ). entries_of log.tags (drop place.steps log.steps) list (drop place.replies log.replies))
          (dropped place.steps log.refusals (omega (arith, past, numbers))) ∙ no_numbers log.tags (drop place.steps log.steps) (drop place.replies log.replies)
    ]

-- WITH ITS RECORD

bare_fits : (clients number : ℕ) (step : Step) → number < 2 ^ 8 → StepFits Second clients step → EntryFits clients (bare_entry number step)
bare_fits clients zero step small fits = (fits, tt)
bare_fits clients (suc number) step small fits =
    subst (λ (none : Bool). EntryFits clients (cond none (Acted step None) (Refused step (suc number)))) (sym (eqb-suc-zero number)) (fits, omega arith, small)

bare_step : (clients number : ℕ) (step : Step) → EntryFits clients (bare_entry number step) → StepFits Second clients step
bare_step clients zero step fits = fits.0
bare_step clients (suc number) step fits =
    let refused : EntryFits clients (Refused step (suc number)) =
    subst (λ (none : Bool). EntryFits clients (cond none (Acted step None) (Refused step (suc number)))) (eqb-suc-zero number) fits in
    refused.0

-- a step without a reply
pub bare_more : (log : Log) (place : Place) (step : Step) (number sum : ℕ) (before after : List ℕ) → place.steps < length log.steps
    → place.steps < length log.refusals → step ≡ get_or log.steps place.steps step → number ≡ get_or log.refusals place.steps 0 → number < 2 ^ 8
    → (gives number step && nat_lt place.replies (length log.replies)) ≡ false → after ≡ before ++ record_text place.sum (entry_text (bare_entry number step))
    → sum ≡ sum_after place.sum (entry_text (bare_entry number step)) → StepFits Second (length log.units) step
    → OneMore log place before (record { steps = place.steps + 1; replies = place.replies; sum = sum }) after
bare_more log place step number sum before after within told is-step is-number small bare grown summed fits = record {
  entry = bare_entry number step;
  more = bare_behind log place step number sum within told (sym is-step) (sym is-number) bare;
  text = grown;
  sum = summed;
  steps = refl;
  fits = bare_fits (length log.units) number step small fits;
}

-- a Take and its reply
pub taken_more : (log : Log) (place : Place) (step : Step) (number sum : ℕ) (reply : Reply) (before after : List ℕ) → place.steps < length log.steps
    → place.steps < length log.refusals → place.replies < length log.replies → step ≡ get_or log.steps place.steps step
    → number ≡ get_or log.refusals place.steps 0 → reply ≡ get_or log.replies place.replies reply
    → (gives number step && nat_lt place.replies (length log.replies)) ≡ true
    → after ≡ before ++ record_text place.sum (entry_text (Acted step (Some (with_client log.tags reply))))
    → sum ≡ sum_after place.sum (entry_text (Acted step (Some (with_client log.tags reply))))
    → StepFits Second (length log.units) step → ReplyFits (length log.units) (with_client log.tags reply)
    → OneMore log place before (record { steps = place.steps + 1; replies = place.replies + 1; sum = sum }) after
taken_more log place step number sum reply before after within told some is-step is-number is-reply given grown summed fits reply-fits = record {
  entry = Acted step (Some (with_client log.tags reply));
  more = taken_behind log place step number sum reply within told some (sym is-step) (sym is-number) (sym is-reply) given;
  text = grown;
  sum = summed;
  steps = refl;
  fits = (fits, (second_true (number == 0) (is_take step) (first_true (gives number step) (nat_lt place.replies (length log.replies)) given), reply-fits));
}

-- the limits of the first entry are those of its parts
pub bare_limits : (log : Log) (place : Place) (step : Step) (number : ℕ) → place.steps < length log.steps → place.steps < length log.refusals
    → step ≡ get_or log.steps place.steps step → number ≡ get_or log.refusals place.steps 0
    → (gives number step && nat_lt place.replies (length log.replies)) ≡ false → FirstFits (length log.units) (entries_behind log place)
    → StepFits Second (length log.units) step
bare_limits log place step number within told is-step is-number bare fits =
    bare_step (length log.units) number step (subst (FirstFits (length log.units)) (bare_behind log place step number 0 within told (sym is-step) (sym is-number) bare) fits)

pub taken_limits : (log : Log) (place : Place) (step : Step) (number : ℕ) (reply : Reply) → place.steps < length log.steps
    → place.steps < length log.refusals → place.replies < length log.replies → step ≡ get_or log.steps place.steps step
    → number ≡ get_or log.refusals place.steps 0 → reply ≡ get_or log.replies place.replies reply
    → (gives number step && nat_lt place.replies (length log.replies)) ≡ true → FirstFits (length log.units) (entries_behind log place)
    → StepFits Second (length log.units) step × ReplyFits (length log.units) (with_client log.tags reply)
taken_limits log place step number reply within told some is-step is-number is-reply given fits =
    let both = subst (FirstFits (length log.units)) (taken_behind log place step number 0 reply within told some (sym is-step) (sym is-number) (sym is-reply) given) fits in
    (both.0, both.1.1)

-- A text that has all records.
use Rattle.std.proofs.Common.{◌≡◌, ℕ, suc, ◌+◌, Bool, true, false, cond, List, [], ◌∷◌, ◌++◌, length, map, Some, refl, sym, ap, ◌∙◌, arith}
use Rattle.std.specs.Prelude.{if◌then◌else◌}
use Rattle.scsi_cmd.specs.declared.Reply.{Reply}
use Rattle.shared_machine.specs.declared.Step.{Step}
use Rattle.uas_log.specs.declared.Log.{Log}
use Rattle.log_records.specs.Records.{records_text}
use Rattle.log_text.specs.Kept.{with_client}
use Rattle.kept_log.specs.declared.Entry.{Entry}
use Rattle.kept_log.specs.declared.Entry.TheVariants.{Acted}
use Rattle.kept_log.specs.Form.{entry_text, front_text}
use Rattle.kept_log.proofs.Growing.{text_goes_on}
use Rattle.log_keeper.proofs.Behind.{all_written, bare_head}
use Rattle.log_keeper.specs.declared.Place.{Place}
use Rattle.log_keeper.specs.Entries.{Added, StandsAt, bare_entry, entries_before, entries_behind, entries_of, given_count, gives, log_entries}

pub whole_text : (log : Log) (place new : Place) (text after : List ℕ) → StandsAt log place text
    → log_entries log ≡ entries_before log place ++ entries_behind log place → Added log place text new after → entries_behind log new ≡ []
    → after ≡ front_text log.tags log.units (log_entries log)
whole_text log place new text after stand parts added none =
    let before : List Entry = entries_before log place in
    let behind : List Entry = entries_behind log place in
    all_written log place new text after added none
    ∙ ap (λ (front : List ℕ). front ++ records_text place.sum (map entry_text behind)) stand.text
    ∙ ap (λ n. front_text log.tags log.units before ++ records_text n (map entry_text behind)) stand.sum
    ∙ sym (text_goes_on log.tags log.units before behind) ∙ ap (front_text log.tags log.units) (sym parts)

-- STEPS BEHIND STEPS

none_given : (given : Bool) (count : ℕ) → 0 ≡ (if given then 1 else 0) + count → (given ≡ false) × (0 ≡ count)
none_given true count e = absurd (omega (arith, e))
none_given false count e = (refl, omega (arith, e))

one_on : (given : Bool) (one other : Entry) (x y a b back : List Entry) (size count : ℕ) → suc size ≡ (if given then 1 else 0) + count
    → (size ≡ count → x ≡ a ++ back) → (suc size ≡ count → y ≡ b ++ back) → cond given (one ∷ x) (other ∷ y) ≡ cond given (one ∷ a) (other ∷ b) ++ back
one_on true one other x y a b back size count e taken bare = ap (λ (rest : List Entry). one ∷ rest) (taken (omega (arith, e)))
one_on false one other x y a b back size count e taken bare = ap (λ (rest : List Entry). other ∷ rest) (bare (omega (arith, e)))

pub go_on : (tags : ℕ) (steps more : List Step) (numbers others : List ℕ) (replies next : List Reply) → length numbers ≡ length steps
    → length replies ≡ given_count steps numbers
    → entries_of tags (steps ++ more) (numbers ++ others) (replies ++ next) ≡ entries_of tags steps numbers replies ++ entries_of tags more others next
go_on tags [] more [] others [] next told given = refl
go_on tags [] more [] others (reply ∷ replies) next told given = absurd (omega (arith, given))
go_on tags [] more (number ∷ numbers) others replies next told given = absurd (omega (arith, told))
go_on tags (step ∷ steps) more [] others replies next told given = absurd (omega (arith, told))
go_on tags (step ∷ steps) more (number ∷ numbers) others [] next told given =
    let none = none_given (gives number step) (given_count steps numbers) given in
    bare_head tags number step (steps ++ more) (numbers ++ others) next (λ some. none.0)
    ∙ ap (λ (rest : List Entry). bare_entry number step ∷ rest) (go_on tags steps more numbers others [] next (omega (arith, told)) none.1)
go_on tags (step ∷ steps) more (number ∷ numbers) others (reply ∷ replies) next told given =
    one_on (gives number step) (Acted step (Some (with_client tags reply))) (bare_entry number step)
    (entries_of tags (steps ++ more) (numbers ++ others) (replies ++ next)) (entries_of tags (steps ++ more) (numbers ++ others) (reply ∷ (replies ++ next)))
    (entries_of tags steps numbers replies) (entries_of tags steps numbers (reply ∷ replies)) (entries_of tags more others next)
    (length replies) (given_count steps numbers) (omega (arith, given))
    (λ same. go_on tags steps more numbers others replies next (omega (arith, told)) same)
    (λ same. go_on tags steps more numbers others (reply ∷ replies) next (omega (arith, told)) (omega (arith, same)))

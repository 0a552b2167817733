use Rattle.std.proofs.Common.{◌≤◌, ◌==◌, ◌∙◌, ℕ, Bool, true, false, List, length, Result, Ok, Err, ap, ap₂, sym, subst, arith}
use Rattle.std.specs.Prelude.{OnOk, if◌then◌else◌}
use Rattle.std.specs.List.{AllByRecursion}
use Rattle.shared_machine.specs.declared.Step.{Step}
use Rattle.log_text.specs.declared.Version.TheVariants.{First, Second}
use Rattle.log_text.specs.Kept.{kept, with_client}
use Rattle.log_text.specs.Text.{ReplyFits, listed, reply_text, step_text, version_clients}
use Rattle.log_text.proofs.Keeping.{all-map, listed-map, replies_wider}
use Rattle.log_file.proofs.Gaves.{gave_whole}
use Rattle.log_file.proofs.saving.write_log.Goals as goal

either_version : (is_first : Bool) → version_clients (if is_first then First else Second) ≤ 31
either_version true = omega arith
either_version false = omega arith

pub give_replies-requires-clause-fit : goal.give_replies-requires-clause-fit
give_replies-requires-clause-fit g c =
    let log = c.args.log.now in
    let few : length log.units ≤ 31 = omega (arith, c.requires.within.most, either_version (log.tags == 8)) in
    subst (AllByRecursion (λ reply. ReplyFits 31 (with_client log.tags reply))) (sym c.as_slice-3.ensures)
    (all-map (ReplyFits 31) (with_client log.tags) log.replies (replies_wider (length log.units) 31 _ few c.requires.within.replies))

on_ok : {A E : Type 0} (P Q : Type 0) (result : Result A E) → (P → Q) → OnOk result P → OnOk result Q
on_ok P Q (Ok value) then' holds = then' holds
on_ok P Q (Err error) then' holds = tt

pub returns-clause-text : goal.returns-clause-text
returns-clause-text g c =
    let log = c.args.log.now in
    let steps = ap₂ (λ (steps : List Step) (refusals : List ℕ). listed step_text (kept steps refusals)) c.as_slice.ensures c.as_slice-2.ensures in
    let replies = ap (listed (λ reply. reply_text (with_client log.tags reply))) c.as_slice-3.ensures ∙ listed-map reply_text (with_client log.tags) log.replies in
    on_ok _ _ c.write_waiting.result
    (gave_whole g.O.Sink.written _ _ _ _ _ _ _ _ _ _ _ _ _ _ c.new-waiting.ensures.items steps replies
    c.in_ok-give_front.ensures.text c.in_ok-give_steps.ensures.text c.in_ok-give_replies.ensures.text)
    c.write_waiting.ensures.text

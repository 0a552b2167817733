-- A kept log's steps and replies, step by step, and that a bus can be asked for its steps.
use Rattle.std.proofs.Common.{◌≡◌, ℕ, ◌≤◌, List, [], ◌∷◌, ◌++◌, length, refl, sym, ap, ◌∙◌, append_assoc, arith}
use Rattle.std.specs.Prelude.{option_to_list}
use Rattle.std.specs.List.{AllByRecursion}
use Rattle.shared_machine.specs.declared.Step.{Step}
use Rattle.log_text.specs.declared.SavedReply.{SavedReply}
use Rattle.log_text.specs.declared.Version.TheVariants.{Second}
use Rattle.log_text.specs.Plain.{IsPlain}
use Rattle.log_text.specs.Text.{StepFits}
use Rattle.kept_log.specs.declared.Entry.{Entry}
use Rattle.kept_log.specs.declared.Entry.TheVariants.{Acted, Refused}
use Rattle.kept_log.specs.Form.{AreKeepable, EntryFits, Kept}
use Rattle.kept_log.specs.Saved.{acted_steps, given_replies, plain_of}

pub steps_more : (entries more : List Entry) → acted_steps (entries ++ more) ≡ acted_steps entries ++ acted_steps more
steps_more [] more = refl
steps_more (Acted step given ∷ rest) more = ap (λ (steps : List Step). step ∷ steps) (steps_more rest more)
steps_more (Refused step number ∷ rest) more = steps_more rest more

pub replies_more : (entries more : List Entry) → given_replies (entries ++ more) ≡ given_replies entries ++ given_replies more
replies_more [] more = refl
replies_more (Acted step given ∷ rest) more =
    ap (λ (replies : List SavedReply). option_to_list given ++ replies) (replies_more rest more)
    ∙ sym (append_assoc (option_to_list given) (given_replies rest) (given_replies more))
replies_more (Refused step number ∷ rest) more = replies_more rest more

steps_fit : (clients : ℕ) (entries : List Entry) → AllByRecursion (EntryFits clients) entries → AllByRecursion (StepFits Second clients) (acted_steps entries)
steps_fit clients [] fit = tt
steps_fit clients (Acted step given ∷ rest) fit = (fit.0.0, steps_fit clients rest fit.1)
steps_fit clients (Refused step number ∷ rest) fit = steps_fit clients rest fit.1

few_steps : (entries : List Entry) → length (acted_steps entries) ≤ length entries
few_steps [] = omega arith
few_steps (Acted step given ∷ rest) = omega (arith, few_steps rest)
few_steps (Refused step number ∷ rest) = omega (arith, few_steps rest)

pub plain_fits : (kept : Kept) → AreKeepable kept.tags kept.units kept.entries → IsPlain (plain_of kept)
plain_fits kept it = record {
  are_tags = it.are_tags;
  some = it.some;
  most = it.most;
  units_fit = it.units_fit;
  steps_fit = steps_fit (length kept.units) kept.entries it.entries_fit;
  few = omega (arith, few_steps kept.entries, it.few);
}

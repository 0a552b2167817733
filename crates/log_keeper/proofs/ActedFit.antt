-- The steps of a log that fits a text which weren't refused are within the limits.
use Rattle.std.proofs.Common.{◌≡◌, ℕ, zero, suc, ◌==◌, Bool, true, false, cond, List, [], ◌∷◌, length, map, None, Some, refl, sym, subst}
use Rattle.std.specs.List.{AllByRecursion}
use Rattle.std.proofs.Math.Dec.{eqb-suc-zero}
use Rattle.scsi_cmd.specs.declared.Reply.{Reply}
use Rattle.shared_machine.specs.declared.Step.{Step}
use Rattle.uas_log.specs.declared.Log.{Log}
use Rattle.log_text.specs.declared.Version.TheVariants.{Second}
use Rattle.log_text.specs.Kept.{FitsText, kept, with_client}
use Rattle.log_text.specs.Text.{ReplyFits, StepFits}
use Rattle.kept_log.specs.declared.Entry.{Entry}
use Rattle.kept_log.specs.declared.Entry.TheVariants.{Acted, Refused}
use Rattle.kept_log.specs.Form.{is_take}
use Rattle.log_keeper.specs.Entries.{AllActedFit, ActedFits, bare_entry, entries_of, gives, log_entries}
use Rattle.log_keeper.proofs.Behind.{first_true, second_true}

abbrev KeptFit : ℕ → List Step → Type 0
KeptFit clients steps = AllByRecursion (StepFits Second clients) steps

-- the step at the front, where it has the number 0, and those behind it
front_fits : (clients number : ℕ) (step : Step) (steps : List Step) (numbers : List ℕ) → (number == 0) ≡ true
    → KeptFit clients (kept (step ∷ steps) (number ∷ numbers)) → StepFits Second clients step
front_fits clients number step steps numbers none fit =
    (subst (λ (acted : Bool). KeptFit clients (cond acted (step ∷ kept steps numbers) (kept steps numbers))) none fit).0

rest_fits : (clients number : ℕ) (step : Step) (steps : List Step) (numbers : List ℕ)
    → KeptFit clients (kept (step ∷ steps) (number ∷ numbers)) → KeptFit clients (kept steps numbers)
rest_fits clients zero step steps numbers fit = fit.1
rest_fits clients (suc number) step steps numbers fit =
    subst (λ (acted : Bool). KeptFit clients (cond acted (step ∷ kept steps numbers) (kept steps numbers))) (eqb-suc-zero number) fit

bare_fits : (clients number : ℕ) (step : Step) (steps : List Step) (numbers : List ℕ)
    → KeptFit clients (kept (step ∷ steps) (number ∷ numbers)) → ActedFits clients (bare_entry number step)
bare_fits clients zero step steps numbers fit = (fit.0, tt)
bare_fits clients (suc number) step steps numbers fit =
    subst (λ (acted : Bool). ActedFits clients (cond acted (Acted step None) (Refused step (suc number)))) (sym (eqb-suc-zero number)) tt

either : (clients : ℕ) (given : Bool) (x y : List Entry) → (given ≡ true → AllActedFit clients x) → (given ≡ false → AllActedFit clients y)
    → AllActedFit clients (cond given x y)
either clients true x y taken bare = taken refl
either clients false x y taken bare = bare refl

acted_fit : (clients tags : ℕ) (steps : List Step) (numbers : List ℕ) (replies : List Reply) → KeptFit clients (kept steps numbers)
    → AllByRecursion (ReplyFits clients) (map (with_client tags) replies) → AllActedFit clients (entries_of tags steps numbers replies)
acted_fit clients tags [] numbers replies fit given = tt
acted_fit clients tags (step ∷ steps) [] replies fit given = tt
acted_fit clients tags (step ∷ steps) (number ∷ numbers) [] fit given =
    (bare_fits clients number step steps numbers fit, acted_fit clients tags steps numbers [] (rest_fits clients number step steps numbers fit) tt)
acted_fit clients tags (step ∷ steps) (number ∷ numbers) (reply ∷ replies) fit given =
    let rest : KeptFit clients (kept steps numbers) = rest_fits clients number step steps numbers fit in
    either clients (gives number step) (Acted step (Some (with_client tags reply)) ∷ entries_of tags steps numbers replies)
    (bare_entry number step ∷ entries_of tags steps numbers (reply ∷ replies))
    (λ gave. (
      (
        front_fits clients number step steps numbers (first_true (number == 0) (is_take step) gave) fit,
        (second_true (number == 0) (is_take step) gave, given.0),
      ),
      acted_fit clients tags steps numbers replies rest given.1,
    ))
    (λ bare. (bare_fits clients number step steps numbers fit, acted_fit clients tags steps numbers (reply ∷ replies) rest given))

pub acted_steps : (log : Log) → FitsText log → AllActedFit (length log.units) (log_entries log)
acted_steps log fits = acted_fit (length log.units) log.tags log.steps log.refusals log.replies fits.steps_fit fits.replies_fit

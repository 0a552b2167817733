use Rattle.std.proofs.Common.{rules, [], ◌∷◌, Ok, Err, ap, sym, subst, inl, inr, ◌≡◌, ◌∙◌, List, map, option_map}
use Rattle.std.specs.String.{string_bytes}
use Rattle.clap.specs.Words.{FailsBy, HasKind, Kinds, Text, fault_of, subcommand_rows_of}
use Rattle.clap.specs.declared.error.kind.ErrorKind.TheVariants.{ValueValidation}
use Rattle.uas_words.specs.CommandLine.{asked_by, asked_for, asked_in, refusals}
use Rattle.uas_words.specs.Subcommands.{program_app}
use Rattle.uas_words.proofs.CommandLineFacts.{asked_in-matches, fails_by_fault, nothing_refused, refused_by_fault, value_refused}
use Rattle.uas_words.proofs.run_by.Goals as goal

pub returns-in_err-matches-clause-refused : goal.returns-in_err-matches-clause-refused
returns-in_err-matches-clause-refused c =
    let words : List Text = map string_bytes c.args.words.now in
    let fails : FailsBy (fault_of program_app words) c.try_get_matches_from_mut.result =
    fails_by_fault _ words _ c.requires c.try_get_matches_from_mut.ensures.kinds in
    let failed : c.try_get_matches_from_mut.result ≡ Err c.in_err-matches.field-0.0 = search rules in
    let given : c.from_residual.result ≡ Err c.in_err-matches.field-0.0 = search rules in
    let kind : HasKind (fault_of program_app words) c.in_err-matches.field-0.0 = subst (FailsBy (fault_of program_app words)) failed fails in
    subst (FailsBy (refusals words)) (sym given) (refused_by_fault words c.in_err-matches.field-0.0 kind)

pub returns-in-Some-clause-asked : goal.returns-in-Some-clause-asked
returns-in-Some-clause-asked c =
    let words : List Text = map string_bytes c.args.words.now in
    let same : asked_in (subcommand_rows_of c.in_ok-matches.matches) ≡ asked_for words =
    asked_in-matches _ words c.in_ok-matches.matches c.requires c.in_ok-matches.ensures.ok.2 in
    sym same ∙ (sym c.asked.ensures.asked ∙ ap (option_map asked_by) c.in-Some.is)

pub returns-in-Some-clause-refused : goal.returns-in-Some-clause-refused
returns-in-Some-clause-refused c =
    let words : List Text = map string_bytes c.args.words.now in
    let same : asked_in (subcommand_rows_of c.in_ok-matches.matches) ≡ asked_for words =
    asked_in-matches _ words c.in_ok-matches.matches c.requires c.in_ok-matches.ensures.ok.2 in
    let passes : fault_of program_app words ≡ [] = fails_by_fault _ words (Ok c.in_ok-matches.matches) c.requires c.in_ok-matches.ensures.kinds in
    nothing_refused words (asked_by c.in-Some.run') passes (sym same ∙ (sym c.asked.ensures.asked ∙ ap (option_map asked_by) c.in-Some.is))

pub returns-clause-refused : goal.returns-clause-refused
returns-clause-refused c =
    let words : List Text = map string_bytes c.args.words.now in
    let same : asked_in (subcommand_rows_of c.in_ok-matches.matches) ≡ asked_for words =
    asked_in-matches _ words c.in_ok-matches.matches c.requires c.in_ok-matches.ensures.ok.2 in
    let passes : fault_of program_app words ≡ [] = fails_by_fault _ words (Ok c.in_ok-matches.matches) c.requires c.in_ok-matches.ensures.kinds in
    let kinds : refusals words ≡ ValueValidation ∷ [] =
    value_refused words passes (sym same ∙ (sym c.asked.ensures.asked ∙ ap (option_map asked_by) c.in-None.is)) in
    subst (λ (k : Kinds). HasKind k c.in_ok-error-in-None.field-0) (sym kinds) (inr (inl c.in_ok-error-in-None.ensures.kind))

use Rattle.std.proofs.Common.{rules, List, refl, sym, ap, codes, Some, None, ◌≡◌, ◌∙◌, option_map}
use Rattle.clap.specs.Words.{Row, found_of, rows_of, subcommand_rows_of}
use Rattle.clap.proofs.WalkLemmas.{first_value-rows}
use Rattle.uas_words.specs.CommandLine.{asked_by, asked_in, file_of, info}
use Rattle.uas_words.proofs.CommandLineFacts.{asked_of-info, both_found}
use Rattle.uas_words.proofs.asked.Goals as goal

pub returns-in_err-file-in-info-clause-asked : goal.returns-in_err-file-in-info-clause-asked
returns-in_err-file-in-info-clause-asked c =
    let rows : List Row = rows_of (found_of c.in_ok-name.words.now) in
    let found : subcommand_rows_of c.args.matches.now ≡ Some (c.in_ok-name.name.now, rows) =
    rw (← both_found _ _ (λ x. refl) _ _ _ _ c.subcommand.ensures.name c.subcommand.ensures.rows) (search rules) in
    let given : option_map (λ s. s.now) c.get_str.result ≡ None = search rules in
    let file : file_of rows ≡ None = sym (first_value-rows (found_of c.in_ok-name.words.now) (codes "FILE")) ∙ (sym c.get_str.ensures ∙ given) in
    ap (option_map asked_by) c.from_residual-in_err-file-in-info.ensures
    ∙ sym (ap asked_in found ∙ (asked_of-info _ rows c.in-info.is ∙ ap (option_map info) file))

pub returns-in_ok-file-in-info-clause-asked : goal.returns-in_ok-file-in-info-clause-asked
returns-in_ok-file-in-info-clause-asked c =
    let rows : List Row = rows_of (found_of c.in_ok-name.words.now) in
    let found : subcommand_rows_of c.args.matches.now ≡ Some (c.in_ok-name.name.now, rows) =
    rw (← both_found _ _ (λ x. refl) _ _ _ _ c.subcommand.ensures.name c.subcommand.ensures.rows) (search rules) in
    let given : option_map (λ s. s.now) c.get_str.result ≡ Some c.in_ok-file-in-info.file.now = search rules in
    let file : file_of rows ≡ Some c.in_ok-file-in-info.file.now = sym (first_value-rows (found_of c.in_ok-name.words.now) (codes "FILE")) ∙ (sym c.get_str.ensures ∙ given) in
    sym (ap asked_in found ∙ (asked_of-info _ rows c.in-info.is ∙ ap (option_map info) file))

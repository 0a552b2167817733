use Rattle.std.proofs.Common.{rules, ◌≡◌, ◌∙◌, Some, ap, refl, subst}
use Rattle.clap.specs.Words.{HasKind, Kinds}
use Rattle.uas_words.specs.CommandLine.{Asked, asked_by, work}
use Rattle.uasdisk.proofs.MemoryEnds.{asked_ends, only_memory}
use Rattle.uasdisk.proofs.RefusedEnds.{refused_ends}
use Rattle.uasdisk.proofs.SavedWork.{saved_work_ends}
use Rattle.uasdisk.proofs.program.run_words.Goals as goal

pub returns-in-Err-clause-refused : goal.returns-in-Err-clause-refused
returns-in-Err-clause-refused g c = λ some.
    refused_ends _ c.in-Err.error (g.O.Sink.can_fail c.args.output.now) (g.O.Sink.written c.args.output.now) (g.O.Sink.written c.refuse.new.output)
    c.refuse.result c.in-Err.ensures.refused c.refuse.ensures.ends

pub returns-in-Err-clause-run : goal.returns-in-Err-clause-run
returns-in-Err-clause-run g c = λ none.
    let memory = only_memory c.in-Err.error (subst (λ (kinds : Kinds). HasKind kinds c.in-Err.error) none c.in-Err.ensures.refused) in
    let four = c.refuse.ensures.ends.ended.memory memory in
    asked_ends _ _ _ _ c.refuse.result four (c.refuse.ensures.ends.memory four) refl refl refl

pub returns-in-Ok-Work-default-default-default-default-Some-clause-run : goal.returns-in-Ok-Work-default-default-default-default-Some-clause-run
returns-in-Ok-Work-default-default-default-default-Some-clause-run g c = λ none.
    let found = c.in-Ok-Work-default-default-default-default-Some in
    let same : asked_by found.field-0 ≡ work found.clients found.tags found.depth found.rounds (Some found.log.now) = search rules in
    saved_work_ends _ found.clients found.tags found.depth found.rounds found.log.now _ _ _ c.run_saved_work.result (found.ensures.asked ∙ ap (λ (asked : Asked). Some asked) same)
    c.run_saved_work.ensures.statuses c.run_saved_work.ensures.saved c.run_saved_work.ensures.created c.run_saved_work.ensures.fault
    c.run_saved_work.ensures.memory c.run_saved_work.ensures.held refl

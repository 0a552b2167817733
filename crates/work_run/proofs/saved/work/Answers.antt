use Rattle.std.proofs.Common.{rules, ◌≡◌, ◌∙◌, Err, ap, sym, subst}
use Rattle.work_run.specs.SavedEnds.{SavedGivesUp}
use Rattle.work_run.specs.declared.faults.WorkFault.{WorkFault}
use Rattle.work_run.proofs.GivingUp.{gives_up_before, gives_up_unbegun}
use Rattle.work_run.proofs.saved.work.Goals as goal

-- a file that can't be begun: nothing is printed
pub returns-in-Err-clause-fault : goal.returns-in-Err-clause-fault
returns-in-Err-clause-fault g c =
    let failed : c.begin_file.result ≡ Err c.in-Err.fault = search rules in
    let old = g.O.Sink.written c.args.output.now in
    let can_fail = g.O.Sink.can_fail c.args.output.now in
    let can_file_fail = g.F.Files.can_fail c.args.files.now c.args.file.now in
    subst (λ (fault : WorkFault). SavedGivesUp c.args.load.clients c.args.load.tags c.args.load.depth c.args.load.rounds can_file_fail can_fail old old fault) (sym c.file_fault.ensures)
    (gives_up_unbegun c.args.load.clients c.args.load.tags c.args.load.depth c.args.load.rounds can_file_fail can_fail old c.in-Err.fault (λ is. c.begin_file.ensures.fault (failed ∙ ap Err is)))

-- what stops the threads prints nothing
pub returns-in-Err-ran-clause-fault : goal.returns-in-Err-ran-clause-fault
returns-in-Err-ran-clause-fault g c =
    let old = g.O.Sink.written c.args.output.now in
    let can_fail = g.O.Sink.can_fail c.args.output.now in
    gives_up_before c.args.load.clients c.args.load.tags c.args.load.depth c.args.load.rounds (g.F.Files.can_fail c.args.files.now c.args.file.now) can_fail old old c.in-Err-ran.fault
    (c.in-Err-ran.ensures.fault can_fail old)

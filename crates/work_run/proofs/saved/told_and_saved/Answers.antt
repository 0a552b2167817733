use Rattle.std.proofs.Common.{true, sym, subst}
use Rattle.uas_log.specs.declared.Log.{Log}
use Rattle.work_run.specs.WorkEnds.{Audited}
use Rattle.work_run.proofs.GivingUp.{gives_up_after}
use Rattle.work_run.proofs.saved.told_and_saved.Goals as goal

-- the log that is saved is the one that was audited
pub returns-in-Ok-save-clause-saved : goal.returns-in-Ok-save-clause-saved
returns-in-Ok-save-clause-saved g c = record {
  log = c.log-2.result.now;
  audited = subst (λ (log : Log). Audited c.args.load.clients c.args.load.tags c.args.load.depth c.args.load.rounds log true (g.O.Sink.written c.args.output.now)
      (g.O.Sink.written c.tell.new.output) c.in-Ok.status) (sym c.log-2.ensures.log) c.in-Ok.ensures.told;
  text = c.in-Ok-save.ensures.text;
}

-- and so is one that isn't
pub returns-in-Err-save-clause-fault : goal.returns-in-Err-save-clause-fault
returns-in-Err-save-clause-fault g c =
    let old = g.O.Sink.written c.args.output.now in
    let new = g.O.Sink.written c.tell.new.output in
    gives_up_after c.args.load.clients c.args.load.tags c.args.load.depth c.args.load.rounds (g.F.Files.can_fail c.args.files.now c.args.file.now) (g.O.Sink.can_fail c.args.output.now) old new
    c.log-2.result.now c.in-Ok.status c.in-Err-save.fault
    (subst (λ (log : Log). Audited c.args.load.clients c.args.load.tags c.args.load.depth c.args.load.rounds log true old new c.in-Ok.status) (sym c.log-2.ensures.log) c.in-Ok.ensures.told)
    c.in-Err-save.ensures.fault

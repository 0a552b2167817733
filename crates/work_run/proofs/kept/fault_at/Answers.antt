use Rattle.std.proofs.Common.{◌∙◌, Err, Some, Result, ap, subst}
use Rattle.std.specs.Prelude.{OnOk}
use Rattle.log_keeper.specs.declared.stops.KeepStop.{KeepStop}
use Rattle.work_run.specs.WorkEnds.{why_of}
use Rattle.work_run.specs.KeptTexts.{HasText}
use Rattle.work_run.proofs.KeptLeft.{leaves_ended, leaves_stopped}
use Rattle.work_run.proofs.kept.fault_at.Goals as goal

-- a log that is whole
pub returns-in-Ok-clause-leaves : goal.returns-in-Ok-clause-leaves
returns-in-Ok-clause-leaves c = λ tags units old new whole full left.
    rw c.fault_of.ensures.fault (leaves_ended tags units old new c.args.ended
    (subst (λ (r : Result (Unit {0}) KeepStop). OnOk r ∥ HasText tags units (Some (why_of c.args.ended)) new ∥₁) c.in-Ok.is whole))

-- one whose keeper has stopped
pub returns-in-Err-clause-leaves : goal.returns-in-Err-clause-leaves
returns-in-Err-clause-leaves c = λ tags units old new whole full left.
    rw c.stop_fault.ensures.fault (leaves_stopped tags units old new c.in-Err.stop (λ is. full (c.in-Err.is ∙ ap Err is)) left)

use Rattle.std.proofs.Common.{map}
use Rattle.uas_work.specs.Booked.{first_unit}
use Rattle.work_run.specs.WorkEnds.{why_of, work_units}
use Rattle.work_run.proofs.KeptLeft.{left_by_fault, whole_left}
use Rattle.work_run.proofs.kept.work.Goals as goal

-- what stops the threads prints nothing
pub returns-in-Err-clause-fault : goal.returns-in-Err-clause-fault
returns-in-Err-clause-fault g c = c.in-Err.ensures.fault (g.O.Sink.can_fail c.args.output.now) (g.O.Sink.written c.args.output.now)

-- what stopped them is what the file has
pub returns-in-Err-clause-left : goal.returns-in-Err-clause-left
returns-in-Err-clause-left g c = λ told. left_by_fault _ _ _ _ c.in-Err.fault (c.in-Err.ensures.left told)

-- the lines couldn't be told: the file has the whole log
pub returns-in-Err-told-clause-left : goal.returns-in-Err-told-clause-left
returns-in-Err-told-clause-left g c = λ told.
    whole_left c.args.load.tags (map first_unit (work_units c.args.load.clients)) c.in-Ok.finished.booked.log (why_of c.in-Ok.finished.ended) _ _
    c.in-Ok.ensures.tags c.in-Ok.ensures.units (c.in-Ok.ensures.whole told)

use Rattle.work_run.proofs.run.work.Goals as goal

-- what stops the threads prints nothing
pub returns-in-Err-clause-fault : goal.returns-in-Err-clause-fault
returns-in-Err-clause-fault g c = c.in-Err.ensures.fault (g.O.Sink.can_fail c.args.output.now) (g.O.Sink.written c.args.output.now)

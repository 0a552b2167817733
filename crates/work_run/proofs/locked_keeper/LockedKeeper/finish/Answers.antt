use Rattle.work_run.proofs.KeptText.{whole_on_ok}
use Rattle.work_run.proofs.locked_keeper.LockedKeeper.finish.Goals as goal

-- the rest of the log, and its end
pub returns-clause-whole : goal.returns-clause-whole
returns-clause-whole g c =
    whole_on_ok c.end.result.1 g.J.KeptLog.tells _ _ c.args.log.now c.args.why _ _ _ c.requires.tags c.requires.units c.end.ensures.none c.gather.ensures.all
    c.end.ensures.whole

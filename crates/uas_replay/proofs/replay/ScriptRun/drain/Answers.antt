use Rattle.std.proofs.Common.{ap}
use Rattle.std.proofs.lemmas.Result.{on_ok_weaker}
use Rattle.uas_replay.specs.Moments.{all_takes, drained_moments}
use Rattle.uas_replay.proofs.Shown.{shows_as, shows_on}
use Rattle.uas_replay.proofs.replay.ScriptRun.drain.Goals as goal

pub returns-clause-shown : goal.returns-clause-shown
unfolding drained_moments
returns-clause-shown g c =
    on_ok_weaker c.take_all.result (λ takes.
    shows_on g.V.Watcher.text_of _ _ _ _ _ _ _ _ c.in_ok-act_all.ensures.shown
    (shows_as g.V.Watcher.text_of _ _ _ _ _ _ (ap all_takes c.in_ok-act_all.ensures.run) takes)) c.take_all.ensures.shown

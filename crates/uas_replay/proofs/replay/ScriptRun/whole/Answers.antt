use Rattle.std.proofs.Common.{ap}
use Rattle.std.proofs.lemmas.Result.{on_ok_weaker}
use Rattle.uas_replay.specs.Moments.{drained_moments}
use Rattle.uas_replay.proofs.Shown.{shows_as, shows_on}
use Rattle.uas_replay.proofs.replay.ScriptRun.whole.Goals as goal

pub returns-clause-shown : goal.returns-clause-shown
returns-clause-shown g c =
    on_ok_weaker c.drain.result (λ drains.
    shows_on g.V.Watcher.text_of _ _ _ _ _ _ _ _ c.in_ok-lines.ensures.shown
    (shows_as g.V.Watcher.text_of _ _ _ _ _ _ (ap drained_moments c.in_ok-lines.ensures.run) drains)) c.drain.ensures.shown

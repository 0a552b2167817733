use Rattle.std.proofs.Common.{◌≡◌}
use Rattle.uas_replay.specs.Told.{taken_below}
use Rattle.uas_replay.specs.Walks.{Shows}
use Rattle.uas_replay.specs.Moments.{takes_below}
use Rattle.uas_replay.proofs.replay.ScriptRun.take_all.Given as goal

abbrev pub invariant-loop-client : goal.invariant-loop-client
invariant-loop-client g l = record {
  run : l.self.telling ≡ taken_below l.client l.fn.self.telling;
  shown : Shows g.V.Watcher.text_of (takes_below l.client l.fn.self.telling) l.fn.self l.self
      (g.V.Watcher.shown l.fn.watcher l.fn.writer) (g.V.Watcher.shown l.watcher l.writer);
  same : g.V.Watcher.can_fail l.writer ≡ g.V.Watcher.can_fail l.fn.writer;
}

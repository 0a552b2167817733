use Rattle.std.proofs.Common.{◌≡◌}
use Rattle.uas_replay.specs.Told.{taken_times}
use Rattle.uas_replay.specs.Walks.{Shows}
use Rattle.uas_replay.specs.Moments.{takes_moments}
use Rattle.uas_replay.proofs.replay.ScriptRun.take_all_of.Given as goal

abbrev pub invariant-loop-turn : goal.invariant-loop-turn
invariant-loop-turn g l = record {
  run : l.self.telling ≡ taken_times l.turn l.fn.self.telling l.client;
  shown : Shows g.V.Watcher.text_of (takes_moments l.turn l.fn.self.telling l.client) l.fn.self l.self
      (g.V.Watcher.shown l.fn.watcher l.fn.writer) (g.V.Watcher.shown l.watcher l.writer);
  same : g.V.Watcher.can_fail l.writer ≡ g.V.Watcher.can_fail l.fn.writer;
}

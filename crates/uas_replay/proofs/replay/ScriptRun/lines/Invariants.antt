use Rattle.std.proofs.Common.{◌≡◌, fold, drop}
use Rattle.uas_replay.specs.Told.{told_line}
use Rattle.uas_replay.specs.Moments.{lines_moments}
use Rattle.uas_replay.proofs.Shown.{ShowsSoFar}
use Rattle.uas_replay.proofs.replay.ScriptRun.lines.Given as goal

abbrev pub invariant-loop-line : goal.invariant-loop-line
invariant-loop-line g l = record {
  run : fold told_line l.self.telling (drop l.line-index l.lines) ≡ fold told_line l.fn.self.telling l.lines;
  shown : ShowsSoFar g.V.Watcher.text_of (lines_moments l.fn.self.telling l.lines) (lines_moments l.self.telling (drop l.line-index l.lines))
      l.fn.self l.self (g.V.Watcher.shown l.fn.watcher l.fn.writer) (g.V.Watcher.shown l.watcher l.writer);
  same : g.V.Watcher.can_fail l.writer ≡ g.V.Watcher.can_fail l.fn.writer;
}

use Rattle.std.proofs.Common.{◌≡◌}
use Rattle.kept_log.specs.Parts.{Reads}
use Rattle.kept_log.proofs.Seen.{left_over}
use Rattle.kept_log.proofs.parts.head_from.Given as goal

abbrev pub invariant-loop-tags : goal.invariant-loop-tags
invariant-loop-tags g l = record {
  read : Reads (g.S.Source.left l.fn.source) (g.S.Source.left l.source) l.fn.window.bytes l.window;
  same : g.S.Source.can_fail l.source ≡ g.S.Source.can_fail l.fn.source;
  stays : g.S.Source.is_there l.source ≡ g.S.Source.is_there l.fn.source;
}

abbrev pub decreases-loop-tags : goal.decreases-loop-tags
decreases-loop-tags g l = left_over l.window

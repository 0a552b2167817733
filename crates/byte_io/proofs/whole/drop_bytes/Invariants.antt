use Rattle.std.proofs.Common.{◌≡◌, ◌-◌, ◌≤◌}
use Rattle.byte_io.specs.Streams.{Gave}
use Rattle.byte_io.proofs.whole.drop_bytes.Given as goal

abbrev pub invariant-loop-left : goal.invariant-loop-left
invariant-loop-left g l = record {
  bound : l.left ≤ l.count;
  bytes : Gave (g.S.Source.left l.fn.source) (g.S.Source.left l.source) (l.count - l.left);
  same : g.S.Source.can_fail l.source ≡ g.S.Source.can_fail l.fn.source;
}

abbrev pub decreases-loop-left : goal.decreases-loop-left
decreases-loop-left g l = l.left

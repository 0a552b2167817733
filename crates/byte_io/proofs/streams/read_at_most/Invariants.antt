use Rattle.std.proofs.Common.{◌≡◌, ◌-◌, ◌≤◌, ◌<◌, length}
use Rattle.std.specs.Prelude.{IsTrue}
use Rattle.std.specs.Io.KnownBytes.{Consumes}
use Rattle.byte_io.proofs.streams.read_at_most.Given as goal

abbrev pub invariant-loop-chunk : goal.invariant-loop-chunk
invariant-loop-chunk g l = record {
  bytes : Consumes (g.S.Source.left l.fn.source) (g.S.Source.left l.source) l.bytes.items;
  bound : length l.bytes.items ≤ l.limit;
  same : g.S.Source.can_fail l.source ≡ g.S.Source.can_fail l.fn.source;
  stays : g.S.Source.is_there l.source ≡ g.S.Source.is_there l.fn.source;
  there : 0 < length l.bytes.items → IsTrue (g.S.Source.is_there l.fn.source);
}

abbrev pub decreases-loop-chunk : goal.decreases-loop-chunk
decreases-loop-chunk g l = l.limit - length l.bytes.items

use Rattle.std.proofs.Common.{◌≡◌, ◌-◌, ◌<◌, ◌≤◌, false, length, IsTrue}
use Rattle.kept_log.specs.Parts.{Reads}
use Rattle.kept_log.proofs.Seen.{shown_of}
use Rattle.kept_log.proofs.window.read_at_least.Given as goal

abbrev pub invariant-loop-chunk : goal.invariant-loop-chunk
invariant-loop-chunk g l = record {
  read : Reads (g.S.Source.left l.fn.source) (g.S.Source.left l.source) l.fn.bytes.items (shown_of l.bytes.items false);
  grown : length l.fn.bytes.items ≤ length l.bytes.items;
  there : length l.fn.bytes.items < length l.bytes.items → IsTrue (g.S.Source.is_there l.fn.source);
  same : g.S.Source.can_fail l.source ≡ g.S.Source.can_fail l.fn.source;
  stays : g.S.Source.is_there l.source ≡ g.S.Source.is_there l.fn.source;
}

abbrev pub decreases-loop-chunk : goal.decreases-loop-chunk
decreases-loop-chunk g l = l.least - length l.bytes.items

use Rattle.std.proofs.Common.{◌≡◌, ◌-◌, ◌≤◌, length, take}
use Rattle.std.specs.Io.KnownBytes.{Consumes}
use Rattle.byte_io.proofs.whole.read_whole.Given as goal

abbrev pub invariant-loop-done : goal.invariant-loop-done
invariant-loop-done g l = record {
  bytes : Consumes (g.S.Source.left l.fn.source) (g.S.Source.left l.source) (take l.done l.buffer);
  bound : l.done ≤ length l.buffer;
  same : g.S.Source.can_fail l.source ≡ g.S.Source.can_fail l.fn.source;
}

abbrev pub decreases-loop-done : goal.decreases-loop-done
decreases-loop-done g l = length l.buffer - l.done

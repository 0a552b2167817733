use Rattle.std.proofs.Common.{◌≡◌, ◌++◌}
use Rattle.uas_trace.specs.Written.{put_lines}
use Rattle.uas_trace.proofs.put_ring.PutRing.push_since.Given as goal

abbrev pub invariant-loop-passed : goal.invariant-loop-passed
invariant-loop-passed l = l.text.items ≡ l.fn.text.items ++ put_lines l.lines l.self l.from l.passed

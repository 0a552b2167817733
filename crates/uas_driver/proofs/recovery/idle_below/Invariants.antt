use Rattle.std.proofs.Common.{◌≡◌, ◌≤◌}
use Rattle.uas_driver.specs.Recovery.{idle_below}
use Rattle.uas_driver.proofs.recovery.idle_below.Given as goal

-- the streams above have something pending
abbrev pub invariant-loop-stream : goal.invariant-loop-stream
invariant-loop-stream l = record {
  last : l.stream ≤ l.most;
  same : idle_below l.lines l.pipe l.stream ≡ idle_below l.lines l.pipe l.most;
}

abbrev pub decreases-loop-stream : goal.decreases-loop-stream
decreases-loop-stream l = l.stream

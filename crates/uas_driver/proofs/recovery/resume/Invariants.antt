use Rattle.std.proofs.Common.{◌≡◌, ◌+◌, ◌-◌, ◌≤◌, ◌++◌, length}
use Rattle.uas_profile.specs.declared.TheConstants.{STREAMS}
use Rattle.uas_host.proofs.Resuming.{doors_below}
use Rattle.uas_driver.proofs.recovery.resume.Given as goal

-- the doorbells of the streams so far, at most one for each
abbrev pub invariant-loop-stream : goal.invariant-loop-stream
invariant-loop-stream l = record {
  lines : l.lines ≡ l.initial.lines;
  first : 1 ≤ l.from;
  last : l.from ≤ STREAMS + 1;
  doors : l.doors.items ≡ l.initial.doors.items ++ doors_below l.initial.lines l.pipe (l.from - 1);
  most : length l.doors.items + 1 ≤ length l.initial.doors.items + l.from;
}

abbrev pub decreases-loop-stream : goal.decreases-loop-stream
decreases-loop-stream l = STREAMS + 1 - l.from

use Rattle.std.proofs.Common.{◌≡◌, ◌+◌, ◌-◌, ◌≤◌, length}
use Rattle.marks.specs.Marks.{is_marked}
use Rattle.shared_machine.specs.Doorbells.{doors_among}
use Rattle.shared_machine.proofs.doorbells.listed.Given as goal

-- the doorbells of the streams so far, at most one for each
abbrev pub invariant-loop-stream : goal.invariant-loop-stream
invariant-loop-stream l = record {
  doors : l.list.items ≡ doors_among (l.stream - 1) l.pipe (is_marked l.streams);
  most : length l.list.items + 1 ≤ l.stream;
}

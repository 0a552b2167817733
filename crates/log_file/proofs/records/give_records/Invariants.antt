use Rattle.std.proofs.Common.{◌≡◌, ◌-◌, length}
use Rattle.log_file.proofs.GivenRecords.{HasGiven}
use Rattle.log_file.proofs.records.give_records.Given as goal

abbrev pub invariant-loop-waiting : goal.invariant-loop-waiting
invariant-loop-waiting g l = record {
  given : HasGiven g.O.Sink.written l.log l.fn.place l.fn.out l.fn.waiting.items l.place l.out l.waiting.items;
  same : g.O.Sink.can_fail l.out ≡ g.O.Sink.can_fail l.fn.out;
  stays : g.O.Sink.is_there l.out ≡ g.O.Sink.is_there l.fn.out;
  file : g.O.Sink.is_of l.out ≡ g.O.Sink.is_of l.fn.out;
}

abbrev pub decreases-loop-waiting : goal.decreases-loop-waiting
decreases-loop-waiting g l = length l.log.steps - l.place.steps

-- The streams that were passed have nothing pending.
use Rattle.std.proofs.Common.{◌≡◌, ◌-◌, ◌≤◌}
use Rattle.stream_array.specs.Rings.{NonePending}
use Rattle.stream_array.proofs.streams.Streams.next_pending.Given as goal

abbrev pub invariant-loop-stream : goal.invariant-loop-stream
invariant-loop-stream l = record {
  kept : l.self ≡ l.initial.self;
  after : l.from ≤ l.place;
  none : NonePending l.initial.self l.from l.place;
}

abbrev pub decreases-loop-stream : goal.decreases-loop-stream
decreases-loop-stream l = 256 - l.place

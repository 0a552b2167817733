use Rattle.std.proofs.Common.{◌≡◌}
use Rattle.uas_replay.specs.Told.{opening_ranges}
use Rattle.uas_replay.proofs.replay.opening.opening_ranges.Given as goal

abbrev pub invariant-loop-client : goal.invariant-loop-client
invariant-loop-client l = l.ranges.items ≡ opening_ranges l.tags l.client

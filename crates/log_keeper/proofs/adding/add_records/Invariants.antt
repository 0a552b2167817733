use Rattle.std.proofs.Common.{◌-◌}
use Rattle.log_keeper.specs.Entries.{Added}
use Rattle.log_keeper.proofs.adding.add_records.Given as goal

abbrev pub invariant-loop-place : goal.invariant-loop-place
invariant-loop-place l = Added l.log l.fn.place l.fn.text.items l.place l.text.items

abbrev pub decreases-loop-place : goal.decreases-loop-place
decreases-loop-place l = l.count - l.place.steps

use Rattle.std.proofs.Common.{◌-◌, ◌≤◌}
use Rattle.log_keeper.specs.Entries.{Added}
use Rattle.log_keeper.proofs.adding.add_some.Given as goal

abbrev pub invariant-loop-place : goal.invariant-loop-place
invariant-loop-place l = record {
  added : Added l.log l.fn.place l.fn.text.items l.place l.text.items;
  goes : l.fn.place.steps ≤ l.place.steps;
}

abbrev pub decreases-loop-place : goal.decreases-loop-place
decreases-loop-place l = l.told - l.place.steps

use Rattle.std.proofs.Common.{◌≡◌}
use Rattle.work_run.specs.Tallies.{tallies_below}
use Rattle.work_run.proofs.tallies.tallies_of.Given as goal

abbrev pub invariant-loop-client : goal.invariant-loop-client
invariant-loop-client l = l.tallies.items ≡ tallies_below l.client l.replies

use Rattle.std.proofs.Common.{◌≡◌}
use Rattle.work_run.specs.WorkEnds.{work_units}
use Rattle.work_run.proofs.run.work_units.Given as goal

abbrev pub invariant-loop : goal.invariant-loop
invariant-loop l = l.units.items ≡ work_units l.counter

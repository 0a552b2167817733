use Rattle.std.proofs.Common.{◌≡◌, ◌++◌, map, take, drop}
use Rattle.uas_tasks.specs.Machine.{powered}
use Rattle.uas_tasks.proofs.management.power_units.Given as goal

-- the logical units so far were powered on, and the others are as they were
abbrev pub invariant-loop-unit : goal.invariant-loop-unit
invariant-loop-unit l = l.units ≡ map powered (take l.unit-index l.initial.units) ++ drop l.unit-index l.initial.units

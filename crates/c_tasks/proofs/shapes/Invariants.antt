use Rattle.std.specs.Prelude.{◌≡◌, map, take}
use Rattle.c_tasks.specs.Making.{shape_of}
use Rattle.c_tasks.proofs.shapes.Given as goal

abbrev pub invariant-loop-unit : goal.invariant-loop-unit
invariant-loop-unit l = l.shapes.items ≡ map shape_of (take l.unit-index l.fn.units)

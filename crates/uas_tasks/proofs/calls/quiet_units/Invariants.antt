use Rattle.std.proofs.Common.{◌≡◌, map, take}
use Rattle.uas_tasks.specs.Machine.{quiet}
use Rattle.uas_tasks.proofs.calls.quiet_units.Given as goal

abbrev pub invariant-loop-shape : goal.invariant-loop-shape
invariant-loop-shape l = l.units.items ≡ map quiet (take l.shape-index l.shapes)

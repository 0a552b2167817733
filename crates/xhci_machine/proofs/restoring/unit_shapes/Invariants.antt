use Rattle.std.specs.Prelude.{◌≡◌, take}
use Rattle.uas_tasks.specs.Soundness.{shapes_of}
use Rattle.xhci_machine.proofs.restoring.unit_shapes.Given as goal

abbrev pub invariant-loop-unit : goal.invariant-loop-unit
invariant-loop-unit l = l.shapes.items ≡ shapes_of (take l.unit-index l.fn.units)

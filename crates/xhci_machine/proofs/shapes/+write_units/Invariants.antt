use Rattle.std.proofs.Common.{length}
use Rattle.xhci_machine.proofs.shapes.+write_units.Given as goal

abbrev pub decreases-write_units : goal.decreases-write_units
decreases-write_units l = length l.units.now

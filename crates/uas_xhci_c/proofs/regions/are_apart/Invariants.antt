use Rattle.std.proofs.Common.{◌≡◌, drop}
use Rattle.uas_xhci_c.specs.Regions.{are_apart}
use Rattle.uas_xhci_c.proofs.regions.are_apart.Given as goal

abbrev pub invariant-loop-i : goal.invariant-loop-i
invariant-loop-i l = are_apart l.regions ≡ are_apart (drop l.i l.regions)

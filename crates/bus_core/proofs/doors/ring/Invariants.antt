use Rattle.std.proofs.Common.{◌≡◌, fold, drop}
use Rattle.xhci_ctl.specs.Doorbells.{rung_by}
use Rattle.bus_core.proofs.doors.ring.Given as goal

-- the doorbells that are left
abbrev pub invariant-loop-value : goal.invariant-loop-value
invariant-loop-value l = fold rung_by l.controller (drop l.value-index l.values) ≡ fold rung_by l.fn.controller l.values

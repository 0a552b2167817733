use Rattle.std.proofs.Common.{◌≡◌, length}
use Rattle.usb_descriptors.specs.Cutting.{is_cut}
use Rattle.usb_descriptors.proofs.cutting.is_cut.Given as goal

abbrev pub invariant-loop-behind : goal.invariant-loop-behind
invariant-loop-behind l = is_cut l.rest ≡ is_cut l.initial.bytes

abbrev pub decreases-loop-behind : goal.decreases-loop-behind
decreases-loop-behind l = length l.rest

use Rattle.std.proofs.Common.{◌≡◌, length}
use Rattle.usb_descriptors.specs.Cutting.{descriptors}
use Rattle.usb_descriptors.specs.Function.{setting_in}
use Rattle.usb_descriptors.proofs.function.setting_in.Given as goal

abbrev pub invariant-loop-first : goal.invariant-loop-first
invariant-loop-first l = setting_in (descriptors l.rest) ≡ setting_in (descriptors l.initial.bytes)

abbrev pub decreases-loop-first : goal.decreases-loop-first
decreases-loop-first l = length l.rest

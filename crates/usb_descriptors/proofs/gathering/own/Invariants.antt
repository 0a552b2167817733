use Rattle.std.proofs.Common.{◌≡◌, length}
use Rattle.std.specs.List.{find}
use Rattle.usb_descriptors.specs.Cutting.{descriptors}
use Rattle.usb_descriptors.specs.Pipes.{is_of, own_of, setting_of}
use Rattle.usb_descriptors.proofs.gathering.own.Given as goal

abbrev pub invariant-loop-first : goal.invariant-loop-first
invariant-loop-first l =
    find (λ d. is_of l.kind l.least d) (own_of (setting_of (descriptors l.rest)))
    ≡ find (λ d. is_of l.kind l.least d) (own_of (setting_of (descriptors l.initial.bytes)))

abbrev pub decreases-loop-first : goal.decreases-loop-first
decreases-loop-first l = length l.rest

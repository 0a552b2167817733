use Rattle.std.proofs.Common.{◌≡◌, length, Ok}
use Rattle.usb_descriptors.specs.Cutting.{descriptors}
use Rattle.usb_descriptors.specs.Pipes.{FitsFound, gathered, groups, nothing_found, setting_of}
use Rattle.usb_descriptors.proofs.gathering.gathered.Given as goal

abbrev pub invariant-loop-first : goal.invariant-loop-first
invariant-loop-first l = record {
  same : gathered (Ok l.found) (groups (setting_of (descriptors l.rest))) ≡ gathered (Ok nothing_found) (groups (setting_of (descriptors l.initial.bytes)));
  fits : FitsFound l.found;
}

abbrev pub decreases-loop-first : goal.decreases-loop-first
decreases-loop-first l = length l.rest

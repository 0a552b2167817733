use Rattle.std.proofs.Common.{◌≡◌, length}
use Rattle.stream_array.specs.Rings.{ring_of}
use Rattle.uas_host.specs.Retirement.{emptied}
use Rattle.uas_host.proofs.retirements.empty.Given as goal

-- what is to be freed at last stays the same
abbrev pub invariant-loop-pointer : goal.invariant-loop-pointer
invariant-loop-pointer l = emptied l.lines l.pipe l.tag ≡ emptied l.initial.lines l.pipe l.tag

abbrev pub decreases-loop-pointer : goal.decreases-loop-pointer
decreases-loop-pointer l = length (ring_of l.lines l.pipe l.tag).put

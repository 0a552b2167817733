use Rattle.std.proofs.Common.{◌≡◌, false, take}
use Rattle.uas_host.specs.Left.{have_left_over}
use Rattle.uas_host.proofs.left.have_left_over.Given as goal

-- of the slots so far none has a TD that is left over
abbrev pub invariant-loop-slot : goal.invariant-loop-slot
invariant-loop-slot l = have_left_over (take l.slot l.entries) ≡ false

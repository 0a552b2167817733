use Rattle.std.specs.Prelude.{◌-◌, ◌≤◌}
use Rattle.uas_work.specs.Sweep.{IsSwept}
use Rattle.uas_work.proofs.sweeping.sweep.Given as goal

abbrev pub invariant-loop-taken : goal.invariant-loop-taken
invariant-loop-taken g l = IsSwept (g.G.Gate.says l.gate) l.fn.booked l.taken l.booked × (l.taken ≤ l.most)

abbrev pub decreases-loop-taken : goal.decreases-loop-taken
decreases-loop-taken g l = l.most - l.taken

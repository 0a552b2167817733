use Rattle.std.proofs.Common.{◌-◌}
use Rattle.shared_machine.specs.declared.Step.TheVariants.{Status}
use Rattle.uas_work.specs.Control.{AreLeftUpTo}
use Rattle.uas_work.proofs.pumps.next_status.Given as goal
use Rattle.shared_machine.specs.Shared.{greatest_tag}

abbrev pub invariant-loop-next : goal.invariant-loop-next
invariant-loop-next g l = AreLeftUpTo Status (g.G.Gate.says l.gate) l.bus l.tag

abbrev pub decreases-loop-next : goal.decreases-loop-next
decreases-loop-next g l = greatest_tag l.bus - l.tag

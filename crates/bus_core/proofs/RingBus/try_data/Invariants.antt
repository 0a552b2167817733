use Rattle.std.proofs.Common.{◌-◌}
use Rattle.shared_machine.specs.declared.Step.TheVariants.{Data}
use Rattle.bus_core.specs.Decoded.{decoded}
use Rattle.bus_core.proofs.drain.DrainTags.{HasTried}
use Rattle.bus_core.proofs.RingBus.try_data.Given as goal
use Rattle.shared_machine.specs.Shared.{greatest_tag}

abbrev pub invariant-loop-next : goal.invariant-loop-next
invariant-loop-next l = HasTried Data (decoded l.initial.self, l.initial.left) (decoded l.self, l.left) l.tag

abbrev pub decreases-loop-next : goal.decreases-loop-next
decreases-loop-next l = greatest_tag (decoded l.self) - l.tag

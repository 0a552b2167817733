use Rattle.std.proofs.Common.{◌≡◌, suc, ◌≤◌}
use Rattle.shared_machine.specs.Drain.{rounds, drained}
use Rattle.bus_core.specs.Decoded.{decoded}
use Rattle.bus_core.proofs.RingBus.drain.Given as goal

-- the rounds that are left lead to the drain's end
abbrev pub invariant-loop-limit : goal.invariant-loop-limit
invariant-loop-limit l = record {
  rest : rounds (suc l.more) (decoded l.self, l.left) ≡ drained (decoded l.initial.self) l.limit;
  within : l.left ≤ l.limit;
}

abbrev pub decreases-loop-limit : goal.decreases-loop-limit
decreases-loop-limit l = l.more

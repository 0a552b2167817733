use Rattle.std.proofs.Common.{arith, ◌∙◌}
use Rattle.shared_machine.proofs.Rounds.{rounds-next}
use Rattle.bus_core.specs.Decoded.{decoded}
use Rattle.bus_core.proofs.RingBus.drain.Goals as goal

pub loop-limit-preserved : goal.loop-limit-preserved
loop-limit-preserved c = record {
  rest =
      rounds-next c.loop-limit.more (decoded c.loop-limit.self, c.loop-limit.left) _ c.round-after.ensures.round (λ e. omega arith) (λ e. omega arith)
      (λ e. omega arith)
      ∙ c.loop-limit.invariant.rest;
  within = omega (arith, c.round-after.ensures.less, c.loop-limit.invariant.within);
}

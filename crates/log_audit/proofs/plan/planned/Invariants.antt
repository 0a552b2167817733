use Rattle.std.proofs.Common.{◌≡◌}
use Rattle.log_audit.specs.Plan.{planned_steps}
use Rattle.log_audit.proofs.plan.planned.Given as goal

abbrev pub invariant-loop-round : goal.invariant-loop-round
invariant-loop-round l = l.steps.items ≡ planned_steps l.tags l.depth l.client l.round

use Rattle.std.proofs.Common.{◌≡◌, ap, sym, subst, ◌∙◌}
use Rattle.shared_machine.specs.Shared.{Shared, shared_step}
use Rattle.isolation.proofs.Refusals.{step_refused_as_own}
use Rattle.machine_invariant.proofs.StepReach.{step_ends_as_noted, step_keeps_others}
use Rattle.bus_core.specs.Decoded.{decoded}
use Rattle.bus_core.specs.OwnEvents.{TakesOfOneTag}
use Rattle.bus_core.proofs.Bus.step.Goals as goal
use Rattle.bus_core.proofs.Bus.step.Goals.{After-step}

-- the step of the rings is the bus's
went : (c : After-step) → shared_step c.args.self.now c.args.step ≡ (decoded c.step.new.self, c.step.result)
went c = ap (λ (s : Shared). shared_step s c.args.step) (sym c.self.view_is) ∙ sym c.step.ensures.shared

pub returns-clause-events : goal.returns-clause-events
returns-clause-events c = subst (λ (s : Shared). TakesOfOneTag s c.args.step c.step.result) c.self.view_is c.step.ensures.events

pub returns-clause-others : goal.returns-clause-others
returns-clause-others c =
    step_keeps_others c.args.self.now (decoded c.step.new.self) c.args.step c.step.result (went (goal.at.returns-clause-others c).After-step)

pub returns-clause-noted : goal.returns-clause-noted
returns-clause-noted c =
    step_ends_as_noted c.args.self.now (decoded c.step.new.self) c.args.step c.step.result (went (goal.at.returns-clause-noted c).After-step)

pub returns-clause-refusals : goal.returns-clause-refusals
returns-clause-refusals c =
    step_refused_as_own c.args.self.now (decoded c.step.new.self) c.args.step c.step.result (went (goal.at.returns-clause-refusals c).After-step)

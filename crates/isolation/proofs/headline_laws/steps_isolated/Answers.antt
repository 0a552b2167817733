use Rattle.isolation.proofs.StepIsolation.{shared_step-isolated}
use Rattle.isolation.proofs.headline_laws.steps_isolated.Goals as goal

pub returns : goal.returns
returns c = shared_step-isolated

-- The controller's step of a retirement.
use Rattle.bus_core.proofs.retire.EngineFits.{engines-fit, engine-is-idle}
use Rattle.bus_core.proofs.world_laws.engines_fit.Goals as goal

pub returns-clause-step : goal.returns-clause-step
returns-clause-step c = engines-fit

pub returns-clause-idle : goal.returns-clause-idle
returns-clause-idle c = engine-is-idle

-- A reply: the step fits where one is ready, and is idle elsewhere.
use Rattle.bus_core.proofs.take.Taking.{takes-fit, take-is-idle}
use Rattle.bus_core.proofs.world_laws.takes_fit.Goals as goal

pub returns-clause-step : goal.returns-clause-step
returns-clause-step c = takes-fit

pub returns-clause-idle : goal.returns-clause-idle
returns-clause-idle c = take-is-idle

-- A step of a status stream.
use Rattle.bus_core.proofs.status.StatusFits.{status_fits, status_idle}
use Rattle.bus_core.proofs.world_laws.statuses_fit.Goals as goal

pub returns-clause-step : goal.returns-clause-step
returns-clause-step c = status_fits

pub returns-clause-idle : goal.returns-clause-idle
returns-clause-idle c = status_idle

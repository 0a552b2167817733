-- A retirement begins where the shared machine's does.
use Rattle.bus_core.proofs.retire.RetireFits.{retirements-fit, retire-is-idle}
use Rattle.bus_core.proofs.world_laws.retirements_fit.Goals as goal

pub returns-clause-step : goal.returns-clause-step
returns-clause-step c = retirements-fit

pub returns-clause-idle : goal.returns-clause-idle
returns-clause-idle c = retire-is-idle

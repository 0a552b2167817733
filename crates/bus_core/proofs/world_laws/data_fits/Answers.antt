-- A step of a data stream is the shared machine's.
use Rattle.bus_core.proofs.chunks.DataDue.{data_fits, data_idle}
use Rattle.bus_core.proofs.world_laws.data_fits.Goals as goal

pub returns-clause-step : goal.returns-clause-step
returns-clause-step c = data_fits

pub returns-clause-idle : goal.returns-clause-idle
returns-clause-idle c = data_idle

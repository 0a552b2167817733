-- A new world fits the opening shared machine.
use Rattle.bus_core.proofs.common.OpeningFits.{opening-fits}
use Rattle.bus_core.proofs.world_laws.openings_fit.Goals as goal

pub returns : goal.returns
returns c = opening-fits

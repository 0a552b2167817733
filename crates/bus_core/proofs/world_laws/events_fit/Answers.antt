-- An event is matched to the TD that it is of, or to the command of the retirement, and the step fits.
use Rattle.bus_core.proofs.event.EventsFit.{events-fit}
use Rattle.bus_core.proofs.world_laws.events_fit.Goals as goal

pub returns : goal.returns
returns c = events-fit

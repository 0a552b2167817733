-- Where a step of a status stream is due.
use Rattle.bus_core.proofs.status.StatusFits.{statuses_due}
use Rattle.bus_core.proofs.world_due.statuses_are_due.Goals as goal

pub returns : goal.returns
returns c = statuses_due

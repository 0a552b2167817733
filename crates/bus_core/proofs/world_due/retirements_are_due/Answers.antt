-- Where a retirement is due.
use Rattle.bus_core.proofs.retire.EngineDue.{retirements-are-due}
use Rattle.bus_core.proofs.world_due.retirements_are_due.Goals as goal

pub returns : goal.returns
returns c = retirements-are-due

-- Where a step of the controller's own command ring is due.
use Rattle.bus_core.proofs.retire.EngineDue.{engines-are-due}
use Rattle.bus_core.proofs.world_due.engines_are_due.Goals as goal

pub returns : goal.returns
returns c = engines-are-due

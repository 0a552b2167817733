-- An event is due where one is pending.
use Rattle.bus_core.proofs.event.DueEvents.{events-are-due}
use Rattle.bus_core.proofs.world_due.events_are_due.Goals as goal

pub returns : goal.returns
returns c = events-are-due

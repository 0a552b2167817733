-- A reply is due where the host has one ready.
use Rattle.bus_core.proofs.event.DueEvents.{takes-are-due}
use Rattle.bus_core.proofs.world_due.takes_are_due.Goals as goal

pub returns : goal.returns
returns c = takes-are-due

-- Where a step of the command pipe is due.
use Rattle.bus_core.proofs.carry.CommandFits.{commands_due}
use Rattle.bus_core.proofs.world_due.commands_are_due.Goals as goal

pub returns : goal.returns
returns c = commands_due

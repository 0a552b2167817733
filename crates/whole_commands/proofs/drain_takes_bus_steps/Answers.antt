use Rattle.whole_commands.proofs.DrainSteps.{drain-own}
use Rattle.whole_commands.proofs.drain_takes_bus_steps.Goals as goal

pub returns : goal.returns
returns c = drain-own

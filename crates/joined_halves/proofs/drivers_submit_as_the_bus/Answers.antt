use Rattle.joined_halves.proofs.DriverHalf.{submits_alike}
use Rattle.joined_halves.proofs.drivers_submit_as_the_bus.Goals as goal

pub returns : goal.returns
returns c = submits_alike

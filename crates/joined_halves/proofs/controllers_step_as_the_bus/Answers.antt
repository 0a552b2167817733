use Rattle.joined_halves.proofs.ControllerHalf.{steps_alike}
use Rattle.joined_halves.proofs.controllers_step_as_the_bus.Goals as goal

pub returns : goal.returns
returns c = steps_alike

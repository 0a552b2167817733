use Rattle.std.proofs.Common.{refl}
use Rattle.joined_halves.proofs.controllers_begin_as_the_bus.Goals as goal

pub returns : goal.returns
returns c tags clients units lines are = record { lines = are; frames = refl; controller = refl; device = refl }

use Rattle.guest_units.proofs.Laws.{runs_are_calls}
use Rattle.guest_units.proofs.runs_are_calls.Goals as goal

pub returns : goal.returns
returns c = runs_are_calls

use Rattle.guest_units.proofs.Laws.{units_stay_apart}
use Rattle.guest_units.proofs.controller_units_are_apart.Goals as goal

pub returns : goal.returns
returns c = units_stay_apart

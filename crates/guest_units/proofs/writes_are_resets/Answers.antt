use Rattle.guest_units.proofs.Laws.{writes_are_resets}
use Rattle.guest_units.proofs.writes_are_resets.Goals as goal

pub returns : goal.returns
returns c = writes_are_resets

use Rattle.guest_units.proofs.Laws.{plugs_are_resets}
use Rattle.guest_units.proofs.plugs_are_resets.Goals as goal

pub returns : goal.returns
returns c = plugs_are_resets

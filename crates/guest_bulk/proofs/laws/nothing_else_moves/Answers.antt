use Rattle.std.proofs.Common.{refl}
use Rattle.guest_bulk.specs.Verdicts.{broken_off}
use Rattle.guest_bulk.proofs.Counted.{none_to_device, none_to_host}
use Rattle.guest_bulk.proofs.laws.nothing_else_moves.Goals as goal

pub returns-clause-none : goal.returns-clause-none
returns-clause-none g c = λ w command front buffer none.
    (none_to_host g.D.UasDevice.kind w command front buffer none, none_to_device g.D.UasDevice.kind w command front buffer none)

pub returns-clause-instead : goal.returns-clause-instead
unfolding broken_off
returns-clause-instead g c = λ w command count. (refl, refl)

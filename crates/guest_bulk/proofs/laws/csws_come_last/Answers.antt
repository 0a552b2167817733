use Rattle.guest_bulk.proofs.Moving.{in_moving, out_moving}
use Rattle.guest_bulk.proofs.laws.csws_come_last.Goals as goal

pub returns-clause-to_host : goal.returns-clause-to_host
returns-clause-to_host g c = λ w command front buffer at plain. in_moving g.D.UasDevice.kind w command front buffer at plain

pub returns-clause-to_device : goal.returns-clause-to_device
returns-clause-to_device g c = λ w command front buffer at plain. out_moving g.D.UasDevice.kind w command front buffer at plain

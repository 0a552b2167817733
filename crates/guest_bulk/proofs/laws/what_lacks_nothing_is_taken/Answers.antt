use Rattle.guest_bulk.proofs.Lacking.{in_there, out_there}
use Rattle.guest_bulk.proofs.laws.what_lacks_nothing_is_taken.Goals as goal

pub returns-clause-to_host : goal.returns-clause-to_host
returns-clause-to_host g c = λ fault w home none. in_there g.D.UasDevice.kind fault w home none

pub returns-clause-to_device : goal.returns-clause-to_device
returns-clause-to_device g c = λ fault w home none. out_there g.D.UasDevice.kind fault w home none

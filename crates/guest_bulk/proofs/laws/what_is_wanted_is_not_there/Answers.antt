use Rattle.guest_bulk.proofs.Lacking.{in_lacks, out_lacks}
use Rattle.guest_bulk.proofs.laws.what_is_wanted_is_not_there.Goals as goal

pub returns-clause-to_host : goal.returns-clause-to_host
returns-clause-to_host g c = λ fault w home. in_lacks g.D.UasDevice.kind fault w home

pub returns-clause-to_device : goal.returns-clause-to_device
returns-clause-to_device g c = λ fault w home. out_lacks g.D.UasDevice.kind fault w home

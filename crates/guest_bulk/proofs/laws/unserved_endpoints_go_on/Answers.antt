use Rattle.std.proofs.Common.{refl}
use Rattle.guest_bulk.proofs.Edges.{ended_taken, running_stuck}
use Rattle.guest_bulk.proofs.laws.unserved_endpoints_go_on.Goals as goal

pub returns-clause-ended : goal.returns-clause-ended
returns-clause-ended g c = λ w home code over. ended_taken g.D.UasDevice.kind w home code over

pub returns-clause-last : goal.returns-clause-last
returns-clause-last g c = λ w front code parameter flags. (refl, refl, refl, refl)

pub returns-clause-stuck : goal.returns-clause-stuck
returns-clause-stuck g c = λ w front buffer code moves. running_stuck g.D.UasDevice.kind w front buffer code moves

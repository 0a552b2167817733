use Rattle.guest_bulk.proofs.Edges.{empty_faulty, others_none}
use Rattle.guest_bulk.proofs.laws.empty_cbws_are_faulty.Goals as goal

pub returns-clause-faulty : goal.returns-clause-faulty
returns-clause-faulty g c = λ w front trb flags ends none. empty_faulty g.D.UasDevice.kind w front trb flags ends none

pub returns-clause-none : goal.returns-clause-none
returns-clause-none g c = λ w front trb flags none. others_none g.D.UasDevice.kind w front trb flags none

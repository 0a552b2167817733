use Rattle.cycle_ring.proofs.Agree.{agrees, put-trbs, freed-trbs}
use Rattle.cycle_ring.proofs.laws.trb_rings_agree.Goals as goal

pub returns : goal.returns
returns c = record { agree = agrees; put = put-trbs; freed = freed-trbs }

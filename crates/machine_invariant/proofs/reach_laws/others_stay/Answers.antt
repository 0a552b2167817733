use Rattle.machine_invariant.proofs.OthersStay.{others-stay, nobody-stays}
use Rattle.machine_invariant.proofs.reach_laws.others_stay.Goals as goal

pub returns-clause-others : goal.returns-clause-others
returns-clause-others c = others-stay

pub returns-clause-nobody : goal.returns-clause-nobody
returns-clause-nobody c = nobody-stays

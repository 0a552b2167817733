use Rattle.log_keeper.proofs.ActedFit.{acted_steps}
use Rattle.log_keeper.proofs.laws.acted_steps_fit.Goals as goal

pub returns : goal.returns
returns c = acted_steps

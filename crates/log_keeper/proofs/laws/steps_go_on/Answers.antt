use Rattle.log_keeper.proofs.Whole.{go_on}
use Rattle.log_keeper.proofs.laws.steps_go_on.Goals as goal

pub returns : goal.returns
returns c = λ tags steps more numbers others replies next told given. go_on tags steps more numbers others replies next told given

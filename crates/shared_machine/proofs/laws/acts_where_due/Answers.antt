use Rattle.shared_machine.proofs.Due.{shared_step-acted}
use Rattle.shared_machine.proofs.laws.acts_where_due.Goals as goal

pub returns : goal.returns
returns c = shared_step-acted

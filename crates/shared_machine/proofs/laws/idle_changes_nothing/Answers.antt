use Rattle.shared_machine.proofs.Due.{shared_step-idle}
use Rattle.shared_machine.proofs.laws.idle_changes_nothing.Goals as goal

pub returns : goal.returns
returns c = shared_step-idle

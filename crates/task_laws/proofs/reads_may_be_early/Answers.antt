use Rattle.task_laws.proofs.ReadsGiven.{early_alike}
use Rattle.task_laws.proofs.reads_may_be_early.Goals as goal

pub returns : goal.returns
returns c = early_alike

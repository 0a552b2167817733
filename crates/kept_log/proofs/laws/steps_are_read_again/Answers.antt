use Rattle.kept_log.proofs.Again.{entry_again}
use Rattle.kept_log.proofs.laws.steps_are_read_again.Goals as goal

pub returns : goal.returns
returns c = λ clients entry some few fits. entry_again clients entry some few fits

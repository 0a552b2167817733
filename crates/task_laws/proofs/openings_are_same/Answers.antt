use Rattle.task_laws.proofs.Opening.{openings_same}
use Rattle.task_laws.proofs.openings_are_same.Goals as goal

pub returns : goal.returns
returns c = openings_same

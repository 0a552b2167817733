use Rattle.isolation.proofs.WholeRuns.{replayed-isolated}
use Rattle.isolation.proofs.laws.isolated.Goals as goal

pub returns : goal.returns
returns c = replayed-isolated

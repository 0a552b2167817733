-- Nothing waits at the start.
use Rattle.machine_invariant.proofs.MatchedOpening.{opening-matched}
use Rattle.machine_invariant.proofs.queue_laws.matches_at_start.Goals as goal

pub returns : goal.returns
returns c = opening-matched

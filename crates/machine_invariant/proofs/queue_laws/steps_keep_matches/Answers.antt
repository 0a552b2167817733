-- Each step keeps what waits matched.
use Rattle.machine_invariant.proofs.MatchedSteps.{shared_step-matched}
use Rattle.machine_invariant.proofs.queue_laws.steps_keep_matches.Goals as goal

pub returns : goal.returns
returns c = shared_step-matched

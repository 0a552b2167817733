-- Each step keeps the order facts.
use Rattle.machine_invariant.proofs.Ordered.{shared_step-ordered}
use Rattle.machine_invariant.proofs.queue_laws.order_is_kept.Goals as goal

pub returns : goal.returns
returns c = shared_step-ordered

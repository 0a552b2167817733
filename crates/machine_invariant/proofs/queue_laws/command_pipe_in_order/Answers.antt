-- The command pipe's ring, in order.
use Rattle.machine_invariant.proofs.MatchedNext.{matched-pending, matched-counted, matched-frees}
use Rattle.machine_invariant.proofs.queue_laws.command_pipe_in_order.Goals as goal

pub returns-clause-pending : goal.returns-clause-pending
returns-clause-pending c = matched-pending

pub returns-clause-taken : goal.returns-clause-taken
returns-clause-taken c = matched-counted

pub returns-clause-freed : goal.returns-clause-freed
returns-clause-freed c = matched-frees

use Rattle.shared_machine.proofs.Drains.{drained-quiet, drained-unquiet, drained-spare, drained-run}
use Rattle.shared_machine.proofs.laws.drains_to_quiet.Goals as goal

pub returns-clause-quiet : goal.returns-clause-quiet
returns-clause-quiet c = drained-quiet

pub returns-clause-unquiet : goal.returns-clause-unquiet
returns-clause-unquiet c = drained-unquiet

pub returns-clause-spare : goal.returns-clause-spare
returns-clause-spare c = drained-spare

pub returns-clause-run : goal.returns-clause-run
returns-clause-run c = drained-run

use Rattle.uas_tasks.proofs.Passing.{asked_later, nothing_passes}
use Rattle.uas_tasks.proofs.laws.nothing_stale_passes.Goals as goal

pub returns-clause-passes : goal.returns-clause-passes
returns-clause-passes c = nothing_passes

pub returns-clause-later : goal.returns-clause-later
returns-clause-later c = asked_later

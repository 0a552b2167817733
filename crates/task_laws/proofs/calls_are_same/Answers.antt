use Rattle.task_laws.proofs.Calls.{calls_alike, run_alike}
use Rattle.task_laws.proofs.Managed.{resets_alike}
use Rattle.task_laws.proofs.calls_are_same.Goals as goal

pub returns-clause-call : goal.returns-clause-call
returns-clause-call c = calls_alike

pub returns-clause-calls : goal.returns-clause-calls
returns-clause-calls c = run_alike

pub returns-clause-reset : goal.returns-clause-reset
returns-clause-reset c = resets_alike

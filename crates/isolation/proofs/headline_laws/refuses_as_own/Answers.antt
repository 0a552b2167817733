use Rattle.isolation.proofs.Refusals.{submit-refused, submit-unchanged, replay-refused, submissions-alone, task-owned, task-refused, task-unchanged}
use Rattle.isolation.proofs.headline_laws.refuses_as_own.Goals as goal

pub returns-clause-refused : goal.returns-clause-refused
returns-clause-refused c = submit-refused

pub returns-clause-unchanged : goal.returns-clause-unchanged
returns-clause-unchanged c = submit-unchanged

pub returns-clause-replay : goal.returns-clause-replay
returns-clause-replay c = replay-refused

pub returns-clause-tasks : goal.returns-clause-tasks
returns-clause-tasks c = task-refused

pub returns-clause-tasks_owned : goal.returns-clause-tasks_owned
returns-clause-tasks_owned c = task-owned

pub returns-clause-tasks_unchanged : goal.returns-clause-tasks_unchanged
returns-clause-tasks_unchanged c = task-unchanged

pub returns-clause-submissions : goal.returns-clause-submissions
returns-clause-submissions c = submissions-alone

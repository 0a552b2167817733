use Rattle.task_laws.proofs.Wanted.{answers_alike, wants_alike}
use Rattle.task_laws.proofs.tags_are_same.Goals as goal

pub returns-clause-wants : goal.returns-clause-wants
returns-clause-wants c = wants_alike

pub returns-clause-answers : goal.returns-clause-answers
returns-clause-answers c = answers_alike

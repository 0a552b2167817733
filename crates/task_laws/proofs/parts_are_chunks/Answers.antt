use Rattle.task_laws.proofs.Parts.{gives_parts, takes_parts}
use Rattle.task_laws.proofs.parts_are_chunks.Goals as goal

pub returns-clause-gives : goal.returns-clause-gives
returns-clause-gives c = gives_parts

pub returns-clause-takes : goal.returns-clause-takes
returns-clause-takes c = takes_parts

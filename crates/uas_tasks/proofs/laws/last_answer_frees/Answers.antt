use Rattle.uas_tasks.proofs.Passing.{last_frees}
use Rattle.uas_tasks.proofs.laws.last_answer_frees.Goals as goal

pub returns : goal.returns
returns c = last_frees

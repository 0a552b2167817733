use Rattle.uas_tasks.proofs.Kept.{restored_kept, tags_restored}
use Rattle.uas_tasks.proofs.laws.tags_are_restored.Goals as goal

pub returns-clause-restored : goal.returns-clause-restored
returns-clause-restored c = tags_restored

pub returns-clause-kept : goal.returns-clause-kept
returns-clause-kept c = restored_kept

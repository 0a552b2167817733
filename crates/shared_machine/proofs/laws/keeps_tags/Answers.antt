use Rattle.shared_machine.proofs.NumberOfTags.{kept-tags}
use Rattle.shared_machine.proofs.Drains.{drained-tags}
use Rattle.shared_machine.proofs.laws.keeps_tags.Goals as goal

pub returns-clause-step : goal.returns-clause-step
returns-clause-step c = kept-tags

pub returns-clause-drain : goal.returns-clause-drain
returns-clause-drain c = drained-tags

use Rattle.std.proofs.Common.{ap, subst, ◌∙◌}
use Rattle.log_text.specs.Loading.{Loads}
use Rattle.log_text.specs.Reading.{whole_log}
use Rattle.log_text.proofs.TakenLog.{whole_again, whole_trailing}
use Rattle.log_text.proofs.read_log.load_log.Goals as goal

pub returns-clause-every : goal.returns-clause-every
returns-clause-every c = λ log fits e. subst (Loads c.loaded.result) (ap whole_log e ∙ whole_again log fits) c.loaded.ensures.exact

pub returns-clause-trailing : goal.returns-clause-trailing
returns-clause-trailing c = λ log byte more fits e. subst (Loads c.loaded.result) (ap whole_log e ∙ whole_trailing log byte more fits) c.loaded.ensures.exact

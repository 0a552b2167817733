use Rattle.kept_log.proofs.Cutting.{cut_loads}
use Rattle.kept_log.proofs.Headless.{head_cut}
use Rattle.kept_log.proofs.laws.cut_logs_load.Goals as goal

pub returns-clause-cut : goal.returns-clause-cut
returns-clause-cut c = λ kept size keepable are long cut. cut_loads kept size keepable are long cut

pub returns-clause-headless : goal.returns-clause-headless
returns-clause-headless c = λ kept size keepable are cut. head_cut kept size keepable are cut

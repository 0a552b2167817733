use Rattle.kept_log.proofs.Written.{kept_loads}
use Rattle.kept_log.proofs.laws.kept_logs_load.Goals as goal

pub returns : goal.returns
returns c = λ kept keepable are. kept_loads kept keepable are

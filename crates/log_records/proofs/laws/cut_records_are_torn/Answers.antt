use Rattle.log_records.proofs.Found.{cut_torn}
use Rattle.log_records.proofs.laws.cut_records_are_torn.Goals as goal

pub returns : goal.returns
returns c = λ before cut body few some within. cut_torn before cut body few some within

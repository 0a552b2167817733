use Rattle.bounded_log.proofs.Lengths.{record_counted}
use Rattle.bounded_log.proofs.records_are_counted.Goals as goal

pub returns : goal.returns
returns c = λ clients before entry fits. record_counted clients before entry fits

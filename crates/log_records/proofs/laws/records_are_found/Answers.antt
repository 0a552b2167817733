use Rattle.log_records.proofs.Found.{record_found}
use Rattle.log_records.proofs.laws.records_are_found.Goals as goal

pub returns : goal.returns
returns c = λ before body rest few are. record_found before body rest few are

use Rattle.log_records.proofs.Growing.{records-append}
use Rattle.log_records.proofs.laws.records_go_on.Goals as goal

pub returns : goal.returns
returns c = λ before bodies more. records-append before bodies more

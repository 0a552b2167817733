use Rattle.log_records.proofs.Found.{found_record}
use Rattle.log_records.proofs.laws.found_records_are_records.Goals as goal

pub returns : goal.returns
returns c = λ before len sum bytes are e. let it = found_record before bytes len sum are e in (it.text, it.len_is, it.sum_is)

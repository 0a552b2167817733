use Rattle.disk_requests.proofs.UnitsRead.{response_read, sense_read}
use Rattle.disk_requests.proofs.laws.units_are_read.Goals as goal

pub returns-clause-sense : goal.returns-clause-sense
returns-clause-sense c = λ tag status sense small few. sense_read tag status sense small few

pub returns-clause-response : goal.returns-clause-response
returns-clause-response c = λ tag code small. response_read tag code small

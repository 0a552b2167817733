use Rattle.bulk_only.proofs.Statuses.{csw_read_back}
use Rattle.bulk_only.proofs.laws.csws_are_read_back.Goals as goal

pub returns : goal.returns
returns c = λ csw fits. csw_read_back csw fits

use Rattle.bulk_only.proofs.Commands.{cbw_read_back}
use Rattle.bulk_only.proofs.laws.cbws_are_read_back.Goals as goal

pub returns : goal.returns
returns c = λ cbw fits. cbw_read_back cbw fits

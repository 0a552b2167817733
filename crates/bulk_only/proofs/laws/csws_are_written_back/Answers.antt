use Rattle.bulk_only.proofs.Statuses.{csw_written_back}
use Rattle.bulk_only.proofs.laws.csws_are_written_back.Goals as goal

pub returns : goal.returns
returns c = λ bytes are. csw_written_back bytes are

use Rattle.bulk_only.proofs.Commands.{cbw_written_back}
use Rattle.bulk_only.proofs.laws.cbws_are_written_back.Goals as goal

pub returns : goal.returns
returns c = λ bytes are. cbw_written_back bytes are

use Rattle.whole_commands.proofs.ChunksWritten.{writes-all}
use Rattle.whole_commands.proofs.transfers.writes_take_all.Goals as goal

pub returns-clause-all : goal.returns-clause-all
returns-clause-all c = writes-all

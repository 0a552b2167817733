use Rattle.whole_commands.proofs.WriteRuns.{write-true}
use Rattle.whole_commands.proofs.good_write_is_written.Goals as goal

pub returns : goal.returns
returns c = write-true

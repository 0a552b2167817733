use Rattle.whole_commands.proofs.ReadRuns.{reads-true}
use Rattle.whole_commands.proofs.good_reads_give_blocks.Goals as goal

pub returns : goal.returns
returns c = reads-true

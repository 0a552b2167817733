use Rattle.std.proofs.Common.{ap, append-nil, refl, ◌∙◌}
use Rattle.whole_commands.proofs.ChunksRead.{reads-all, read-stops}
use Rattle.whole_commands.proofs.transfers.reads_give_all.Goals as goal

pub returns-clause-all : goal.returns-clause-all
returns-clause-all c = reads-all

pub returns-clause-bad : goal.returns-clause-bad
returns-clause-bad c = read-stops

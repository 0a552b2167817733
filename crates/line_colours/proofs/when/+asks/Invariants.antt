use Rattle.std.proofs.Common.{length}
use Rattle.line_colours.proofs.when.+asks.Given as goal

abbrev pub decreases-asks : goal.decreases-asks
decreases-asks l = length l.words.now

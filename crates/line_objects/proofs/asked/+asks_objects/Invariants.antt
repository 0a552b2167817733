use Rattle.std.proofs.Common.{length}
use Rattle.line_objects.proofs.asked.+asks_objects.Given as goal

abbrev pub decreases-asks_objects : goal.decreases-asks_objects
decreases-asks_objects l = length l.words.now

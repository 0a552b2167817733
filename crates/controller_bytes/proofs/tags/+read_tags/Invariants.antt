use Rattle.std.proofs.Common.{length}
use Rattle.controller_bytes.proofs.tags.+read_tags.Given as goal

abbrev pub decreases-read_tags : goal.decreases-read_tags
decreases-read_tags l = length l.slots.now

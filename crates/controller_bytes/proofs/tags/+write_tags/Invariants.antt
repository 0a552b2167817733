use Rattle.std.proofs.Common.{length}
use Rattle.controller_bytes.proofs.tags.+write_tags.Given as goal

abbrev pub decreases-write_tags : goal.decreases-write_tags
decreases-write_tags l = length l.slots.now

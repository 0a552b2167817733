use Rattle.std.proofs.Common.{length}
use Rattle.controller_bytes.proofs.pipes.+write_rings.Given as goal

abbrev pub decreases-write_rings : goal.decreases-write_rings
decreases-write_rings l = length l.rung.now

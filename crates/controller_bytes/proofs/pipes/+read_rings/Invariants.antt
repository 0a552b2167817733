use Rattle.std.proofs.Common.{length}
use Rattle.controller_bytes.proofs.pipes.+read_rings.Given as goal

abbrev pub decreases-read_rings : goal.decreases-read_rings
decreases-read_rings l = length l.rung.now

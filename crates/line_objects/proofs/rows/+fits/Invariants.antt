use Rattle.std.proofs.Common.{length}
use Rattle.line_objects.proofs.rows.+fits.Given as goal

abbrev pub decreases-fits : goal.decreases-fits
decreases-fits l = length l.row.now

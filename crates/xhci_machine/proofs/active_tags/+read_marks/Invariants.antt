use Rattle.std.proofs.Common.{length}
use Rattle.xhci_machine.proofs.active_tags.+read_marks.Given as goal

abbrev pub decreases-read_marks : goal.decreases-read_marks
decreases-read_marks l = length l.marks.now

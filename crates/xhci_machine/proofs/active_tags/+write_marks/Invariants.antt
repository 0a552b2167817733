use Rattle.xhci_machine.proofs.active_tags.+write_marks.Given as goal

abbrev pub decreases-write_marks : goal.decreases-write_marks
decreases-write_marks l = l.count

use Rattle.line_objects.proofs.SaidMarks.{mark-found}
use Rattle.line_objects.proofs.laws.marks_are_found.Goals as goal

pub returns : goal.returns
returns c = mark-found

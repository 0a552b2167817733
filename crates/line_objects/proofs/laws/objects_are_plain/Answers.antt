use Rattle.line_objects.proofs.Printable.{objects-plain}
use Rattle.line_objects.proofs.laws.objects_are_plain.Goals as goal

pub returns : goal.returns
returns c = objects-plain

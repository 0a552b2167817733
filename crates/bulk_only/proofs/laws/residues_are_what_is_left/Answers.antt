use Rattle.bulk_only.proofs.Verdicts.{left}
use Rattle.bulk_only.proofs.laws.residues_are_what_is_left.Goals as goal

pub returns : goal.returns
returns c = λ h is_in is_good done other. left h is_in is_good done other

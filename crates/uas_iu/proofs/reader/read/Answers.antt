use Rattle.std.proofs.Common.{arith}
use Rattle.std.proofs.lemmas.Grind.{common_steps}
use Rattle.uas_iu.specs.Faults.{first_fault}
use Rattle.uas_iu.proofs.reader.read.Goals as goal
use Rattle.uas_iu.proofs.Laws.{every_text_found}

pub returns-in_default-clause-only : goal.returns-in_default-clause-only
unfolding first_fault
returns-in_default-clause-only c = every_text_found c.args.bytes.now _ (grind (arith, common_steps)) tt

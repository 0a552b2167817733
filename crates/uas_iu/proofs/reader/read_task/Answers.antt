use Rattle.std.proofs.Common.{arith, sym, ◌∙◌}
use Rattle.std.proofs.lemmas.Grind.{common_steps}
use Rattle.uas_iu.specs.Faults.{reserved_places}
use Rattle.uas_iu.specs.Units.{unit_text}
use Rattle.uas_iu.proofs.reader.read_task.Goals as goal
use Rattle.uas_iu.proofs.Texts.{first_eight, last_part, none_set}

pub returns-clause-found : goal.returns-clause-found
unfolding unit_text
returns-clause-found c =
    let header = first_eight c.args.bytes.now (omega arith) in
    let zeros = none_set c.args.bytes.now (reserved_places 5) (sym c.is_any_set.ensures ∙ c.if-is_any_set.false) in
    let rest = last_part c.args.bytes.now _ 8 16 c.array_at.ensures (omega arith) in
    grind (arith, common_steps)

use Rattle.std.proofs.Common.{ap, sym, arith, ◌∙◌}
use Rattle.std.proofs.lemmas.List.{take_all}
use Rattle.uas_host.specs.Left.{have_left_over}
use Rattle.uas_host.proofs.left.have_left_over.Goals as goal

pub returns : goal.returns
returns c =
    sym c.loop-slot.invariant
    ∙ ap have_left_over (take_all c.loop-slot.slot c.args.entries.now (omega (arith, c.loop-slot-test.false, c.type_inv.entries)))

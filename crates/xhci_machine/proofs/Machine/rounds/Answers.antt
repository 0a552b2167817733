use Rattle.std.proofs.Common.{rules, suc, ◌<◌, ◌∙◌}
use Rattle.xhci_machine.proofs.Machine.rounds.Goals as goal

pub loop-turn-preserved : goal.loop-turn-preserved
loop-turn-preserved g c =
    let less : c.round.new.turn.left < c.loop-turn.turn.left = search rules in
    (suc c.loop-turn.invariant.0, (_, c.loop-turn.invariant.1, c.in-Ok.ensures.turned, less), c.round.ensures.same_loan ∙ c.loop-turn.invariant.2)

use Rattle.std.proofs.Common.{rules}
use Rattle.uas_work.proofs.Looking.{vain_none, vain_one, vain_reaps}
use Rattle.uas_work.proofs.parts.ClientPart.looked.Goals as goal

pub loop-init : goal.loop-init
loop-init c = (search rules, search rules, search rules, search rules, search rules, vain_none c.args.tag c.args.self.now.seat)

pub loop-preserved : goal.loop-preserved
loop-preserved c =
    let was = c.loop.invariant in
    (search rules, search rules, search rules, search rules, search rules, vain_one c.args.tag c.args.self.now.seat c.loop.self.seat _ was.5 c.in-None.ensures.slip)

pub returns-in-Some-clause-slip : goal.returns-in-Some-clause-slip
returns-in-Some-clause-slip c = vain_reaps c.args.tag c.args.self.now.seat c.loop.self.seat _ _ c.loop.invariant.5 c.in-Some.ensures.slip

use Rattle.uas_work.proofs.Counting.{counted-small}
use Rattle.std.proofs.Common.{arith}
use Rattle.uas_work.proofs.Booked.turn.Goals as goal

pub returns-clause-small : goal.returns-clause-small
returns-clause-small c =
    let few = counted-small c.self.inside.turns c.self.inside.log.steps c.self.inside.limit c.self.invariant.1 c.self.invariant.0.within c.self.invariant.0.limit c.args.client c.requires in
    omega arith

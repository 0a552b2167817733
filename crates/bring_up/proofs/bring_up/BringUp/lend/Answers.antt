-- What was lent: the controller that was found, and the layout that was made.
use Rattle.std.proofs.Common.{rules}
use Rattle.bring_up.proofs.bring_up.BringUp.lend.Goals as goal

pub returns-clause-taken : goal.returns-clause-taken
returns-clause-taken c =
    (c.in-Wanting.controller, c.in-Some.layout, c.in-Wanting.is, c.in-Some.ensures.base, c.in-Some.ensures.shape, c.in-Some.ensures.reach, search rules)

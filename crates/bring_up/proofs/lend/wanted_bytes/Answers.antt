-- Where there is a shape, one is made.
use Rattle.std.proofs.Common.{arith}
use Rattle.bring_up.proofs.lend.wanted_bytes.Goals as goal

pub returns-in-None : goal.returns-in-None
returns-in-None c = λ shape is. let made = c.in-None.ensures.there shape is in grind (arith, made)

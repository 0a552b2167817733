use Rattle.std.proofs.Common.{arith, ◌-◌}
use Rattle.std.proofs.lemmas.Grind.{common_steps}
use Rattle.tag_range.proofs.Flags.{count_by-flags}
use Rattle.tag_range.proofs.client_range.ClientRange.outstanding.Goals as goal

pub returns : goal.returns
returns c = rw (← c.self.view_is, count_by-flags (c.self.inside.tags - 1) c.self.inside.out c.self.invariant.3) (grind (arith, common_steps))

use Rattle.std.proofs.Common.{refl}
use Rattle.uas_target.proofs.Sound.{IsSoundDevice-step}
use Rattle.uas_target.proofs.Target.sent.Goals as goal

pub invariant_of-self : goal.invariant_of-self
invariant_of-self c =
    rw c.remove.ensures.task (IsSoundDevice-step c.self.inside.units.items c.self.inside.units.items c.self.inside.tasks c.args.tag _ c.self.invariant refl tt)

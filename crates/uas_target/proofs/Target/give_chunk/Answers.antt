use Rattle.std.proofs.Common.{refl}
use Rattle.uas_target.proofs.Sound.{IsSoundDevice-step, held_under-sound}
use Rattle.uas_target.proofs.Target.give_chunk.Goals as goal

pub give-requires-clause-sound : goal.give-requires-clause-sound
give-requires-clause-sound c =
    rw c.deref.ensures.value (held_under-sound c.self.inside.units.items c.self.inside.tasks c.args.tag c.self.invariant)

pub invariant_of-self : goal.invariant_of-self
invariant_of-self c =
    rw (c.give.ensures.task, c.deref.ensures.value)
    (IsSoundDevice-step c.self.inside.units.items c.self.inside.units.items c.self.inside.tasks c.args.tag _ c.self.invariant refl
    (rw c.deref.ensures.value at c.give.ensures.sound))

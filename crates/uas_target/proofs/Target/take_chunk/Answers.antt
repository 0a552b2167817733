use Rattle.uas_target.proofs.Sound.{IsSoundDevice-step, held_under-sound, written_units}
use Rattle.uas_target.proofs.Target.take_chunk.Goals as goal

pub take-requires-clause-sound : goal.take-requires-clause-sound
take-requires-clause-sound c =
    rw c.deref_mut.ensures.value (held_under-sound c.self.inside.units.items c.self.inside.tasks c.args.tag c.self.invariant)

pub invariant_of-self : goal.invariant_of-self
invariant_of-self c =
    let counts = rw c.deref_mut.ensures.value at c.take.ensures.counts in
    rw (written_units c.self.inside.units.len c.self.inside.units.items c.take.new.units c.self.inside.units.ok.0 counts, c.take.ensures.task)
    (IsSoundDevice-step c.self.inside.units.items c.take.new.units c.self.inside.tasks c.args.tag _ c.self.invariant counts c.take.ensures.sound)

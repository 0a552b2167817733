use Rattle.uas_target.proofs.Sound.{reset_sound, written_units}
use Rattle.uas_target.proofs.Target.reset.Goals as goal

pub invariant_of-self : goal.invariant_of-self
invariant_of-self c =
    let counts = rw c.deref_mut.ensures.value at c.establish_attentions.ensures.counts in
    rw (written_units c.self.inside.units.len c.self.inside.units.items c.establish_attentions.new.units c.self.inside.units.ok.0 counts, c.clear.ensures)
    (reset_sound c.self.inside.units.items c.establish_attentions.new.units c.self.inside.tasks c.self.invariant counts)

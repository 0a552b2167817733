use Rattle.uas_target.proofs.Managed.{all_spared_sound}
use Rattle.uas_target.proofs.Sound.{written_units}
use Rattle.uas_target.proofs.Target.reset_unit.Goals as goal

pub invariant_of-self : goal.invariant_of-self
invariant_of-self c =
    let counts = rw c.deref_mut.ensures.value at c.establish_attention.ensures.counts in
    rw (written_units c.self.inside.units.len c.self.inside.units.items c.establish_attention.new.units c.self.inside.units.ok.0 counts, c.end_commands.ensures)
    (all_spared_sound c.self.inside.units.items c.establish_attention.new.units c.self.inside.tasks c.in-Some.number c.self.invariant counts)

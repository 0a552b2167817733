use Rattle.uas_target.proofs.Sound.{IsSoundDevice-step, written_units}
use Rattle.uas_target.proofs.Target.receive_command.Goals as goal

pub invariant_of-self : goal.invariant_of-self
invariant_of-self c =
    let counts = rw c.deref_mut.ensures.value at c.execute-task.ensures.counts in
    rw (written_units c.self.inside.units.len c.self.inside.units.items c.execute-task.new.units c.self.inside.units.ok.0 counts, c.set.ensures.task)
    (IsSoundDevice-step c.self.inside.units.items c.execute-task.new.units _ c.args.tag _ c.self.invariant counts c.execute-task.ensures.sound)

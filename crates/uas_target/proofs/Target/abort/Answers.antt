use Rattle.uas_target.proofs.Managed.{aborted_there, with_spared_sound}
use Rattle.uas_target.proofs.Target.abort.Goals as goal

pub invariant_of-self : goal.invariant_of-self
invariant_of-self c =
    rw c.end_command.ensures.task (with_spared_sound c.self.inside.units.items c.self.inside.tasks c.in-Some.number c.args.tag c.self.invariant)

pub returns : goal.returns
returns c =
    let there = rw c.deref.ensures.value at c.in-Some.ensures.some in
    rw (← c.self.view_is)
    (aborted_there c.self.inside.units.items c.self.inside.tasks c.end_command.new.self c.in-Some.number c.args.tag c.args.lun.now there
    c.end_command.ensures.task)

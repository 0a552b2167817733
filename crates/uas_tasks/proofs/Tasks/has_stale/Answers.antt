use Rattle.uas_tasks.proofs.Counts.{stale_here, stale_past}
use Rattle.uas_tasks.proofs.Tasks.has_stale.Goals as goal

pub returns-in-Some : goal.returns-in-Some
returns-in-Some c =
    let found = rw c.deref.ensures.value at c.in-Some.ensures.lookup in
    rw (← c.self.view_is) (stale_here c.self.inside.stale.items c.self.inside.slots.items c.args.number c.in-Some.count.now c.self.invariant.counts found.0 found.1)

pub returns-in-None : goal.returns-in-None
returns-in-None c =
    let past = rw c.deref.ensures.value at c.in-None.ensures.lookup in
    rw (← c.self.view_is) (stale_past c.self.inside.stale.items c.self.inside.slots.items c.args.number c.self.invariant.counts past.0)

use Rattle.std.proofs.Common.{sym, subst}
use Rattle.uas_tasks.specs.Soundness.{shapes_of}
use Rattle.uas_tasks.proofs.Counts.{Keeps}
use Rattle.uas_tasks.proofs.Keeping.{started_none-keeps}
use Rattle.uas_tasks.proofs.Machines.{free_read, tag_sound}
use Rattle.uas_tasks.proofs.Tasks.execute_nowhere.Goals as goal

pub invariant_of-self : goal.invariant_of-self
invariant_of-self c =
    let units = c.self.inside.units.items in
    let slots = c.self.inside.slots.items in
    let read = c.index_mut.result.now in
    let free = rw (← c.self.view_is) at c.requires.free in
    let still = free_read slots c.args.tag c.from.result read c.requires.tag c.self.invariant.places c.from.ensures c.index_mut.ensures.value free in
    tag_sound units c.self.inside.stale.items slots c.args.tag c.from.result read c.start_none.new.self c.self.invariant
    c.requires.tag c.from.ensures c.index_mut.ensures.value c.start_none.ensures.chunk c.start_none.ensures.len
    (subst (Keeps (shapes_of units) read) (sym c.start_none.ensures.started) (started_none-keeps (shapes_of units) read _ still))

use Rattle.std.proofs.Common.{length, ap, sym, subst}
use Rattle.uas_tasks.specs.Slots.{SlotState}
use Rattle.uas_tasks.specs.Soundness.{shapes_of}
use Rattle.uas_tasks.proofs.Counts.{Keeps}
use Rattle.uas_tasks.proofs.Keeping.{answer-keeps}
use Rattle.uas_tasks.proofs.Machines.{free_read, tag_sound}
use Rattle.uas_tasks.proofs.Places.{shapes_many}
use Rattle.uas_tasks.proofs.Tasks.respond.Goals as goal

pub invariant_of-self : goal.invariant_of-self
invariant_of-self c =
    let units = c.self.inside.units.items in
    let slots = c.self.inside.slots.items in
    let read = c.index_mut.result.now in
    let free = rw (← c.self.view_is) at c.requires.free in
    let still = free_read slots c.args.tag c.from.result read c.requires.tag c.self.invariant.places c.from.ensures c.index_mut.ensures.value free in
    tag_sound units c.self.inside.stale.items slots c.args.tag c.from.result read c.set.new.self c.self.invariant
    c.requires.tag c.from.ensures c.index_mut.ensures.value (ap (λ (s : SlotState). s.chunk) c.set.ensures) (ap (λ (s : SlotState). length s.bytes) c.set.ensures)
    (subst (Keeps (shapes_of units) read) (sym c.set.ensures) (answer-keeps (shapes_of units) read c.args.answer still (rw shapes_many (rw (← c.self.view_is) at c.requires.answer))))

use Rattle.std.proofs.Common.{length, arith, sym, subst}
use Rattle.uas_tasks.specs.Saved.{AreSavable}
use Rattle.uas_tasks.proofs.Kept.{AreStill, all_savable, none_pending}
use Rattle.uas_tasks.proofs.Tasks.has_request_out.Goals as goal

pub returns-clause-out : goal.returns-clause-out
returns-clause-out c =
    let items = c.deref-slot-items.result.now in
    let still : AreStill (length items) items = λ place within. c.loop-slot.invariant place (omega arith) in
    rw (← c.self.view_is, ← c.deref-slot-items.ensures.value) (sym (none_pending items still))

pub returns-clause-savable : goal.returns-clause-savable
returns-clause-savable c =
    let items = c.deref-slot-items.result.now in
    let still : AreStill (length items) items = λ place within. c.loop-slot.invariant place (omega arith) in
    λ none. subst AreSavable c.self.view_is
    (all_savable c.self.inside.units.items c.self.inside.set c.self.inside.stale.items c.self.inside.slots.items c.self.invariant
    (rw c.deref-slot-items.ensures.value at still))

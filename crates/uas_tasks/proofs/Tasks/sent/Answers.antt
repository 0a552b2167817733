use Rattle.std.proofs.Common.{◌≡◌, None, length, refl, ap, sym, subst}
use Rattle.uas_tasks.specs.declared.Wants.{Wants}
use Rattle.uas_tasks.specs.declared.Wants.TheVariants.{Absent, Ends, Waits}
use Rattle.uas_tasks.specs.Machine.{Machine, slot_under}
use Rattle.uas_tasks.specs.Slots.{SlotState, slot_wants, with_task}
use Rattle.uas_tasks.specs.Soundness.{shapes_of}
use Rattle.uas_tasks.proofs.Counts.{Keeps}
use Rattle.uas_tasks.proofs.Keeping.{ends_still, rests-keeps, wanted-free}
use Rattle.uas_tasks.proofs.Machines.{there_sound}
use Rattle.uas_tasks.proofs.Tasks.sent.Goals as goal

apart : Absent ≡ Ends → ⊥
apart is = let no : ◌≡◌ {A = Wants} Absent Ends = is in let it : ⊥ = cc in it

waits_not : Waits ≡ Ends → ⊥
waits_not is = let no : ◌≡◌ {A = Wants} Waits Ends = is in let it : ⊥ = cc in it

pub invariant_of-self : goal.invariant_of-self
invariant_of-self c =
    let free = wanted-free (λ (w : Wants). w ≡ Ends) waits_not c.args.self.now c.args.tag c.requires in
    let read = c.index_mut.result.now in
    let P : SlotState → Type 0 = λ (s : SlotState). slot_wants s ≡ Ends in
    let M : Machine → Type 0 = λ machine. P (slot_under machine.slots c.args.tag) in
    there_sound P apart c.self.inside.units.items c.self.inside.stale.items c.self.inside.slots.items c.args.tag c.from.result c.index_mut.result.now c.set.new.self
    c.self.invariant (subst M (sym c.self.view_is) free) c.from.ensures c.index_mut.ensures.value
    (ap (λ (s : SlotState). s.chunk) c.set.ensures) (ap (λ (s : SlotState). length s.bytes) c.set.ensures)
    (λ so was. subst (Keeps (shapes_of c.self.inside.units.items) read) (sym c.set.ensures)
    (rests-keeps (shapes_of c.self.inside.units.items) read (with_task read None) refl (ends_still read so) tt))

use Rattle.std.proofs.Common.{◌≡◌, length, ap, sym, subst}
use Rattle.uas_tasks.specs.declared.Wants.{Wants}
use Rattle.uas_tasks.specs.declared.Wants.TheVariants.{Absent, Asks, Waits}
use Rattle.uas_tasks.specs.Machine.{Machine, slot_under}
use Rattle.uas_tasks.specs.Slots.{SlotState, slot_wants}
use Rattle.uas_tasks.specs.Soundness.{shapes_of}
use Rattle.uas_tasks.proofs.Counts.{Keeps}
use Rattle.uas_tasks.proofs.Keeping.{asked-keeps, wanted-free}
use Rattle.uas_tasks.proofs.Machines.{asked_there, there_sound}
use Rattle.uas_tasks.proofs.Places.{slot_read, slot_written, there}
use Rattle.uas_tasks.proofs.Tasks.ask.Goals as goal

apart : Absent ≡ Asks → ⊥
apart is = let no : ◌≡◌ {A = Wants} Absent Asks = is in let it : ⊥ = cc in it

waits_not : Waits ≡ Asks → ⊥
waits_not is = let no : ◌≡◌ {A = Wants} Waits Asks = is in let it : ⊥ = cc in it

pub ask-requires : goal.ask-requires
ask-requires c =
    let free = wanted-free (λ (w : Wants). w ≡ Asks) waits_not c.args.self.now c.args.tag c.requires in
    let slots = c.self.inside.slots.items in
    let P : SlotState → Type 0 = λ (s : SlotState). slot_wants s ≡ Asks in
    let M : Machine → Type 0 = λ machine. P (slot_under machine.slots c.args.tag) in
    let wants = subst M (sym c.self.view_is) free in
    let here = there P apart slots c.args.tag wants in
    subst P (slot_read slots c.args.tag c.from.result c.index_mut-slot.result.now c.from.ensures here c.index_mut-slot.ensures.value) wants

pub invariant_of-self : goal.invariant_of-self
invariant_of-self c =
    let free = wanted-free (λ (w : Wants). w ≡ Asks) waits_not c.args.self.now c.args.tag c.requires in
    let read = c.index_mut-slot.result.now in
    let P : SlotState → Type 0 = λ (s : SlotState). slot_wants s ≡ Asks in
    let M : Machine → Type 0 = λ machine. P (slot_under machine.slots c.args.tag) in
    there_sound P apart c.self.inside.units.items c.self.inside.stale.items c.self.inside.slots.items c.args.tag c.from.result c.index_mut-slot.result.now c.ask.new.self
    c.self.invariant (subst M (sym c.self.view_is) free) c.from.ensures c.index_mut-slot.ensures.value
    (ap (λ (s : SlotState). s.chunk) c.ask.ensures) (ap (λ (s : SlotState). length s.bytes) c.ask.ensures)
    (λ so was. subst (Keeps (shapes_of c.self.inside.units.items) read) (sym c.ask.ensures) (asked-keeps (shapes_of c.self.inside.units.items) read so))

pub returns : goal.returns
returns c =
    let free = wanted-free (λ (w : Wants). w ≡ Asks) waits_not c.args.self.now c.args.tag c.requires in
    let units = c.self.inside.units.items in
    let slots = c.self.inside.slots.items in
    let P : SlotState → Type 0 = λ (s : SlotState). slot_wants s ≡ Asks in
    let M : Machine → Type 0 = λ machine. P (slot_under machine.slots c.args.tag) in
    let here = there P apart slots c.args.tag (subst M (sym c.self.view_is) free) in
    rw (← c.self.view_is)
    (asked_there units c.self.inside.set slots c.args.tag c.from.result c.index_mut-slot.result.now c.ask.new.self c.asked.result
    (slot_read slots c.args.tag c.from.result c.index_mut-slot.result.now c.from.ensures here c.index_mut-slot.ensures.value)
    (slot_written slots c.args.tag c.from.result c.ask.new.self c.from.ensures here.0) c.ask.ensures c.asked.ensures)

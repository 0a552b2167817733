use Rattle.std.proofs.Common.{◌-◌, length, ap, sym, subst, ◌∙◌}
use Rattle.uas_tasks.specs.Machine.{Machine, slot_under}
use Rattle.uas_tasks.specs.declared.Wants.{Wants}
use Rattle.uas_tasks.specs.Slots.{SlotState, next_bytes, slot_wants}
use Rattle.uas_tasks.specs.Soundness.{MayGive, shapes_of}
use Rattle.uas_tasks.proofs.Counts.{Keeps}
use Rattle.uas_tasks.proofs.Keeping.{gave-keeps, wanted-free}
use Rattle.uas_tasks.proofs.Places.{IsSoundMachine-slot, slot_read, there}
use Rattle.uas_tasks.proofs.Tasks.give.Goals as goal

pub give-requires : goal.give-requires
give-requires c =
    let slots = c.self.inside.slots.items in
    let free = wanted-free (λ (w : Wants). MayGive w (length c.args.bytes.now)) (λ no. no) c.args.self.now c.args.tag c.requires in
    let P : SlotState → Type 0 = λ (s : SlotState). MayGive (slot_wants s) (length c.args.bytes.now) in
    let M : Machine → Type 0 = λ machine. P (slot_under machine.slots c.args.tag) in
    let wants = subst M (sym c.self.view_is) free in
    let here = there P (λ no. no) slots c.args.tag wants in
    subst P (slot_read slots c.args.tag c.from.result c.index_mut.result.now c.from.ensures here c.index_mut.ensures.value) wants

pub invariant_of-self : goal.invariant_of-self
invariant_of-self c =
    let slots = c.self.inside.slots.items in
    let free = wanted-free (λ (w : Wants). MayGive w (length c.args.bytes.now)) (λ no. no) c.args.self.now c.args.tag c.requires in
    let P : SlotState → Type 0 = λ (s : SlotState). MayGive (slot_wants s) (length c.args.bytes.now) in
    let M : Machine → Type 0 = λ machine. P (slot_under machine.slots c.args.tag) in
    let here = there P (λ no. no) slots c.args.tag (subst M (sym c.self.view_is) free) in
    let within = rw (sym c.from.ensures) at here.1 in
    IsSoundMachine-slot c.self.inside.units.items c.self.inside.stale.items slots (c.from.result - 1) c.index_mut.result.now c.give.new.self c.self.invariant
    within c.index_mut.ensures.value (ap (λ (s : SlotState). s.chunk) c.give.ensures.slot)
    (ap (λ (s : SlotState). length s.bytes) c.give.ensures.slot)
    (λ was. subst (Keeps (shapes_of c.self.inside.units.items) c.index_mut.result.now) (sym c.give.ensures.slot)
    (gave-keeps (shapes_of c.self.inside.units.items) c.index_mut.result.now (length c.args.bytes.now) was))

pub returns-clause-bytes : goal.returns-clause-bytes
returns-clause-bytes c =
    let free = wanted-free (λ (w : Wants). MayGive w (length c.args.bytes.now)) (λ no. no) c.args.self.now c.args.tag c.requires in
    let slots = c.self.inside.slots.items in
    let P : SlotState → Type 0 = λ (s : SlotState). MayGive (slot_wants s) (length c.args.bytes.now) in
    let M : Machine → Type 0 = λ machine. P (slot_under machine.slots c.args.tag) in
    let here = there P (λ no. no) slots c.args.tag (subst M (sym c.self.view_is) free) in
    let read = slot_read slots c.args.tag c.from.result c.index_mut.result.now c.from.ensures here c.index_mut.ensures.value in
    rw (← c.self.view_is) (c.give.ensures.bytes ∙ sym (ap (λ (s : SlotState). next_bytes s (length c.args.bytes.now)) read))

use Rattle.std.proofs.Common.{◌≡◌, Option, Some, None, length, ap, sym, ◌∙◌, subst}
use Rattle.std.specs.Prelude.{IsSome}
use Rattle.uas_tasks.specs.declared.slot.Out.{Out}
use Rattle.uas_tasks.specs.Machine.{Machine, slot_under, with_slot_under}
use Rattle.uas_tasks.specs.Slots.{SlotState, passed_out, passing_out}
use Rattle.uas_tasks.specs.Soundness.{shapes_of}
use Rattle.uas_tasks.proofs.Counts.{Keeps}
use Rattle.uas_tasks.proofs.Keeping.{passed-keeps}
use Rattle.uas_tasks.proofs.Machines.{there_sound}
use Rattle.uas_tasks.proofs.Places.{slot_read, slot_written, there}
use Rattle.uas_tasks.proofs.Tasks.pass_on.Goals as goal

apart : (out : Out) → ◌≡◌ {A = Option Out} None (Some out) → ⊥
apart out is = let it : ⊥ = cc in it

pub invariant_of-self : goal.invariant_of-self
invariant_of-self c =
    let units = c.self.inside.units.items in
    let read = c.index_mut.result.now in
    let P : SlotState → Type 0 = λ (s : SlotState). (s.out ≡ Some c.args.out.now) × IsSome (passing_out s c.args.out.now) in
    let M : Machine → Type 0 = λ machine. P (slot_under machine.slots c.args.tag) in
    there_sound P (λ so. apart c.args.out.now so.0) units c.self.inside.stale.items c.self.inside.slots.items c.args.tag c.from.result read c.pass.new.self
    c.self.invariant (subst M (sym c.self.view_is) (c.requires.out, c.requires.passes)) c.from.ensures c.index_mut.ensures.value
    (ap (λ (s : SlotState). s.chunk) c.pass.ensures.slot) (ap (λ (s : SlotState). length s.bytes) c.pass.ensures.slot)
    (λ so was. subst (Keeps (shapes_of units) read) (sym c.pass.ensures.slot) (passed-keeps (shapes_of units) read c.args.out.now so.1 was))

pub returns : goal.returns
returns c =
    let slots = c.self.inside.slots.items in
    let P : SlotState → Type 0 = λ (s : SlotState). s.out ≡ Some c.args.out.now in
    let M : Machine → Type 0 = λ machine. P (slot_under machine.slots c.args.tag) in
    let here = there P (apart c.args.out.now) slots c.args.tag (subst M (sym c.self.view_is) c.requires.out) in
    let read = slot_read slots c.args.tag c.from.result c.index_mut.result.now c.from.ensures here c.index_mut.ensures.value in
    let passed = λ (s : SlotState). passed_out s c.args.out.now in
    rw (← c.self.view_is)
    (ap (λ all. record { units = c.self.inside.units.items; set = c.self.inside.set; slots = all })
    (slot_written slots c.args.tag c.from.result c.pass.new.self c.from.ensures here.0
    ∙ ap (with_slot_under slots c.args.tag) (c.pass.ensures.slot ∙ sym (ap passed read))))

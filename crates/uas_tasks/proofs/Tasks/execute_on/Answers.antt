use Rattle.std.proofs.Common.{◌-◌, Option, refl, ap, sym, subst, ◌∙◌}
use Rattle.host_commands.specs.declared.UnitAttention.{UnitAttention}
use Rattle.uas_tasks.specs.Machine.{begun}
use Rattle.uas_tasks.specs.Slots.{SlotState}
use Rattle.uas_tasks.specs.Soundness.{shapes_of}
use Rattle.uas_tasks.proofs.Counts.{Keeps}
use Rattle.uas_tasks.proofs.Keeping.{begun-keeps}
use Rattle.uas_tasks.proofs.Machines.{executed_there, free_read, tag_there}
use Rattle.uas_tasks.proofs.Places.{IsSoundMachine-slot, IsSoundMachine-units, shapes_of-set, room_of, shape_read, slot_read, slot_written}
use Rattle.uas_tasks.proofs.Tasks.execute_on.Goals as goal

pub begin-attention-requires-clause-room : goal.begin-attention-requires-clause-room
begin-attention-requires-clause-room c =
    let units = c.self.inside.units.items in
    let slots = c.self.inside.slots.items in
    let here = tag_there c.args.tag slots c.requires.tag c.self.invariant.places in
    let within = rw (sym c.from.ensures) at here.1 in
    let number_there = rw (← c.self.view_is) at c.requires.there in
    room_of units c.self.inside.stale.items slots (c.from.result - 1) c.args.number c.index_mut-slot.result.now c.index.result.now c.self.invariant within
    c.index_mut-slot.ensures.value number_there c.index.ensures

pub invariant_of-self : goal.invariant_of-self
invariant_of-self c =
    let units = c.self.inside.units.items in
    let slots = c.self.inside.slots.items in
    let here = tag_there c.args.tag slots c.requires.tag c.self.invariant.places in
    let within = rw (sym c.from.ensures) at here.1 in
    let read = c.index_mut-slot.result.now in
    let free = rw (← c.self.view_is) at c.requires.free in
    let number_there = rw (← c.self.view_is) at c.requires.there in
    let still = free_read slots c.args.tag c.from.result read c.requires.tag c.self.invariant.places c.from.ensures c.index_mut-slot.ensures.value free in
    let begun_so = ap (λ (after : Option UnitAttention × SlotState). after.1) c.begin-attention.ensures.begun in
    let sound =
    IsSoundMachine-slot units c.self.inside.stale.items slots (c.from.result - 1) read c.begin-attention.new.slot c.self.invariant within
    c.index_mut-slot.ensures.value c.begin-attention.ensures.chunk c.begin-attention.ensures.len
    (λ was. subst (Keeps (shapes_of units) read) (sym begun_so)
    (begun-keeps (shapes_of units) c.index.result.now c.args.number c.self.inside.set c.len-count.result c.args.cdb.now read
    (shape_read units c.args.number c.index.result.now number_there c.index.ensures) c.begin-attention.ensures.on still))
    in
    IsSoundMachine-units units _ _ _ sound (shapes_of-set units c.args.number c.index.result.now _ c.index.ensures refl)

pub returns : goal.returns
returns c =
    let units = c.self.inside.units.items in
    let slots = c.self.inside.slots.items in
    let here = tag_there c.args.tag slots c.requires.tag c.self.invariant.places in
    let number_there = rw (← c.self.view_is) at c.requires.there in
    rw (← c.self.view_is)
    (executed_there units c.self.inside.set slots c.args.tag c.from.result c.args.number c.args.cdb.now c.index.result.now
    c.index_mut-slot.result.now (c.begin-attention.result, c.begin-attention.new.slot) number_there c.index.ensures
    (slot_read slots c.args.tag c.from.result c.index_mut-slot.result.now c.from.ensures here c.index_mut-slot.ensures.value)
    (slot_written slots c.args.tag c.from.result c.begin-attention.new.slot c.from.ensures here.0)
    (c.begin-attention.ensures.begun
    ∙ ap (λ count. begun c.index.result.now c.args.number c.self.inside.set count c.args.cdb.now c.index_mut-slot.result.now)
    (c.len-count.ensures ∙ c.self.inside.units.ok.0)))

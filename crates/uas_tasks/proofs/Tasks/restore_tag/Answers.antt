use Rattle.std.proofs.Common.{◌≡◌, true, ◌-◌, length, ap, sym, subst, ◌∙◌}
use Rattle.uas_tasks.specs.Saved.{is_free, is_tag_state}
use Rattle.uas_tasks.specs.Slots.{SlotState}
use Rattle.uas_tasks.specs.Soundness.{shapes_of}
use Rattle.uas_tasks.proofs.Counts.{Keeps}
use Rattle.uas_tasks.proofs.Machines.{tag_sound, tag_there}
use Rattle.uas_tasks.proofs.Places.{room_at, slot_read}
use Rattle.uas_tasks.proofs.Restoring.{may_parts, restored-keeps, state_fits}
use Rattle.uas_tasks.proofs.Tasks.restore_tag.Goals as goal

pub restore-requires-clause-fits : goal.restore-requires-clause-fits
restore-requires-clause-fits c =
    let units = c.self.inside.units.items in
    let slots = c.self.inside.slots.items in
    let read = c.index_mut.result.now in
    let may = rw (← c.self.view_is) at (sym c.may_restore.ensures.may ∙ c.if-not-may_restore.false) in
    let parts = may_parts (record { units = units; set = c.self.inside.set; slots = slots }) c.args.tag c.args.state (length c.args.bytes.now) may in
    let here = tag_there c.args.tag slots parts.0 c.self.invariant.places in
    let within = rw (sym c.from.ensures) at here.1 in
    let is = slot_read slots c.args.tag c.from.result read c.from.ensures here c.index_mut.ensures.value in
    state_fits units read.chunk (length read.bytes) (length c.args.bytes.now) c.args.state
    (room_at units c.self.inside.stale.items slots (c.from.result - 1) read c.self.invariant within c.index_mut.ensures.value)
    (subst (λ (s : SlotState). is_tag_state units s.chunk c.args.state (length c.args.bytes.now) ≡ true) is parts.2)

pub invariant_of-self : goal.invariant_of-self
invariant_of-self c =
    let units = c.self.inside.units.items in
    let slots = c.self.inside.slots.items in
    let read = c.index_mut.result.now in
    let may = rw (← c.self.view_is) at (sym c.may_restore.ensures.may ∙ c.if-not-may_restore.false) in
    let parts = may_parts (record { units = units; set = c.self.inside.set; slots = slots }) c.args.tag c.args.state (length c.args.bytes.now) may in
    let here = tag_there c.args.tag slots parts.0 c.self.invariant.places in
    let is = slot_read slots c.args.tag c.from.result read c.from.ensures here c.index_mut.ensures.value in
    tag_sound units c.self.inside.stale.items slots c.args.tag c.from.result read c.restore.new.self c.self.invariant
    parts.0 c.from.ensures c.index_mut.ensures.value (ap (λ (s : SlotState). s.chunk) c.restore.ensures.slot) c.restore.ensures.len
    (subst (Keeps (shapes_of units) read) (sym c.restore.ensures.slot)
    (restored-keeps units read c.args.state c.args.bytes.now
    (subst (λ (s : SlotState). is_free s ≡ true) is parts.1)
    (subst (λ (s : SlotState). is_tag_state units s.chunk c.args.state (length c.args.bytes.now) ≡ true) is parts.2)))

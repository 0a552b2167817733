use Rattle.std.proofs.Common.{◌-◌, ◌<◌, ◌≤◌, length, refl, ap, ◌∙◌, arith}
use Rattle.uas_tasks.specs.Slots.{spared_slot}
use Rattle.uas_tasks.specs.Soundness.{counted_up, shapes_of}
use Rattle.uas_tasks.specs.Stale.{stale_without}
use Rattle.uas_tasks.proofs.Counts.{AreCounted-up, left_within, length-up, may_count, spared-split}
use Rattle.uas_tasks.proofs.Keeping.{spared-within}
use Rattle.uas_tasks.proofs.Places.{IsSoundMachine-written, within_at, written_over, written_there}
use Rattle.uas_tasks.proofs.Tasks.end_command.Goals as goal

pub count_up-requires : goal.count_up-requires
count_up-requires c =
    let units = c.self.inside.units.items in
    let stale = c.self.inside.stale.items in
    let slots = c.self.inside.slots.items in
    let read = c.index_mut-slot.result.now in
    let within : c.from-place.result - 1 < length slots =
    omega (arith, c.if-place-ne0.true, c.if-place-len.true, c.len.ensures, c.self.inside.slots.ok.0)
    in
    let there = within_at units stale slots (c.from-place.result - 1) read c.self.invariant within c.index_mut-slot.ensures.value in
    let few : length slots ≤ 240 = omega (arith, c.self.invariant.places) in
    rw (c.stale_without.ensures, c.deref_mut.ensures.value)
    (may_count stale slots read (stale_without c.args.number read) c.self.invariant.counts few
    (left_within (length stale) c.args.number read (written_there units stale slots read c.self.invariant there)))

pub invariant_of-self : goal.invariant_of-self
invariant_of-self c =
    let units = c.self.inside.units.items in
    let stale = c.self.inside.stale.items in
    let slots = c.self.inside.slots.items in
    let read = c.index_mut-slot.result.now in
    let place = c.from-place.result - 1 in
    let left = stale_without c.args.number read in
    let within : place < length slots =
    omega (arith, c.if-place-ne0.true, c.if-place-len.true, c.len.ensures, c.self.inside.slots.ok.0)
    in
    let there = within_at units stale slots place read c.self.invariant within c.index_mut-slot.ensures.value in
    let up = c.count_up.ensures ∙ ap (λ s. counted_up s c.stale_without.result) c.deref_mut.ensures.value ∙ ap (counted_up stale) c.stale_without.ensures in
    let many = ap length up ∙ length-up stale left in
    rw (written_over c.self.inside.stale.len stale c.count_up.new.stale c.self.inside.stale.ok.0 many, up, c.end_command.ensures)
    (IsSoundMachine-written units stale (counted_up stale left) slots place read (spared_slot c.args.number read) c.self.invariant within
    c.index_mut-slot.ensures.value refl refl (spared-within (shapes_of units) c.args.number read) (length-up stale left)
    (AreCounted-up stale slots place read (spared_slot c.args.number read) left c.self.invariant.counts within c.index_mut-slot.ensures.value
    (left_within (length stale) c.args.number read (written_there units stale slots read c.self.invariant there)) (λ number. spared-split number c.args.number read)))

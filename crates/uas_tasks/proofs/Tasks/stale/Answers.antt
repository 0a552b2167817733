use Rattle.std.proofs.Common.{◌+◌, ◌<◌, ◌≤◌, Some, cond, drop, length, refl, arith, ap, sym, ◌∙◌}
use Rattle.std.specs.Prelude.{is_some}
use Rattle.uas_tasks.specs.Machine.{number_of, stale_from}
use Rattle.uas_tasks.proofs.Places.{stale_from-next, stale_from-past}
use Rattle.uas_tasks.proofs.Tasks.stale.Goals as goal

pub loop-place-init : goal.loop-place-init
loop-place-init c = refl

pub loop-place-preserved : goal.loop-place-preserved
loop-place-preserved c =
    let slots = c.self.inside.slots.items in
    let within : c.loop-place.place < length slots = omega (arith, c.loop-place-test.true, c.len-place-end.ensures, c.self.inside.slots.ok.0) in
    let next = stale_from-next slots c.loop-place.place c.index-slot.result.now within c.index-slot.ensures in
    let none = sym (ap is_some c.stale_unit.ensures) ∙ sym c.is_some.ensures ∙ c.if-is_some.false in
    c.loop-place.invariant ∙ next
    ∙ ap (λ b. cond b (Some (number_of (c.loop-place.place + 1) c.index-slot.result.now)) (stale_from (c.loop-place.place + 1 + 1) (drop (c.loop-place.place + 1) slots))) none

pub returns-then-is_some : goal.returns-then-is_some
returns-then-is_some c =
    let slots = c.self.inside.slots.items in
    let within : c.loop-place.place < length slots = omega (arith, c.loop-place-test.true, c.len-place-end.ensures, c.self.inside.slots.ok.0) in
    let next = stale_from-next slots c.loop-place.place c.index-slot.result.now within c.index-slot.ensures in
    let some = sym (ap is_some c.stale_unit.ensures) ∙ sym c.is_some.ensures ∙ c.if-is_some.true in
    rw (← c.self.view_is)
    (ap Some c.number_of.ensures
    ∙ sym (c.loop-place.invariant ∙ next
    ∙ ap (λ b. cond b (Some (number_of (c.loop-place.place + 1) c.index-slot.result.now)) (stale_from (c.loop-place.place + 1 + 1) (drop (c.loop-place.place + 1) slots))) some))

pub returns : goal.returns
returns c =
    let slots = c.self.inside.slots.items in
    let past : length slots ≤ c.loop-place.place = omega (arith, c.loop-place-test.false, c.len-place-end.ensures, c.self.inside.slots.ok.0) in
    rw (← c.self.view_is) (sym (c.loop-place.invariant ∙ stale_from-past slots c.loop-place.place past))

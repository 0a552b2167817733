use Rattle.std.proofs.Common.{◌≡◌, ◌≢◌, ◌+◌, ◌-◌, ◌*◌, ◌<◌, ◌==◌, [], sym, ap, subst, ◌∙◌, arith}
use mathlib.Core.Option as maybe
use prog.Atomic.{either}
use Rattle.atomic_table.specs.Table.{Allows, step}
use Rattle.tag_desk.specs.declared.rule.View.TheVariants.{Work}
use Rattle.tag_desk.specs.Slips.{IsCommand, IsTask}
use Rattle.tag_desk.specs.Rule.{IsDesk, TakesOne, Sat, work_in}
use Rattle.tag_desk.specs.Seats.{MadeDesk, work_sat}
use Rattle.tag_desk.proofs.Holding.{command_asked, task_asked}
use Rattle.tag_desk.proofs.Steps.{take_allowed}
use Rattle.uas_profile.specs.Tags.{slot_of, task_slot}
use Rattle.tag_desk.proofs.lines.takes.Goals as goal

pub compare_exchange-requires : goal.compare_exchange-requires
compare_exchange-requires c =
    let shared = c.desk.inside.table.shared in
    let t = c.from-index.result - 1 in
    let n = c.args.ticket in
    let seat = c.args.seat.now in
    let view = work_in seat.me.0 in
    let table = ap (λ (d : MadeDesk). d.table) c.desk.view_is in
    let all = ap (λ (d : MadeDesk). d.tags * d.clients) c.desk.view_is in
    let from = c.from-index.ensures in
    let index : t ≡ c.args.tag - 1 = omega arith in
    let named : t + 1 ≡ c.args.tag = omega arith in
    let each = c.desk.invariant.6 in
    let old : seat.me ≡ (Work t view, []) = c.requires.pump ∙ ap (λ k. work_sat k view) (sym index) in
    let within : t < shared.key.all = omega arith in
    let here : slot_of shared.key.each (t + 1) ≡ task_slot shared.key.each =
    (λ i. slot_of (each i) (named i)) ∙ sym c.slot_of.ensures ∙ c.if-slot_of-task_slot.true ∙ c.task_slot.ensures ∙ ap task_slot (sym each) in (
      c.requires.table ∙ sym table,
      omega arith,
      subst (λ (me : Sat). Allows (IsDesk shared.key) shared.table_id.slots seat.id me t (λ k. either (k == (4 * n + 1)) (4 * n + 2) k) (TakesOne IsTask
          (step shared.table_id.slots t (4 * n + 1) (4 * n + 2) maybe.none) me)) (sym old)
          (take_allowed IsTask shared.key shared.table_id.slots t seat.id n view within (task_asked shared.key.each (t + 1) n here)),
    )

pub compare_exchange-requires-else-slot_of-task_slot : goal.compare_exchange-requires-else-slot_of-task_slot
compare_exchange-requires-else-slot_of-task_slot c =
    let shared = c.desk.inside.table.shared in
    let t = c.from-index.result - 1 in
    let n = c.args.ticket in
    let seat = c.args.seat.now in
    let view = work_in seat.me.0 in
    let table = ap (λ (d : MadeDesk). d.table) c.desk.view_is in
    let all = ap (λ (d : MadeDesk). d.tags * d.clients) c.desk.view_is in
    let from = c.from-index.ensures in
    let index : t ≡ c.args.tag - 1 = omega arith in
    let named : t + 1 ≡ c.args.tag = omega arith in
    let each = c.desk.invariant.6 in
    let old : seat.me ≡ (Work t view, []) = c.requires.pump ∙ ap (λ k. work_sat k view) (sym index) in
    let within : t < shared.key.all = omega arith in
    let other : slot_of shared.key.each (t + 1) ≢ task_slot shared.key.each =
    λ same. c.if-slot_of-task_slot.false (c.slot_of.ensures ∙ (λ i. slot_of (sym each i) (sym named i)) ∙ same ∙ ap task_slot each
    ∙ sym c.task_slot.ensures) in (
      c.requires.table ∙ sym table,
      omega arith,
      subst (λ (me : Sat). Allows (IsDesk shared.key) shared.table_id.slots seat.id me t (λ k. either (k == (4 * n + 1)) (4 * n + 2) k) (TakesOne IsCommand
          (step shared.table_id.slots t (4 * n + 1) (4 * n + 2) maybe.none) me)) (sym old)
          (take_allowed IsCommand shared.key shared.table_id.slots t seat.id n view within (command_asked shared.key.each (t + 1) n other)),
    )

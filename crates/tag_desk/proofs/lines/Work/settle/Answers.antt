use Rattle.std.proofs.Common.{◌≡◌, ◌*◌, ◌<◌, [], sym, ap, subst, ◌∙◌, arith, Some}
use mathlib.Core.Option as maybe
use Rattle.atomic_table.specs.Table.{Allows, Joins, step}
use Rattle.tag_desk.specs.declared.rule.ClientView.TheVariants.{Open}
use Rattle.tag_desk.specs.declared.rule.View.{View}
use Rattle.tag_desk.specs.declared.rule.View.TheVariants.{Work, Both, Spent}
use Rattle.tag_desk.specs.Rule.{IsDesk, Settles, Sat, work_in, united}
use Rattle.tag_desk.specs.Seats.{MadeDesk, WorkLine, work_sat}
use Rattle.tag_desk.proofs.Holding.{holds_one}
use Rattle.tag_desk.proofs.Steps.{settle_allowed}
use Rattle.tag_desk.proofs.Dealing.{unite_allowed}
use Rattle.tag_desk.proofs.lines.Work.settle.Goals as goal

pub join_seat-requires : goal.join_seat-requires
join_seat-requires c =
    let shared = c.desk.inside.table.shared in
    let t = c.args.index in
    let seat = c.args.seat in
    let other = c.self.inside.seat in
    let w = work_in other.me.0 in
    let table = ap (λ (d : MadeDesk). d.table) c.desk.view_is in
    let all = ap (λ (d : MadeDesk). d.tags * d.clients) c.desk.view_is in
    let index = ap (λ (l : WorkLine). l.index) c.self.view_is ∙ c.requires.index in
    let its : other.me ≡ (Work t w, []) = c.self.invariant.0 ∙ ap (λ k. work_sat k w) index in
    let mine = c.requires.client.2 in (
      c.requires.table.1 ∙ sym table,
      ap (λ (l : WorkLine). l.table) c.self.view_is ∙ c.requires.table.0 ∙ sym table,
      ap (λ (m : Sat). m.1) its,
      omega arith,
      subst (λ (p : View × View). Joins (IsDesk shared.key) seat.id p.0 other.id p.1 (united p.0 p.1) Spent) (λ i. ((sym mine i).0, (sym its i).0))
          (unite_allowed shared.key seat.id other.id t (Open c.args.ticket c.requires.client.0 c.requires.client.1) w),
    )

pub swap-found-requires : goal.swap-found-requires
swap-found-requires c =
    let shared = c.desk.inside.table.shared in
    let t = c.args.index in
    let seat = c.join_seat.new.seat in
    let other = c.self.inside.seat in
    let w = work_in other.me.0 in
    let x = c.requires.client.0 in
    let table = ap (λ (d : MadeDesk). d.table) c.desk.view_is in
    let all = ap (λ (d : MadeDesk). d.tags * d.clients) c.desk.view_is in
    let index = ap (λ (l : WorkLine). l.index) c.self.view_is ∙ c.requires.index in
    let its : other.me ≡ (Work t w, []) = c.self.invariant.0 ∙ ap (λ k. work_sat k w) index in
    let mine = c.requires.client.2 in
    let new : seat.me ≡ (Both t (Open c.args.ticket x c.requires.client.1) w, []) = c.join_seat.ensures.2 ∙ (λ i. (united (mine i).0 (its i).0, (mine i).1)) in
    let within : t < shared.key.all = omega arith in (
      c.join_seat.ensures.0 ∙ c.requires.table.1 ∙ sym table,
      omega arith,
      subst (λ (me : Sat). Allows (IsDesk shared.key) shared.table_id.slots seat.id me t (λ _. 0) (Settles
          (step shared.table_id.slots t 0 0 maybe.none) me)) (sym new)
          (settle_allowed shared.key shared.table_id.slots t seat.id c.args.ticket c.requires.client.1 x w within c.self.invariant.1),
    )

pub exchange-requires : goal.exchange-requires
exchange-requires c =
    let table = ap (λ (d : MadeDesk). d.table) c.desk.view_is in
    let told = c.swap-found.ensures.2 in (
      c.swap-found.ensures.0 ∙ c.join_seat.ensures.0 ∙ c.requires.table.1 ∙ sym table,
      holds_one c.swap-found.new.seat.me Spent c.args.index (Some told.0) told.2,
    )

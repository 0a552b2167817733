use Rattle.std.proofs.Common.{◌≡◌, ◌*◌, ◌<◌, [], sym, ap, subst, ◌∙◌, arith}
use mathlib.Core.Option as maybe
use Rattle.atomic_table.specs.Table.{Allows, Splits, step}
use Rattle.tag_desk.specs.declared.rule.ClientView.TheVariants.{Waiting, Free}
use Rattle.tag_desk.specs.declared.rule.WorkView.TheVariants.{Idle}
use Rattle.tag_desk.specs.declared.rule.View.{View}
use Rattle.tag_desk.specs.declared.rule.View.TheVariants.{Both}
use Rattle.tag_desk.specs.Rule.{IsDesk, Lifts, Sat, dealt_less, dealt, clients_part, pumps_part}
use Rattle.tag_desk.specs.Seats.{MadeDesk}
use Rattle.tag_desk.proofs.Steps.{lift_allowed}
use Rattle.tag_desk.proofs.Dealing.{deal_allowed, part_allowed}
use Rattle.tag_desk.proofs.lines.deal.Goals as goal

pub split_seat-seat-requires : goal.split_seat-seat-requires
split_seat-seat-requires c =
    let shared = c.desk.inside.table.shared in
    let dealer = c.args.dealer.now in
    let table = ap (λ (d : MadeDesk). d.table) c.desk.view_is in
    let all = ap (λ (d : MadeDesk). d.tags * d.clients) c.desk.view_is in (
      c.requires.table ∙ sym table,
      omega arith,
      subst (λ (v : View). Splits (IsDesk shared.key) dealer.id v (dealt_less v) (dealt v)) (sym c.requires.next)
          (deal_allowed shared.key dealer.id c.args.index),
    )

pub load-requires : goal.load-requires
load-requires c =
    let shared = c.desk.inside.table.shared in
    let t = c.args.index in
    let table = ap (λ (d : MadeDesk). d.table) c.desk.view_is in
    let all = ap (λ (d : MadeDesk). d.tags * d.clients) c.desk.view_is in
    let split = c.split_seat-seat in
    let seat = split.result in
    let me : seat.me ≡ (Both t Waiting (Idle []), []) = split.ensures.4 ∙ ap (λ (v : View). (dealt v, [])) c.requires.next in
    let within : t < shared.key.all = omega arith in (
      split.ensures.3 ∙ c.requires.table ∙ sym table,
      omega arith,
      subst (λ (m : Sat). Allows (IsDesk shared.key) shared.table_id.slots seat.id m t (λ k. k) (Lifts (step shared.table_id.slots t 0 0 maybe.none) m))
          (sym me) (lift_allowed shared.key shared.table_id.slots t seat.id within),
    )

pub split_seat-work-requires : goal.split_seat-work-requires
split_seat-work-requires c =
    let shared = c.desk.inside.table.shared in
    let t = c.args.index in
    let table = ap (λ (d : MadeDesk). d.table) c.desk.view_is in
    let all = ap (λ (d : MadeDesk). d.tags * d.clients) c.desk.view_is in
    let seat = c.load.new.seat in
    let view = ap (λ (m : Sat). m.0) c.load.ensures.2 in (
      c.load.ensures.0 ∙ c.split_seat-seat.ensures.3 ∙ c.requires.table ∙ sym table,
      omega arith,
      subst (λ (v : View). Splits (IsDesk shared.key) seat.id v (clients_part v) (pumps_part v)) (sym view) (part_allowed shared.key seat.id t (Free 0) (Idle [])),
    )

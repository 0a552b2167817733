use Rattle.std.proofs.Common.{◌≡◌, ◌+◌, ◌*◌, ◌<◌, ◌≤◌, [], ◌∷◌, sym, ap, subst, ◌∙◌, arith, Some}
use mathlib.Core.Option as maybe
use Rattle.atomic_table.specs.Table.{Allows, step, rest}
use Rattle.tag_desk.specs.declared.rule.ClientView.TheVariants.{Free}
use Rattle.tag_desk.specs.declared.rule.View.TheVariants.{Client}
use Rattle.tag_desk.specs.Slips.{IsAsk}
use Rattle.tag_desk.specs.Rule.{IsDesk, Posts, Sat}
use Rattle.tag_desk.specs.Seats.{MadeDesk, ClientLine, client_sat, next_ticket}
use Rattle.tag_desk.proofs.Steps.{post_allowed}
use Rattle.tag_desk.proofs.lines.Line.post.Goals as goal

pub swap-requires : goal.swap-requires
swap-requires c =
    let shared = c.desk.inside.table.shared in
    let t = c.args.index in
    let word = 4 * c.args.ticket + 1 in
    let last = c.requires.free.0 in
    let table = ap (λ (d : MadeDesk). d.table) c.desk.view_is in
    let all = ap (λ (d : MadeDesk). d.tags * d.clients) c.desk.view_is in
    let late : last ≤ c.args.ticket = subst (λ v. next_ticket v ≤ c.args.ticket) c.requires.free.1 c.requires.later in
    let view = ap (λ (l : ClientLine). l.view) c.self.view_is ∙ c.requires.free.1 in
    let index = ap (λ (l : ClientLine). l.index) c.self.view_is ∙ c.requires.index in
    let old : c.self.inside.seat.me ≡ client_sat t (Free last) = c.self.invariant.0 ∙ (λ i. client_sat (index i) (view i)) in
    let seat = c.exchange.new.seat in
    let new : seat.me ≡ (Client t (Free last), (t, Some c.args.slip) ∷ []) = c.exchange.ensures.3
    ∙ (λ i. ((old i).0, (t, Some c.args.slip) ∷ rest (old i).1)) in
    let each : c.args.desk.now.tags ≡ shared.key.each = sym (c.desk.invariant.6 ∙ ap (λ (d : MadeDesk). d.tags) c.desk.view_is) in
    let ask : IsAsk shared.key.each (t + 1) c.args.ticket c.args.slip = subst (λ n. IsAsk n (t + 1) c.args.ticket c.args.slip) each c.requires.ask in
    let within : t < shared.key.all = omega arith in (
      c.exchange.ensures.0 ∙ ap (λ (l : ClientLine). l.table) c.self.view_is ∙ c.requires.table ∙ sym table,
      omega arith,
      subst (λ (me : Sat). Allows (IsDesk shared.key) shared.table_id.slots seat.id me t (λ _. word) (Posts
          (step shared.table_id.slots t word 0 maybe.none) me)) (sym new)
          (post_allowed shared.key shared.table_id.slots t seat.id c.args.ticket last c.args.slip within late ask),
    )

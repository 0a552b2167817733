use Rattle.std.proofs.Common.{◌≡◌, ◌+◌, ◌*◌, ◌<◌, ◌==◌, sym, ap, subst, ◌∙◌, arith, Option, Some, None, MatchOption}
use mathlib.Core.Option as maybe
use prog.Atomic.{either}
use Rattle.atomic_table.specs.Table.{Allows, step}
use Rattle.tag_desk.specs.declared.Slip.{Slip}
use Rattle.tag_desk.specs.declared.rule.ClientView.TheVariants.{Free}
use Rattle.tag_desk.specs.declared.rule.View.TheVariants.{Client}
use Rattle.tag_desk.specs.Rule.{IsDesk, Looks, Sat, index_in, client_in, overlooked}
use Rattle.tag_desk.specs.Seats.{MadeDesk, ClientLine, Reaps}
use Rattle.tag_desk.specs.Slips.{IsEnd}
use Rattle.tag_desk.specs.contracts.lines.Line.{the_view}
use Rattle.tag_desk.proofs.Holding.{open_sat, looked, holds_one, read}
use Rattle.tag_desk.proofs.Steps.{look_allowed}
use Rattle.tag_desk.proofs.lines.Line.look.Goals as goal

pub compare_exchange-found-requires : goal.compare_exchange-found-requires
compare_exchange-found-requires c =
    let shared = c.desk.inside.table.shared in
    let t = c.args.index in
    let n = c.in_ok-ticket.ticket in
    let seat = c.self.inside.seat in
    let table = ap (λ (d : MadeDesk). d.table) c.desk.view_is in
    let all = ap (λ (d : MadeDesk). d.tags * d.clients) c.desk.view_is in
    let index = ap (λ (l : ClientLine). l.index) c.self.view_is ∙ c.requires.index in
    let old = open_sat seat.me c.self.inside.posted n t c.self.invariant.0 index c.self.invariant.1 c.in_ok-ticket.was in
    let within : t < shared.key.all = omega arith in (
      ap (λ (l : ClientLine). l.table) c.self.view_is ∙ c.requires.table ∙ sym table,
      omega arith,
      subst (λ (me : Sat). Allows (IsDesk shared.key) shared.table_id.slots seat.id me t (λ k. either (k == (4 * n + 3)) (4 * n) k) (Looks
          (step shared.table_id.slots t (4 * n + 3) (4 * n) maybe.none) me)) (sym old.3)
          (look_allowed shared.key shared.table_id.slots t seat.id n old.1 old.0 within),
    )

pub exchange-requires : goal.exchange-requires
exchange-requires c =
    let shared = c.desk.inside.table.shared in
    let t = c.args.index in
    let n = c.in_ok-ticket.ticket in
    let step = c.compare_exchange-found in
    let table = ap (λ (d : MadeDesk). d.table) c.desk.view_is in
    let won = looked shared.table_id.slots t n step.result c.self.inside.seat.me step.new.seat.me c.if-found-done.false step.ensures.2 in (
      step.ensures.0 ∙ ap (λ (l : ClientLine). l.table) c.self.view_is ∙ c.requires.table ∙ sym table,
      holds_one step.new.seat.me (Client t (Free (n + 1))) t (Some won.0) won.2,
    )

pub returns : goal.returns
returns c =
    let shared = c.desk.inside.table.shared in
    let t = c.args.index in
    let n = c.in_ok-ticket.ticket in
    let step = c.compare_exchange-found in
    let seat = c.self.inside.seat in
    let index = ap (λ (l : ClientLine). l.index) c.self.view_is ∙ c.requires.index in
    let old = open_sat seat.me c.self.inside.posted n t c.self.invariant.0 index c.self.invariant.1 c.in_ok-ticket.was in
    let won = looked shared.table_id.slots t n step.result seat.me step.new.seat.me c.if-found-done.false step.ensures.2 in
    let swap = c.exchange in
    let given : swap.result ≡ Some won.0 = read step.new.seat.me.1 t t (Some won.0) swap.result (ap (λ (m : Sat). m.1) won.2) swap.ensures.2 in
    let view : swap.new.seat.me.0 ≡ Client t (Free (n + 1)) = ap (λ (m : Sat). m.0) swap.ensures.3 ∙ ap (λ (m : Sat). m.0) won.2 in
    let table = swap.ensures.0 ∙ step.ensures.0 ∙ ap (λ (l : ClientLine). l.table) c.self.view_is in
    let line : the_view (record { seat = swap.new.seat; posted = None }) ≡ record {
      table = c.args.self.now.table;
      index = c.args.self.now.index;
      view =
          Free (n + 1);
    } =
    λ i. record { table = table i; index = (ap index_in view ∙ sym c.requires.index) i; view = client_in (view i) } in
    let reaped : Reaps c.args.self.now (the_view (record { seat = swap.new.seat; posted = None })) won.0 =
    (n, old.0, (old.1, sym (ap (λ (l : ClientLine). l.view) c.self.view_is) ∙ old.2), subst (λ k. IsEnd (k + 1) n won.0) (sym c.requires.index) won.1, line) in
    subst (λ (o : Option Slip). MatchOption o (the_view (record { seat = swap.new.seat; posted = None }) ≡ record c.args.self.now { view = overlooked 1 c.args.self.now.view })
    (λ slip. Reaps c.args.self.now (the_view (record { seat = swap.new.seat; posted = None })) slip)) (sym given) reaped

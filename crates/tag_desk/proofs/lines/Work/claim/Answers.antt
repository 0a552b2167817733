use Rattle.std.proofs.Common.{◌≡◌, ◌-◌, [], ◌∷◌, sym, ap, ◌∙◌, arith, Some}
use Rattle.tag_desk.specs.declared.rule.WorkView.TheVariants.{Claimed}
use Rattle.tag_desk.specs.declared.rule.View.TheVariants.{Work}
use Rattle.tag_desk.specs.Rule.{Sat, Took, work_in, index_in}
use Rattle.tag_desk.specs.Seats.{MadeDesk, WorkLine, work_sat}
use Rattle.tag_desk.proofs.Holding.{holds_one, told_true}
use Rattle.tag_desk.proofs.lines.Work.claim.Goals as goal

pub takes-requires-clause-pump : goal.takes-requires-clause-pump
takes-requires-clause-pump c =
    let seat = c.self.inside.seat in
    let line = ap (λ (l : WorkLine). l.index) c.self.view_is in
    let index : index_in seat.me.0 ≡ c.args.tag - 1 = let tag = c.requires.tag in omega arith in
    c.self.invariant.0 ∙ ap (λ k. work_sat k (work_in seat.me.0)) index

pub exchange-slip-requires : goal.exchange-slip-requires
exchange-slip-requires c =
    let t = c.args.tag - 1 in
    let n = c.args.ticket in
    let seat = c.takes.new.seat in
    let table = ap (λ (d : MadeDesk). d.table) c.desk.view_is in
    let same : c.from-index.result - 1 ≡ t = let e = c.from-index.ensures in omega arith in
    let won : Took c.args.desk.now.tags t (work_in c.self.inside.seat.me.0) n seat.me =
    told_true _ _ c.takes.result c.if-not-takes.false c.takes.ensures.took in (
      c.takes.ensures.table ∙ sym table,
      holds_one seat.me (Work t (Claimed n)) (c.from-index.result - 1) (Some won.0)
          (won.3 ∙ ap (λ k. let sat : Sat = (Work t (Claimed n), (k, Some won.0) ∷ []) in sat) (sym same)),
    )

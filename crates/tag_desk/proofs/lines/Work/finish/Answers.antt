use Rattle.std.proofs.Common.{◌≡◌, ℕ, ◌+◌, ◌-◌, ◌*◌, ◌<◌, [], ◌∷◌, sym, ap, subst, ◌∙◌, arith, Some}
use mathlib.Core.Option as maybe
use Rattle.atomic_table.specs.Table.{Allows, step, rest}
use Rattle.tag_desk.specs.declared.rule.WorkView.TheVariants.{Claimed}
use Rattle.tag_desk.specs.declared.rule.View.TheVariants.{Work}
use Rattle.tag_desk.specs.Rule.{IsDesk, Finishes, Sat}
use Rattle.tag_desk.specs.Slips.{IsEnd}
use Rattle.tag_desk.specs.Seats.{MadeDesk, HeldClaim, claim_sat}
use Rattle.tag_desk.proofs.Steps.{finish_allowed}
use Rattle.tag_desk.proofs.lines.Work.finish.Goals as goal

pub swap-requires : goal.swap-requires
swap-requires c =
    let shared = c.desk.inside.table.shared in
    let t = c.from-index.result - 1 in
    let n = c.claim.inside.ticket in
    let word = 4 * n + 3 in
    let table = ap (λ (d : MadeDesk). d.table) c.desk.view_is in
    let all = ap (λ (d : MadeDesk). d.tags * d.clients) c.desk.view_is in
    let tag = ap (λ (l : HeldClaim). l.tag) c.claim.view_is in
    let ticket = ap (λ (l : HeldClaim). l.ticket) c.claim.view_is in
    let from = c.from-index.ensures in
    let old : c.claim.inside.seat.me ≡ claim_sat t n = c.claim.invariant.0 ∙ ap (λ k. claim_sat k n) (let e = c.claim.invariant.1 in omega arith) in
    let seat = c.exchange.new.seat in
    let new : seat.me ≡ (Work t (Claimed n), (t, Some c.args.slip) ∷ []) = c.exchange.ensures.3
    ∙ (λ i. ((old i).0, (t, Some c.args.slip) ∷ rest (old i).1)) in
    let within : t < shared.key.all = omega arith in
    let same : t + 1 ≡ c.args.claim.tag = omega arith in (
      c.exchange.ensures.0 ∙ ap (λ (l : HeldClaim). l.table) c.claim.view_is ∙ c.requires.table ∙ sym table,
      omega arith,
      subst (λ (me : Sat). Allows (IsDesk shared.key) shared.table_id.slots seat.id me t (λ _. word) (Finishes
          (step shared.table_id.slots t word 0 maybe.none) me)) (sym new)
          (finish_allowed shared.key shared.table_id.slots t seat.id n c.args.slip within
          (subst (λ (p : ℕ × ℕ). IsEnd p.0 p.1 c.args.slip) (λ i. (sym same i, sym ticket i)) c.requires.end)),
    )

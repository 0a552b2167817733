use Rattle.std.proofs.Common.{◌≡◌, ◌-◌, ◌<◌, length, set, get_or, sym, ap, ◌∙◌, arith, Some, None}
use Rattle.std.proofs.lemmas.List.{set-set}
use Rattle.tag_desk.specs.Seats.{Server, missed_line, missing}
use Rattle.tag_desk.proofs.Seating.{set_missed}
use Rattle.tag_desk.proofs.Desk.claim.Goals as goal

pub returns-in-Err-clause-claim : goal.returns-in-Err-clause-claim
returns-in-Err-clause-claim c =
    let seat = c.seat.inside in
    let lines = seat.lines.items in
    let k = c.from-index.result - 1 in
    let had = c.index_mut.result.now in
    let count = ap (λ (s : Server). length s.lines) c.seat.view_is in
    let own = c.requires.own.0 in
    let high = c.requires.served.1 in
    let low = c.requires.served.0 in
    let from = c.from-index.ensures in
    let place : k ≡ c.args.tag - 1 = omega arith in
    let within : k < length lines = omega arith in
    let noted = ap Some c.in-Err.ensures.claim ∙ ap (missed_line c.args.ticket) (sym c.in_ok-work.was ∙ c.take.ensures.value) in
    let all = set-set lines k c.take.new.self (Some c.in-Err.work) ∙ set_missed lines k c.args.ticket had (Some c.in-Err.work) within c.index_mut.ensures.value noted
    ∙ ap (λ j. set lines j (missed_line c.args.ticket (get_or lines j None))) place in
    (λ i. record { pump = seat.pump; lines = all i }) ∙ ap (λ (s : Server). missing s c.args.tag c.args.ticket) c.seat.view_is

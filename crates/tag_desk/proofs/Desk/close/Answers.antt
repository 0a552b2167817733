use Rattle.std.proofs.Common.{◌≡◌, ◌<◌, sym, ap, subst, ◌∙◌, arith}
use Rattle.tag_desk.specs.declared.remains.Left.{Left}
use Rattle.tag_desk.specs.Seats.{MadeDesk}
use Rattle.tag_desk.specs.Left.{seat_of, left_of}
use Rattle.tag_desk.specs.History.{KeepsTickets}
use Rattle.tag_desk.proofs.Keeping.{keeps}
use Rattle.tag_desk.proofs.Desk.close.Goals as goal

pub returns-in-Ok-clause-kept : goal.returns-in-Ok-clause-kept
returns-in-Ok-clause-kept c =
    λ n below.
    let desk = c.args.self in
    let clients = c.args.seats.clients.items in
    let pumps = c.args.seats.pumps.items in
    let left : c.into_left.result ≡ left_of desk clients pumps = c.into_left.ensures ∙ c.settle_all.ensures in
    let one : c.self.inside.pumps ≡ desk.pumps = ap (λ (d : MadeDesk). d.pumps) c.self.view_is in
    let some : 0 < desk.pumps = let made = c.self.invariant in omega arith in
    let number : c.self.inside.tags ≡ desk.tags = ap (λ (d : MadeDesk). d.tags) c.self.view_is in
    let many : 0 < desk.tags = let least = c.self.invariant.7.least in omega arith in
    subst (λ (l : Left). KeepsTickets desk.table (seat_of clients n) l) (sym left) (keeps desk clients pumps some many c.requires.clients c.requires.pumps n below)

use Rattle.std.proofs.Common.{sym, subst, rules}
use Rattle.tag_desk.specs.Seats.{IsPumpOf}
use Rattle.tag_desk.proofs.Seating.{own_finishing}
use Rattle.tag_desk.proofs.Desk.finish.Goals as goal

pub returns-clause-seat : goal.returns-clause-seat
returns-clause-seat c = search rules

pub returns-clause-own : goal.returns-clause-own
returns-clause-own c =
    subst (IsPumpOf c.args.self.now) (sym (returns-clause-seat c))
    (own_finishing c.args.self.now c.args.seat.now c.args.claim c.args.slip c.requires.own c.requires.same c.requires.end)

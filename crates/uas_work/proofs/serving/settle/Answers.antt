use Rattle.std.proofs.Common.{sym, subst}
use Rattle.tag_desk.specs.Seats.{Server}
use Rattle.uas_work.specs.Held.{AreHeldBy}
use Rattle.uas_work.proofs.Holding.{held_ended}
use Rattle.uas_work.proofs.serving.settle.Goals as goal

pub returns-in-Some-clause-held : goal.returns-in-Some-clause-held
returns-in-Some-clause-held c =
    subst (λ (seat : Server). AreHeldBy c.args.desk.now seat c.args.held.now) (sym c.finish.ensures.seat)
    (held_ended c.args.desk.now c.args.seat.now c.args.held.now c.args.claim _ c.requires.free c.requires.held)

use Rattle.std.proofs.Common.{sym, ap, subst, ◌∙◌}
use Rattle.shared_machine.specs.declared.Outcome.{Outcome}
use Rattle.tag_desk.specs.declared.Slip.TheVariants.{Unserved}
use Rattle.tag_desk.specs.Seats.{Server, finishing}
use Rattle.uas_work.specs.Booked.{BookedState}
use Rattle.uas_work.specs.Held.{AreHeldBy, AreUnserved}
use Rattle.uas_work.specs.Pumps.{brought, submitted}
use Rattle.uas_work.proofs.Holding.{held_ended}
use Rattle.uas_work.proofs.serving.submit.Goals as goal

pub give_back-requires-clause-held : goal.give_back-requires-clause-held
give_back-requires-clause-held c =
    subst (λ (seat : Server). AreHeldBy c.args.desk.now seat c.args.held.now) (sym c.finish.ensures.seat)
    (held_ended c.args.desk.now c.args.seat.now c.args.held.now c.args.claim _ c.requires.free c.requires.held)

pub returns-in-Ok-clause-pump : goal.returns-in-Ok-clause-pump
returns-in-Ok-clause-pump c =
    c.settle.ensures.pump
    ∙ ap (λ (came : BookedState × Outcome). submitted came.1.refused c.args.claim (record { seat = c.args.seat.now; held = c.args.held.now }))
    (sym c.in-Ok.ensures.booked)

pub returns-in-Err-clause-gave_up : goal.returns-in-Err-clause-gave_up
returns-in-Err-clause-gave_up c =
    let buffer = c.buffer_of-buffer.ensures ∙ ap brought c.in-Err.ensures.back in
    record {
      ends =
          subst (λ (seat : Server). AreUnserved seat c.args.held.now c.give_back.new.seat)
          (c.finish.ensures.seat ∙ (λ i. finishing c.args.seat.now c.args.claim (Unserved (c.ticket-ticket.ensures i) (buffer i))))
          c.give_back.ensures.ends;
      none = c.give_back.ensures.none;
    }

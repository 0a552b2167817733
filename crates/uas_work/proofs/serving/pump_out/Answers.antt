use Rattle.std.proofs.Common.{sym, ap, ◌∙◌}
use Rattle.shared_machine.specs.declared.Step.TheVariants.{Take}
use Rattle.shared_machine.specs.declared.Outcome.{Outcome}
use Rattle.shared_machine.proofs.Due.{shared_step-acted}
use Rattle.uas_work.specs.Booked.{BookedState}
use Rattle.uas_work.specs.Held.{answered}
use Rattle.uas_work.proofs.serving.pump_out.Goals as goal

pub returns-in-Ok-clause-took : goal.returns-in-Ok-clause-took
returns-in-Ok-clause-took c =
    ap (λ (came : BookedState × Outcome). came.1.acted) (sym c.in-Ok.ensures.booked) ∙ shared_step-acted c.args.booked.now.bus (Take c.args.client)

pub returns-in-Ok-clause-answered : goal.returns-in-Ok-clause-answered
returns-in-Ok-clause-answered c =
    c.bring_home.ensures.pump
    ∙ ap (λ (came : BookedState × Outcome). answered came.1.reply (record { seat = c.args.seat.now; held = c.args.held.now })) (sym c.in-Ok.ensures.booked)

pub returns-in-Err-clause-gave_up : goal.returns-in-Err-clause-gave_up
returns-in-Err-clause-gave_up c = record { ends = c.give_back.ensures.ends; none = c.give_back.ensures.none }

use Rattle.uas_tasks.specs.Machine.{out_of_number}
use Rattle.guest_tasks.proofs.Calls.{answered_keeps, received_keeps, rested_keeps}
use Rattle.guest_tasks.proofs.tasks_stay_active.Goals as goal

pub returns-clause-received : goal.returns-clause-received
returns-clause-received c = received_keeps

pub returns-clause-rested : goal.returns-clause-rested
returns-clause-rested c = rested_keeps

pub returns-clause-answered : goal.returns-clause-answered
returns-clause-answered c = λ device number outcome bytes active.
    answered_keeps device _ outcome bytes (out_of_number device.tasks number) active

use Rattle.usb_serve.proofs.Reports.{not_done, statuses}
use Rattle.usb_serve.proofs.session.run_usb.Goals as goal

pub returns-in-Err-clause-statuses : goal.returns-in-Err-clause-statuses
returns-in-Err-clause-statuses g c = statuses c.tell.result c.in-Err.fault c.tell.ensures.status

pub returns-in-Err-clause-ended : goal.returns-in-Err-clause-ended
returns-in-Err-clause-ended g c = λ done. absurd (not_done c.tell.result c.in-Err.fault c.tell.ensures.status done)

pub returns-in-Err-clause-quiet : goal.returns-in-Err-clause-quiet
returns-in-Err-clause-quiet g c = λ done. absurd (not_done c.tell.result c.in-Err.fault c.tell.ensures.status done)

pub returns-in-Err-clause-safe : goal.returns-in-Err-clause-safe
returns-in-Err-clause-safe g c = λ done. absurd (not_done c.tell.result c.in-Err.fault c.tell.ensures.status done)

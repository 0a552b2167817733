-- The outcome of each step that acts.
use Rattle.bus_core.proofs.common.OutcomeMarks.{carry-marked, move-marked, send-marked, event-marked, engine-marked, retire-marked}
use Rattle.bus_core.proofs.world_due.steps_are_marked.Goals as goal

pub returns-clause-command : goal.returns-clause-command
returns-clause-command c = carry-marked

pub returns-clause-data : goal.returns-clause-data
returns-clause-data c = move-marked

pub returns-clause-status : goal.returns-clause-status
returns-clause-status c = send-marked

pub returns-clause-event : goal.returns-clause-event
returns-clause-event c = event-marked

pub returns-clause-engine : goal.returns-clause-engine
returns-clause-engine c = engine-marked

pub returns-clause-retire : goal.returns-clause-retire
returns-clause-retire c = retire-marked

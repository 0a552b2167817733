-- What waits is waited for.
use Rattle.machine_invariant.proofs.MatchedNext.{matched-no_stray, matched-carries, matched-sees, matched-no_data_event, matched-no_status_event}
use Rattle.machine_invariant.proofs.queue_laws.none_is_stray.Goals as goal

pub returns-clause-stray : goal.returns-clause-stray
returns-clause-stray c = matched-no_stray

pub returns-clause-carried : goal.returns-clause-carried
returns-clause-carried c = matched-carries

pub returns-clause-seen : goal.returns-clause-seen
returns-clause-seen c = matched-sees

pub returns-clause-data_once : goal.returns-clause-data_once
returns-clause-data_once c = matched-no_data_event

pub returns-clause-status_once : goal.returns-clause-status_once
returns-clause-status_once c = matched-no_status_event

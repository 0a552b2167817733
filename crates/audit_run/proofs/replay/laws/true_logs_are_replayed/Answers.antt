use Rattle.audit_run.proofs.TrueLogs.{true_log-replayed, true_log-replays}
use Rattle.audit_run.proofs.replay.laws.true_logs_are_replayed.Goals as goal

pub returns : goal.returns
returns c = λ log result it is. true_log-replayed log result (true_log-replays log it) is

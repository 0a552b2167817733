use Rattle.audit_run.proofs.TrueLogs.{true_log-replays}
use Rattle.audit_run.proofs.replay.laws.true_logs_replay.Goals as goal

pub returns : goal.returns
returns c = true_log-replays

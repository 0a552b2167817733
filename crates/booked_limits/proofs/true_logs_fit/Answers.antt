-- The laws of true logs.
use Rattle.booked_limits.proofs.FineLogs.{fitting-logs-save, true-logs-fit}
use Rattle.booked_limits.proofs.true_logs_fit.Goals as goal

pub returns-clause-fit : goal.returns-clause-fit
returns-clause-fit c = true-logs-fit

pub returns-clause-save : goal.returns-clause-save
returns-clause-save c = fitting-logs-save

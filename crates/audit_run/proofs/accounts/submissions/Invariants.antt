use Rattle.std.proofs.Common.{◌≡◌, take}
use Rattle.log_audit.specs.Audit.{submissions_of}
use Rattle.audit_run.proofs.accounts.submissions.Given as goal

abbrev pub invariant-loop-step : goal.invariant-loop-step
invariant-loop-step l = l.sent.items ≡ submissions_of l.client (take l.step-index l.steps)

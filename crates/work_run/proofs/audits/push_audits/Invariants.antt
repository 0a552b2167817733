use Rattle.std.proofs.Common.{◌≡◌, ◌++◌}
use Rattle.work_run.specs.Audits.{audit_lines}
use Rattle.work_run.proofs.audits.push_audits.Given as goal

abbrev pub invariant-loop-client : goal.invariant-loop-client
invariant-loop-client l = l.text.items ≡ l.fn.text.items ++ audit_lines l.client l.audits

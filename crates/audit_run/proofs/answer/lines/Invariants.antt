use Rattle.std.proofs.Common.{◌≡◌}
use Rattle.audit_run.specs.Audits.{audit_lines}
use Rattle.audit_run.proofs.answer.lines.Given as goal

abbrev pub invariant-loop-client : goal.invariant-loop-client
invariant-loop-client l = record { text : l.text.items ≡ audit_lines l.log l.client }

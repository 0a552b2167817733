use Rattle.std.proofs.Common.{◌≡◌, ◌≤◌, filter, length, take}
use Rattle.log_audit.specs.Audit.{is_asked_by}
use Rattle.log_audit.proofs.audits.are_first.Given as goal

abbrev pub invariant-loop-step : goal.invariant-loop-step
invariant-loop-step l = record {
  within : l.next ≤ length l.sent;
  is : filter (is_asked_by l.client) (take l.step-index l.steps) ≡ take l.next l.sent;
}

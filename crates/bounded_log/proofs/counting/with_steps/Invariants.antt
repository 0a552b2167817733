use Rattle.std.proofs.Common.{◌≡◌, ◌≤◌, sum_by, take}
use Rattle.bounded_log.specs.Bytes.{step_bytes}
use Rattle.bounded_log.proofs.counting.with_steps.Given as goal

abbrev pub invariant-loop-step : goal.invariant-loop-step
invariant-loop-step l = record { counted : l.bytes ≡ sum_by step_bytes (take l.step-index l.steps); within : l.bytes ≤ l.limit }

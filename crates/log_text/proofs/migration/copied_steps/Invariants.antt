use Rattle.std.proofs.Common.{◌≡◌, take}
use Rattle.log_text.proofs.migration.copied_steps.Given as goal

abbrev pub invariant-loop-step : goal.invariant-loop-step
invariant-loop-step l = l.copies.items ≡ take l.step-index l.steps

use Rattle.std.proofs.Common.{◌≡◌, map, take}
use Rattle.log_text.specs.Migration.{moved_step}
use Rattle.log_text.proofs.migration.moved_steps.Given as goal

abbrev pub invariant-loop-step : goal.invariant-loop-step
invariant-loop-step l = l.moved.items ≡ map (moved_step l.clients) (take l.step-index l.steps)

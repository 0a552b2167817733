use Rattle.std.proofs.Common.{◌≡◌, length, take, ◌≤◌}
use Rattle.log_text.specs.Kept.{kept}
use Rattle.log_text.proofs.saving.kept_count.Given as goal

abbrev pub invariant-loop-at : goal.invariant-loop-at
invariant-loop-at l = (l.count ≡ length (kept (take l.at l.steps) (take l.at l.refusals))) × (l.count ≤ l.at)

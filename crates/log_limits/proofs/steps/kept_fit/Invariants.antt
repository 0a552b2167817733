use Rattle.std.proofs.Common.{◌↔◌, drop}
use Rattle.std.specs.List.{AllByRecursion}
use Rattle.log_text.specs.Kept.{kept}
use Rattle.log_text.specs.Text.{StepFits}
use Rattle.log_limits.proofs.steps.kept_fit.Given as goal

abbrev pub invariant-loop-at : goal.invariant-loop-at
invariant-loop-at l =
    AllByRecursion (StepFits l.version l.clients) (kept l.steps l.refusals)
    ↔ AllByRecursion (StepFits l.version l.clients) (kept (drop l.at l.steps) (drop l.at l.refusals))

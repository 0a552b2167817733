use Rattle.std.proofs.Common.{ℕ, ◌<◌}
use Rattle.std.specs.Prelude.{slice_index_or}
use Rattle.shared_machine.specs.declared.Step.{Step}
use Rattle.booked_limits.specs.Fitting.{HasFields}
use Rattle.booked_limits.proofs.fields.have_fields.Given as goal

abbrev pub invariant-loop-step : goal.invariant-loop-step
invariant-loop-step l = (k : ℕ) (d : Step) → k < l.step-index → HasFields (slice_index_or l.steps k d)

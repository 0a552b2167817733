use Rattle.std.proofs.Common.{◌≡◌, ℕ, ◌<◌, Some}
use Rattle.std.specs.Prelude.{slice_get}
use Rattle.shared_machine.specs.Part.{Part}
use Rattle.booked_limits.specs.Fitting.{IsUnit}
use Rattle.booked_limits.proofs.booked.are_units.Given as goal

abbrev pub invariant-loop-client : goal.invariant-loop-client
invariant-loop-client l = (k : ℕ) (part : Part) → k < l.client → slice_get l.bus.parts k ≡ Some part → IsUnit part.unit

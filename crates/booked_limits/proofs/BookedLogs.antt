-- The log of a bus that is what its log's replay comes to.
use Rattle.std.proofs.Common.{◌≡◌, ℕ, ◌+◌, ◌<◌, List, Option, Some, IfSome, inl, inr, arith, ap, sym, subst, ◌∙◌}
use Rattle.std.specs.Prelude.{slice_get}
use Rattle.std.specs.List.{AllByRecursion}
use Rattle.std.proofs.lemmas.Bool.{cases_lt}
use Rattle.block_unit.specs.BlockMaps.{BlockMaps}
use Rattle.shared_machine.specs.Part.{Part}
use Rattle.shared_machine.specs.Shared.{Shared}
use Rattle.uas_log.specs.Booking.{log_replay}
use Rattle.uas_work.specs.Booked.{BookedState, IsBooked}
use Rattle.log_text.specs.Kept.{FitsText}
use Rattle.booked_limits.specs.Fitting.{AreUnits, HasFields, IsUnit}
use Rattle.booked_limits.proofs.FirstUnits.{first-units-fit}
use Rattle.booked_limits.proofs.FineLogs.{log-fine, log-parts, true-logs-fit}

pub booked-fits : (booked : BookedState) → IsBooked booked → AllByRecursion HasFields booked.log.steps → AreUnits booked.bus.parts → FitsText booked.log
booked-fits booked it fields units =
    let left : AreUnits (log_replay booked.log).0.parts = subst (λ (state : Shared). AreUnits state.parts) (sym it.bus) units in
    true-logs-fit booked.log it.log (omega (arith, it.within, it.limit))
    (first-units-fit booked.log.units (log_replay booked.log).0.parts (log-parts booked.log) (log-fine booked.log it.log fields) left) fields

-- one client's unit more
pub units-more : (parts : List Part) (client : ℕ) (unit : BlockMaps)
    → ((k : ℕ) (part : Part) → k < client → slice_get parts k ≡ Some part → IsUnit part.unit)
    → IfSome (slice_get parts client) (λ part. unit ≡ part.unit) → IsUnit unit
    → (k : ℕ) (part : Part) → k < client + 1 → slice_get parts k ≡ Some part → IsUnit part.unit
units-more parts client unit before told is k part within there =
    elim (cases_lt k client) [
      | inl below ↦ before k part below there
      | inr from ↦
          let here : slice_get parts client ≡ Some part = ap (slice_get parts) (omega (arith, within, from)) ∙ there in
          let same : unit ≡ part.unit = subst (λ (found : Option Part). IfSome found (λ p. unit ≡ p.unit)) here told in
          subst (λ (u : BlockMaps). IsUnit u) same is
    ]

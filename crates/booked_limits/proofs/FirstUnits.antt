-- The first units of a log fit its text, where the units that its replay leaves are units. Cited by BookedLogs.
use Rattle.std.proofs.Common.{◌≡◌, ℕ, zero, suc, ◌+◌, ◌<◌, List, [], ◌∷◌, map, length, Some, None, All, refl, arith, ap, sym, subst, ◌∙◌}
use Rattle.std.specs.Prelude.{slice_get}
use Rattle.std.specs.List.{AllByRecursion}
use Rattle.std.proofs.lemmas.Option.{none-some, same_Some}
use Rattle.block_unit.specs.BlockMaps.{BlockMaps, block_count}
use Rattle.block_unit.proofs.Rising.{RisesFrom, RisesFrom-increasing, RisesFrom-weaker}
use Rattle.shared_machine.specs.Part.{Part}
use Rattle.shared_machine.proofs.Standing.{get-none, get-within}
use Rattle.uas_log.specs.declared.FirstUnit.{FirstUnit}
use Rattle.uas_log.specs.Booking.{first_maps}
use Rattle.log_text.specs.Text.{AreRising, UnitFits}
use Rattle.booked_limits.specs.Fitting.{AreUnits, IsUnit}
use Rattle.booked_limits.proofs.FineParts.{IsFinePart}
use Rattle.booked_limits.proofs.FineSteps.{AreFine}

-- numbers that rise, all below a limit
rises-below : (least limit : ℕ) (numbers : List ℕ) → RisesFrom least numbers → All (λ number. number < limit) numbers → AreRising least limit numbers
rises-below least limit [] rises all = tt
rises-below least limit (number ∷ rest) rises all = (
  rises.0,
  all zero number (omega arith),
  rises-below (number + 1) limit rest (RisesFrom-weaker (number + 1) (suc number) rest (omega arith) rises.1)
      (λ k d within. all (suc k) d (omega (arith, within))),
)

-- a unit that kept its size and its bad blocks was one at first
kept-fits : (first : FirstUnit) (part : Part) → IsFinePart (first_maps first) part → IsUnit part.unit → UnitFits first
kept-fits first part fine unit =
    let count : part.unit.count ≡ block_count first.blocks = fine.unit_same.count in
    let long : length part.unit.blocks ≡ length first.blocks = fine.unit_same.long in
    let bad : part.unit.bad ≡ first.bad = fine.unit_same.bad in
    let below : All (λ number. number < part.unit.count) first.bad =
    subst (λ (numbers : List ℕ). All (λ number. number < part.unit.count) numbers) bad unit.below in
    record {
      some = omega (arith, unit.some, count);
      most = omega (arith, unit.most, count);
      whole = omega (arith, unit.whole, count, long);
      rising = rises-below 0 (block_count first.blocks) first.bad
          (subst (λ (numbers : List ℕ). RisesFrom 0 numbers) bad (RisesFrom-increasing 0 part.unit.bad unit.rising (λ some. omega arith)))
          (subst (λ limit. All (λ number. number < limit) first.bad) count below);
    }

mapped-get : (firsts : List FirstUnit) (k : ℕ) (first : FirstUnit) → slice_get firsts k ≡ Some first → slice_get (map first_maps firsts) k ≡ Some (first_maps first)
mapped-get [] k first is = absurd (none-some first is)
mapped-get (one ∷ rest) zero first is = ap (λ (f : FirstUnit). Some (first_maps f)) (same_Some one first is)
mapped-get (one ∷ rest) (suc k) first is = mapped-get rest k first is

all-from_get : (firsts : List FirstUnit) → ((k : ℕ) (first : FirstUnit) → slice_get firsts k ≡ Some first → UnitFits first) → AllByRecursion UnitFits firsts
all-from_get [] each = tt
all-from_get (first ∷ rest) each = (each zero first refl, all-from_get rest (λ k one is. each (suc k) one is))

first-fits : (firsts : List FirstUnit) (parts : List Part) → length parts ≡ length firsts → AreFine (map first_maps firsts) parts → AreUnits parts
    → (k : ℕ) (first : FirstUnit) → slice_get firsts k ≡ Some first → UnitFits first
first-fits firsts parts many fine units k first is =
    elim (slice_get parts k) as (λ found. slice_get parts k ≡ found → UnitFits first) [
      | None ↦ λ none. absurd (omega (arith, get-none parts k none, get-within firsts k first is, many))
      | Some part ↦ λ there.
          let it = fine k part there in
          let same : it.first ≡ first_maps first = same_Some it.first (first_maps first) (sym it.at ∙ mapped-get firsts k first is) in
          kept-fits first part (subst (λ (unit : BlockMaps). IsFinePart unit part) same it.fine) (units k part there)
    ] refl

pub first-units-fit : (firsts : List FirstUnit) (parts : List Part) → length parts ≡ length firsts → AreFine (map first_maps firsts) parts → AreUnits parts
    → AllByRecursion UnitFits firsts
first-units-fit firsts parts many fine units = all-from_get firsts (first-fits firsts parts many fine units)

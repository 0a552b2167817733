-- The form of a failure is exact.
use Rattle.std.proofs.Common.{◌≡◌, ℕ, zero, suc, ◌<◌, refl, sym, ap, arith}
use Rattle.host_sense.specs.declared.Detail.{Detail}
use Rattle.host_sense.specs.declared.FieldPlace.{FieldPlace}
use Rattle.uas_tasks.specs.declared.Failure.{Failure}
use Rattle.machine_bytes.specs.Exact.{IsExact}
use Rattle.machine_bytes.specs.Forms.{named, nothing, number}
use Rattle.machine_bytes.proofs.Exact.{mapped-exact, nothing-exact, number-exact, optional-exact, pair-exact, tagged-exact}
use Rattle.device_bytes.specs.Failures.{data_of, detail_form, detail_number, detail_part, failure_form, failure_number, failure_part, field_form, field_of, field_place_at, field_place_number, information_of}
use Rattle.device_bytes.specs.Failures.{pointer_of, sense_data_form, sense_form, sensed_of, told_of}

pub sense-exact : IsExact sense_form
sense-exact = mapped-exact _ _ _ (pair-exact _ _ (number-exact 1) (pair-exact _ _ (number-exact 1) (number-exact 1))) (λ sense has. refl)

place-exact : IsExact (named 2 field_place_number field_place_at)
place-exact = tagged-exact 2 field_place_number (λ k. nothing (field_place_at k)) part kinds
  where
    part : (k : ℕ) → k < 2 → IsExact (nothing (field_place_at k))
    part k few = nothing-exact _

    kinds : (k : ℕ) → k < 2 → (x : FieldPlace) → (nothing (field_place_at k)).Has x → field_place_number x ≡ k
    kinds zero few x has = ap field_place_number has
    kinds (suc zero) few x has = ap field_place_number has
    kinds (suc (suc k)) few x has = absurd (omega (arith, few))

field-exact : IsExact field_form
field-exact =
    mapped-exact _ _ _ (pair-exact _ _ place-exact (pair-exact _ _ (number-exact 2) (optional-exact (number 1) (number-exact 1)))) (λ pointer has. refl)

pub detail-exact : IsExact detail_form
detail-exact = tagged-exact 3 detail_number detail_part part kinds
  where
    part : (k : ℕ) → k < 3 → IsExact (detail_part k)
    part zero few = nothing-exact _
    part (suc zero) few = mapped-exact information_of told_of (number 8) (number-exact 8) (λ value has. refl)
    part (suc (suc k)) few = mapped-exact field_of pointer_of field_form field-exact (λ pointer has. refl)

    kinds : (k : ℕ) → k < 3 → (x : Detail) → (detail_part k).Has x → detail_number x ≡ k
    kinds zero few x has = ap detail_number has
    kinds (suc zero) few x has = ap detail_number (sym has.1)
    kinds (suc (suc zero)) few x has = ap detail_number (sym has.1)
    kinds (suc (suc (suc k))) few x has = absurd (omega (arith, few))

sense-data-exact : IsExact sense_data_form
sense-data-exact = mapped-exact _ _ _ (pair-exact _ _ sense-exact detail-exact) (λ sense has. refl)

pub failure-exact : IsExact failure_form
failure-exact = tagged-exact 2 failure_number failure_part part kinds
  where
    part : (k : ℕ) → k < 2 → IsExact (failure_part k)
    part zero few = mapped-exact sensed_of data_of sense_data_form sense-data-exact (λ sense has. refl)
    part (suc k) few = nothing-exact _

    kinds : (k : ℕ) → k < 2 → (x : Failure) → (failure_part k).Has x → failure_number x ≡ k
    kinds zero few x has = ap failure_number (sym has.1)
    kinds (suc zero) few x has = ap failure_number has
    kinds (suc (suc k)) few x has = absurd (omega (arith, few))

-- The form of Bulk-Only Transport is exact.
use Rattle.std.proofs.Common.{◌≡◌, ℕ, zero, suc, ◌<◌, refl, sym, ap, arith}
use Rattle.bulk_only.specs.declared.cases.Done.{Done}
use Rattle.bulk_only.specs.Status.{status_byte}
use Rattle.guest_bulk.specs.declared.bulk.BulkStage.{BulkStage}
use Rattle.machine_bytes.specs.Exact.{IsExact}
use Rattle.machine_bytes.proofs.Exact.{counted-exact, flag-exact, mapped-exact, named-exact, nothing-exact, number-exact, optional-exact, pair-exact, tagged-exact}
use Rattle.controller_bytes.specs.Bulk.{bulk_form, command_form, csw_status_at, done_form, done_number, done_part, stage_form, stage_number, stage_part, told_form}

done-exact : IsExact done_form
done-exact = tagged-exact 3 done_number done_part part kinds
  where
    part : (k : ℕ) → k < 3 → IsExact (done_part k)
    part zero few = nothing-exact _
    part (suc zero) few = mapped-exact _ _ _ (number-exact 8) (λ d has. refl)
    part (suc (suc k)) few = mapped-exact _ _ _ (pair-exact _ _ (number-exact 8) (number-exact 8)) (λ d has. refl)

    kinds : (k : ℕ) → k < 3 → (x : Done) → (done_part k).Has x → done_number x ≡ k
    kinds zero few x has = ap done_number has
    kinds (suc zero) few x has = ap done_number (sym has.1)
    kinds (suc (suc zero)) few x has = ap done_number (sym has.1)
    kinds (suc (suc (suc k))) few x has = absurd (omega (arith, few))

command-exact : IsExact command_form
command-exact =
    mapped-exact _ _ _ (pair-exact _ _ (number-exact 4) (pair-exact _ _ (number-exact 4) (pair-exact _ _ flag-exact (pair-exact _ _ (number-exact 1)
    (pair-exact _ _ (number-exact 4) (pair-exact _ _ done-exact flag-exact)))))) (λ c has. refl)

told-exact : IsExact told_form
told-exact =
    mapped-exact _ _ _ (pair-exact _ _ (number-exact 4) (pair-exact _ _ (number-exact 4) (pair-exact _ _ (named-exact 3 status_byte csw_status_at same) (number-exact 8))))
    (λ c has. refl)
  where
    same : (k : ℕ) → k < 3 → status_byte (csw_status_at k) ≡ k
    same zero few = refl
    same (suc zero) few = refl
    same (suc (suc zero)) few = refl
    same (suc (suc (suc k))) few = absurd (omega (arith, few))

stage-exact : IsExact stage_form
stage-exact = tagged-exact 4 stage_number stage_part part kinds
  where
    part : (k : ℕ) → k < 4 → IsExact (stage_part k)
    part zero few = nothing-exact _
    part (suc zero) few = nothing-exact _
    part (suc (suc zero)) few = mapped-exact _ _ _ command-exact (λ c has. refl)
    part (suc (suc (suc k))) few = mapped-exact _ _ _ told-exact (λ c has. refl)

    kinds : (k : ℕ) → k < 4 → (x : BulkStage) → (stage_part k).Has x → stage_number x ≡ k
    kinds zero few x has = ap stage_number has
    kinds (suc zero) few x has = ap stage_number has
    kinds (suc (suc zero)) few x has = ap stage_number (sym has.1)
    kinds (suc (suc (suc zero))) few x has = ap stage_number (sym has.1)
    kinds (suc (suc (suc (suc k)))) few x has = absurd (omega (arith, few))

pub bulk-exact : IsExact bulk_form
bulk-exact =
    mapped-exact _ _ _ (pair-exact _ _ stage-exact (pair-exact _ _ (counted-exact 2 4096) (pair-exact _ _ (counted-exact 2 4096)
    (pair-exact _ _ flag-exact (optional-exact _ (mapped-exact _ _ _ (pair-exact _ _ (number-exact 1) (counted-exact 1 112)) (λ k has. refl))))))) (λ b has. refl)

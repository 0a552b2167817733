-- What a verdict says of its case.
use Rattle.std.proofs.Common.{◌≡◌, ◌≢◌, ℕ, ◌+◌, ◌↔◌, Bool, true, false, arith}
use Rattle.std.proofs.lemmas.Bool.Decides.{nat_tests}
use Rattle.bulk_only.specs.declared.cases.Done.{Done}
use Rattle.bulk_only.specs.declared.cases.Done.TheVariants as device
use Rattle.bulk_only.specs.declared.status.CswStatus.TheVariants.{PhaseError}
use Rattle.bulk_only.specs.Cases.{case_of, moved, number_of, verdict_of}
use Rattle.bulk_only.specs.Laws.{is_expected, is_of_six}

pub six : (h : ℕ) (is_in is_good : Bool) (done : Done)
    → ((verdict_of h is_in done is_good).0 ≡ PhaseError) ↔ (is_of_six (number_of (case_of h is_in done)) ≡ true)
six h is_in is_good device.Nothing = grind (arith, nat_tests)
six h is_in is_good (device.In given) = grind (arith, nat_tests)
six h is_in is_good (device.Out taken whole) = grind (arith, nat_tests)

pub unexpected : (h : ℕ) (is_in is_good : Bool) (done : Done)
    → ((verdict_of h is_in done is_good).0 ≡ PhaseError) ↔ (is_expected h is_in done ≡ false)
unexpected h is_in is_good device.Nothing = grind (arith, nat_tests)
unexpected h is_in is_good (device.In given) = grind (arith, nat_tests)
unexpected h is_in is_good (device.Out taken whole) = grind (arith, nat_tests)

pub left : (h : ℕ) (is_in is_good : Bool) (done : Done)
    → (verdict_of h is_in done is_good).0 ≢ PhaseError → (verdict_of h is_in done is_good).1 + moved done ≡ h
left h is_in is_good device.Nothing other = grind (arith, nat_tests)
left h is_in is_good (device.In given) other = grind (arith, nat_tests)
left h is_in is_good (device.Out taken whole) other = grind (arith, nat_tests)

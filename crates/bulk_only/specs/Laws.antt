-- What holds of wrappers and cases.
use Rattle.std.specs.Prelude.{◌≡◌, ◌≢◌, ℕ, ◌+◌, ◌*◌, ◌/◌, ◌%◌, ◌^◌, ◌==◌, ◌||◌, ◌&&◌, ◌↔◌, not, nat_le, Bool, true, false}
use Rattle.std.specs.Prelude.{List, [], ◌∷◌, ◌++◌, take, slice_index, Some, Ok, IfOk, IfSome}
use Rattle.byte_numbers.specs.Bytes.{AreBytes}
use Rattle.bulk_only.specs.declared.cases.Done.{Done}
use Rattle.bulk_only.specs.declared.cases.Done.TheVariants as device
use Rattle.bulk_only.specs.declared.command.Cbw.{Cbw}
use Rattle.bulk_only.specs.declared.status.Csw.{Csw}
use Rattle.bulk_only.specs.declared.status.CswStatus.TheVariants.{PhaseError}
use Rattle.bulk_only.specs.Cases.{case_of, moved, number_of, verdict_of}
use Rattle.bulk_only.specs.Command.{FitsCbw, cbw_in, cbw_text, cdb_in}
use Rattle.bulk_only.specs.Status.{FitsCsw, csw_in, csw_text}

abbrev pub CbwsAreReadBack : Type 0
CbwsAreReadBack = (cbw : Cbw) → FitsCbw cbw → cbw_in (cbw_text cbw) ≡ Ok cbw

-- the bytes with each reserved bit 0, and zeros behind the CDB
abbrev pub without_reserved : List ℕ → List ℕ
without_reserved bytes =
    take 12 bytes ++ (2 ^ 7 * (slice_index bytes 12 / 2 ^ 7) ∷ slice_index bytes 13 % 2 ^ 4 ∷ slice_index bytes 14 % 2 ^ 5 ∷ [])
    ++ cdb_in bytes (slice_index bytes 14 % 2 ^ 5)

abbrev pub CbwsAreWrittenBack : Type 0
CbwsAreWrittenBack =
    (bytes : List ℕ) → AreBytes bytes → IfOk (cbw_in bytes) (λ cbw. FitsCbw cbw × (cbw_text cbw ≡ without_reserved bytes))

abbrev pub CswsAreReadBack : Type 0
CswsAreReadBack = (csw : Csw) → FitsCsw csw → csw_in (csw_text csw) ≡ Some csw

abbrev pub CswsAreWrittenBack : Type 0
CswsAreWrittenBack =
    (bytes : List ℕ) → AreBytes bytes → IfSome (csw_in bytes) (λ csw. FitsCsw csw × (csw_text csw ≡ bytes))

-- the numbers of the cases with a phase error (6.7)
abbrev pub is_of_six : ℕ → Bool
is_of_six number = number == 2 || number == 3 || number == 7 || number == 8 || number == 10 || number == 13

abbrev pub SixCases : Type 0
SixCases =
    (h : ℕ) (is_in is_good : Bool) (done : Done)
    → ((verdict_of h is_in done is_good).0 ≡ PhaseError) ↔ (is_of_six (number_of (case_of h is_in done)) ≡ true)

-- the device moves at most what the host expects, and in its direction
abbrev pub is_expected : ℕ → Bool → Done → Bool
is_expected h is_in device.Nothing = true
is_expected h is_in (device.In given) = given == 0 || is_in && nat_le given h
is_expected h is_in (device.Out taken whole) = taken == 0 || not is_in && nat_le taken h

abbrev pub PhaseErrors : Type 0
PhaseErrors =
    (h : ℕ) (is_in is_good : Bool) (done : Done)
    → ((verdict_of h is_in done is_good).0 ≡ PhaseError) ↔ (is_expected h is_in done ≡ false)

-- without a phase error H is what moved and what is left
abbrev pub ResiduesAreLeft : Type 0
ResiduesAreLeft =
    (h : ℕ) (is_in is_good : Bool) (done : Done)
    → (verdict_of h is_in done is_good).0 ≢ PhaseError → (verdict_of h is_in done is_good).1 + moved done ≡ h

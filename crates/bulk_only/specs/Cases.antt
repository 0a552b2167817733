-- The thirteen cases (BOT 6.7): what the host expects, against what the device does. H is the data length of the CBW.
use Rattle.std.specs.Prelude.{ℕ, ◌-◌, ◌==◌, nat_lt, if◌then◌else◌, Bool, true, false}
use Rattle.bulk_only.specs.declared.cases.Asked.{Asked}
use Rattle.bulk_only.specs.declared.cases.Asked.TheVariants as expects
use Rattle.bulk_only.specs.declared.cases.Done.{Done}
use Rattle.bulk_only.specs.declared.cases.Done.TheVariants as device
use Rattle.bulk_only.specs.declared.cases.Case.{Case}
use Rattle.bulk_only.specs.declared.cases.Case.TheVariants.{NoData, GivesUnasked, TakesUnasked, GivesNothing, GivesFewer, GivesAll, GivesMore}
use Rattle.bulk_only.specs.declared.cases.Case.TheVariants.{TakesInstead, TakesNothing, GivesInstead, TakesFewer, TakesAll, TakesMore}
use Rattle.bulk_only.specs.declared.status.CswStatus.{CswStatus}
use Rattle.bulk_only.specs.declared.status.CswStatus.TheVariants.{Passed, Failed, PhaseError}

-- 5.1, bmCBWFlags: the direction is ignored where H is 0
abbrev pub asked_of : ℕ → Bool → Asked
asked_of h is_in = if h == 0 then expects.Nothing else if is_in then expects.In else expects.Out

-- data of 0 bytes are none
abbrev pub some_data : Done → Done
some_data device.Nothing = device.Nothing
some_data (device.In given) = if given == 0 then device.Nothing else device.In given
some_data (device.Out taken whole) = if taken == 0 then device.Nothing else device.Out taken whole

abbrev pub compared : ℕ → ℕ → Case → Case → Case → Case
compared amount h fewer same more = if nat_lt amount h then fewer else if amount == h then same else more

-- the table of 6.7: a row for what the host expects, a column for what the device does
abbrev pub case_in : Asked → ℕ → Done → Case
case_in expects.Nothing h device.Nothing = NoData
case_in expects.Nothing h (device.In given) = GivesUnasked
case_in expects.Nothing h (device.Out taken whole) = TakesUnasked
case_in expects.In h device.Nothing = GivesNothing
case_in expects.In h (device.In given) = compared given h GivesFewer GivesAll GivesMore
case_in expects.In h (device.Out taken whole) = TakesInstead
case_in expects.Out h device.Nothing = TakesNothing
case_in expects.Out h (device.In given) = GivesInstead
case_in expects.Out h (device.Out taken whole) = compared taken h TakesFewer TakesAll TakesMore

-- Worked: of H 4,096 to the host and 36 bytes given, GivesFewer; of H 0 and the flag set, GivesUnasked.
abbrev pub case_of : ℕ → Bool → Done → Case
case_of h is_in done = case_in (asked_of h is_in) h (some_data done)

-- the number of a case in 6.7
abbrev pub number_of : Case → ℕ
number_of NoData = 1
number_of GivesUnasked = 2
number_of TakesUnasked = 3
number_of GivesNothing = 4
number_of GivesFewer = 5
number_of GivesAll = 6
number_of GivesMore = 7
number_of TakesInstead = 8
number_of TakesNothing = 9
number_of GivesInstead = 10
number_of TakesFewer = 11
number_of TakesAll = 12
number_of TakesMore = 13

-- 6.7.1 to 6.7.3: the device does more than the host expects, or the other direction
abbrev pub is_phase_error : Case → Bool
is_phase_error GivesUnasked = true
is_phase_error TakesUnasked = true
is_phase_error GivesMore = true
is_phase_error TakesInstead = true
is_phase_error GivesInstead = true
is_phase_error TakesMore = true
is_phase_error _ = false

abbrev pub status_of : Case → Bool → CswStatus
status_of case is_good = if is_phase_error case then PhaseError else if is_good then Passed else Failed

-- the bytes that the device gave or took, and those of whole chunks
abbrev pub moved : Done → ℕ
moved device.Nothing = 0
moved (device.In given) = given
moved (device.Out taken whole) = taken

abbrev pub whole_chunks : Done → ℕ
whole_chunks device.Nothing = 0
whole_chunks (device.In given) = 0
whole_chunks (device.Out taken whole) = whole

-- dCSWDataResidue (5.2): what the device didn't give or take of H. In 2 and 3 H is 0, and in 7 all of it moved; in 8 and 10 nothing did; in 13
-- a chunk that came in part isn't taken.
abbrev pub residue_of : Case → ℕ → Done → ℕ
residue_of NoData h done = 0
residue_of GivesUnasked h done = 0
residue_of TakesUnasked h done = 0
residue_of GivesNothing h done = h - moved done
residue_of GivesFewer h done = h - moved done
residue_of GivesAll h done = h - moved done
residue_of GivesMore h done = 0
residue_of TakesInstead h done = h
residue_of TakesNothing h done = h - moved done
residue_of GivesInstead h done = h
residue_of TakesFewer h done = h - moved done
residue_of TakesAll h done = h - moved done
residue_of TakesMore h done = h - whole_chunks done

-- Worked: READ(10) of 8 blocks of 512 bytes with H 4,096 is (Passed, 0), and with H 8,192 (Passed, 4096); WRITE(10) with the flag to the host is
-- (PhaseError, H); a write of 8,192 bytes with H 5,000 in chunks of 4,096 is (PhaseError, 904).
abbrev pub verdict_of : ℕ → Bool → Done → Bool → CswStatus × ℕ
verdict_of h is_in done is_good = (status_of (case_of h is_in done) is_good, residue_of (case_of h is_in done) h done)

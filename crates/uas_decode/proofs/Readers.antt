-- What the readers of units and of sense find stands in the bytes.
use Rattle.std.proofs.Common.{◌≡◌, ℕ, ◌+◌, ◌*◌, ◌^◌, ◌<◌, ◌/◌, ◌%◌, Bool, true, false, List, ◌++◌, length, take, drop, arith, refl, sym, ◌∙◌, ap}
use Rattle.std.proofs.Common.{Option, Some, None, Result, Ok, Err, IfOk, if◌then◌else◌}
use Rattle.std.specs.Prelude.{IfSome}
use Rattle.std.specs.Bool.{Decides}
use Rattle.std.specs.Str.{bytes_eq}
use Rattle.std.specs.Result.{result_err}
use Rattle.std.proofs.lemmas.List.{take_at, drop_at}
use Rattle.std.proofs.lemmas.Slice.Eq.{bytes_eq-Decides}
use Rattle.scsi_cmd.specs.declared.Sense.{Sense as SenseData}
use Rattle.scsi_cmd.specs.Sense.{sense_bytes}
use Rattle.uas_iu.specs.declared.Iu.{Iu}
use Rattle.uas_iu.specs.declared.Iu.TheVariants.{Command, Sense, Response, Task}
use Rattle.uas_iu.specs.declared.IuFault.{IuFault}
use Rattle.uas_iu.specs.Faults.{first_fault}
use Rattle.uas_iu.specs.Units.{unit_text, Fits, IsTextOf}
use Rattle.uas_decode.specs.Meaning.{sense_in, sense_read, unit_in, unit_read}

-- UNITS

-- a number below 2^16 by its two bytes
number_by_bytes : (n : ℕ) → n < 2 ^ 16 → n / 256 % 256 * 256 + n % 256 ≡ n
number_by_bytes n fits = omega arith

-- the unit that stands in the text of a unit is that unit
unit_in_text : (unit : Iu) → Fits unit → unit_in (unit_text unit) ≡ unit
unfolding unit_text
unit_in_text (Command tag lun cdb) fits =
    let tags = number_by_bytes tag fits.0 in
    let luns : take 8 (lun ++ cdb) ≡ lun = take_at lun cdb 8 fits.1 in
    let cdbs : drop 8 (lun ++ cdb) ≡ cdb = drop_at lun cdb 8 fits.1 in
    cc
unit_in_text (Sense tag status sense) fits = let tags = number_by_bytes tag fits.0 in cc
unit_in_text (Response tag code) fits = let tags = number_by_bytes tag fits in cc
unit_in_text (Task tag function task_tag lun) fits =
    let tags = number_by_bytes tag fits.0 in
    let task_tags = number_by_bytes task_tag fits.1 in
    cc

-- what finds the first fault, or a unit whose text the bytes are, reads the unit
pub unit_found : (bytes : List ℕ) (found : Result Iu IuFault) → result_err found ≡ first_fault bytes → IfOk found (λ unit. IsTextOf bytes unit)
    → found ≡ unit_read bytes
unfolding unit_read
unit_found bytes (Ok unit) fault is_text =
    let same : unit ≡ unit_in bytes = sym (ap unit_in is_text.1 ∙ unit_in_text unit is_text.0) in
    rw (sym fault) (ap (λ (u : Iu). Ok u) same)
unit_found bytes (Err e) fault is_text = rw (sym fault) refl

-- SENSE

by_test : (bytes : List ℕ) (is_text : Bool) (found : Option SenseData) → Decides is_text (bytes ≡ sense_bytes (sense_in bytes))
    → IfSome found (λ sense. bytes ≡ sense_bytes sense) → ((sense : SenseData) → bytes ≡ sense_bytes sense → found ≡ Some sense)
    → found ≡ (if is_text then Some (sense_in bytes) else None)
by_test bytes true found decides some every = every (sense_in bytes) (decides.0 refl)
by_test bytes false None decides some every = refl
by_test bytes false (Some sense) decides some every =
    let same : sense_in bytes ≡ sense = ap sense_in some in
    let no : false ≡ true = decides.1 (some ∙ ap sense_bytes (sym same)) in
    cc

-- what finds the sense whose bytes these are, and any such, reads the sense
pub sense_found : (bytes : List ℕ) (found : Option SenseData) → IfSome found (λ sense. bytes ≡ sense_bytes sense)
    → ((sense : SenseData) → bytes ≡ sense_bytes sense → found ≡ Some sense) → found ≡ sense_read bytes
unfolding sense_read
sense_found bytes found some every = by_test bytes _ found (bytes_eq-Decides bytes (sense_bytes (sense_in bytes))) some every

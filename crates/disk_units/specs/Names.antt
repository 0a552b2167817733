-- The names of a logical unit: a vendor of eight characters, a product of sixteen and a revision of four (SPC, standard INQUIRY data), and a
-- serial number of up to 36.
use Rattle.std.specs.Prelude.{◌≡◌, ℕ, ◌-◌, ◌==◌, nat_lt, not, if◌then◌else◌, List, ◌++◌, codes, length, replicate, take, Option, None, Some, Result, Ok, Err}
use Rattle.std.specs.List.{list_all}
use Rattle.disk_units.specs.declared.names.NameFault.{NameFault}
use Rattle.disk_units.specs.declared.names.NameFault.TheVariants.{Empty, TooLong, NotPrintable}
use Rattle.disk_units.specs.declared.names.UnitNames.{UnitNames}
use Rattle.disk_units.specs.declared.serial.SerialText.{SerialText}
use Rattle.disk_units.specs.Printable.{is_printable}

-- the first fault of a name, which has 1 to `most` printable characters
abbrev pub name_fault : ℕ → List ℕ → Option NameFault
name_fault most text =
    if length text == 0 then Some Empty
    else (if nat_lt most (length text) then Some TooLong
    else (if not (list_all is_printable text) then Some NotPrintable
    else None))

-- A name filled up with spaces, or its first fault. Worked: of eight, ACME is 41 43 4d 45 20 20 20 20.
abbrev pub padded_unless : Option NameFault → ℕ → List ℕ → Result (List ℕ) NameFault
padded_unless None most text = Ok (text ++ replicate (most - length text) 0x20)
padded_unless (Some fault) most text = Err fault

abbrev pub name_of : ℕ → List ℕ → Result (List ℕ) NameFault
name_of most text = padded_unless (name_fault most text) most text

-- the names of a logical unit that has been given none
abbrev pub usual_vendor : List ℕ
usual_vendor = codes "SIMDISK "

abbrev pub usual_product : List ℕ
usual_product = codes "UAS SIM DISK    "

abbrev pub usual_revision : List ℕ
usual_revision = codes "0001"

abbrev pub usual_names : UnitNames
usual_names = record { vendor = usual_vendor; product = usual_product; revision = usual_revision }

-- they have the lengths of their fields
pub record AreNames (names : UnitNames) : Type 0 where
  pub vendor : length names.vendor ≡ 8
  pub product : length names.product ≡ 16
  pub revision : length names.revision ≡ 4

-- A serial number's characters, which nothing fills up: its field has zeros behind them.
abbrev pub serial_unless : Option NameFault → List ℕ → Result SerialText NameFault
serial_unless None text = Ok (record { field = text ++ replicate (36 - length text) 0; size = length text })
serial_unless (Some fault) text = Err fault

abbrev pub serial_of : List ℕ → Result SerialText NameFault
serial_of text = serial_unless (name_fault 36 text) text

abbrev pub serial_text : SerialText → List ℕ
serial_text serial = take serial.size serial.field

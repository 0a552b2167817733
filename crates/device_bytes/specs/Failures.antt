-- The form of how a command on blocks failed. A kind is one byte.
use Rattle.std.specs.Prelude.{ℕ, zero, suc, Option, None}
use Rattle.scsi_cmd.specs.declared.Sense.{Sense}
use Rattle.host_sense.specs.declared.Detail.{Detail}
use Rattle.host_sense.specs.declared.Detail.TheVariants.{Nothing, Information, Field}
use Rattle.host_sense.specs.declared.FieldPlace.{FieldPlace}
use Rattle.host_sense.specs.declared.FieldPlace.TheVariants.{Cdb, Parameters}
use Rattle.host_sense.specs.declared.FieldPointer.{FieldPointer}
use Rattle.host_sense.specs.declared.SenseData.{SenseData}
use Rattle.uas_tasks.specs.declared.Failure.{Failure}
use Rattle.uas_tasks.specs.declared.Failure.TheVariants.{Sensed, Busy}
use Rattle.machine_bytes.specs.Forms.{Form, mapped, named, nothing, number, optional, pair, tagged}

-- sense data: key, ASC, ASCQ
abbrev pub sense_form : Form Sense
sense_form = mapped to from (pair (number 1) (pair (number 1) (number 1)))
  where
    to : ℕ × (ℕ × ℕ) → Sense
    to s = record { key = s.0; asc = s.1.0; ascq = s.1.1 }

    from : Sense → ℕ × (ℕ × ℕ)
    from s = (s.key, (s.asc, s.ascq))

-- where a field is: 0 in the CDB, 1 in the parameters
abbrev pub field_place_number : FieldPlace → ℕ
field_place_number Cdb = 0
field_place_number Parameters = 1

abbrev pub field_place_at : ℕ → FieldPlace
field_place_at zero = Cdb
field_place_at (suc k) = Parameters

-- a field: where, its byte (2), its bit (option)
abbrev pub field_form : Form FieldPointer
field_form = mapped to from (pair (named 2 field_place_number field_place_at) (pair (number 2) (optional (number 1))))
  where
    to : FieldPlace × (ℕ × Option ℕ) → FieldPointer
    to f = record { place = f.0; byte = f.1.0; bit = f.1.1 }

    from : FieldPointer → FieldPlace × (ℕ × Option ℕ)
    from f = (f.place, (f.byte, f.bit))

-- what is told beside: 0 nothing, 1 INFORMATION (8), 2 a field
abbrev pub detail_number : Detail → ℕ
detail_number Nothing = 0
detail_number (Information value) = 1
detail_number (Field pointer) = 2

abbrev pub information_of : ℕ → Detail
information_of value = Information value

abbrev pub told_of : Detail → ℕ
told_of Nothing = 0
told_of (Information value) = value
told_of (Field pointer) = 0

abbrev pub field_of : FieldPointer → Detail
field_of pointer = Field pointer

abbrev pub pointer_of : Detail → FieldPointer
pointer_of Nothing = record { place = Cdb; byte = 0; bit = None }
pointer_of (Information value) = record { place = Cdb; byte = 0; bit = None }
pointer_of (Field pointer) = pointer

abbrev pub detail_part : ℕ → Form Detail
detail_part zero = nothing Nothing
detail_part (suc zero) = mapped information_of told_of (number 8)
detail_part (suc (suc k)) = mapped field_of pointer_of field_form

abbrev pub detail_form : Form Detail
detail_form = tagged 3 detail_number detail_part

abbrev pub sense_data_form : Form SenseData
sense_data_form = mapped to from (pair sense_form detail_form)
  where
    to : Sense × Detail → SenseData
    to s = record { sense = s.0; detail = s.1 }

    from : SenseData → Sense × Detail
    from s = (s.sense, s.detail)

-- a failure: 0 CHECK CONDITION and its sense data, 1 BUSY
abbrev pub failure_number : Failure → ℕ
failure_number (Sensed sense) = 0
failure_number Busy = 1

abbrev pub sensed_of : SenseData → Failure
sensed_of sense = Sensed sense

abbrev pub data_of : Failure → SenseData
data_of (Sensed sense) = sense
data_of Busy = record { sense = record { key = 0; asc = 0; ascq = 0 }; detail = Nothing }

abbrev pub failure_part : ℕ → Form Failure
failure_part zero = mapped sensed_of data_of sense_data_form
failure_part (suc k) = nothing Busy

abbrev pub failure_form : Form Failure
failure_form = tagged 2 failure_number failure_part

-- What is true of the bytes of sense data.
use Rattle.std.specs.Prelude.{◌≡◌, ℕ, drop, length, slice_index}
use Rattle.scsi_cmd.specs.declared.Sense.{Sense}
use Rattle.scsi_cmd.specs.Sense.{sense_bytes}
use Rattle.host_sense.specs.declared.Detail.TheVariants.{Nothing}
use Rattle.host_sense.specs.declared.SenseData.{SenseData}
use Rattle.host_sense.specs.declared.SenseFormat.{SenseFormat}
use Rattle.host_sense.specs.declared.SenseFormat.TheVariants.{Fixed}
use Rattle.host_sense.specs.Formats.{sense_data_bytes}

-- ADDITIONAL SENSE LENGTH, byte 7, says how many bytes follow it
abbrev pub SenseTellsItsLength : Type 0
SenseTellsItsLength =
    (told : SenseData) (format : SenseFormat) → slice_index (sense_data_bytes told format) 7 ≡ length (drop 8 (sense_data_bytes told format))

-- the sense data of devices that tell no place stay as they are
abbrev pub PlainIsKept : Type 0
PlainIsKept = (sense : Sense) → sense_data_bytes (record { sense = sense; detail = Nothing }) Fixed ≡ sense_bytes sense

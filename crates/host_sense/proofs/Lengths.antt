-- The lengths that sense data tell. Cited by the law `sense_tells_its_length`.
use Rattle.std.proofs.Common.{◌≡◌, ℕ, ◌^◌, true, false, cond, List, [], ◌∷◌, ◌++◌, length, drop, slice_index, refl}
use Rattle.std.specs.Prelude.{nat_lt}
use Rattle.scsi_cmd.specs.declared.Sense.{Sense}
use Rattle.scsi_cmd.specs.Fields.{four_bytes, zeros}
use Rattle.scsi_cmd.specs.Sense.{sense_bytes}
use Rattle.host_sense.specs.declared.Detail.{Detail}
use Rattle.host_sense.specs.declared.Detail.TheVariants.{Nothing, Information, Field}
use Rattle.host_sense.specs.declared.SenseData.{SenseData}
use Rattle.host_sense.specs.declared.SenseFormat.{SenseFormat}
use Rattle.host_sense.specs.declared.SenseFormat.TheVariants.{Fixed, Descriptor}
use Rattle.host_sense.specs.Formats.{sense_data_bytes}
use Rattle.host_sense.specs.Laws.{PlainIsKept, SenseTellsItsLength}

abbrev TellsLength : Sense → Detail → SenseFormat → Type 0
TellsLength sense detail format =
    let bytes = sense_data_bytes (record { sense = sense; detail = detail }) format in
    slice_index bytes 7 ≡ length (drop 8 bytes)

of_detail : (sense : Sense) (detail : Detail) (format : SenseFormat) → TellsLength sense detail format
of_detail sense Nothing Fixed = refl
of_detail sense Nothing Descriptor = refl
of_detail sense (Information place) Descriptor = refl
of_detail sense (Field field) Fixed = refl
of_detail sense (Field field) Descriptor = refl
of_detail sense (Information place) Fixed =
    elim (nat_lt place (2 ^ 32)) as (λ b. let told : ℕ × List ℕ = cond b (0xf0, four_bytes place) (0x70, zeros 4) in
    let bytes : List ℕ = (told.0 ∷ 0 ∷ sense.key ∷ []) ++ told.1 ++ (0x0a ∷ 0 ∷ 0 ∷ 0 ∷ 0 ∷ sense.asc ∷ sense.ascq ∷ 0 ∷ []) ++ zeros 3 in
    slice_index bytes 7 ≡ length (drop 8 bytes)) [
      | true ↦ refl
      | false ↦ refl
    ]

pub tells_length : SenseTellsItsLength
tells_length told format = of_detail told.sense told.detail format

pub plain_kept : PlainIsKept
plain_kept sense = refl

-- The Command Status Wrapper (BOT 5.2). Numbers are little endian.
use Rattle.std.specs.Prelude.{ℕ, ◌^◌, ◌<◌, ◌==◌, ◌&&◌, if◌then◌else◌, List, [], ◌∷◌, ◌++◌, length, drop, slice_index, Option, None, Some}
use Rattle.byteorder.specs.Endian.{little_bytes, little_number}
use Rattle.bulk_only.specs.declared.status.Csw.{Csw}
use Rattle.bulk_only.specs.declared.status.CswStatus.{CswStatus}
use Rattle.bulk_only.specs.declared.status.CswStatus.TheVariants.{Passed, Failed, PhaseError}

-- bCSWStatus (table 5.3)
abbrev pub status_byte : CswStatus → ℕ
status_byte Passed = 0
status_byte Failed = 1
status_byte PhaseError = 2

-- the other values are reserved
abbrev pub status_in : ℕ → Option CswStatus
status_in byte = if byte == 0 then Some Passed else if byte == 1 then Some Failed else if byte == 2 then Some PhaseError else None

-- dCSWSignature, dCSWTag, dCSWDataResidue, bCSWStatus: 13 bytes
unfoldable pub csw_text : Csw → List ℕ
csw_text csw = little_bytes 4 0x53425355 ++ little_bytes 4 csw.tag ++ little_bytes 4 csw.residue ++ (status_byte csw.status ∷ [])

abbrev pub csw_with : List ℕ → Option CswStatus → Option Csw
csw_with bytes None = None
csw_with bytes (Some status) =
    Some (record { tag = little_number 4 (drop 4 bytes); residue = little_number 4 (drop 8 bytes); status = status })

-- 6.3.1: 13 bytes and the signature; and a status that isn't reserved
abbrev pub csw_in : List ℕ → Option Csw
csw_in bytes =
    if length bytes == 13 && little_number 4 bytes == 0x53425355 then csw_with bytes (status_in (slice_index bytes 12)) else None

abbrev pub FitsCsw : Csw → Type 0
FitsCsw csw = (csw.tag < 2 ^ 32) × (csw.residue < 2 ^ 32)

-- What CBWs begin, byte by byte.
use Rattle.std.specs.Prelude.{◌≡◌, ℕ, Bool, true, false, List, [], ◌∷◌, ◌++◌, replicate, None, Some}
use Rattle.bulk_only.specs.declared.command.Cbw.{Cbw}
use Rattle.guest_bulk.specs.declared.bulk.KeptSense.{KeptSense}
use Rattle.bulk_only.specs.declared.cases.Done.TheVariants as did
use Rattle.bulk_only.specs.declared.status.CswStatus.TheVariants.{Passed, Failed, PhaseError}
use Rattle.guest_tags.specs.declared.device.End.TheVariants.{Good, Check}
use Rattle.guest_bulk.specs.declared.bulk.BulkCommand.{BulkCommand}
use Rattle.guest_bulk.specs.declared.bulk.BulkStage.TheVariants.{Tells}
use Rattle.guest_bulk.specs.Commands.{is_for, sense_for, unit_of}
use Rattle.guest_bulk.specs.Verdicts.{is_good, kept_by, told, with_taking}

abbrev pub cbw : ℕ → List ℕ → Cbw
cbw lun cdb = record { tag = 1; length = 4096; is_in = true; lun = lun; cdb = cdb; cdb_length = 10 }

abbrev pub read_cdb : ℕ → List ℕ
read_cdb second = 0x28 ∷ second ∷ 0 ∷ 0 ∷ 0x08 ∷ 0 ∷ 0 ∷ 0 ∷ 0x08 ∷ 0 ∷ replicate 6 0

abbrev pub unit_bytes : ℕ → List ℕ
unit_bytes lun = (0x01 ∷ 0 ∷ 0 ∷ 0x01 ∷ 0 ∷ 0 ∷ 0 ∷ 0 ∷ []) ++ (0 ∷ lun ∷ 0 ∷ 0 ∷ 0 ∷ 0 ∷ 0 ∷ 0 ∷ [])

-- READ(10) of 8 blocks from 2,048 on, of logical unit 0; with logical unit 1 in bits 7:5 of byte 1, of that unit and of unit 0
abbrev pub RowCommand : Type 0
RowCommand =
    (unit_of (cbw 0 (read_cdb 0)) ≡ unit_bytes 0 ++ read_cdb 0) × (unit_of (cbw 1 (read_cdb 0x20)) ≡ unit_bytes 1 ++ read_cdb 0)
    × (unit_of (cbw 0 (read_cdb 0x20)) ≡ unit_bytes 0 ++ read_cdb 0x20)

-- 6/29/00 in fixed format, as a Sense information unit of tag 1 told it
abbrev pub sense : List ℕ
sense = 0x70 ∷ 0 ∷ 0x06 ∷ 0 ∷ 0 ∷ 0 ∷ 0 ∷ 0x0a ∷ 0 ∷ 0 ∷ 0 ∷ 0 ∷ 0x29 ∷ 0 ∷ 0 ∷ 0 ∷ 0 ∷ 0 ∷ []

abbrev pub kept : KeptSense
kept = record {
  lun = 0;
  text = record { items = (0x03 ∷ 0 ∷ 0 ∷ 0x01 ∷ 0 ∷ 0 ∷ 0x02 ∷ []) ++ replicate 7 0 ++ (0 ∷ 18 ∷ []) ++ sense };
}

-- REQUEST SENSE with this byte 1 and this allocation length
abbrev pub request_cdb : ℕ → ℕ → List ℕ
request_cdb second allocation = 0x03 ∷ second ∷ 0 ∷ 0 ∷ allocation ∷ 0 ∷ replicate 10 0

-- it is given whole in 18 bytes, cut to 4; not with DESC, not to logical unit 1, and not to another command
abbrev pub RowKept : Type 0
RowKept =
    (is_for kept (cbw 0 (request_cdb 0 18)) ≡ true) × (sense_for kept (cbw 0 (request_cdb 0 18)) ≡ sense)
    × (sense_for kept (cbw 0 (request_cdb 0 4)) ≡ 0x70 ∷ 0 ∷ 0x06 ∷ 0 ∷ []) × (is_for kept (cbw 0 (request_cdb 1 18)) ≡ false)
    × (is_for kept (cbw 1 (request_cdb 0 18)) ≡ false) × (is_for kept (cbw 0 (read_cdb 0)) ≡ false)

-- a command of this tag, H and direction
abbrev pub command : ℕ → ℕ → Bool → BulkCommand
command tag h is_in = record { tag = tag; length = h; is_in = is_in; lun = 0; left = 0; done = did.Nothing; is_kept = false }

-- READ(10) of 4,096 bytes that is GOOD, with H 4,096 and with H 8,192; WRITE(10) of them with the flag to the host, case 8; TEST UNIT READY
-- that ends with CHECK CONDITION
abbrev pub RowTold : Type 0
RowTold =
    (told (command 1 4096 true) (did.In 4096) true ≡ Tells (record { tag = 1; residue = 0; status = Passed }) 0)
    × (told (command 1 8192 true) (did.In 4096) true ≡ Tells (record { tag = 1; residue = 4096; status = Passed }) 0)
    × (told (command 2 4096 true) (with_taking did.Nothing 4096) false ≡ Tells (record { tag = 2; residue = 4096; status = PhaseError }) 0)
    × (told (command 3 0 false) did.Nothing (is_good Check) ≡ Tells (record { tag = 3; residue = 0; status = Failed }) 0)

-- the sense data of that one are kept, and those of a command that is GOOD aren't there
abbrev pub RowKeptBy : Type 0
RowKeptBy = (kept_by Check 0 kept.text.items ≡ Some kept) × (kept_by Good 0 kept.text.items ≡ None)

-- Wrappers byte by byte, and what transfers come to.
use Rattle.std.specs.Prelude.{◌≡◌, ℕ, true, false, List, [], ◌∷◌, ◌++◌, replicate, take, Some, Ok, Err}
use Rattle.bulk_only.specs.declared.cases.Case.TheVariants.{TakesInstead}
use Rattle.bulk_only.specs.declared.cases.Done.TheVariants as device
use Rattle.bulk_only.specs.declared.command.CbwFault.TheVariants.{Length, Signature, CommandLength}
use Rattle.bulk_only.specs.declared.status.CswStatus.TheVariants.{Passed, Failed, PhaseError}
use Rattle.bulk_only.specs.Cases.{case_of, verdict_of}
use Rattle.bulk_only.specs.Command.{cbw_in, cbw_text, cleared_lun}
use Rattle.bulk_only.specs.Status.{csw_in, csw_text}

-- READ(10) of 8 blocks from 2,048 on, on tag 1, with H 4,096
abbrev pub read_cdb : List ℕ
read_cdb = 0x28 ∷ 0 ∷ 0 ∷ 0 ∷ 0x08 ∷ 0 ∷ 0 ∷ 0 ∷ 0x08 ∷ 0 ∷ replicate 6 0

abbrev pub read_bytes : List ℕ
read_bytes = (0x55 ∷ 0x53 ∷ 0x42 ∷ 0x43 ∷ 1 ∷ 0 ∷ 0 ∷ 0 ∷ 0 ∷ 0x10 ∷ 0 ∷ 0 ∷ 0x80 ∷ 0 ∷ 0x0a ∷ []) ++ read_cdb

abbrev pub RowRead : Type 0
RowRead = cbw_in read_bytes ≡ Ok (record { tag = 1; length = 4096; is_in = true; lun = 0; cdb = read_cdb; cdb_length = 10 })

-- it is GOOD: all bytes came; of H 8,192 half of them
abbrev pub RowGood : Type 0
RowGood =
    (verdict_of 4096 true (device.In 4096) true ≡ (Passed, 0)) × (verdict_of 8192 true (device.In 4096) true ≡ (Passed, 4096))
    × (csw_text (record { tag = 1; residue = 0; status = Passed }) ≡ 0x55 ∷ 0x53 ∷ 0x42 ∷ 0x53 ∷ 1 ∷ 0 ∷ 0 ∷ 0 ∷ 0 ∷ 0 ∷ 0 ∷ 0 ∷ 0 ∷ [])

-- WRITE(10) of as many blocks on tag 2, with the flag to the host, that the device takes: case 8
abbrev pub write_cdb : List ℕ
write_cdb = 0x2a ∷ 0 ∷ 0 ∷ 0 ∷ 0x08 ∷ 0 ∷ 0 ∷ 0 ∷ 0x08 ∷ 0 ∷ replicate 6 0

abbrev pub RowWrite : Type 0
RowWrite =
    cbw_text (record { tag = 2; length = 4096; is_in = true; lun = 0; cdb = write_cdb; cdb_length = 10 })
    ≡ (0x55 ∷ 0x53 ∷ 0x42 ∷ 0x43 ∷ 2 ∷ 0 ∷ 0 ∷ 0 ∷ 0 ∷ 0x10 ∷ 0 ∷ 0 ∷ 0x80 ∷ 0 ∷ 0x0a ∷ []) ++ write_cdb

abbrev pub phase_bytes : List ℕ
phase_bytes = 0x55 ∷ 0x53 ∷ 0x42 ∷ 0x53 ∷ 2 ∷ 0 ∷ 0 ∷ 0 ∷ 0 ∷ 0x10 ∷ 0 ∷ 0 ∷ 0x02 ∷ []

abbrev pub RowPhase : Type 0
RowPhase =
    (case_of 4096 true (device.Out 4096 0) ≡ TakesInstead) × (verdict_of 4096 true (device.Out 4096 0) true ≡ (PhaseError, 4096))
    × (csw_in phase_bytes ≡ Some (record { tag = 2; residue = 4096; status = PhaseError }))

-- TEST UNIT READY that fails, and REQUEST SENSE of 18 bytes
abbrev pub RowReady : Type 0
RowReady =
    (cbw_in ((0x55 ∷ 0x53 ∷ 0x42 ∷ 0x43 ∷ 3 ∷ 0 ∷ 0 ∷ 0 ∷ 0 ∷ 0 ∷ 0 ∷ 0 ∷ 0 ∷ 0 ∷ 6 ∷ []) ++ replicate 16 0)
    ≡ Ok (record { tag = 3; length = 0; is_in = false; lun = 0; cdb = replicate 16 0; cdb_length = 6 }))
    × (verdict_of 0 false device.Nothing false ≡ (Failed, 0)) × (verdict_of 18 true (device.In 18) true ≡ (Passed, 0))

-- a write of 8,192 bytes in chunks of 4,096 to which the host sends 5,000: case 13
abbrev pub RowTakesMore : Type 0
RowTakesMore = verdict_of 5000 false (device.Out 8192 4096) true ≡ (PhaseError, 904)

-- byte 1 of READ(10) with logical unit 1 in bits 7:5
abbrev pub told_cdb : List ℕ
told_cdb = 0x28 ∷ 0x20 ∷ replicate 14 0

abbrev pub RowCleared : Type 0
RowCleared =
    (cleared_lun told_cdb 1 ≡ 0x28 ∷ 0x00 ∷ replicate 14 0) × (cleared_lun told_cdb 0 ≡ told_cdb) × (cleared_lun told_cdb 9 ≡ 0x28 ∷ 0x00 ∷ replicate 14 0)

-- a byte fewer, another first byte, a CDB of 17 bytes; reserved bits and bytes behind the CDB that are set
abbrev pub RowFaults : Type 0
RowFaults =
    (cbw_in (take 30 read_bytes) ≡ Err Length) × (cbw_in (replicate 31 0) ≡ Err Signature)
    × (cbw_in ((0x55 ∷ 0x53 ∷ 0x42 ∷ 0x43 ∷ []) ++ replicate 27 0) ≡ Err CommandLength)
    × (cbw_in ((0x55 ∷ 0x53 ∷ 0x42 ∷ 0x43 ∷ []) ++ replicate 10 0 ++ (17 ∷ []) ++ replicate 16 0) ≡ Err CommandLength)

abbrev pub RowReserved : Type 0
RowReserved =
    cbw_in ((0x55 ∷ 0x53 ∷ 0x42 ∷ 0x43 ∷ []) ++ replicate 8 0 ++ (0x7f ∷ 0xf1 ∷ 0xe6 ∷ []) ++ replicate 6 0 ++ replicate 10 0xff)
    ≡ Ok (record { tag = 0; length = 0; is_in = false; lun = 1; cdb = replicate 16 0; cdb_length = 6 })

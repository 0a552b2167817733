-- The data that INQUIRY and READ CAPACITY give (SPC, standard INQUIRY data; SBC, READ CAPACITY (10) and (16) data).
use Rattle.std.specs.Prelude.{ℕ, ◌-◌, Bool, true, false, List, [], ◌∷◌, ◌++◌, codes}
use Rattle.scsi_cmd.specs.Fields.{four_bytes, eight_bytes, zeros}
use Rattle.uas_profile.specs.declared.TheConstants.{BLOCK_BYTES}

-- peripheral qualifier and device type: a disk, or no unit here
abbrev pub peripheral_byte : Bool → ℕ
peripheral_byte true = 0x00
peripheral_byte false = 0x7f

-- 8 bytes of header, 8 of vendor, 16 of product, 4 of revision
unfoldable pub inquiry_bytes : Bool → List ℕ
inquiry_bytes present =
    (peripheral_byte present ∷ 0 ∷ 6 ∷ 2 ∷ 0x1f ∷ 0 ∷ 0 ∷ 2 ∷ [])
    ++ codes "SIMDISK " ++ codes "UAS SIM DISK    " ++ codes "0001"

-- The last block's number, then the bytes of a block. Checked by hand: 100 blocks are 00 00 00 63 00 00 02 00.
abbrev pub capacity_bytes : ℕ → List ℕ
capacity_bytes blocks = four_bytes (blocks - 1) ++ four_bytes BLOCK_BYTES

-- The 32 bytes of the long data: the last block's number in eight, then the bytes of a block, then zeros. Checked by hand:
-- 100 blocks are 00 00 00 00 00 00 00 63 00 00 02 00 and twenty zeros.
abbrev pub long_capacity_bytes : ℕ → List ℕ
long_capacity_bytes blocks = eight_bytes (blocks - 1) ++ four_bytes BLOCK_BYTES ++ zeros 20

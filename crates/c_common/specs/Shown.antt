-- A look at the bytes of a unit's blocks.
use Rattle.std.specs.Prelude.{ℕ, ◌+◌, ◌*◌, ◌%◌, Bool, if◌then◌else◌, ◌==◌, not, nat_le, List, length, take, drop, Option, None, Some}
use Rattle.c_common.specs.declared.shown.ShownFaults.{ShownFaults}

-- whether these bytes of blocks have so many from a block on
abbrev pub has_bytes : List ℕ → ℕ → ℕ → Bool
has_bytes blocks lba size = nat_le (512 * lba + size) (length blocks)

-- Whole blocks from block lba on, as many as fill the bytes, of the bytes of a unit's blocks; else the fault: there is no unit, the bytes
-- are no whole blocks, they reach behind the last block. Checked by hand: of a unit of 8 blocks, 1,024 bytes from block 6 on are shown,
-- and from block 7 on reach behind the last.
abbrev pub data_shown : ShownFaults → Option (List ℕ) → ℕ → List ℕ → ℕ × List ℕ
data_shown faults None lba bytes = (faults.no_unit, bytes)
data_shown faults (Some blocks) lba bytes =
    if not (length bytes % 512 == 0) then (faults.not_whole, bytes)
    else (if has_bytes blocks lba (length bytes) then (0, take (length bytes) (drop (512 * lba) blocks)) else (faults.beyond, bytes))

-- READ CAPACITY data (SBC-3, 5.15 and 5.16).
use Rattle.std.specs.Prelude.{ℕ, ◌+◌, ◌-◌, ◌^◌, ◌≤◌, ◌==◌, ◌||◌, nat_lt, Bool, false, if◌then◌else◌, List, length, slice_index, Result, Ok, Err}
use Rattle.scsi_cmd.specs.Fields.{field_of_eight, field_of_four, is_bit_set}
use Rattle.disk_requests.specs.declared.DiskFault.{DiskFault}
use Rattle.disk_requests.specs.declared.DiskFault.TheVariants.{BadCapacity, BlockLength}
use Rattle.disk_requests.specs.declared.answers.Capacity.{Capacity}
use Rattle.disk_requests.specs.declared.answers.ShortCapacity.{ShortCapacity}
use Rattle.disk_requests.specs.declared.answers.ShortCapacity.TheVariants.{Known, AskLong}

-- one block more than the last one's number; blocks of 512 to 4,096 bytes
abbrev pub capacity_of : ℕ → ℕ → Bool → Result Capacity DiskFault
capacity_of last block_bytes is_provisioned =
    if nat_lt block_bytes 512 || nat_lt 4096 block_bytes then Err BlockLength
    else Ok (record { blocks = last + 1; block_bytes = block_bytes; is_provisioned = is_provisioned })

abbrev pub known : Result Capacity DiskFault → Result ShortCapacity DiskFault
known (Err fault) = Err fault
known (Ok capacity) = Ok (Known capacity)

-- The short data: the last block in bytes 0 to 3, the bytes of a block in 4 to 7. FFFFFFFFh says that the long command is to be asked. Checked
-- by hand: 00 00 00 63 00 00 02 00 are 100 blocks of 512 bytes.
abbrev pub short_capacity_in : List ℕ → Result ShortCapacity DiskFault
short_capacity_in bytes =
    if nat_lt (length bytes) 8 then Err BadCapacity
    else (if field_of_four bytes 0 == 2 ^ 32 - 1 then Ok AskLong
    else known (capacity_of (field_of_four bytes 0) (field_of_four bytes 4) false))

-- The long data: the last block in bytes 0 to 7, the bytes of a block in 8 to 11, LBPME, which says that blocks can be unmapped, bit 7 of byte
-- 14. 2^64 blocks have no number of 64 bits.
abbrev pub long_capacity_in : List ℕ → Result Capacity DiskFault
long_capacity_in bytes =
    if nat_lt (length bytes) 15 || (field_of_eight bytes 0 == 2 ^ 64 - 1) then Err BadCapacity
    else capacity_of (field_of_eight bytes 0) (field_of_four bytes 8) (is_bit_set (slice_index bytes 14) 7)

-- what is so of a capacity
pub record FitsCapacity (capacity : Capacity) : Type 0 where
  pub some : 1 ≤ capacity.blocks
  pub least : 512 ≤ capacity.block_bytes
  pub most : capacity.block_bytes ≤ 4096

abbrev pub FitsKnown : ShortCapacity → Type 0
FitsKnown (Known capacity) = FitsCapacity capacity
FitsKnown AskLong = Unit {0}

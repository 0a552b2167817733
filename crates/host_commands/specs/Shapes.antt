-- Logical units and command sets, and the numbers that they can't have.
use Rattle.std.specs.Prelude.{◌≡◌, ℕ, ◌%◌, ◌^◌, ◌==◌, nat_lt, Bool, false, not, ◌||◌, if◌then◌else◌, Option, None, Some, Result, Ok, Err}
use Rattle.host_commands.specs.declared.BlockLength.{BlockLength}
use Rattle.host_commands.specs.declared.BlockLength.TheVariants.{Bytes512, Bytes4096}
use Rattle.host_commands.specs.declared.CommandSet.{CommandSet}
use Rattle.host_commands.specs.declared.CommandSet.TheVariants.{Host}
use Rattle.host_commands.specs.declared.ShapeFault.{ShapeFault}
use Rattle.host_commands.specs.declared.ShapeFault.TheVariants.{SerialNumber, NoBlock, TooManyBlocks, TransferLength}
use Rattle.disk_units.specs.declared.names.UnitNames.{UnitNames}
use Rattle.disk_units.specs.Names.{usual_names}
use Rattle.disk_units.specs.Units.{disk_fault, usual_unit}
use Rattle.disk_units.specs.declared.DiskFault.{DiskFault}
use Rattle.disk_units.specs.declared.unit.DiskUnit.{DiskUnit}

-- the bytes of a block
abbrev pub block_bytes : BlockLength → ℕ
block_bytes Bytes512 = 512
block_bytes Bytes4096 = 4096

-- a serial number has eight decimal digits: 99,999,999 has, 100,000,000 hasn't
abbrev pub serial_number : ℕ → Result ℕ ShapeFault
serial_number number = if nat_lt number 100000000 then Ok number else Err SerialNumber

-- a logical unit: how many blocks of how many bytes, its serial number, whether it refuses what changes blocks, its names, and what is said of it
-- in the disk set
pub record Shape : Type 0 where
  pub blocks : ℕ
  pub block_length : BlockLength
  pub serial : ℕ
  pub read_only : Bool
  pub names : UnitNames
  pub disk : DiskUnit

-- one that may be written, has the usual names, and of which nothing else is said
abbrev pub plain_shape : ℕ → BlockLength → ℕ → Shape
plain_shape blocks block_length serial =
    record { blocks = blocks; block_length = block_length; serial = serial; read_only = false; names = usual_names; disk = usual_unit }

-- one of the disk set, unless what is said of it has a fault
abbrev pub disk_unless : Option DiskFault → Shape → DiskUnit → Result Shape DiskFault
disk_unless None shape disk = Ok (record shape { disk = disk })
disk_unless (Some fault) shape disk = Err fault

abbrev pub with_disk : Shape → DiskUnit → Result Shape DiskFault
with_disk shape disk = disk_unless (disk_fault disk (block_bytes shape.block_length)) shape disk

pub record IsPlain (shape : Shape) : Type 0 where
  pub read_only : shape.read_only ≡ false
  pub names : shape.names ≡ usual_names

-- it has 1 to 2^48 blocks
abbrev pub shape_of : ℕ → BlockLength → ℕ → Result Shape ShapeFault
shape_of blocks block_length serial =
    if blocks == 0 then Err NoBlock
    else (if nat_lt (2 ^ 48) blocks then Err TooManyBlocks
    else Ok (plain_shape blocks block_length serial))

-- the host set: a maximum transfer length of two bytes is a multiple of 8 that isn't 0, so 8 to 65,528
abbrev pub host_set : ℕ → Result CommandSet ShapeFault
host_set maximum =
    if maximum == 0 || not (maximum % 8 == 0) then Err TransferLength else Ok (Host maximum)

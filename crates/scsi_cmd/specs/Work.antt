-- What an operation does to a logical unit, whichever command asks for it. The layers above go by this and not by the command.
use Rattle.std.specs.Prelude.{ℕ, ◌+◌, ◌*◌, ◌≤◌, ◌==◌, Bool, true, false, not, if◌then◌else◌, min, List, length, take, slice_index, Result, Ok, Err}
use Rattle.uas_profile.specs.declared.Direction.{Direction}
use Rattle.uas_profile.specs.declared.Direction.TheVariants.{Nothing as NoWay, ToHost, ToDevice}
use Rattle.scsi_cmd.specs.declared.Op.{Op}
use Rattle.scsi_cmd.specs.declared.Op.TheVariants.{TestUnitReady, Inquiry, ReadCapacity, Read, Write, Sync, Read16, Write16, ReadCapacity16}
use Rattle.scsi_cmd.specs.declared.Sense.{Sense}
use Rattle.scsi_cmd.specs.declared.Work.{Work}
use Rattle.scsi_cmd.specs.declared.Work.TheVariants.{Nothing, Gives, Reads, Writes, Synchronizes}
use Rattle.scsi_cmd.specs.Data.{inquiry_bytes, capacity_bytes, long_capacity_bytes}
use Rattle.scsi_cmd.specs.Meaning.{asked, checked}
use Rattle.scsi_cmd.specs.Sense.{unit_not_supported}
use Rattle.uas_profile.specs.declared.TheConstants.{BLOCK_BYTES}

-- THE WORK OF AN OPERATION

-- these bytes, all at once
abbrev pub giving : List ℕ → Work
giving bytes = Gives (record { items = bytes })

-- the front of the INQUIRY data: with allocation 5 the first 5 bytes, with 255 all 36
abbrev pub inquiry_front : Bool → ℕ → List ℕ
inquiry_front present allocation = take (min allocation 36) (inquiry_bytes present)

-- the front of the long READ CAPACITY data: with allocation 12 its first 12 bytes, with 255 all 32
abbrev pub long_capacity_front : ℕ → ℕ → List ℕ
long_capacity_front blocks allocation = take (min allocation 32) (long_capacity_bytes blocks)

-- on a unit of so many blocks
abbrev pub work_of : Op → ℕ → Work
work_of TestUnitReady blocks = Nothing
work_of (Inquiry allocation) blocks = giving (inquiry_front true allocation)
work_of ReadCapacity blocks = giving (capacity_bytes blocks)
work_of (Read lba count fua) blocks = Reads lba count
work_of (Write lba count fua) blocks = Writes lba count fua
work_of (Sync lba count) blocks = Synchronizes lba count
work_of (Read16 lba count fua) blocks = Reads lba count
work_of (Write16 lba count fua) blocks = Writes lba count fua
work_of (ReadCapacity16 allocation) blocks = giving (long_capacity_front blocks allocation)

-- where no unit is, INQUIRY tells so in its data; nothing else is done
abbrev pub work_without_unit : Op → Result Work Sense
work_without_unit TestUnitReady = Err unit_not_supported
work_without_unit (Inquiry allocation) = Ok (giving (inquiry_front false allocation))
work_without_unit ReadCapacity = Err unit_not_supported
work_without_unit (Read lba count fua) = Err unit_not_supported
work_without_unit (Write lba count fua) = Err unit_not_supported
work_without_unit (Sync lba count) = Err unit_not_supported
work_without_unit (Read16 lba count fua) = Err unit_not_supported
work_without_unit (Write16 lba count fua) = Err unit_not_supported
work_without_unit (ReadCapacity16 allocation) = Err unit_not_supported

-- the work of what is asked, or its fault
abbrev pub work_asked : ℕ → Result Op Sense → Result Work Sense
work_asked blocks (Ok op) = Ok (work_of op blocks)
work_asked blocks (Err sense) = Err sense

abbrev pub work_asked_without_unit : Result Op Sense → Result Work Sense
work_asked_without_unit (Ok op) = work_without_unit op
work_asked_without_unit (Err sense) = Err sense

-- the work of an operation on a unit of so many blocks, or its fault there
abbrev pub checked_work : Op → ℕ → Result Work Sense
checked_work op blocks = work_asked blocks (checked op blocks)

-- WHICH COMMANDS ARE DONE IN ANY CASE

-- INQUIRY has the operation code 12h (SPC)
abbrev pub is_inquiry : List ℕ → Bool
is_inquiry cdb = slice_index cdb 0 == 0x12

-- what 16 bytes ask where no unit is: INQUIRY asks for what it asks of any unit, and nothing else can be asked
abbrev pub asked_without_unit : List ℕ → Result Op Sense
asked_without_unit cdb = if is_inquiry cdb then asked cdb 0 else Err unit_not_supported

-- INQUIRY neither reports nor clears a unit attention (SPC), also where its CDB has a fault
abbrev pub cdb_reports_attention : List ℕ → Bool
cdb_reports_attention cdb = not (is_inquiry cdb)

-- the same of an operation
abbrev pub reports_attention : Op → Bool
reports_attention (Inquiry allocation) = false
reports_attention other = true

-- WHAT A WORK MOVES

-- how many bytes it moves: two blocks are 1,024
abbrev pub work_bytes : Work → ℕ
work_bytes Nothing = 0
work_bytes (Gives bytes) = length bytes.items
work_bytes (Reads lba count) = BLOCK_BYTES * count
work_bytes (Writes lba count through) = BLOCK_BYTES * count
work_bytes (Synchronizes lba count) = 0

-- and which way
abbrev pub work_direction : Work → Direction
work_direction Nothing = NoWay
work_direction (Gives bytes) = ToHost
work_direction (Reads lba count) = ToHost
work_direction (Writes lba count through) = ToDevice
work_direction (Synchronizes lba count) = NoWay

-- its blocks are on a unit of so many: two from block 98 on are on one of 100, two from 99 on aren't
abbrev pub IsWorkOn : ℕ → Work → Type 0
IsWorkOn blocks Nothing = Unit {0}
IsWorkOn blocks (Gives bytes) = Unit {0}
IsWorkOn blocks (Reads lba count) = lba + count ≤ blocks
IsWorkOn blocks (Writes lba count through) = lba + count ≤ blocks
IsWorkOn blocks (Synchronizes lba count) = lba + count ≤ blocks

-- what is given all at once is little: at most 36 bytes
abbrev pub IsGivenAtOnce : Work → Type 0
IsGivenAtOnce Nothing = Unit {0}
IsGivenAtOnce (Gives bytes) = length bytes.items ≤ 36
IsGivenAtOnce (Reads lba count) = Unit {0}
IsGivenAtOnce (Writes lba count through) = Unit {0}
IsGivenAtOnce (Synchronizes lba count) = Unit {0}

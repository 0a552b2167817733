-- The profile's commands on logical units of other block lengths and of more blocks: scsi_cmd says what is asked.
use Rattle.std.specs.Prelude.{ℕ, ◌-◌, true, false, List, Result, Ok, Err}
use Rattle.scsi_cmd.specs.declared.Op.{Op}
use Rattle.scsi_cmd.specs.declared.Op.TheVariants.{TestUnitReady, Inquiry as InquiryOp, ReadCapacity, Read, Write, Sync, Read16, Write16, ReadCapacity16}
use Rattle.scsi_cmd.specs.declared.Sense.{Sense}
use Rattle.scsi_cmd.specs.Meaning.{asked}
use Rattle.scsi_cmd.specs.Sense.{unit_not_supported}
use Rattle.scsi_cmd.specs.Work.{asked_without_unit}
use Rattle.host_commands.specs.declared.Data.TheVariants.{Inquiry, Capacity, LongCapacity}
use Rattle.host_commands.specs.declared.Work.{Work}
use Rattle.host_commands.specs.declared.Work.TheVariants.{Nothing, Gives, Reads, Writes, Synchronizes}
use Rattle.disk_units.specs.Names.{usual_names}
use Rattle.host_commands.specs.Protection.{allowed}
use Rattle.host_commands.specs.Shapes.{Shape}

-- the work of an operation of the profile, where nothing is refused
abbrev pub profile_work : Op → Shape → Work
profile_work TestUnitReady shape = Nothing
profile_work (InquiryOp allocation) shape = Gives (Inquiry true shape.names) allocation
profile_work ReadCapacity shape = Gives (Capacity (shape.blocks - 1) shape.block_length) 8
profile_work (Read lba count fua) shape = Reads lba count
profile_work (Write lba count fua) shape = Writes lba count fua
profile_work (Sync lba count) shape = Synchronizes lba count
profile_work (Read16 lba count fua) shape = Reads lba count
profile_work (Write16 lba count fua) shape = Writes lba count fua
profile_work (ReadCapacity16 allocation) shape = Gives (LongCapacity (shape.blocks - 1) shape.block_length) allocation

-- a read-only logical unit refuses a WRITE that has no other fault
abbrev pub profile_works : Shape → Result Op Sense → Result Work Sense
profile_works shape (Ok op) = allowed shape.read_only (profile_work op shape)
profile_works shape (Err sense) = Err sense

-- what 16 bytes ask of a logical unit in the profile's set
abbrev pub profile_asked : List ℕ → Shape → Result Work Sense
profile_asked cdb shape = profile_works shape (asked cdb shape.blocks)

-- where no logical unit is, INQUIRY tells so in its data; nothing else is done
abbrev pub profile_work_of_none : Op → Result Work Sense
profile_work_of_none TestUnitReady = Err unit_not_supported
profile_work_of_none (InquiryOp allocation) = Ok (Gives (Inquiry false usual_names) allocation)
profile_work_of_none ReadCapacity = Err unit_not_supported
profile_work_of_none (Read lba count fua) = Err unit_not_supported
profile_work_of_none (Write lba count fua) = Err unit_not_supported
profile_work_of_none (Sync lba count) = Err unit_not_supported
profile_work_of_none (Read16 lba count fua) = Err unit_not_supported
profile_work_of_none (Write16 lba count fua) = Err unit_not_supported
profile_work_of_none (ReadCapacity16 allocation) = Err unit_not_supported

abbrev pub profile_works_of_none : Result Op Sense → Result Work Sense
profile_works_of_none (Ok op) = profile_work_of_none op
profile_works_of_none (Err sense) = Err sense

abbrev pub profile_asked_of_none : List ℕ → Result Work Sense
profile_asked_of_none cdb = profile_works_of_none (asked_without_unit cdb)

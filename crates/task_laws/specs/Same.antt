-- When the device with blocks and the device without them, with somebody behind it, are one.
use Rattle.std.specs.Prelude.{◌≡◌, ℕ, ◌*◌, ◌^◌, ◌≤◌, is_some, false, List, [], ◌∷◌, length, slice_get, Option, Some, None, IfSome, Result, Ok, Err}
use Rattle.std.specs.Option.{option_map_or}
use Rattle.block_unit.specs.BlockMaps.{BlockMaps, with_attention}
use Rattle.block_unit.specs.Laws.{IsSized}
use Rattle.scsi_cmd.specs.declared.Op.{Op}
use Rattle.scsi_cmd.specs.declared.Sense.{Sense}
use Rattle.scsi_cmd.specs.declared.Work.{Work}
use Rattle.scsi_cmd.specs.declared.Work.TheVariants.{Nothing, Gives as GivesWork, Reads as ReadsWork, Writes as WritesWork, Synchronizes as SynchronizesWork}
use Rattle.scsi_cmd.specs.Sense.{unit_not_supported}
use Rattle.scsi_cmd.specs.Work.{work_of, work_without_unit}
use Rattle.host_commands.specs.declared.BlockLength.TheVariants.{Bytes512}
use Rattle.host_commands.specs.declared.CommandSet.TheVariants.{Profile}
use Rattle.host_commands.specs.declared.UnitAttention.TheVariants.{Reset}
use Rattle.host_commands.specs.Shapes.{IsPlain, Shape}
use Rattle.uas_profile.specs.declared.TheConstants.{BLOCK_BYTES, CHUNK_BLOCKS, CHUNK_BYTES, GREATEST_TAG}
use Rattle.uas_target.specs.declared.DeviceTask.{DeviceTask}
use Rattle.uas_target.specs.declared.DeviceTask.TheVariants.{Moving as TargetMoving, Ended as TargetEnded}
use Rattle.uas_target.specs.Device.{Device}
use Rattle.uas_target.specs.Soundness.{IsSoundTask, counts_of}
use Rattle.uas_tasks.specs.declared.Job.{Job}
use Rattle.uas_tasks.specs.declared.JobKind.{JobKind}
use Rattle.uas_tasks.specs.declared.JobKind.TheVariants.{Reads, Writes}
use Rattle.uas_tasks.specs.declared.LogicalUnit.{LogicalUnit}
use Rattle.uas_tasks.specs.declared.Stage.TheVariants.{Asking, Moving}
use Rattle.uas_tasks.specs.declared.Task.{Task}
use Rattle.uas_tasks.specs.declared.Task.TheVariants.{Giving, Blocks, Ended}
use Rattle.uas_tasks.specs.Slots.{SlotState}
use Rattle.task_laws.specs.Backed.{Backed}

-- LOGICAL UNITS

-- One of the device with blocks, one of the device without, and the blocks behind that: as many blocks of 512 bytes, the same in
-- each place, which may be written, the usual names, and an attention of a reset in both or in none.
pub record SameUnit (device : BlockMaps) (unit : LogicalUnit) (maps : BlockMaps) : Type 0 where
  pub blocks : unit.shape.blocks ≡ maps.count
  pub plain : IsPlain unit.shape
  pub block_length : unit.shape.block_length ≡ Bytes512
  pub few : maps.count ≤ 2 ^ 32
  pub sized : IsSized maps
  pub reset : IfSome unit.attention (λ attention. attention ≡ Reset)
  pub same : device ≡ with_attention maps (is_some unit.attention)

-- as many, each the same
abbrev pub SameUnits : List BlockMaps → List LogicalUnit → List BlockMaps → Type 0
SameUnits [] [] [] = Unit {0}
SameUnits (device ∷ devices) (unit ∷ units) (maps ∷ others) = SameUnit device unit maps × SameUnits devices units others
SameUnits devices units others = ⊥

-- TASKS

-- the work of an operation on the unit of a number, of units of so many blocks
abbrev pub work_on : List ℕ → Op → Option ℕ → Result Work Sense
work_on counts op None = work_without_unit op
work_on counts op (Some number) = option_map_or (λ count. Ok (work_of op count)) (slice_get counts number) (Err unit_not_supported)

-- a job on blocks of which so many whole chunks are done
abbrev pub job_at : JobKind → ℕ → ℕ → ℕ → Job
job_at kind lba count chunk = record { kind = kind; block_bytes = BLOCK_BYTES; lba = lba; count = count; done = CHUNK_BLOCKS * chunk }

-- The task and the data that the device without blocks has where the other moves this work's next chunk: data of the device that are
-- to be given whole, a READ that is to ask for its chunk, a WRITE that waits for its bytes.
abbrev pub SameMove : Work → Option ℕ → ℕ → Option Task → List ℕ → Type 0
SameMove Nothing unit chunk task given = ⊥
SameMove (GivesWork bytes) unit chunk task given = (task ≡ Some (Giving unit 0)) × (given ≡ bytes.items) × (chunk ≡ 0)
SameMove (ReadsWork lba count) None chunk task given = ⊥
SameMove (ReadsWork lba count) (Some number) chunk task given = task ≡ Some (Blocks number (job_at Reads lba count chunk) Asking)
SameMove (WritesWork lba count through) None chunk task given = ⊥
SameMove (WritesWork lba count through) (Some number) chunk task given = task ≡ Some (Blocks number (job_at (Writes through) lba count chunk) (Moving 0))
SameMove (SynchronizesWork lba count) unit chunk task given = ⊥

abbrev pub SameWork : Result Work Sense → Option ℕ → ℕ → Option Task → List ℕ → Type 0
SameWork (Ok work) unit chunk task given = SameMove work unit chunk task given
SameWork (Err sense) unit chunk task given = ⊥

-- a tag's task in the device with blocks, and in the one without beside the data that it gives
abbrev pub SameTask : List ℕ → Option DeviceTask → Option Task → List ℕ → Type 0
SameTask counts None task given = task ≡ None
SameTask counts (Some (TargetMoving unit op chunk)) task given =
    IsSoundTask counts (TargetMoving unit op chunk) × SameWork (work_on counts op unit) unit chunk task given
SameTask counts (Some (TargetEnded unit answer)) task given = task ≡ Some (Ended unit answer)

-- no request is out between the calls, and the buffer has room for a chunk
pub record SameSlot (counts : List ℕ) (target : Option DeviceTask) (slot : SlotState) : Type 0 where
  pub chunk : slot.chunk ≡ CHUNK_BLOCKS
  pub room : length slot.bytes ≡ CHUNK_BYTES
  pub out : slot.out ≡ None
  pub task : SameTask counts target slot.task slot.given

-- each tag's
abbrev pub SameTasks : List ℕ → List (Option DeviceTask) → List SlotState → Type 0
SameTasks counts [] [] = Unit {0}
SameTasks counts (task ∷ tasks) (slot ∷ slots) = SameSlot counts task slot × SameTasks counts tasks slots
SameTasks counts tasks slots = ⊥

-- THE DEVICES

pub record Same (device : Device) (backed : Backed) : Type 0 where
  pub set : backed.machine.set ≡ Profile
  pub units : SameUnits device.units backed.machine.units backed.maps
  pub places : length backed.machine.slots ≡ GREATEST_TAG
  pub tasks : SameTasks (counts_of device.units) device.tasks backed.machine.slots

-- new units, without an attention, and their shapes: as many blocks of 512 bytes, at most 2^32, which may be
-- written, with the usual names, whatever the serial numbers
pub record IsNewUnit (unit : BlockMaps) (shape : Shape) : Type 0 where
  pub blocks : shape.blocks ≡ unit.count
  pub plain : IsPlain shape
  pub block_length : shape.block_length ≡ Bytes512
  pub few : unit.count ≤ 2 ^ 32
  pub sized : IsSized unit
  pub quiet : unit.attention ≡ false

abbrev pub AreNew : List BlockMaps → List Shape → Type 0
AreNew [] [] = Unit {0}
AreNew (unit ∷ units) (shape ∷ shapes) = IsNewUnit unit shape × AreNew units shapes
AreNew units shapes = ⊥

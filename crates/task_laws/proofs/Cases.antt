-- What two devices that are the same have: one case for each kind of logical unit and of task. Cited by the proofs on each call.
use Rattle.std.proofs.Common.{◌≡◌, ℕ, ◌^◌, ◌≤◌, Bool, true, false, List, Option, Some, None, IfSome, Result, Ok, Err, is_some, refl, sym, subst}
use Rattle.block_unit.specs.BlockMaps.{BlockMaps, with_attention}
use Rattle.block_unit.specs.Laws.{IsSized}
use Rattle.arrayvec.specs.ArrayVec.{ArrayVec}
use Rattle.scsi_cmd.specs.declared.Op.{Op}
use Rattle.scsi_cmd.specs.declared.Sense.{Sense}
use Rattle.scsi_cmd.specs.declared.Work.{Work}
use Rattle.scsi_cmd.specs.declared.Work.TheVariants.{Nothing, Gives as GivesWork, Reads as ReadsWork, Writes as WritesWork, Synchronizes as SynchronizesWork}
use Rattle.host_commands.specs.declared.BlockLength.TheVariants.{Bytes512}
use Rattle.host_commands.specs.declared.UnitAttention.{UnitAttention}
use Rattle.host_commands.specs.declared.UnitAttention.TheVariants.{Reset}
use Rattle.host_commands.specs.Shapes.{IsPlain, Shape, plain_shape}
use Rattle.uas_profile.specs.declared.TheConstants.{CHUNK_BLOCKS}
use Rattle.uas_target.specs.declared.DeviceAnswer.{DeviceAnswer}
use Rattle.uas_target.specs.declared.DeviceTask.{DeviceTask}
use Rattle.uas_target.specs.declared.DeviceTask.TheVariants.{Moving as TargetMoving, Ended as TargetEnded}
use Rattle.uas_target.specs.Soundness.{IsSoundTask}
use Rattle.uas_tasks.specs.declared.JobKind.TheVariants.{Reads, Writes}
use Rattle.uas_tasks.specs.declared.LogicalUnit.{LogicalUnit}
use Rattle.uas_tasks.specs.declared.Stage.TheVariants.{Asking, Moving}
use Rattle.uas_tasks.specs.declared.Task.{Task}
use Rattle.uas_tasks.specs.declared.Task.TheVariants.{Giving, Blocks, Ended}
use Rattle.uas_tasks.specs.Slots.{SlotState}
use Rattle.task_laws.specs.Same.{SameMove, SameSlot, SameUnit, SameWork, job_at, work_on}

-- A LOGICAL UNIT

-- of so many blocks of 512 bytes, with the serial number of another, and what is said of that in the disk set
abbrev pub unit_with : ℕ → Shape → Option UnitAttention → LogicalUnit
unit_with blocks shown attention = record { shape = record (plain_shape blocks Bytes512 shown.serial) { disk = shown.disk }; attention = attention }

-- without an attention, and with that of a reset
pub record UnitCases (P : BlockMaps → LogicalUnit → BlockMaps → Type 0) : Type 0 where
  pub quiet : (maps : BlockMaps) (shown : Shape) → maps.count ≤ 2 ^ 32 → IsSized maps → P (with_attention maps false) (unit_with maps.count shown None) maps
  pub reset : (maps : BlockMaps) (shown : Shape) → maps.count ≤ 2 ^ 32 → IsSized maps → P (with_attention maps true) (unit_with maps.count shown (Some Reset)) maps

by_attention : (P : BlockMaps → LogicalUnit → BlockMaps → Type 0) → UnitCases P → (maps : BlockMaps) (shown : Shape) (attention : Option UnitAttention) →
    maps.count ≤ 2 ^ 32 → IsSized maps → IfSome attention (λ found. found ≡ Reset) → P (with_attention maps (is_some attention)) (unit_with maps.count shown attention) maps
by_attention P cases maps shown None few sized reset = cases.quiet maps shown few sized
by_attention P cases maps shown (Some attention) few sized reset =
    subst (λ found. P (with_attention maps true) (unit_with maps.count shown (Some found)) maps) (sym reset) (cases.reset maps shown few sized)

-- it is what it is shown to be
unit_is : (unit : LogicalUnit) (count : ℕ) → IsPlain unit.shape → unit.shape.blocks ≡ count → unit.shape.block_length ≡ Bytes512
    → unit ≡ unit_with count unit.shape unit.attention
unit_is unit count plain many short =
    λ i. record {
      shape = record { blocks = many i; block_length = short i; serial = unit.shape.serial; read_only = plain.read_only i; names = plain.names i; disk = unit.shape.disk };
      attention = unit.attention;
    }

pub unit_cases : (P : BlockMaps → LogicalUnit → BlockMaps → Type 0) → UnitCases P → (device : BlockMaps) (unit : LogicalUnit) (maps : BlockMaps) →
    SameUnit device unit maps → P device unit maps
unit_cases P cases device unit maps same =
    let found : unit ≡ unit_with maps.count unit.shape unit.attention = unit_is unit maps.count same.plain same.blocks same.block_length in
    subst (λ here. P here unit maps) (sym same.same)
    (subst (λ here. P (with_attention maps (is_some unit.attention)) here maps) (sym found)
    (by_attention P cases maps unit.shape unit.attention same.few same.sized same.reset))

-- what is so of both is so of the same logical units
pub SameUnit-with : (maps : BlockMaps) (shown : Shape) (attention : Option UnitAttention) → maps.count ≤ 2 ^ 32 → IsSized maps →
    IfSome attention (λ found. found ≡ Reset) → SameUnit (with_attention maps (is_some attention)) (unit_with maps.count shown attention) maps
SameUnit-with maps shown attention few sized reset = record { blocks = refl; plain = record { read_only = refl; names = refl }; block_length = refl; few = few; sized = sized; reset = reset; same = refl }

-- A SLOT

-- with this task, and no request out
abbrev pub slot_with : Option Task → SlotState → SlotState
slot_with task slot = record { chunk = CHUNK_BLOCKS; task = task; turn = slot.turn; out = None; given = slot.given; bytes = slot.bytes }

-- a slot that is the same as a task that has ended, gives data of the device, reads blocks, writes blocks, or is none
pub record SlotCases (counts : List ℕ) (P : Option DeviceTask → SlotState → Type 0) : Type 0 where
  pub none : (slot : SlotState) → SameSlot counts None (slot_with None slot) → P None (slot_with None slot)
  pub ended : (slot : SlotState) (unit : Option ℕ) (answer : DeviceAnswer) →
      SameSlot counts (Some (TargetEnded unit answer)) (slot_with (Some (Ended unit answer)) slot) →
      P (Some (TargetEnded unit answer)) (slot_with (Some (Ended unit answer)) slot)
  pub gives : (slot : SlotState) (unit : Option ℕ) (op : Op) (bytes : ArrayVec ℕ) → work_on counts op unit ≡ Ok (GivesWork bytes) → slot.given ≡ bytes.items →
      SameSlot counts (Some (TargetMoving unit op 0)) (slot_with (Some (Giving unit 0)) slot) → IsSoundTask counts (TargetMoving unit op 0) →
      P (Some (TargetMoving unit op 0)) (slot_with (Some (Giving unit 0)) slot)
  pub reads : (slot : SlotState) (number : ℕ) (op : Op) (chunk lba count : ℕ) → work_on counts op (Some number) ≡ Ok (ReadsWork lba count) →
      SameSlot counts (Some (TargetMoving (Some number) op chunk)) (slot_with (Some (Blocks number (job_at Reads lba count chunk) Asking)) slot) →
      IsSoundTask counts (TargetMoving (Some number) op chunk) →
      P (Some (TargetMoving (Some number) op chunk)) (slot_with (Some (Blocks number (job_at Reads lba count chunk) Asking)) slot)
  pub writes : (slot : SlotState) (number : ℕ) (op : Op) (chunk lba count : ℕ) (through : Bool) → work_on counts op (Some number) ≡ Ok (WritesWork lba count through) →
      SameSlot counts (Some (TargetMoving (Some number) op chunk)) (slot_with (Some (Blocks number (job_at (Writes through) lba count chunk) (Moving 0))) slot) →
      IsSoundTask counts (TargetMoving (Some number) op chunk) →
      P (Some (TargetMoving (Some number) op chunk)) (slot_with (Some (Blocks number (job_at (Writes through) lba count chunk) (Moving 0))) slot)

-- a slot is what it is shown to be
slot_is : (counts : List ℕ) (task : Option DeviceTask) (slot : SlotState) (now : Option Task) → SameSlot counts task slot → slot.task ≡ now → slot ≡ slot_with now slot
slot_is counts task slot now same is =
    λ i. record { chunk = same.chunk i; task = is i; turn = slot.turn; out = same.out i; given = slot.given; bytes = slot.bytes }

-- so what is so of the slot as shown is so of the slot
shown : (counts : List ℕ) (P : Option DeviceTask → SlotState → Type 0) (task : Option DeviceTask) (slot : SlotState) (now : Option Task) →
    SameSlot counts task slot → slot.task ≡ now → (SameSlot counts task (slot_with now slot) → P task (slot_with now slot)) → P task slot
shown counts P task slot now same is so =
    let found : slot ≡ slot_with now slot = slot_is counts task slot now same is in
    subst (P task) (sym found) (so (subst (SameSlot counts task) found same))

moving_cases : (counts : List ℕ) (P : Option DeviceTask → SlotState → Type 0) → SlotCases counts P → (unit : Option ℕ) (op : Op) (chunk : ℕ) (slot : SlotState)
    (work : Work) → work_on counts op unit ≡ Ok work → IsSoundTask counts (TargetMoving unit op chunk) →
    SameSlot counts (Some (TargetMoving unit op chunk)) slot → SameMove work unit chunk slot.task slot.given → P (Some (TargetMoving unit op chunk)) slot
moving_cases counts P cases unit op chunk slot Nothing is sound same moves = absurd moves
moving_cases counts P cases unit op chunk slot (GivesWork bytes) is sound same moves =
    let Q : ℕ → Type 0 = λ at. SameSlot counts (Some (TargetMoving unit op at)) slot → IsSoundTask counts (TargetMoving unit op at) → P (Some (TargetMoving unit op at)) slot in
    let here : Q 0 =
    (λ as_shown sound_here.
    shown counts P (Some (TargetMoving unit op 0)) slot (Some (Giving unit 0)) as_shown moves.0 (λ with. cases.gives slot unit op bytes is moves.1 with sound_here)) in
    subst Q (sym moves.2) here same sound
moving_cases counts P cases None op chunk slot (ReadsWork lba count) is sound same moves = absurd moves
moving_cases counts P cases (Some number) op chunk slot (ReadsWork lba count) is sound same moves =
    shown counts P (Some (TargetMoving (Some number) op chunk)) slot (Some (Blocks number (job_at Reads lba count chunk) Asking)) same moves
    (λ with. cases.reads slot number op chunk lba count is with sound)
moving_cases counts P cases None op chunk slot (WritesWork lba count through) is sound same moves = absurd moves
moving_cases counts P cases (Some number) op chunk slot (WritesWork lba count through) is sound same moves =
    shown counts P (Some (TargetMoving (Some number) op chunk)) slot (Some (Blocks number (job_at (Writes through) lba count chunk) (Moving 0))) same moves
    (λ with. cases.writes slot number op chunk lba count through is with sound)
moving_cases counts P cases unit op chunk slot (SynchronizesWork lba count) is sound same moves = absurd moves

working_cases : (counts : List ℕ) (P : Option DeviceTask → SlotState → Type 0) → SlotCases counts P → (unit : Option ℕ) (op : Op) (chunk : ℕ) (slot : SlotState)
    (works : Result Work Sense) → work_on counts op unit ≡ works → IsSoundTask counts (TargetMoving unit op chunk) →
    SameSlot counts (Some (TargetMoving unit op chunk)) slot → SameWork works unit chunk slot.task slot.given → P (Some (TargetMoving unit op chunk)) slot
working_cases counts P cases unit op chunk slot (Ok work) is sound same moves = moving_cases counts P cases unit op chunk slot work is sound same moves
working_cases counts P cases unit op chunk slot (Err sense) is sound same moves = absurd moves

pub slot_cases : (counts : List ℕ) (P : Option DeviceTask → SlotState → Type 0) → SlotCases counts P → (task : Option DeviceTask) (slot : SlotState) →
    SameSlot counts task slot → P task slot
slot_cases counts P cases None slot same = shown counts P None slot None same same.task (cases.none slot)
slot_cases counts P cases (Some (TargetEnded unit answer)) slot same =
    shown counts P (Some (TargetEnded unit answer)) slot (Some (Ended unit answer)) same same.task (cases.ended slot unit answer)
slot_cases counts P cases (Some (TargetMoving unit op chunk)) slot same =
    working_cases counts P cases unit op chunk slot (work_on counts op unit) refl same.task.0 same same.task.1

-- A device of one logical unit, and where its one tag is with a command.
use Rattle.std.specs.Prelude.{◌≡◌, ℕ, false, ◌+◌, ◌*◌, ◌/◌, ◌^◌, ◌<◌, ◌≤◌, List, [], ◌∷◌, length, drop, Option, None, Some, Result, Ok, Err}
use Rattle.std.specs.List.{list_any}
use Rattle.device_server.specs.declared.Answer.{Answer}
use Rattle.device_server.specs.declared.Answer.TheVariants.{Good, Check}
use Rattle.host_commands.specs.declared.BlockLength.TheVariants.{Bytes512}
use Rattle.host_commands.specs.declared.CommandSet.TheVariants.{Host}
use Rattle.host_commands.specs.Shapes.{Shape, plain_shape}
use Rattle.uas_target.specs.declared.DeviceAnswer.TheVariants.{Status}
use Rattle.uas_tasks.specs.declared.Job.{Job}
use Rattle.uas_tasks.specs.declared.JobKind.{JobKind}
use Rattle.uas_tasks.specs.declared.JobKind.TheVariants.{Reads, Writes, Synchronizes}
use Rattle.uas_tasks.specs.declared.Stage.TheVariants.{Asking, Moving}
use Rattle.uas_tasks.specs.declared.Task.{Task}
use Rattle.uas_tasks.specs.declared.Task.TheVariants.{Blocks, Ended}
use Rattle.uas_tasks.specs.Machine.{Machine, quiet, slot_of}
use Rattle.uas_tasks.specs.Stale.{is_stale}
use Rattle.file_disk.specs.declared.DiskFault.{DiskFault}
use Rattle.file_disk.specs.declared.cdb.Operation.{Operation}
use Rattle.file_disk.specs.declared.cdb.Operation.TheVariants.{Read, Write, Synchronize}

-- OPERATIONS

-- the operation codes of READ(16), WRITE(16) and SYNCHRONIZE CACHE(16)
abbrev pub code_of : Operation → ℕ
code_of Read = 0x88
code_of Write = 0x8a
code_of Synchronize = 0x91

-- what may be asked of a logical unit of so many blocks: 1 to 128 of them, or to synchronize them all
abbrev pub MayAsk : Operation → ℕ → ℕ → ℕ → Type 0
MayAsk Read blocks block count = (0 < count) × (count ≤ 128) × (block + count ≤ blocks)
MayAsk Write blocks block count = (0 < count) × (count ≤ 128) × (block + count ≤ blocks)
MayAsk Synchronize blocks block count = (block ≡ 0) × (count ≡ 0) × (0 < blocks)

-- TASKS

abbrev pub job_of : JobKind → ℕ → ℕ → Job
job_of kind block count = record { kind = kind; block_bytes = 512; lba = block; count = count; done = 0 }

-- the backend is to be asked
abbrev pub asking : JobKind → ℕ → ℕ → Task
asking kind block count = Blocks 0 (job_of kind block count) Asking

-- the bytes of the blocks are to be moved
abbrev pub moving : JobKind → ℕ → ℕ → Task
moving kind block count = Blocks 0 (job_of kind block count) (Moving 0)

-- the answer waits to be sent
abbrev pub ended : Answer → Task
ended answer = Ended (Some 0) (Status answer)

-- the task of a command that was received
abbrev pub begun : Operation → ℕ → ℕ → ℕ → Task
begun Read blocks block count = asking Reads block count
begun Write blocks block count = moving (Writes false) block count
begun Synchronize blocks block count = asking Synchronizes 0 blocks

-- how the client is told of an answer
abbrev pub told_of : Answer → Result (Unit {0}) DiskFault
told_of Good = Ok tt
told_of (Check sense) = Err (record {})

-- BYTES

abbrev pub blocks_of : List ℕ → ℕ
blocks_of bytes = length bytes / 512

-- these bytes are 1 to 128 whole blocks
pub record IsWholeBlocks (bytes : List ℕ) : Type 0 where
  pub some : 0 < length bytes
  pub most : length bytes ≤ 65536
  pub whole : 512 * blocks_of bytes ≡ length bytes

-- THE DEVICE

-- the logical unit: so many blocks of 512 bytes
abbrev pub shape_of : ℕ → Shape
shape_of blocks = plain_shape blocks Bytes512 1

-- The device has one logical unit of so many blocks, and tag 1 has this task, none of whose requests is out; nor is a stale one of another
-- tag.
pub record IsAt (blocks : ℕ) (machine : Machine) (now : Option Task) : Type 0 where
  pub units : machine.units ≡ quiet (shape_of blocks) ∷ []
  pub set : machine.set ≡ Host 128
  pub some : 0 < length machine.slots
  pub chunk : (slot_of machine 1).chunk ≡ 128
  pub out : (slot_of machine 1).out ≡ None
  pub room : length (slot_of machine 1).bytes ≡ 65536
  pub task : (slot_of machine 1).task ≡ now
  pub rest : list_any (is_stale 0) (drop 1 machine.slots) ≡ false

-- the chunk buffer of tag 1
abbrev pub buffer_of : Machine → List ℕ
buffer_of machine = (slot_of machine 1).bytes

-- it has no command, and 1 to 2^48 blocks
pub record IsReady (blocks : ℕ) (machine : Machine) : Type 0 where
  pub idle : IsAt blocks machine None
  pub some : 0 < blocks
  pub most : blocks ≤ 2 ^ 48

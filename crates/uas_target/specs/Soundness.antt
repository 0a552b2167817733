-- What is true of every task that the device has.
use Rattle.std.specs.Prelude.{◌≡◌, ℕ, ◌*◌, ◌<◌, ◌≤◌, List, length, map, slice_get, Option, None, Some, MatchOption, IsOk}
use Rattle.block_unit.specs.BlockMaps.{BlockMaps}
use Rattle.scsi_cmd.specs.declared.Op.{Op}
use Rattle.scsi_cmd.specs.Op.{moved_bytes}
use Rattle.scsi_cmd.specs.Work.{work_without_unit}
use Rattle.scsi_cmd.specs.Meaning.{op_fault}
use Rattle.scsi_cmd.specs.Held.{AllHeld}
use Rattle.uas_target.specs.declared.DeviceTask.{DeviceTask}
use Rattle.uas_target.specs.declared.DeviceTask.TheVariants.{Moving, Ended}
use Rattle.uas_target.specs.declared.Phase.{Phase}
use Rattle.uas_target.specs.declared.Phase.TheVariants.{Absent, Gives, Takes, Ends}
use Rattle.uas_profile.specs.declared.TheConstants.{STREAMS, MAX_CLIENTS, CHUNK_BYTES}

-- how many blocks each unit has
abbrev pub counts_of : List BlockMaps → List ℕ
counts_of units = map (λ unit. unit.count) units

-- an operation can be executed on this unit, of units of so many blocks: without a unit it is one that needs none
abbrev pub IsOn : List ℕ → Op → Option ℕ → Type 0
IsOn counts op None = IsOk (work_without_unit op)
IsOn counts op (Some number) = MatchOption (slice_get counts number) ⊥ (λ count. op_fault op count ≡ None)

-- a task that moves data has bytes left to move, and its blocks are on its unit
abbrev pub IsSoundTask : List ℕ → DeviceTask → Type 0
IsSoundTask counts (Moving unit op chunk) = (CHUNK_BYTES * chunk < moved_bytes op) × IsOn counts op unit
IsSoundTask counts (Ended unit answer) = Unit {0}

-- a chunk has bytes, and at most those of eight blocks
abbrev pub IsChunk : Phase → Type 0
IsChunk Absent = Unit {0}
IsChunk (Gives size) = (0 < size) × (size ≤ CHUNK_BYTES)
IsChunk (Takes size) = (0 < size) × (size ≤ CHUNK_BYTES)
IsChunk Ends = Unit {0}

-- 1 to MAX_CLIENTS units, a place for each of at most STREAMS tags, and every task is sound
pub record IsSoundDevice (units : List BlockMaps) (held : List (Option DeviceTask)) : Type 0 where
  pub some_unit : 1 ≤ length units
  pub most_units : length units ≤ MAX_CLIENTS
  pub places : length held ≤ STREAMS
  pub tasks : AllHeld (IsSoundTask (counts_of units)) held

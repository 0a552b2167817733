-- Which true logs have a text.
use Rattle.std.specs.Prelude.{◌≡◌, ℕ, ◌*◌, ◌^◌, ◌<◌, ◌≤◌, List, length, Some, All, slice_get}
use Rattle.std.specs.List.{AllByRecursion}
use Rattle.std.specs.List.Sorted.{IsStrictlyIncreasing}
use Rattle.block_unit.specs.BlockMaps.{BlockMaps}
use Rattle.uas_profile.specs.declared.TheConstants.{BLOCK_BYTES, MAX_BLOCKS, TAGS}
use Rattle.shared_machine.specs.Part.{Part}
use Rattle.shared_machine.specs.declared.Step.{Step}
use Rattle.shared_machine.specs.declared.Step.TheVariants.{Submit, Task, CommandPipe, Data, Status, Engine, Event, Retire, Take}
use Rattle.uas_log.specs.declared.Log.{Log}
use Rattle.uas_log.specs.Booking.{IsReplay}
use Rattle.log_text.specs.Text.{OpFits, UnitFits}
use Rattle.log_text.specs.Kept.{FitsText, IsSavable}

-- the block, the count and the allocation length that a submission names fit their fields; no other step names any
abbrev pub HasFields : Step → Type 0
HasFields (Submit client tag ticket command) = OpFits command.op
HasFields (Task client ticket task) = Unit {0}
HasFields CommandPipe = Unit {0}
HasFields (Data tag) = Unit {0}
HasFields (Status tag) = Unit {0}
HasFields Engine = Unit {0}
HasFields Event = Unit {0}
HasFields (Retire pipe tag) = Unit {0}
HasFields (Take client) = Unit {0}

-- A true log of fewer than 2^32 steps fits a text, where its units have whole blocks and its operations are those of CDBs.
abbrev pub TrueLogsFit : Type 0
TrueLogsFit =
    (log : Log) → IsReplay log → length log.steps < 2 ^ 32 → AllByRecursion UnitFits log.units → AllByRecursion HasFields log.steps → FitsText log

-- With 16 tags of each client it has one of the second version.
abbrev pub FittingLogsSave : Type 0
FittingLogsSave = (log : Log) → IsReplay log → log.tags ≡ TAGS → FitsText log → IsSavable log

-- a unit has 1 to 65,536 whole blocks, and its bad blocks are among them, rising
pub record IsUnit (unit : BlockMaps) : Type 0 where
  pub some : 1 ≤ unit.count
  pub most : unit.count ≤ MAX_BLOCKS
  pub whole : length unit.blocks ≡ BLOCK_BYTES * unit.count
  pub rising : IsStrictlyIncreasing unit.bad
  pub below : All (λ block. block < unit.count) unit.bad

-- each client's is one
abbrev pub AreUnits : List Part → Type 0
AreUnits parts = (client : ℕ) (part : Part) → slice_get parts client ≡ Some part → IsUnit part.unit

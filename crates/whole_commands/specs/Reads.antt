-- A READ that ends with GOOD brings its blocks, as they stand in the unit (SBC, READ).
use Rattle.std.specs.Prelude.{◌≡◌, ℕ, List, All, Contains, Some, None, replicate}
use Rattle.block_unit.specs.BlockMaps.{BlockMaps, blocks_read, with_attention}
use Rattle.block_unit.specs.Laws.{IsSized}
use Rattle.scsi_cmd.specs.declared.Command.{Command}
use Rattle.scsi_cmd.specs.declared.Op.{Op}
use Rattle.scsi_cmd.specs.declared.Op.TheVariants.{TestUnitReady, Inquiry, ReadCapacity, Read, Write, Sync, Read16, Write16, ReadCapacity16}
use Rattle.scsi_cmd.specs.declared.Reply.{Reply}
use Rattle.scsi_cmd.specs.declared.Reply.TheVariants.{Status, Aborted, Task as TaskReply}
use Rattle.scsi_cmd.specs.declared.TheConstants.{GOOD}
use Rattle.solo_model.specs.declared.Label.{Label}
use Rattle.solo_model.specs.declared.Label.TheVariants.{Submit}
use Rattle.solo_model.specs.Solo.{SoloState, solo_run}
use Rattle.uas_profile.specs.declared.TheConstants.{MOST_TAGS}
use Rattle.whole_commands.specs.Labels.{IsReading}

-- nothing is under any tag
abbrev pub HasNoTasks : SoloState → Type 0
HasNoTasks state = state.tasks ≡ replicate MOST_TAGS None

-- The bytes are what the operation reads, where it reads blocks: those of its blocks, from its LBA on, in full.
abbrev pub AreItsBlocks : BlockMaps → Op → List ℕ → Type 0
AreItsBlocks unit TestUnitReady bytes = Unit {0}
AreItsBlocks unit (Inquiry allocation) bytes = Unit {0}
AreItsBlocks unit ReadCapacity bytes = Unit {0}
AreItsBlocks unit (Read lba count fua) bytes = bytes ≡ blocks_read unit lba count
AreItsBlocks unit (Write lba count fua) bytes = Unit {0}
AreItsBlocks unit (Sync lba count) bytes = Unit {0}
AreItsBlocks unit (Read16 lba count fua) bytes = bytes ≡ blocks_read unit lba count
AreItsBlocks unit (Write16 lba count fua) bytes = Unit {0}
AreItsBlocks unit (ReadCapacity16 allocation) bytes = Unit {0}

-- These labels submit a command under this ticket, and the bytes are what it reads, whichever it is.
pub record AreRead (unit : BlockMaps) (labels : List Label) (ticket : ℕ) (bytes : List ℕ) : Type 0 where
  pub submitted : (index : ℕ) × (command : Command) × Contains labels (Submit index ticket command)
  pub brought : (index : ℕ) (command : Command) → Contains labels (Submit index ticket command) → AreItsBlocks unit command.op bytes

-- a GOOD brings what was read
abbrev pub IsTrueReply : BlockMaps → List Label → Reply → Type 0
IsTrueReply unit labels (Status tag ticket status sense buffer) = status ≡ GOOD → AreRead unit labels ticket buffer
IsTrueReply unit labels (Aborted tag ticket buffer) = Unit {0}
IsTrueReply unit labels (TaskReply tag ticket code) = Unit {0}

-- What a run of reads leaves: the unit as it was, but for its attention, and in each GOOD the blocks that stand in it.
pub record ReadsTruly (unit : BlockMaps) (labels : List Label) (after : BlockMaps) (replies : List Reply) : Type 0 where
  pub same : after ≡ with_attention unit after.attention
  pub told : All (IsTrueReply unit labels) replies

-- Any number of reads under any tags, interleaved in any order, from a state without tasks.
abbrev pub GoodReadsGiveBlocks : Type 0
GoodReadsGiveBlocks =
    (before after : SoloState) (labels : List Label) (replies : List Reply) → IsSized before.unit → HasNoTasks before → All IsReading labels
    → solo_run before labels ≡ Some (after, replies) → ReadsTruly before.unit labels after.unit replies

-- A WRITE that ends with GOOD leaves its bytes in its blocks (SBC, WRITE).
use Rattle.std.specs.Prelude.{◌≡◌, ℕ, List, ◌∷◌, All, Contains, Some}
use Rattle.arrayvec.specs.ArrayVec.{ArrayVec}
use Rattle.block_unit.specs.BlockMaps.{BlockMaps, written}
use Rattle.block_unit.specs.Laws.{IsSized}
use Rattle.scsi_cmd.specs.declared.Command.{Command}
use Rattle.scsi_cmd.specs.declared.Op.{Op}
use Rattle.scsi_cmd.specs.declared.Op.TheVariants.{TestUnitReady, Inquiry, ReadCapacity, Read, Write, Sync, Read16, Write16, ReadCapacity16}
use Rattle.scsi_cmd.specs.declared.Reply.{Reply}
use Rattle.scsi_cmd.specs.declared.Reply.TheVariants.{Status}
use Rattle.scsi_cmd.specs.declared.TheConstants.{GOOD}
use Rattle.solo_model.specs.declared.Label.{Label}
use Rattle.solo_model.specs.declared.Label.TheVariants.{Submit}
use Rattle.solo_model.specs.Solo.{SoloState, solo_run}
use Rattle.whole_commands.specs.Labels.{GoesOn}
use Rattle.whole_commands.specs.Reads.{HasNoTasks}

-- The unit after an operation with these bytes, where it writes blocks: these bytes stand from its LBA on, with FUA on the medium too,
-- and all else is as it was.
abbrev pub HasItsBytes : BlockMaps → Op → List ℕ → BlockMaps → Type 0
HasItsBytes unit TestUnitReady bytes after = Unit {0}
HasItsBytes unit (Inquiry allocation) bytes after = Unit {0}
HasItsBytes unit ReadCapacity bytes after = Unit {0}
HasItsBytes unit (Read lba count fua) bytes after = Unit {0}
HasItsBytes unit (Write lba count fua) bytes after = after ≡ written unit lba bytes fua
HasItsBytes unit (Sync lba count) bytes after = Unit {0}
HasItsBytes unit (Read16 lba count fua) bytes after = Unit {0}
HasItsBytes unit (Write16 lba count fua) bytes after = after ≡ written unit lba bytes fua
HasItsBytes unit (ReadCapacity16 allocation) bytes after = Unit {0}

-- One command alone, from a state without tasks: where a reply is a GOOD and it was a WRITE, it wrote its bytes and nothing else.
abbrev pub GoodWriteIsWritten : Type 0
GoodWriteIsWritten =
    (before after : SoloState) (index ticket : ℕ) (command : Command) (rest : List Label) (replies : List Reply)
    (tag told : ℕ) (sense : ArrayVec ℕ) (buffer : List ℕ) → IsSized before.unit → HasNoTasks before → All GoesOn rest
    → solo_run before (Submit index ticket command ∷ rest) ≡ Some (after, replies)
    → Contains replies (Status tag told GOOD sense buffer) → HasItsBytes before.unit command.op command.buffer after.unit

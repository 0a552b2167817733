-- What the labels of a run of the solo machine do to the blocks.
use Rattle.scsi_cmd.specs.declared.Op.{Op}
use Rattle.scsi_cmd.specs.declared.Op.TheVariants.{TestUnitReady, Inquiry, ReadCapacity, Read, Write, Sync, Read16, Write16, ReadCapacity16}
use Rattle.solo_model.specs.declared.Label.{Label}
use Rattle.solo_model.specs.declared.Label.TheVariants.{Submit, Task, Carry, Move, Send, Settle}

-- an operation that changes neither the blocks nor the medium
abbrev pub KeepsBlocks : Op → Type 0
KeepsBlocks TestUnitReady = Unit {0}
KeepsBlocks (Inquiry allocation) = Unit {0}
KeepsBlocks ReadCapacity = Unit {0}
KeepsBlocks (Read lba count fua) = Unit {0}
KeepsBlocks (Write lba count fua) = ⊥
KeepsBlocks (Sync lba count) = ⊥
KeepsBlocks (Read16 lba count fua) = Unit {0}
KeepsBlocks (Write16 lba count fua) = ⊥
KeepsBlocks (ReadCapacity16 allocation) = Unit {0}

-- a label of a run that changes no blocks: such an operation is submitted, or one goes on
abbrev pub IsReading : Label → Type 0
IsReading (Submit index ticket command) = KeepsBlocks command.op
IsReading (Task ticket task) = ⊥
IsReading (Carry index) = Unit {0}
IsReading (Move index) = Unit {0}
IsReading (Send index) = Unit {0}
IsReading (Settle index) = Unit {0}

-- what was submitted goes on, and nothing is submitted
abbrev pub GoesOn : Label → Type 0
GoesOn (Submit index ticket command) = ⊥
GoesOn (Task ticket task) = ⊥
GoesOn (Carry index) = Unit {0}
GoesOn (Move index) = Unit {0}
GoesOn (Send index) = Unit {0}
GoesOn (Settle index) = Unit {0}

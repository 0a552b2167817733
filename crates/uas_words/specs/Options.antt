-- What the words of the command line ask for.
use Rattle.std.specs.Prelude.{ℕ, ◌≤◌, ◌<◌, IfSome}
use Rattle.uas_profile.specs.declared.TheConstants.{MAX_BLOCKS, MOST_BLOCKS_MOVED}
use Rattle.byte_io.specs.Disks.{AreBlocks, AreClients, AreDisks}
use Rattle.uas_words.specs.declared.Run.{Run}
use Rattle.uas_words.specs.declared.Run.TheVariants.{Replay, Trace, Work, Keep, Decode, Make, Info, Dump, Fill, Audit, Draw, Page, Capture}

-- a unit's blocks have numbers from 0 to 65,535
abbrev pub IsBlock : ℕ → Type 0
IsBlock block = block < MAX_BLOCKS

-- one READ or WRITE is of 1 to 128 blocks
abbrev pub IsMoved : ℕ → Type 0
IsMoved count = (1 ≤ count) × (count ≤ MOST_BLOCKS_MOVED)

-- of so many tags of a client, one of them for task management, 1 to the other ones have a command out at a time
abbrev pub IsDepth : ℕ → ℕ → Type 0
IsDepth tags depth = (1 ≤ depth) × (depth < tags)

-- a client takes 1 to 1,000 rounds
abbrev pub AreRounds : ℕ → Type 0
AreRounds rounds = (1 ≤ rounds) × (rounds ≤ 1000)

-- each number is in its range
abbrev pub IsInRange : Run → Type 0
IsInRange (Replay disks) = AreDisks disks × IfSome disks.bad IsBlock
IsInRange (Trace disks) = AreDisks disks × IfSome disks.bad IsBlock
IsInRange (Work clients tags depth rounds log) = AreClients tags clients × IsDepth tags depth × AreRounds rounds
IsInRange (Keep clients tags depth rounds log every) = AreClients tags clients × IsDepth tags depth × AreRounds rounds
IsInRange Decode = Unit {0}
IsInRange (Make file blocks replaces) = AreBlocks blocks
IsInRange (Info file) = Unit {0}
IsInRange (Dump file extent) = IsMoved extent.count
IsInRange (Fill file extent byte) = IsMoved extent.count
IsInRange (Audit log head) = Unit {0}
IsInRange (Draw disks) = AreDisks disks × IfSome disks.bad IsBlock
IsInRange (Page disks) = AreDisks disks × IfSome disks.bad IsBlock
IsInRange (Capture disks file) = AreDisks disks × IfSome disks.bad IsBlock

-- When a run may give up.
use Rattle.std.specs.Prelude.{◌≡◌, ℕ, Bool, IsTrue, List, ◌⊎◌, Option, IfSome, Result, Ok, Err, ⊤}
use Rattle.uas_replay.specs.declared.status.RunFault.{RunFault}
use Rattle.uas_replay.specs.declared.status.RunFault.TheVariants.{Image, ImageFile, Script, ScriptFile, NoMemory}
use Rattle.byte_io.specs.declared.streams.StreamFault.{StreamFault}
use Rattle.byte_io.specs.declared.streams.StreamFault.TheVariants.{NoMemory as StreamNoMemory, File}
use Rattle.std.specs.Io.KnownBytes.{Appends, Keeps}
use Rattle.block_unit.specs.BlockMaps.{BlockMaps}
use Rattle.uas_script.specs.declared.Line.{Line}
use Rattle.uas_script.specs.declared.ScriptFault.{ScriptFault}
use Rattle.uas_script.specs.Script.{script}
use Rattle.uas_replay.specs.Told.{told}

-- A run of a script that told something, with so many tags of each client: its lines' text, and their number as the exit status.
abbrev pub Tells : ℕ → List BlockMaps → Result (List Line) ScriptFault → Option (List ℕ) → Option (List ℕ) → ℕ → Type 0
Tells tags units (Ok lines) old new status = Appends old new (told tags units lines).0 × (status ≡ (told tags units lines).1)
Tells tags units (Err fault) old new status = ⊥

-- A run that reads a script for so many clients with so many tags each: the script's own fault, where its bytes are known; the reader's, where
-- that can fail; want of memory.
abbrev pub ScriptGivesUp : ℕ → ℕ → Option (List ℕ) → Bool → RunFault → Type 0
ScriptGivesUp clients tags left can_fail (Image fault) = ⊥
ScriptGivesUp clients tags left can_fail ImageFile = ⊥
ScriptGivesUp clients tags left can_fail (Script fault) = IfSome left (λ bytes. script clients tags bytes ≡ Err fault)
ScriptGivesUp clients tags left can_fail ScriptFile = IsTrue can_fail
ScriptGivesUp clients tags left can_fail NoMemory = ⊤

-- A run that prints too: nothing was printed at a fault of the script or of its reader, nor at want of memory.
abbrev pub ReplayGivesUp : ℕ → ℕ → Option (List ℕ) → Bool → Bool → Option (List ℕ) → Option (List ℕ) → RunFault → Type 0
ReplayGivesUp clients tags left can_read_fail can_write_fail old new (Image fault) = ⊥
ReplayGivesUp clients tags left can_read_fail can_write_fail old new ImageFile = ⊥
ReplayGivesUp clients tags left can_read_fail can_write_fail old new (Script fault) = IfSome left (λ bytes. script clients tags bytes ≡ Err fault) × Keeps old new
ReplayGivesUp clients tags left can_read_fail can_write_fail old new ScriptFile = (IsTrue can_read_fail × Keeps old new) ⊎ IsTrue can_write_fail
ReplayGivesUp clients tags left can_read_fail can_write_fail old new NoMemory = Keeps old new

-- A call that writes as it goes gives up for want of memory, or at a fault of the writer, where that can fail.
abbrev pub StopsBy : Bool → RunFault → Type 0
StopsBy can_fail (Image fault) = ⊥
StopsBy can_fail ImageFile = ⊥
StopsBy can_fail (Script fault) = ⊥
StopsBy can_fail ScriptFile = IsTrue can_fail
StopsBy can_fail NoMemory = Unit {0}

-- the exit status of a fault
abbrev pub status_of : RunFault → ℕ
status_of (Image fault) = 3
status_of ImageFile = 3
status_of (Script fault) = 3
status_of ScriptFile = 3
status_of NoMemory = 4

-- a fault of an image's file, as the run tells it
abbrev pub file_fault : StreamFault → RunFault
file_fault StreamNoMemory = NoMemory
file_fault File = ImageFile

-- a fault of standard output or of a script's reader, as the run tells it
abbrev pub output_fault : StreamFault → RunFault
output_fault StreamNoMemory = NoMemory
output_fault File = ScriptFile

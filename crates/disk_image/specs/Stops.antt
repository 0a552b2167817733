-- When a run on an image may give up, and what it prints else.
use Rattle.std.specs.Prelude.{◌≡◌, ℕ, Bool, IsTrue, List, [], Option, Some, IfSome, Result, Ok, Err, ⊤}
use Rattle.uas_replay.specs.declared.status.RunFault.{RunFault}
use Rattle.uas_replay.specs.declared.status.RunFault.TheVariants.{Image, ImageFile, Script, ScriptFile, NoMemory}
use Rattle.std.specs.Io.KnownBytes.{Appends, Keeps}
use Rattle.block_unit.specs.BlockMaps.{BlockMaps, imaged}
use Rattle.block_unit.specs.declared.ImageFault.{ImageFault}
use Rattle.block_unit.specs.declared.ImageFault.TheVariants.{NotWhole, TooLarge, NoMemory as ImageNoMemory}
use Rattle.disk_image.specs.Images.{blocks_in, info_text, made_image}

-- The reading of an image: its file's fault, where that can fail; too many bytes, where they are known; want of memory.
abbrev pub ReadGivesUp : Option (List ℕ) → Bool → Bool → RunFault → Type 0
ReadGivesUp left is_there can_fail (Image NotWhole) = ⊥
ReadGivesUp left is_there can_fail (Image TooLarge) = IfSome left (λ bytes. blocks_in bytes ≡ Err TooLarge) × IsTrue is_there
ReadGivesUp left is_there can_fail (Image ImageNoMemory) = ⊥
ReadGivesUp left is_there can_fail ImageFile = IsTrue can_fail
ReadGivesUp left is_there can_fail (Script fault) = ⊥
ReadGivesUp left is_there can_fail ScriptFile = ⊥
ReadGivesUp left is_there can_fail NoMemory = ⊤

-- The unit of an image that was read, by the number of blocks in it: of no other file is there one.
abbrev pub HoldsImage : Result ℕ ImageFault → List ℕ → BlockMaps → Type 0
HoldsImage (Ok blocks) bytes unit = unit ≡ imaged bytes []
HoldsImage (Err fault) bytes unit = ⊥

-- The reading of a unit: the image's own fault, where it is there and its bytes are known; its file's, where that can fail; want of memory.
abbrev pub UnitGivesUp : Option (List ℕ) → Bool → Bool → RunFault → Type 0
UnitGivesUp left is_there can_fail (Image fault) = IfSome left (λ bytes. blocks_in bytes ≡ Err fault) × IsTrue is_there
UnitGivesUp left is_there can_fail ImageFile = IsTrue can_fail
UnitGivesUp left is_there can_fail (Script fault) = ⊥
UnitGivesUp left is_there can_fail ScriptFile = ⊥
UnitGivesUp left is_there can_fail NoMemory = ⊤

-- A run that reads an image and prints: the image's own fault, where it is there and its bytes are known, or its file's, where that can
-- fail, and nothing was printed; standard output's, where that can fail; want of memory, and nothing was printed.
abbrev pub InfoGivesUp : Option (List ℕ) → Bool → Bool → Bool → Option (List ℕ) → Option (List ℕ) → RunFault → Type 0
InfoGivesUp left is_there can_read_fail can_write_fail old new (Image fault) =
    IfSome left (λ bytes. blocks_in bytes ≡ Err fault) × IsTrue is_there × Keeps old new
InfoGivesUp left is_there can_read_fail can_write_fail old new ImageFile = IsTrue can_read_fail × Keeps old new
InfoGivesUp left is_there can_read_fail can_write_fail old new (Script fault) = ⊥
InfoGivesUp left is_there can_read_fail can_write_fail old new ScriptFile = IsTrue can_write_fail
InfoGivesUp left is_there can_read_fail can_write_fail old new NoMemory = Keeps old new

-- The writing of an image: the fault of its file, or want of memory.
abbrev pub WriteGivesUp : Bool → RunFault → Type 0
WriteGivesUp can_fail (Image fault) = ⊥
WriteGivesUp can_fail ImageFile = IsTrue can_fail
WriteGivesUp can_fail (Script fault) = ⊥
WriteGivesUp can_fail ScriptFile = ⊥
WriteGivesUp can_fail NoMemory = ⊤

-- A run that writes an image of so many blocks and prints: the fault of its file, where that can fail, and nothing was printed; of
-- standard output, where that can fail, once the file holds the image, where that is known; or want of memory, and nothing was printed.
abbrev pub MakeGivesUp : ℕ → Bool → Option (List ℕ) → Bool → Bool → Option (List ℕ) → Option (List ℕ) → RunFault → Type 0
MakeGivesUp blocks tells holds can_file_fail can_write_fail old new (Image fault) = ⊥
MakeGivesUp blocks tells holds can_file_fail can_write_fail old new ImageFile = IsTrue can_file_fail × Keeps old new
MakeGivesUp blocks tells holds can_file_fail can_write_fail old new (Script fault) = ⊥
MakeGivesUp blocks tells holds can_file_fail can_write_fail old new ScriptFile =
    IsTrue can_write_fail × (IsTrue tells → holds ≡ Some (made_image blocks))
MakeGivesUp blocks tells holds can_file_fail can_write_fail old new NoMemory = Keeps old new

-- What a run that reads an image prints, by the number of blocks in it: of no other file does it print anything.
abbrev pub InfoPrints : Result ℕ ImageFault → Option (List ℕ) → Option (List ℕ) → Type 0
InfoPrints (Ok blocks) old new = Appends old new (info_text blocks)
InfoPrints (Err fault) old new = ⊥

-- A run of a command on an image that told something: its text, and its number as the exit status. Of no other file does it tell
-- anything.
abbrev pub AnswersOf : Result ℕ ImageFault → List ℕ × ℕ → Option (List ℕ) → Option (List ℕ) → ℕ → Type 0
AnswersOf (Ok blocks) said old new status = Appends old new said.0 × (status ≡ said.1)
AnswersOf (Err fault) said old new status = ⊥

-- A run that fills blocks of a file that holds these bytes, where that is known: the image's own fault, and nothing was printed; its
-- file's, where that can fail, and nothing was printed; standard output's, where that can fail; want of memory, and nothing was
-- printed.
abbrev pub FillGivesUp : Bool → Option (List ℕ) → Bool → Bool → Option (List ℕ) → Option (List ℕ) → RunFault → Type 0
FillGivesUp tells holds can_file_fail can_write_fail old new (Image fault) =
    (IsTrue tells → IfSome holds (λ bytes. blocks_in bytes ≡ Err fault)) × Keeps old new
FillGivesUp tells holds can_file_fail can_write_fail old new ImageFile = IsTrue can_file_fail × Keeps old new
FillGivesUp tells holds can_file_fail can_write_fail old new (Script fault) = ⊥
FillGivesUp tells holds can_file_fail can_write_fail old new ScriptFile = IsTrue can_write_fail
FillGivesUp tells holds can_file_fail can_write_fail old new NoMemory = Keeps old new

-- What `trace` prints beside the lines of `replay`, and how a run ends that writes as it goes.
use Rattle.std.specs.Prelude.{◌≡◌, ◌<◌, ◌⊎◌, ℕ, Bool, false, if◌then◌else◌, IsTrue, List, [], ◌++◌, codes, Option, Some, None, IfSome, Result, Ok, Err}
use Rattle.std.specs.Fmt.{decimal}
use Rattle.std.specs.Int.{w32, w64, to_be_bytes}
use Rattle.std.specs.Io.KnownBytes.{Keeps}
use Rattle.hex.specs.Hex.{encode_lower}
use Rattle.block_unit.specs.BlockMaps.{BlockMaps}
use Rattle.scsi_cmd.specs.declared.Op.{Op}
use Rattle.scsi_cmd.specs.declared.Op.TheVariants.{TestUnitReady, Inquiry, ReadCapacity, Read, Write, Sync, Read16, Write16, ReadCapacity16}
use Rattle.scsi_cmd.specs.declared.Task.{Task}
use Rattle.scsi_cmd.specs.declared.Task.TheVariants.{Abort, Reset, Query}
use Rattle.uas_profile.specs.declared.Pipe.{Pipe}
use Rattle.uas_profile.specs.Pipes.{number_of}
use Rattle.shared_machine.specs.Shared.{Shared, due}
use Rattle.shared_machine.specs.declared.Step.{Step}
use Rattle.shared_machine.specs.declared.Step.TheVariants as step
use Rattle.uas_trace.specs.declared.trace.TagStep.{TagStep}
use Rattle.uas_trace.specs.declared.trace.TagStep.TheVariants as kind
use Rattle.uas_replay.specs.declared.status.RunFault.{RunFault}
use Rattle.uas_replay.specs.declared.status.RunFault.TheVariants.{Image, ImageFile, Script, ScriptFile, NoMemory}
use Rattle.uas_script.specs.declared.Line.{Line}
use Rattle.uas_script.specs.declared.ScriptFault.{ScriptFault}
use Rattle.uas_script.specs.Script.{script}
use Rattle.uas_replay.specs.Told.{told}

-- PIECES

-- what a writer has taken, with the bytes that wait for it
abbrev pub with_waiting : Option (List ℕ) → List ℕ → Option (List ℕ)
with_waiting None waiting = None
with_waiting (Some written) waiting = Some (written ++ waiting)

-- LINES

abbrev pub fua_word : Bool → List ℕ
fua_word fua = if fua then codes " fua" else []

-- the words of a command, as a script has them after the client
abbrev pub op_words : Op → List ℕ
op_words TestUnitReady = codes "tur"
op_words (Inquiry allocation) = codes "inquiry " ++ decimal allocation
op_words ReadCapacity = codes "capacity"
op_words (Read lba count fua) = codes "read " ++ decimal lba ++ codes " " ++ decimal count ++ fua_word fua
op_words (Write lba count fua) = codes "write " ++ decimal lba ++ codes " " ++ decimal count ++ fua_word fua
op_words (Sync lba count) = codes "sync " ++ decimal lba ++ codes " " ++ decimal count
op_words (Read16 lba count fua) = codes "read16 " ++ decimal lba ++ codes " " ++ decimal count ++ fua_word fua
op_words (Write16 lba count fua) = codes "write16 " ++ decimal lba ++ codes " " ++ decimal count ++ fua_word fua
op_words (ReadCapacity16 allocation) = codes "capacity16 " ++ decimal allocation

abbrev pub submit_line : ℕ → ℕ → ℕ → Op → List ℕ
submit_line client tag ticket op =
    codes "submit " ++ decimal client ++ codes " " ++ decimal tag ++ codes " " ++ decimal ticket ++ codes " " ++ op_words op ++ codes "\n"

-- the words of a task management, as a script has them after the client
abbrev pub task_words : Task → List ℕ
task_words (Abort tag) = codes "abort " ++ decimal tag
task_words Reset = codes "reset"
task_words (Query tag) = codes "query " ++ decimal tag

-- By hand: client 2's LOGICAL UNIT RESET with ticket 4 is `task 2 4 reset`.
abbrev pub task_step_line : ℕ → ℕ → Task → List ℕ
task_step_line client ticket task = codes "task " ++ decimal client ++ codes " " ++ decimal ticket ++ codes " " ++ task_words task ++ codes "\n"

-- The line of a step. By hand: a TEST UNIT READY of client 0 on tag 1 with ticket 0 is `submit 0 1 0 tur`.
abbrev pub step_line : Step → List ℕ
step_line (step.Submit client tag ticket command) = submit_line client tag ticket command.op
step_line (step.Task client ticket task) = task_step_line client ticket task
step_line step.CommandPipe = codes "command\n"
step_line (step.Data tag) = codes "data " ++ decimal tag ++ codes "\n"
step_line (step.Status tag) = codes "status " ++ decimal tag ++ codes "\n"
step_line step.Engine = codes "engine\n"
step_line step.Event = codes "event\n"
step_line (step.Retire pipe tag) = codes "retire " ++ decimal (number_of pipe) ++ codes " " ++ decimal tag ++ codes "\n"
step_line (step.Take client) = codes "take " ++ decimal client ++ codes "\n"

-- the name of what was written, and its address in 16 hexadecimal digits
abbrev pub address_start : List ℕ → ℕ → List ℕ
address_start name address = codes "  " ++ name ++ codes " " ++ encode_lower (to_be_bytes w64 address) ++ codes " "

-- `  NAME ADDRESS BYTES`: bytes that were written, in the order of memory
abbrev pub bytes_line : List ℕ → ℕ → List ℕ → List ℕ
bytes_line name address bytes = address_start name address ++ encode_lower bytes ++ codes "\n"

-- `  NAME ADDRESS LENGTH`: a chunk that was moved
abbrev pub chunk_line : List ℕ → ℕ → ℕ → List ℕ
chunk_line name address len = address_start name address ++ decimal len ++ codes "\n"

-- `  context PIPE STREAM BYTES`: a stream context as it stands
abbrev pub context_line : Pipe → ℕ → List ℕ → List ℕ
context_line pipe stream bytes =
    codes "  context " ++ decimal (number_of pipe) ++ codes " " ++ decimal stream ++ codes " " ++ encode_lower bytes ++ codes "\n"

-- `  bell VALUE`, the value in 8 hexadecimal digits
abbrev pub bell_line : ℕ → List ℕ
bell_line value = codes "  bell " ++ encode_lower (to_be_bytes w32 value) ++ codes "\n"

-- the step of a tag, of a kind of which each tag has one
abbrev pub step_of_tag : TagStep → ℕ → Step
step_of_tag kind.Data = λ tag. step.Data tag
step_of_tag kind.Status = λ tag. step.Status tag
step_of_tag (kind.Retire pipe) = λ tag. step.Retire pipe tag

-- no step of this kind is due of any tag between two others
abbrev pub AreNotDue : Shared → TagStep → ℕ → ℕ → Type 0
AreNotDue machine kind tag next = (other : ℕ) → tag < other → other < next → due machine (step_of_tag kind other) ≡ false

-- RUNS

-- A run of a script that was traced, with so many tags of each client: the exit status is that of the lines' own run.
abbrev pub Traces : ℕ → List BlockMaps → Result (List Line) ScriptFault → ℕ → Type 0
Traces tags units (Ok lines) status = status ≡ (told tags units lines).1
Traces tags units (Err fault) status = ⊥

-- A run of a script that is traced and gives up: nothing was printed at a fault of the script or of its reader.
abbrev pub TraceGivesUp : ℕ → ℕ → Option (List ℕ) → Bool → Bool → Option (List ℕ) → Option (List ℕ) → RunFault → Type 0
TraceGivesUp clients tags left can_read_fail can_write_fail old new (Image fault) = ⊥
TraceGivesUp clients tags left can_read_fail can_write_fail old new ImageFile = ⊥
TraceGivesUp clients tags left can_read_fail can_write_fail old new (Script fault) = IfSome left (λ bytes. script clients tags bytes ≡ Err fault) × Keeps old new
TraceGivesUp clients tags left can_read_fail can_write_fail old new ScriptFile = (IsTrue can_read_fail × Keeps old new) ⊎ IsTrue can_write_fail
TraceGivesUp clients tags left can_read_fail can_write_fail old new NoMemory = Unit {0}

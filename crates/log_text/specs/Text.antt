-- The text of a log: its fields one behind the other, each number big endian.
use Rattle.std.specs.Prelude.{◌≡◌, ℕ, ◌+◌, ◌*◌, ◌^◌, ◌<◌, ◌≤◌, ◌⊎◌, Bool, true, false, cond, List, [], ◌∷◌, ◌++◌, length, codes}
use Rattle.std.specs.List.{flat_map, AllByRecursion}
use Rattle.byteorder.specs.Endian.{big_bytes}
use Rattle.block_unit.specs.BlockMaps.{block_count}
use Rattle.uas_profile.specs.declared.Pipe.{Pipe}
use Rattle.uas_profile.specs.declared.Pipe.TheVariants as pipes
use Rattle.scsi_cmd.specs.declared.Op.{Op}
use Rattle.scsi_cmd.specs.declared.Op.TheVariants.{TestUnitReady, Inquiry, ReadCapacity, Read, Write, Sync, Read16, Write16, ReadCapacity16}
use Rattle.scsi_cmd.specs.declared.Task.{Task}
use Rattle.scsi_cmd.specs.declared.Task.TheVariants.{Abort, Reset, Query}
use Rattle.scsi_cmd.specs.declared.Reply.{Reply}
use Rattle.scsi_cmd.specs.declared.Reply.TheVariants as replies
use Rattle.scsi_cmd.specs.Replies.{reply_tag, reply_ticket}
use Rattle.shared_machine.specs.declared.Step.{Step}
use Rattle.shared_machine.specs.declared.Step.TheVariants as steps
use Rattle.uas_log.specs.declared.FirstUnit.{FirstUnit}
use Rattle.log_text.specs.declared.OpFields.{OpFields}
use Rattle.log_text.specs.declared.SavedReply.{SavedReply}
use Rattle.log_text.specs.declared.Version.{Version}
use Rattle.log_text.specs.declared.Version.TheVariants.{First, Second}

-- a log as its text tells it: without refused steps, and each reply with its client
pub record Saved : Type 0 where
  pub version : Version
  pub units : List FirstUnit
  pub steps : List Step
  pub replies : List SavedReply

-- VERSIONS

abbrev pub version_number : Version → ℕ
version_number First = 1
version_number Second = 2

-- how many tags each client has
abbrev pub version_tags : Version → ℕ
version_tags First = 8
version_tags Second = 16

-- how many clients there can be
abbrev pub version_clients : Version → ℕ
version_clients First = 31
version_clients Second = 15

-- FIELDS

-- a number of so many bytes, the highest first
unfoldable pub field : ℕ → ℕ → List ℕ
field len number = big_bytes len number

-- how many there are, and each of them
abbrev pub listed : {A : Type 0} → (A → List ℕ) → List A → List ℕ
listed text items = field 4 (length items) ++ flat_map text items

-- a length and so many bytes
abbrev pub buffer_text : List ℕ → List ℕ
buffer_text bytes = field 4 (length bytes) ++ bytes

-- a unit: how many blocks it has, their bytes, and its bad blocks
abbrev pub unit_text : FirstUnit → List ℕ
unit_text unit = field 4 (block_count unit.blocks) ++ unit.blocks ++ listed (field 4) unit.bad

-- STEPS

abbrev pub op_code : Op → ℕ
op_code TestUnitReady = 0
op_code (Inquiry allocation) = 1
op_code ReadCapacity = 2
op_code (Read lba count fua) = 3
op_code (Write lba count fua) = 4
op_code (Sync lba count) = 5
op_code (Read16 lba count fua) = 6
op_code (Write16 lba count fua) = 7
op_code (ReadCapacity16 allocation) = 8

-- what an operation says: its first block, its count (of blocks, or of bytes at most) and FUA; 0 where it has no such field
abbrev pub op_fields : Op → OpFields
op_fields TestUnitReady = record { block = 0; count = 0; fua = 0 }
op_fields (Inquiry allocation) = record { block = 0; count = allocation; fua = 0 }
op_fields ReadCapacity = record { block = 0; count = 0; fua = 0 }
op_fields (Read lba count fua) = record { block = lba; count = count; fua = cond fua 1 0 }
op_fields (Write lba count fua) = record { block = lba; count = count; fua = cond fua 1 0 }
op_fields (Sync lba count) = record { block = lba; count = count; fua = 0 }
op_fields (Read16 lba count fua) = record { block = lba; count = count; fua = cond fua 1 0 }
op_fields (Write16 lba count fua) = record { block = lba; count = count; fua = cond fua 1 0 }
op_fields (ReadCapacity16 allocation) = record { block = 0; count = allocation; fua = 0 }

abbrev pub fields_text : OpFields → List ℕ
fields_text fields = field 8 fields.block ++ field 4 fields.count ++ field 1 fields.fua

abbrev pub op_text : Op → List ℕ
op_text op = field 1 (op_code op) ++ fields_text (op_fields op)

-- ABORT TASK is function 01h, LOGICAL UNIT RESET 08h, QUERY TASK 80h
abbrev pub task_function : Task → ℕ
task_function (Abort tag) = 0x01
task_function Reset = 0x08
task_function (Query tag) = 0x80

-- a reset names no tag
abbrev pub task_tag : Task → ℕ
task_tag (Abort tag) = tag
task_tag Reset = 0
task_tag (Query tag) = tag

abbrev pub task_text : Task → List ℕ
task_text task = field 1 (task_function task) ++ field 2 (task_tag task)

-- a pipe's number
abbrev pub pipe_number : Pipe → ℕ
pipe_number pipes.Command = 1
pipe_number pipes.Status = 2
pipe_number pipes.DataIn = 3
pipe_number pipes.DataOut = 4

abbrev pub step_kind : Step → ℕ
step_kind (steps.Submit client tag ticket command) = 1
step_kind (steps.Task client ticket task) = 2
step_kind steps.CommandPipe = 3
step_kind (steps.Data tag) = 4
step_kind (steps.Status tag) = 5
step_kind steps.Engine = 6
step_kind steps.Event = 7
step_kind (steps.Retire pipe tag) = 8
step_kind (steps.Take client) = 9

-- what stands behind a step's kind
abbrev pub step_body : Step → List ℕ
step_body (steps.Submit client tag ticket command) =
    field 1 client ++ field 2 tag ++ field 8 ticket ++ op_text command.op ++ buffer_text command.buffer
step_body (steps.Task client ticket task) = field 1 client ++ field 8 ticket ++ task_text task
step_body steps.CommandPipe = []
step_body (steps.Data tag) = field 2 tag
step_body (steps.Status tag) = field 2 tag
step_body steps.Engine = []
step_body steps.Event = []
step_body (steps.Retire pipe tag) = field 1 (pipe_number pipe) ++ field 2 tag
step_body (steps.Take client) = field 1 client

abbrev pub step_text : Step → List ℕ
step_text step = field 1 (step_kind step) ++ step_body step

-- REPLIES

abbrev pub reply_kind : Reply → ℕ
reply_kind (replies.Status tag ticket status sense buffer) = 1
reply_kind (replies.Aborted tag ticket buffer) = 2
reply_kind (replies.Task tag ticket code) = 3

-- what a reply of its kind brings
abbrev pub reply_body : Reply → List ℕ
reply_body (replies.Status tag ticket status sense buffer) =
    field 1 status ++ (field 1 (length sense.items) ++ sense.items) ++ buffer_text buffer
reply_body (replies.Aborted tag ticket buffer) = buffer_text buffer
reply_body (replies.Task tag ticket code) = field 1 code

abbrev pub reply_text : SavedReply → List ℕ
reply_text saved =
    field 1 saved.client ++ field 1 (reply_kind saved.reply) ++ field 2 (reply_tag saved.reply) ++ field 8 (reply_ticket saved.reply)
    ++ reply_body saved.reply

-- THE WHOLE

-- the name, the version and its number of tags, each of them once
abbrev pub header_text : Version → List ℕ
header_text version = codes "UASLOG" ++ field 2 (version_number version) ++ field 1 (version_tags version)

abbrev pub log_text : Saved → List ℕ
log_text log =
    header_text log.version ++ (field 1 (length log.units) ++ flat_map unit_text log.units) ++ listed step_text log.steps
    ++ listed reply_text log.replies

-- LIMITS

-- numbers that rise, from a least one to below a limit
abbrev pub AreRising : ℕ → ℕ → List ℕ → Type 0
AreRising least limit [] = Unit {0}
AreRising least limit (number ∷ rest) = (least ≤ number) × (number < limit) × AreRising (number + 1) limit rest

pub record UnitFits (unit : FirstUnit) : Type 0 where
  pub some : 1 ≤ block_count unit.blocks
  pub most : block_count unit.blocks ≤ 65536
  pub whole : length unit.blocks ≡ block_count unit.blocks * 512
  pub rising : AreRising 0 (block_count unit.blocks) unit.bad

pub record BufferFits (bytes : List ℕ) : Type 0 where
  pub most : length bytes ≤ 65536

-- what fits into the fields of an operation
abbrev pub OpFits : Op → Type 0
OpFits TestUnitReady = Unit {0}
OpFits (Inquiry allocation) = allocation < 2 ^ 16
OpFits ReadCapacity = Unit {0}
OpFits (Read lba count fua) = (lba < 2 ^ 32) × (count < 2 ^ 16)
OpFits (Write lba count fua) = (lba < 2 ^ 32) × (count < 2 ^ 16)
OpFits (Sync lba count) = (lba < 2 ^ 32) × (count < 2 ^ 16)
OpFits (Read16 lba count fua) = (lba < 2 ^ 64) × (count < 2 ^ 32)
OpFits (Write16 lba count fua) = (lba < 2 ^ 64) × (count < 2 ^ 32)
OpFits (ReadCapacity16 allocation) = allocation < 2 ^ 32

-- a query is of the second version alone
abbrev pub has_queries : Version → Bool
has_queries First = false
has_queries Second = true

abbrev pub TaskFits : Version → Task → Type 0
TaskFits version (Abort tag) = tag < 2 ^ 16
TaskFits version Reset = Unit {0}
TaskFits version (Query tag) = (has_queries version ≡ true) × (tag < 2 ^ 16)

-- nothing is retired on the command pipe, which has no streams
abbrev pub PipeFits : Pipe → Type 0
PipeFits pipes.Command = ⊥
PipeFits pipes.Status = Unit {0}
PipeFits pipes.DataIn = Unit {0}
PipeFits pipes.DataOut = Unit {0}

abbrev pub StepFits : Version → ℕ → Step → Type 0
StepFits version clients (steps.Submit client tag ticket command) =
    (client < clients) × (tag < 2 ^ 16) × (ticket < 2 ^ 60) × OpFits command.op × BufferFits command.buffer
StepFits version clients (steps.Task client ticket task) = (client < clients) × (ticket < 2 ^ 60) × TaskFits version task
StepFits version clients steps.CommandPipe = Unit {0}
StepFits version clients (steps.Data tag) = tag < 2 ^ 16
StepFits version clients (steps.Status tag) = tag < 2 ^ 16
StepFits version clients steps.Engine = Unit {0}
StepFits version clients steps.Event = Unit {0}
StepFits version clients (steps.Retire pipe tag) = PipeFits pipe × (tag < 2 ^ 16)
StepFits version clients (steps.Take client) = client < clients

-- there is no sense, or it has 18 bytes
abbrev pub SenseFits : List ℕ → Type 0
SenseFits bytes = (length bytes ≡ 0) ⊎ (length bytes ≡ 18)

abbrev pub BodyFits : Reply → Type 0
BodyFits (replies.Status tag ticket status sense buffer) = (status < 2 ^ 8) × SenseFits sense.items × BufferFits buffer
BodyFits (replies.Aborted tag ticket buffer) = BufferFits buffer
BodyFits (replies.Task tag ticket code) = code < 2 ^ 8

pub record ReplyFits (clients : ℕ) (saved : SavedReply) : Type 0 where
  pub client : saved.client < clients
  pub tag : reply_tag saved.reply < 2 ^ 16
  pub ticket : reply_ticket saved.reply < 2 ^ 60
  pub body : BodyFits saved.reply

-- a log that has a text
pub record IsWithin (log : Saved) : Type 0 where
  pub some : 1 ≤ length log.units
  pub most : length log.units ≤ version_clients log.version
  pub units : AllByRecursion UnitFits log.units
  pub steps : AllByRecursion (StepFits log.version (length log.units)) log.steps
  pub few_steps : length log.steps < 2 ^ 32
  pub replies : AllByRecursion (ReplyFits (length log.units)) log.replies
  pub few_replies : length log.replies < 2 ^ 32

-- Which log a text tells, or its first fault: the fields from the front, and of each what it may be.
use Rattle.std.specs.Prelude.{◌≡◌, ℕ, zero, suc, ◌+◌, ◌-◌, ◌*◌, ◌^◌, nat_lt, ◌==◌, ◌&&◌, ◌||◌, if◌then◌else◌, List, [], ◌∷◌, length, take, drop, Result, Ok, Err}
use Rattle.byteorder.specs.Endian.{big_number}
use Rattle.uas_profile.specs.declared.Pipe.{Pipe}
use Rattle.uas_profile.specs.declared.Pipe.TheVariants as pipes
use Rattle.scsi_cmd.specs.declared.Op.{Op}
use Rattle.scsi_cmd.specs.declared.Op.TheVariants as ops
use Rattle.scsi_cmd.specs.declared.Task.{Task}
use Rattle.scsi_cmd.specs.declared.Task.TheVariants as tasks
use Rattle.scsi_cmd.specs.declared.Reply.{Reply}
use Rattle.scsi_cmd.specs.declared.Reply.TheVariants as replies
use Rattle.shared_machine.specs.declared.Step.{Step}
use Rattle.shared_machine.specs.declared.Step.TheVariants as steps
use Rattle.uas_log.specs.declared.FirstUnit.{FirstUnit}
use Rattle.log_text.specs.declared.LogFault.{LogFault}
use Rattle.log_text.specs.declared.LogFault.TheVariants.{BadHeader, Truncated, BadField, TrailingBytes}
use Rattle.log_text.specs.declared.OpFields.{OpFields}
use Rattle.log_text.specs.declared.SavedReply.{SavedReply}
use Rattle.log_text.specs.declared.Stop.{Stop}
use Rattle.log_text.specs.declared.Stop.TheVariants as stops
use Rattle.log_text.specs.declared.Version.{Version}
use Rattle.log_text.specs.declared.Version.TheVariants.{First, Second}
use Rattle.log_text.specs.Text.{Saved, has_queries, version_clients, version_tags}

-- the first fault ends the reading
infixl 10 ◌>>=◌
abbrev pub ◌>>=◌ : {A B : Type 0} → Result A LogFault → (A → Result B LogFault) → Result B LogFault
(Ok x) >>= f = f x
(Err fault) >>= f = Err fault

-- a call answers what reading gives, want of memory apart
abbrev pub Fails : {Y : Type 0} → Stop → Result Y LogFault → Type 0
Fails stops.Memory read = Unit {0}
Fails (stops.Fault fault) read = read ≡ Err fault

abbrev pub Gives : {X Y : Type 0} → (X → Y) → Result X Stop → Result Y LogFault → Type 0
Gives view (Ok x) read = read ≡ Ok (view x)
Gives view (Err stop) read = Fails stop read

-- FIELDS: each is its value and the bytes behind it

-- a number of so many bytes, from the least to the most that it may be
unfoldable pub number_at : LogFault → ℕ → ℕ → ℕ → List ℕ → Result (ℕ × List ℕ) LogFault
number_at fault len least most bytes =
    if nat_lt (length bytes) len then Err Truncated
    else (if nat_lt (big_number len bytes) least || nat_lt most (big_number len bytes) then Err fault
    else Ok (big_number len bytes, drop len bytes))

abbrev pub field_at : ℕ → ℕ → ℕ → List ℕ → Result (ℕ × List ℕ) LogFault
field_at len least most bytes = number_at BadField len least most bytes

-- so many bytes
unfoldable pub bytes_at : ℕ → List ℕ → Result (List ℕ × List ℕ) LogFault
bytes_at len bytes = if nat_lt (length bytes) len then Err Truncated else Ok (take len bytes, drop len bytes)

unfoldable pub buffer_at : List ℕ → Result (List ℕ × List ℕ) LogFault
buffer_at bytes = do
  len ← field_at 4 0 65536 bytes
  bytes_at len.0 len.1

-- so many items, one behind the other
unfoldable pub items_at : {A : Type 0} → (List ℕ → Result (A × List ℕ) LogFault) → ℕ → List ℕ → Result (List A × List ℕ) LogFault
items_at item_at zero bytes = Ok ([], bytes)
items_at item_at (suc count) bytes = do
  first ← item_at bytes
  others ← items_at item_at count first.1
  Ok (first.0 ∷ others.0, others.1)

-- UNITS

-- so many numbers that rise, from a least one to a most
unfoldable pub rising_at : ℕ → ℕ → ℕ → List ℕ → Result (List ℕ × List ℕ) LogFault
rising_at most zero least bytes = Ok ([], bytes)
rising_at most (suc count) least bytes = do
  first ← field_at 4 least most bytes
  others ← rising_at most count (first.0 + 1) first.1
  Ok (first.0 ∷ others.0, others.1)

unfoldable pub unit_at : List ℕ → Result (FirstUnit × List ℕ) LogFault
unit_at bytes = do
  count ← field_at 4 1 65536 bytes
  blocks ← bytes_at (count.0 * 512) count.1
  bad_count ← field_at 4 0 0xffffffff blocks.1
  bad ← rising_at (count.0 - 1) bad_count.0 0 bad_count.1
  Ok (record { blocks = blocks.0; bad = bad.0 }, bad.1)

-- STEPS

-- block, count and FUA of an operation, up to the most that each may be
unfoldable pub fields_at : ℕ → ℕ → ℕ → List ℕ → Result (OpFields × List ℕ) LogFault
fields_at block_most count_most fua_most bytes = do
  block ← field_at 8 0 block_most bytes
  count ← field_at 4 0 count_most block.1
  fua ← field_at 1 0 fua_most count.1
  Ok (record { block = block.0; count = count.0; fua = fua.0 }, fua.1)

-- the operation of each code, behind which its fields stand
unfoldable pub op_of : ℕ → List ℕ → Result (Op × List ℕ) LogFault
op_of code bytes =
    if code == 0 then (do
      f ← fields_at 0 0 0 bytes
      Ok (ops.TestUnitReady, f.1))
    else if code == 1 then (do
      f ← fields_at 0 0xffff 0 bytes
      Ok (ops.Inquiry f.0.count, f.1))
    else if code == 2 then (do
      f ← fields_at 0 0 0 bytes
      Ok (ops.ReadCapacity, f.1))
    else if code == 3 then (do
      f ← fields_at 0xffffffff 0xffff 1 bytes
      Ok (ops.Read f.0.block f.0.count (f.0.fua == 1), f.1))
    else if code == 4 then (do
      f ← fields_at 0xffffffff 0xffff 1 bytes
      Ok (ops.Write f.0.block f.0.count (f.0.fua == 1), f.1))
    else if code == 5 then (do
      f ← fields_at 0xffffffff 0xffff 0 bytes
      Ok (ops.Sync f.0.block f.0.count, f.1))
    else if code == 6 then (do
      f ← fields_at 0xffffffffffffffff 0xffffffff 1 bytes
      Ok (ops.Read16 f.0.block f.0.count (f.0.fua == 1), f.1))
    else if code == 7 then (do
      f ← fields_at 0xffffffffffffffff 0xffffffff 1 bytes
      Ok (ops.Write16 f.0.block f.0.count (f.0.fua == 1), f.1))
    else (do
      f ← fields_at 0 0xffffffff 0 bytes
      Ok (ops.ReadCapacity16 f.0.count, f.1))

unfoldable pub op_at : List ℕ → Result (Op × List ℕ) LogFault
op_at bytes = do
  code ← field_at 1 0 8 bytes
  op_of code.0 code.1

-- a task management by its function; a query, 80h, is of the second version alone
unfoldable pub task_of : Version → ℕ → List ℕ → Result (Task × List ℕ) LogFault
task_of version function bytes =
    if function == 0x01 then (do
      tag ← field_at 2 0 0xffff bytes
      Ok (tasks.Abort tag.0, tag.1))
    else if function == 0x08 then (do
      tag ← field_at 2 0 0 bytes
      Ok (tasks.Reset, tag.1))
    else if (function == 0x80) && has_queries version then (do
      tag ← field_at 2 0 0xffff bytes
      Ok (tasks.Query tag.0, tag.1))
    else Err BadField

unfoldable pub submit_at : ℕ → List ℕ → Result (Step × List ℕ) LogFault
submit_at clients bytes = do
  client ← field_at 1 0 (clients - 1) bytes
  tag ← field_at 2 0 0xffff client.1
  ticket ← field_at 8 0 (2 ^ 60 - 1) tag.1
  op ← op_at ticket.1
  buffer ← buffer_at op.1
  Ok (steps.Submit client.0 tag.0 ticket.0 (record { op = op.0; buffer = buffer.0 }), buffer.1)

unfoldable pub task_at : Version → ℕ → List ℕ → Result (Step × List ℕ) LogFault
task_at version clients bytes = do
  client ← field_at 1 0 (clients - 1) bytes
  ticket ← field_at 8 0 (2 ^ 60 - 1) client.1
  function ← field_at 1 0 0xff ticket.1
  task ← task_of version function.0 function.1
  Ok (steps.Task client.0 ticket.0 task.0, task.1)

abbrev pub pipe_of : ℕ → Pipe
pipe_of number = if number == 2 then pipes.Status else if number == 3 then pipes.DataIn else pipes.DataOut

unfoldable pub retire_at : List ℕ → Result (Step × List ℕ) LogFault
retire_at bytes = do
  pipe ← field_at 1 2 4 bytes
  tag ← field_at 2 0 0xffff pipe.1
  Ok (steps.Retire (pipe_of pipe.0) tag.0, tag.1)

-- the step of each kind
unfoldable pub step_of : Version → ℕ → ℕ → List ℕ → Result (Step × List ℕ) LogFault
step_of version clients kind bytes =
    if kind == 1 then submit_at clients bytes
    else if kind == 2 then task_at version clients bytes
    else if kind == 3 then Ok (steps.CommandPipe, bytes)
    else if kind == 4 then (do
      tag ← field_at 2 0 0xffff bytes
      Ok (steps.Data tag.0, tag.1))
    else if kind == 5 then (do
      tag ← field_at 2 0 0xffff bytes
      Ok (steps.Status tag.0, tag.1))
    else if kind == 6 then Ok (steps.Engine, bytes)
    else if kind == 7 then Ok (steps.Event, bytes)
    else if kind == 8 then retire_at bytes
    else (do
      client ← field_at 1 0 (clients - 1) bytes
      Ok (steps.Take client.0, client.1))

unfoldable pub step_at : Version → ℕ → List ℕ → Result (Step × List ℕ) LogFault
step_at version clients bytes = do
  kind ← field_at 1 1 9 bytes
  step_of version clients kind.0 kind.1

-- REPLIES

unfoldable pub sense_at : List ℕ → Result (List ℕ × List ℕ) LogFault
sense_at bytes = do
  len ← field_at 1 0 0xff bytes
  if len.0 == 0 || len.0 == 18 then bytes_at len.0 len.1 else Err BadField

unfoldable pub status_at : ℕ → ℕ → List ℕ → Result (Reply × List ℕ) LogFault
status_at tag ticket bytes = do
  status ← field_at 1 0 0xff bytes
  sense ← sense_at status.1
  buffer ← buffer_at sense.1
  Ok (replies.Status tag ticket status.0 (record { items = sense.0 }) buffer.0, buffer.1)

-- the reply of each kind
unfoldable pub reply_of : ℕ → ℕ → ℕ → List ℕ → Result (Reply × List ℕ) LogFault
reply_of kind tag ticket bytes =
    if kind == 1 then status_at tag ticket bytes
    else if kind == 2 then (do
      buffer ← buffer_at bytes
      Ok (replies.Aborted tag ticket buffer.0, buffer.1))
    else (do
      code ← field_at 1 0 0xff bytes
      Ok (replies.Task tag ticket code.0, code.1))

unfoldable pub reply_at : ℕ → List ℕ → Result (SavedReply × List ℕ) LogFault
reply_at clients bytes = do
  client ← field_at 1 0 (clients - 1) bytes
  kind ← field_at 1 1 3 client.1
  tag ← field_at 2 0 0xffff kind.1
  ticket ← field_at 8 0 (2 ^ 60 - 1) tag.1
  reply ← reply_of kind.0 tag.0 ticket.0 ticket.1
  Ok (record { client = client.0; reply = reply.0 }, reply.1)

-- THE WHOLE

-- the name as the number that its six codes are
abbrev pub name_number : ℕ
name_number = 0x5541534c4f47

abbrev pub version_of : ℕ → Version
version_of number = if number == 1 then First else Second

unfoldable pub header_at : List ℕ → Result (Version × List ℕ) LogFault
header_at bytes = do
  name ← number_at BadHeader 6 name_number name_number bytes
  version ← number_at BadHeader 2 1 2 name.1
  tags ← number_at BadHeader 1 (version_tags (version_of version.0)) (version_tags (version_of version.0)) version.1
  Ok (version_of version.0, tags.1)

-- so many items as the number before them says
unfoldable pub listed_at : {A : Type 0} → (List ℕ → Result (A × List ℕ) LogFault) → List ℕ → Result (List A × List ℕ) LogFault
listed_at item_at bytes = do
  count ← field_at 4 0 0xffffffff bytes
  items_at item_at count.0 count.1

-- the units of 1 to so many clients, behind their number
unfoldable pub units_at : ℕ → List ℕ → Result (List FirstUnit × List ℕ) LogFault
units_at most bytes = do
  clients ← field_at 1 1 most bytes
  items_at unit_at clients.0 clients.1

unfoldable pub log_at : List ℕ → Result (Saved × List ℕ) LogFault
log_at bytes = do
  version ← header_at bytes
  units ← units_at (version_clients version.0) version.1
  steps ← listed_at (step_at version.0 (length units.0)) units.1
  replies ← listed_at (reply_at (length units.0)) steps.1
  Ok (record { version = version.0; units = units.0; steps = steps.0; replies = replies.0 }, replies.1)

-- the log of all of the bytes
unfoldable pub whole_log : List ℕ → Result Saved LogFault
whole_log bytes = do
  log ← log_at bytes
  if length log.1 == 0 then Ok log.0 else Err TrailingBytes

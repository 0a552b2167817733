-- How long the texts of steps, replies and records are.
use Rattle.std.proofs.Common.{◌≡◌, ℕ, ◌+◌, ◌≤◌, Bool, cond, List, ◌++◌, length, Option, Some, None, ap, arith, inl, inr}
use Rattle.std.proofs.lemmas.List.{length-append}
use Rattle.scsi_cmd.specs.declared.Op.{Op}
use Rattle.scsi_cmd.specs.declared.Reply.{Reply}
use Rattle.scsi_cmd.specs.declared.Reply.TheVariants as replies
use Rattle.scsi_cmd.specs.Replies.{reply_tag, reply_ticket}
use Rattle.shared_machine.specs.declared.Step.{Step}
use Rattle.shared_machine.specs.declared.Step.TheVariants as steps
use Rattle.shared_machine.specs.Laws.{reply_len}
use Rattle.log_records.specs.Records.{record_text}
use Rattle.log_text.specs.declared.SavedReply.{SavedReply}
use Rattle.log_text.specs.Text.{BodyFits, ReplyFits, SenseFits, buffer_text, field, op_code, op_fields, op_text, pipe_number, reply_body, reply_kind, reply_text, step_body, step_kind, step_text, task_function, task_tag, task_text}
use Rattle.kept_log.specs.declared.Entry.{Entry}
use Rattle.kept_log.specs.declared.Entry.TheVariants.{Acted, Refused}
use Rattle.kept_log.specs.Form.{EntryFits, GivenFits, entry_text, given_text, is_take}
use Rattle.kept_log.proofs.NextAgain.{record_size}
use Rattle.kept_log.proofs.TakenHead.{field_len}
use Rattle.bounded_log.specs.Bytes.{counted_bytes, data_bytes, fixed_bytes, given_data, reply_bytes, step_bytes}

-- STEPS

buffer_len : (bytes : List ℕ) → length (buffer_text bytes) ≡ 4 + length bytes
buffer_len bytes = omega (arith, length-append (field 4 (length bytes)) bytes, field_len 4 (length bytes))

op_len : (op : Op) → length (op_text op) ≡ 14
op_len op =
    let f0 : List ℕ = field 8 (op_fields op).block in
    let f1 : List ℕ = field 4 (op_fields op).count in
    let f2 : List ℕ = field 1 (op_fields op).fua in
    omega (
      arith,
      length-append (field 1 (op_code op)) ((f0 ++ f1) ++ f2),
      length-append (f0 ++ f1) f2,
      length-append f0 f1,
      field_len 1 (op_code op),
      field_len 8 (op_fields op).block,
      field_len 4 (op_fields op).count,
      field_len 1 (op_fields op).fua,
    )

text_len : (step : Step) → length (step_text step) ≡ 1 + length (step_body step)
text_len step = omega (arith, length-append (field 1 (step_kind step)) (step_body step), field_len 1 (step_kind step))

-- a step's bytes are those that its kind tells, and its data
pub step_parts : (step : Step) → fixed_bytes step + data_bytes step ≡ step_bytes step
step_parts (steps.Submit client tag ticket command) =
    let f0 : List ℕ = field 1 client in
    let f1 : List ℕ = field 2 tag in
    let f2 : List ℕ = field 8 ticket in
    omega (
      arith,
      text_len (steps.Submit client tag ticket command),
      length-append (((f0 ++ f1) ++ f2) ++ op_text command.op) (buffer_text command.buffer),
      length-append ((f0 ++ f1) ++ f2) (op_text command.op),
      length-append (f0 ++ f1) f2,
      length-append f0 f1,
      field_len 1 client,
      field_len 2 tag,
      field_len 8 ticket,
      op_len command.op,
      buffer_len command.buffer,
    )
step_parts (steps.Task client ticket task) =
    let f0 : List ℕ = field 1 client in
    let f1 : List ℕ = field 8 ticket in
    omega (
      arith,
      text_len (steps.Task client ticket task),
      length-append (f0 ++ f1) (task_text task),
      length-append f0 f1,
      length-append (field 1 (task_function task)) (field 2 (task_tag task)),
      field_len 1 client,
      field_len 8 ticket,
      field_len 1 (task_function task),
      field_len 2 (task_tag task),
    )
step_parts steps.CommandPipe = omega (arith, text_len steps.CommandPipe)
step_parts (steps.Data tag) = omega (arith, text_len (steps.Data tag), field_len 2 tag)
step_parts (steps.Status tag) = omega (arith, text_len (steps.Status tag), field_len 2 tag)
step_parts steps.Engine = omega (arith, text_len steps.Engine)
step_parts steps.Event = omega (arith, text_len steps.Event)
step_parts (steps.Retire pipe tag) =
    omega (arith, text_len (steps.Retire pipe tag), length-append (field 1 (pipe_number pipe)) (field 2 tag), field_len 1 (pipe_number pipe), field_len 2 tag)
step_parts (steps.Take client) = omega (arith, text_len (steps.Take client), field_len 1 client)

-- REPLIES

sense_short : (bytes : List ℕ) → SenseFits bytes → length bytes ≤ 18
sense_short bytes fits =
    elim fits [
      | inl none ↦ omega (arith, none)
      | inr some ↦ omega (arith, some)
    ]

brought_short : (reply : Reply) → BodyFits reply → length (reply_body reply) ≤ 24 + reply_len reply
brought_short (replies.Status tag ticket status sense buffer) fits =
    let f0 : List ℕ = field 1 status in
    let f1 : List ℕ = field 1 (length sense.items) in
    omega (
      arith,
      length-append (f0 ++ (f1 ++ sense.items)) (buffer_text buffer),
      length-append f0 (f1 ++ sense.items),
      length-append f1 sense.items,
      field_len 1 status,
      field_len 1 (length sense.items),
      buffer_len buffer,
      sense_short sense.items fits.1,
    )
brought_short (replies.Aborted tag ticket buffer) fits = omega (arith, buffer_len buffer)
brought_short (replies.Task tag ticket code) fits = omega (arith, field_len 1 code)

reply_short : (clients : ℕ) (saved : SavedReply) → ReplyFits clients saved → length (reply_text saved) ≤ 36 + reply_len saved.reply
reply_short clients saved fits =
    let f0 : List ℕ = field 1 saved.client in
    let f1 : List ℕ = field 1 (reply_kind saved.reply) in
    let f2 : List ℕ = field 2 (reply_tag saved.reply) in
    let f3 : List ℕ = field 8 (reply_ticket saved.reply) in
    omega (
      arith,
      length-append (((f0 ++ f1) ++ f2) ++ f3) (reply_body saved.reply),
      length-append ((f0 ++ f1) ++ f2) f3,
      length-append (f0 ++ f1) f2,
      length-append f0 f1,
      field_len 1 saved.client,
      field_len 1 (reply_kind saved.reply),
      field_len 2 (reply_tag saved.reply),
      field_len 8 (reply_ticket saved.reply),
      brought_short saved.reply fits.body,
    )

-- RECORDS

-- a step alone has at least its text and its frame
frame_there : (step : Step) → 10 + length (step_text step) ≤ step_bytes step
frame_there step = omega arith

given_short : (clients : ℕ) (step : Step) (given : Option SavedReply) → GivenFits clients step given
    → 10 + (length (step_text step) + length (given_text given)) ≤ step_bytes step + given_data given
given_short clients step None fits = omega (arith, frame_there step)
given_short clients step (Some saved) fits =
    let most : ℕ = reply_bytes in
    let none : ℕ = 0 in
    let taking : cond (is_take step) most none ≡ most = ap (λ (is : Bool). cond is most none) fits.0 in
    omega (arith, taking, reply_short clients saved fits.1)

-- the record of an entry has at most the bytes that the entry counts as
pub record_counted : (clients before : ℕ) (entry : Entry) → EntryFits clients entry → length (record_text before (entry_text entry)) ≤ counted_bytes entry
record_counted clients before (Acted step given) fits =
    omega (
      arith,
      record_size before (entry_text (Acted step given)),
      length-append (field 1 1 ++ step_text step) (given_text given),
      length-append (field 1 1) (step_text step),
      field_len 1 1,
      given_short clients step given fits.1,
    )
record_counted clients before (Refused step number) fits =
    omega (
      arith,
      record_size before (entry_text (Refused step number)),
      length-append (field 1 2 ++ step_text step) (field 1 number),
      length-append (field 1 2) (step_text step),
      field_len 1 2,
      field_len 1 number,
      frame_there step,
    )

-- How long the bodies of records are.
use Rattle.std.proofs.Common.{◌≡◌, ℕ, ◌+◌, ◌^◌, ◌<◌, ◌≤◌, List, ◌++◌, length, Option, Some, None, arith, inl, inr}
use Rattle.std.proofs.lemmas.List.{length-append}
use Rattle.scsi_cmd.specs.declared.Op.{Op}
use Rattle.scsi_cmd.specs.declared.Reply.{Reply}
use Rattle.scsi_cmd.specs.declared.Reply.TheVariants as replies
use Rattle.scsi_cmd.specs.Replies.{reply_tag, reply_ticket}
use Rattle.shared_machine.specs.declared.Step as machine
use Rattle.shared_machine.specs.declared.Step.TheVariants as steps
use Rattle.log_text.specs.declared.SavedReply.{SavedReply}
use Rattle.log_text.specs.declared.Version.TheVariants.{Second}
use Rattle.log_text.specs.Text.{BodyFits, BufferFits, ReplyFits, SenseFits, StepFits, buffer_text, field, op_code, op_fields, op_text, pipe_number, reply_body, reply_kind, reply_text, step_body, step_kind, step_text, task_function, task_tag, task_text}
use Rattle.kept_log.specs.declared.Entry.{Entry}
use Rattle.kept_log.specs.declared.Entry.TheVariants.{Acted, Refused}
use Rattle.kept_log.specs.declared.Why.{Why}
use Rattle.kept_log.specs.Form.{EntryFits, GivenFits, end_text, entry_text, given_text, why_number}
use Rattle.kept_log.proofs.TakenHead.{field_len}

-- STEPS

buffer_len : (bytes : List ℕ) → length (buffer_text bytes) ≡ 4 + length bytes
buffer_len bytes = omega (arith, length-append (field 4 (length bytes)) bytes, field_len 4 (length bytes))

op_len : (op : Op) → length (op_text op) ≡ 14
op_len op =
    let f0 : List ℕ = field 8 (op_fields op).block in
    let f1 : List ℕ = field 4 (op_fields op).count in
    let f2 : List ℕ = field 1 (op_fields op).fua in
    omega (
      arith,
      length-append (field 1 (op_code op)) ((f0 ++ f1) ++ f2),
      length-append (f0 ++ f1) f2,
      length-append f0 f1,
      field_len 1 (op_code op),
      field_len 8 (op_fields op).block,
      field_len 4 (op_fields op).count,
      field_len 1 (op_fields op).fua,
    )

body_short : (clients : ℕ) (step : machine.Step) → StepFits Second clients step → length (step_body step) ≤ 65600
body_short clients (steps.Submit client tag ticket command) fits =
    let f0 : List ℕ = field 1 client in
    let f1 : List ℕ = field 2 tag in
    let f2 : List ℕ = field 8 ticket in
    let buffer : BufferFits command.buffer = fits.4 in
    omega (
      arith,
      length-append (((f0 ++ f1) ++ f2) ++ op_text command.op) (buffer_text command.buffer),
      length-append ((f0 ++ f1) ++ f2) (op_text command.op),
      length-append (f0 ++ f1) f2,
      length-append f0 f1,
      field_len 1 client,
      field_len 2 tag,
      field_len 8 ticket,
      op_len command.op,
      buffer_len command.buffer,
      buffer.most,
    )
body_short clients (steps.Task client ticket task) fits =
    let f0 : List ℕ = field 1 client in
    let f1 : List ℕ = field 8 ticket in
    omega (
      arith,
      length-append (f0 ++ f1) (task_text task),
      length-append f0 f1,
      length-append (field 1 (task_function task)) (field 2 (task_tag task)),
      field_len 1 client,
      field_len 8 ticket,
      field_len 1 (task_function task),
      field_len 2 (task_tag task),
    )
body_short clients steps.CommandPipe fits = omega arith
body_short clients (steps.Data tag) fits = omega (arith, field_len 2 tag)
body_short clients (steps.Status tag) fits = omega (arith, field_len 2 tag)
body_short clients steps.Engine fits = omega arith
body_short clients steps.Event fits = omega arith
body_short clients (steps.Retire pipe tag) fits =
    omega (arith, length-append (field 1 (pipe_number pipe)) (field 2 tag), field_len 1 (pipe_number pipe), field_len 2 tag)
body_short clients (steps.Take client) fits = omega (arith, field_len 1 client)

step_short : (clients : ℕ) (step : machine.Step) → StepFits Second clients step → length (step_text step) ≤ 65601
step_short clients step fits =
    omega (arith, length-append (field 1 (step_kind step)) (step_body step), field_len 1 (step_kind step), body_short clients step fits)

-- REPLIES

sense_short : (bytes : List ℕ) → SenseFits bytes → length bytes ≤ 18
sense_short bytes fits =
    elim fits [
      | inl none ↦ omega (arith, none)
      | inr some ↦ omega (arith, some)
    ]

brought_short : (reply : Reply) → BodyFits reply → length (reply_body reply) ≤ 65600
brought_short (replies.Status tag ticket status sense buffer) fits =
    let f0 : List ℕ = field 1 status in
    let f1 : List ℕ = field 1 (length sense.items) in
    let brought : BufferFits buffer = fits.2 in
    omega (
      arith,
      length-append (f0 ++ (f1 ++ sense.items)) (buffer_text buffer),
      length-append f0 (f1 ++ sense.items),
      length-append f1 sense.items,
      field_len 1 status,
      field_len 1 (length sense.items),
      buffer_len buffer,
      sense_short sense.items fits.1,
      brought.most,
    )
brought_short (replies.Aborted tag ticket buffer) fits =
    let brought : BufferFits buffer = fits in
    omega (arith, buffer_len buffer, brought.most)
brought_short (replies.Task tag ticket code) fits = omega (arith, field_len 1 code)

reply_short : (clients : ℕ) (saved : SavedReply) → ReplyFits clients saved → length (reply_text saved) ≤ 65620
reply_short clients saved fits =
    let f0 : List ℕ = field 1 saved.client in
    let f1 : List ℕ = field 1 (reply_kind saved.reply) in
    let f2 : List ℕ = field 2 (reply_tag saved.reply) in
    let f3 : List ℕ = field 8 (reply_ticket saved.reply) in
    omega (
      arith,
      length-append (((f0 ++ f1) ++ f2) ++ f3) (reply_body saved.reply),
      length-append ((f0 ++ f1) ++ f2) f3,
      length-append (f0 ++ f1) f2,
      length-append f0 f1,
      field_len 1 saved.client,
      field_len 1 (reply_kind saved.reply),
      field_len 2 (reply_tag saved.reply),
      field_len 8 (reply_ticket saved.reply),
      brought_short saved.reply fits.body,
    )

-- BODIES

given_short : (clients : ℕ) (step : machine.Step) (given : Option SavedReply) → GivenFits clients step given → length (given_text given) ≤ 65620
given_short clients step None fits = omega arith
given_short clients step (Some saved) fits = reply_short clients saved fits.1

pub entry_small : (clients : ℕ) (entry : Entry) → EntryFits clients entry → length (entry_text entry) ≤ 131300
entry_small clients (Acted step given) fits =
    omega (
      arith,
      length-append (field 1 1 ++ step_text step) (given_text given),
      length-append (field 1 1) (step_text step),
      field_len 1 1,
      step_short clients step fits.0,
      given_short clients step given fits.1,
    )
entry_small clients (Refused step number) fits =
    omega (
      arith,
      length-append (field 1 2 ++ step_text step) (field 1 number),
      length-append (field 1 2) (step_text step),
      field_len 1 2,
      field_len 1 number,
      step_short clients step fits.0,
    )

pub entry_short : (clients : ℕ) (entry : Entry) → EntryFits clients entry → length (entry_text entry) < 2 ^ 32
entry_short clients entry fits = omega (arith, entry_small clients entry fits)

pub end_short : (count : ℕ) (reason : Why) → length (end_text count reason) < 2 ^ 32
end_short count reason =
    omega (
      arith,
      length-append (field 1 3 ++ field 8 count) (field 1 (why_number reason)),
      length-append (field 1 3) (field 8 count),
      field_len 1 3,
      field_len 8 count,
      field_len 1 (why_number reason),
    )

-- How many bytes the entries of a log take.
use Rattle.std.specs.Prelude.{◌≡◌, ℕ, ◌+◌, ◌≤◌, if◌then◌else◌, length, sum_by, Option}
use Rattle.std.specs.Option.{option_map_or}
use Rattle.shared_machine.specs.declared.Step.{Step}
use Rattle.shared_machine.specs.declared.Step.TheVariants as steps
use Rattle.shared_machine.specs.Laws.{reply_len}
use Rattle.shared_machine.specs.Rooms.{step_len}
use Rattle.shared_machine.specs.Shared.{Shared, due}
use Rattle.log_records.specs.Records.{record_text}
use Rattle.log_text.specs.Text.{step_text}
use Rattle.log_text.specs.declared.SavedReply.{SavedReply}
use Rattle.kept_log.specs.declared.Entry.{Entry}
use Rattle.kept_log.specs.declared.Entry.TheVariants.{Acted, Refused}
use Rattle.kept_log.specs.Form.{EntryFits, entry_text, is_take}
use Rattle.uas_log.specs.declared.Log.{Log}
use Rattle.uas_work.specs.Booked.{BookedState}

-- An entry counts as the longest record that it can have in the text of a log that is kept. Before a step nothing but the length of its
-- reply's data is known of the reply.

-- beside the step's text a record has a length and a checksum of 4 bytes, a kind, and where the step was refused the refusal's number
abbrev pub frame_bytes : ℕ
frame_bytes = 10

-- beside its data a reply's text has at most so many: of a status with 18 bytes of sense
abbrev pub reply_bytes : ℕ
reply_bytes = 36

-- the bytes of a step, without the data of the reply that it may give
abbrev pub step_bytes : Step → ℕ
step_bytes step = frame_bytes + (length (step_text step) + (if is_take step then reply_bytes else 0))

-- the bytes of a log's entries
abbrev pub log_bytes : Log → ℕ
log_bytes log = sum_by step_bytes log.steps + sum_by reply_len log.replies

-- the bytes of the entry that a step would make, told before the step
abbrev pub entry_bytes : Shared → Step → ℕ
entry_bytes bus step = step_bytes step + step_len bus step

-- the data that a submission brings
abbrev pub data_bytes : Step → ℕ
data_bytes (steps.Submit client tag ticket command) = length command.buffer
data_bytes (steps.Task client ticket task) = 0
data_bytes steps.CommandPipe = 0
data_bytes (steps.Data tag) = 0
data_bytes (steps.Status tag) = 0
data_bytes steps.Engine = 0
data_bytes steps.Event = 0
data_bytes (steps.Retire pipe tag) = 0
data_bytes (steps.Take client) = 0

-- and the bytes of a step beside them, which its kind tells
abbrev pub fixed_bytes : Step → ℕ
fixed_bytes (steps.Submit client tag ticket command) = 40
fixed_bytes (steps.Task client ticket task) = 23
fixed_bytes steps.CommandPipe = 11
fixed_bytes (steps.Data tag) = 13
fixed_bytes (steps.Status tag) = 13
fixed_bytes steps.Engine = 11
fixed_bytes steps.Event = 11
fixed_bytes (steps.Retire pipe tag) = 14
fixed_bytes (steps.Take client) = 48

-- A BUS WITH A LIMIT

-- a booked bus, how many bytes the entries of its log may take, and how many they take
pub record Bounded : Type 0 where
  pub booked : BookedState
  pub limit : ℕ
  pub bytes : ℕ

-- they are counted, and no more than they may be
pub record IsBounded (it : Bounded) : Type 0 where
  pub counted : it.bytes ≡ log_bytes it.booked.log
  pub within : it.bytes ≤ it.limit

-- the bytes with a step; an idle one isn't booked
abbrev pub bytes_after : Bounded → Step → ℕ
bytes_after it step = it.bytes + (if due it.booked.bus step then entry_bytes it.booked.bus step else 0)

-- THE TEXT

-- the data of the reply that a step gave
abbrev pub given_data : Option SavedReply → ℕ
given_data given = option_map_or (λ saved. reply_len saved.reply) given 0

-- what an entry of a log that is kept counts as
abbrev pub counted_bytes : Entry → ℕ
counted_bytes (Acted step given) = step_bytes step + given_data given
counted_bytes (Refused step number) = step_bytes step

-- its record has no more
abbrev pub RecordsAreCounted : Type 0
RecordsAreCounted = (clients before : ℕ) (entry : Entry) → EntryFits clients entry → length (record_text before (entry_text entry)) ≤ counted_bytes entry

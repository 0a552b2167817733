-- Commands that the driver ends itself: one of whose TDs failed, or that its client gave up; and what their clients are told.
use Rattle.std.specs.Prelude.{ℕ, ◌+◌, ◌-◌, ◌*◌, ◌==◌, ◌&&◌, ◌||◌, not, Bool, false, if◌then◌else◌, List, [], length, is_none, is_some}
use Rattle.std.specs.Prelude.{slice_set, slice_index_or, Option, Some, None}
use Rattle.std.specs.List.{find, range_with_len}
use Rattle.std.specs.Option.{option_map_or}
use Rattle.xhci_trb.specs.declared.Trb.{Trb}
use Rattle.xhci_trb.specs.declared.Trb.TheVariants.{Normal}
use Rattle.cycle_ring.specs.Items.{known_front_of}
use Rattle.scsi_cmd.specs.declared.Reply.{Reply}
use Rattle.scsi_cmd.specs.declared.Reply.TheVariants as replies
use Rattle.stream_array.specs.Contexts.{has_stream}
use Rattle.stream_array.specs.Map.{places_of}
use Rattle.stream_array.specs.Rings.{LinesState, ring_of}
use Rattle.uas_iu.specs.declared.Iu.TheVariants.{Sense as SenseUnit, Response as ResponseUnit}
use Rattle.uas_iu.specs.Units.{unit_text}
use Rattle.uas_profile.specs.declared.Pipe.{Pipe}
use Rattle.uas_profile.specs.declared.Pipe.TheVariants.{Command, Status, DataIn, DataOut}
use Rattle.uas_profile.specs.declared.TheConstants.{BUFFER_SPAN, COMMAND_BUFFERS, STREAMS}
use Rattle.uas_profile.specs.Tags.{slot_of, task_slot}
use Rattle.uas_host.specs.Retirement.{has_pending, is_left_over_on}
use Rattle.uas_host.specs.State.{HostState}
use Rattle.uas_driver.specs.Driver.{DriverState}
use Rattle.uas_driver.specs.declared.Answer.{Answer}
use Rattle.uas_driver.specs.declared.Answer.TheVariants as answers
use Rattle.uas_driver.specs.declared.Cause.{Cause}
use Rattle.uas_driver.specs.declared.Cause.TheVariants.{Failed, GivenUp}
use Rattle.uas_driver.specs.declared.states.End.{End}
use Rattle.uas_driver.specs.Counted.{counted}

-- WHICH COMMANDS

-- why the command of a tag is ended, where it is
abbrev pub end_of : List (Option End) → ℕ → Option End
end_of ends tag = slice_index_or ends tag None

-- The command of a tag is to be ended. The first cause stays.
abbrev pub with_end : DriverState → ℕ → Cause → DriverState
with_end driver tag cause =
    if has_stream tag && is_none (end_of driver.ends tag)
    then record driver { ends = slice_set driver.ends tag (Some (record { cause = cause; told = false })); ending = counted driver.ending }
    else driver

-- WHICH TDS

-- the TRB names the command buffer of this tag
abbrev pub names_command : ℕ → Trb → Bool
names_command tag (Normal pointer length td_size flags) = pointer == COMMAND_BUFFERS + BUFFER_SPAN * tag
names_command tag _ = false

-- the pending TRB at the front of the command pipe is of this tag
abbrev pub is_front_command : LinesState → ℕ → Bool
is_front_command lines tag = option_map_or (λ front. names_command tag front.1) (known_front_of (places_of Command) lines.command) false

-- A TD of this tag stands on a ring with streams: it has a pending TRB, or its TRBs are consumed and the host waits for it.
abbrev pub has_td : HostState → LinesState → Pipe → ℕ → Bool
has_td host lines pipe tag =
    has_pending (ring_of lines pipe tag) || (not (length (ring_of lines pipe tag).put == 0) && not (is_left_over_on host pipe tag))

-- a TD of this tag is to be taken off a pipe: on the command pipe, whose ring has the TDs of all tags, once it is the first that is pending
abbrev pub stands_on : HostState → LinesState → Pipe → ℕ → Bool
stands_on host lines Command tag = is_front_command lines tag
stands_on host lines Status tag = has_td host lines Status tag
stands_on host lines DataIn tag = has_td host lines DataIn tag
stands_on host lines DataOut tag = has_td host lines DataOut tag

abbrev pub is_due : DriverState → Pipe → ℕ → Bool
is_due driver pipe tag = is_some (end_of driver.ends tag) && stands_on driver.host driver.lines pipe tag

-- the least tag whose command is ended and whose TD is to be taken off a pipe
unfoldable pub due_tag : DriverState → Pipe → Option ℕ
due_tag driver pipe = if driver.ending == 0 then None else find (is_due driver pipe) (range_with_len 1 STREAMS)

-- WHAT CLIENTS ARE TOLD

-- the answer that stands in for the device's: of a command GOOD without sense data, of a task management the response FUNCTION FAILED, 05h
abbrev pub stand_in : ℕ → ℕ → List ℕ
stand_in tags tag =
    if slot_of tags tag == task_slot tags then unit_text (ResponseUnit tag 5) else unit_text (SenseUnit tag 0 (record { items = [] }))

-- the answer of a command's client, where the driver told its status itself
abbrev pub ended_answer : ℕ → ℕ → ℕ → List ℕ → Cause → Answer
ended_answer moved tag ticket buffer (Failed code) = answers.Failed tag ticket code (Some buffer) moved
ended_answer moved tag ticket buffer GivenUp = answers.Aborted tag ticket buffer moved

-- of a task management's client; none is given up
abbrev pub ended_task : ℕ → ℕ → ℕ → Cause → Answer
ended_task tag ticket told (Failed code) = answers.Failed tag ticket code None 0
ended_task tag ticket told GivenUp = answers.Task tag ticket told

-- what a client is told, by the host's reply: where the driver told the status itself, why it did
abbrev pub answer_told : ℕ → Reply → Cause → Answer
answer_told moved (replies.Status tag ticket status sense buffer) cause = ended_answer moved tag ticket buffer cause
answer_told moved (replies.Aborted tag ticket buffer) cause = answers.Aborted tag ticket buffer moved
answer_told moved (replies.Task tag ticket code) cause = ended_task tag ticket code cause

-- the device's own answer, with how many bytes were moved
abbrev pub answer_given : ℕ → Reply → Answer
answer_given moved (replies.Status tag ticket status sense buffer) = answers.Status tag ticket status sense buffer moved
answer_given moved (replies.Aborted tag ticket buffer) = answers.Aborted tag ticket buffer moved
answer_given moved (replies.Task tag ticket code) = answers.Task tag ticket code

abbrev pub answer_by : ℕ → Option End → Reply → Answer
answer_by moved None reply = answer_given moved reply
answer_by moved (Some end) reply = if end.told then answer_told moved reply end.cause else answer_given moved reply

abbrev pub tag_of_reply : Reply → ℕ
tag_of_reply (replies.Status tag ticket status sense buffer) = tag
tag_of_reply (replies.Aborted tag ticket buffer) = tag
tag_of_reply (replies.Task tag ticket code) = tag

-- the tag of a reply that was taken is free, and its command is ended no more
abbrev pub without_end : DriverState → ℕ → DriverState
without_end driver tag =
    if is_some (end_of driver.ends tag) then record driver { ends = slice_set driver.ends tag None; ending = driver.ending - 1 } else driver

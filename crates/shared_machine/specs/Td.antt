-- Transfer descriptors (xHCI 4.11): how far the controller and the host are with one.
use Rattle.std.specs.Prelude.{ℕ, ◌+◌, ◌-◌, ◌/◌, ◌==◌, nat_lt, Bool, true, false, ◌&&◌, if◌then◌else◌, Option, Some, None, option_map}
use Rattle.uas_profile.specs.declared.TheConstants.{CHUNK_BYTES}
use Rattle.uas_profile.specs.declared.Pipe.{Pipe}
use Rattle.uas_profile.specs.declared.Pipe.TheVariants.{Command, Status, DataIn, DataOut}
use Rattle.uas_profile.specs.declared.Direction.{Direction}
use Rattle.uas_profile.specs.declared.Direction.TheVariants.{Nothing, ToHost, ToDevice}
use Rattle.scsi_cmd.specs.Op.{moved_bytes}
pub use Rattle.scsi_cmd.specs.Request.{request_direction}
use Rattle.solo_model.specs.TaggedTask.{TaggedTask}
use Rattle.scsi_cmd.specs.declared.Request.{Request}
use Rattle.scsi_cmd.specs.declared.Request.TheVariants.{Execute, Manage}
use Rattle.solo_model.specs.declared.Phase.{Phase}
use Rattle.solo_model.specs.declared.Phase.TheVariants.{Queued, Begun, Sent, Gone}
use Rattle.solo_model.specs.declared.TaskAnswer.{TaskAnswer}
use Rattle.solo_model.specs.declared.TaskAnswer.TheVariants.{WithStatus, WithResponse}
use Rattle.device_server.specs.declared.Answer.TheVariants.{Good, Check}
use Rattle.shared_machine.specs.Tests.{is_left_over, is_over, is_pending, is_seen}
use Rattle.uas_profile.specs.declared.TdState.{TdState}
use Rattle.uas_profile.specs.declared.TdState.TheVariants.{Pending, Seen, LeftOver, Retired}
use Rattle.shared_machine.specs.declared.Td.{Td}

-- what a client has under a slot: the task, and the TDs that carry it
pub record Entry : Type 0 where
  pub task : TaggedTask
  pub command_td : Td
  pub status_td : Td
  pub data_td : Option Td

-- a TD as it is pushed
abbrev pub pushed : Td
pushed = record { state = Pending; consumed = 0 }

-- the TRBs of a data TD: 4,096 bytes each, the last one what is left; a task management moves no data
abbrev pub data_trbs : Request → ℕ
data_trbs (Execute op) = (moved_bytes op + (CHUNK_BYTES - 1)) / CHUNK_BYTES
data_trbs (Manage what noted) = 0

-- Its TRBs are in its ring: pushed, and not yet reclaimed. The host waits for nothing of a TD that is left over, but its
-- TRBs stay where they are until the controller is moved past them.
abbrev pub is_in_ring : TdState → Bool
is_in_ring Pending = true
is_in_ring LeftOver = true
is_in_ring _ = false

-- its ring has a TRB of it that the controller may take
abbrev pub has_trb : Td → ℕ → Bool
has_trb td trbs = is_in_ring td.state && nat_lt td.consumed trbs

-- the controller took its last TRB, and the host hasn't seen the event yet
abbrev pub is_awaited : Td → ℕ → Bool
is_awaited td trbs = is_pending td.state && (td.consumed == trbs)

abbrev pub with_trb_taken : Td → Td
with_trb_taken td = record td { consumed = td.consumed + 1 }

abbrev pub with_event_seen : Td → Td
with_event_seen td = record td { state = Seen }

-- a TD whose event can no longer come is left over
abbrev pub left_over_td : Td → Td
left_over_td td = if is_pending td.state then record td { state = LeftOver } else td

-- the same, where there is one
abbrev pub left_over_data : Option Td → Option Td
left_over_data None = None
left_over_data (Some td) = Some (left_over_td td)

-- CHECK CONDITION leaves an unseen data TD over
abbrev pub data_after_answer : TaskAnswer → Option Td → Option Td
data_after_answer (WithStatus Good) td = td
data_after_answer (WithStatus (Check sense)) td = left_over_data td
data_after_answer (WithResponse code) td = td

abbrev pub data_after_status : Phase → Option Td → Option Td
data_after_status Queued td = td
data_after_status (Begun progress) td = td
data_after_status (Sent answer) td = data_after_answer answer td
data_after_status Gone td = td

-- a command without data has no data TD
abbrev pub is_data_over : Option Td → Bool
is_data_over None = true
is_data_over (Some td) = is_over td.state

-- A command is ready once its command and status events were seen and its data TD was seen or retired.
abbrev pub is_ready : Entry → Bool
is_ready entry = is_seen entry.command_td.state && (is_over entry.status_td.state && is_data_over entry.data_td)

-- THE TD ON A PIPE

-- the data TD is on the pipe of its direction
abbrev pub data_in_td : Direction → Option Td → Option Td
data_in_td Nothing td = None
data_in_td ToHost td = td
data_in_td ToDevice td = None

abbrev pub data_out_td : Direction → Option Td → Option Td
data_out_td Nothing td = None
data_out_td ToHost td = None
data_out_td ToDevice td = td

-- The TD of an entry on a pipe with streams. No TD of the command pipe is ever left over.
abbrev pub td_on : Pipe → Entry → Option Td
td_on Command entry = None
td_on Status entry = Some entry.status_td
td_on DataIn entry = data_in_td (request_direction entry.task.request) entry.data_td
td_on DataOut entry = data_out_td (request_direction entry.task.request) entry.data_td

-- how many TRBs it has
abbrev pub trbs_on : Pipe → Entry → ℕ
trbs_on Command entry = 1
trbs_on Status entry = 1
trbs_on DataIn entry = data_trbs entry.task.request
trbs_on DataOut entry = data_trbs entry.task.request

-- its ring has a TRB of it that the controller may take, where it is there
abbrev pub has_data_trb : ℕ → Option Td → Bool
has_data_trb trbs None = false
has_data_trb trbs (Some td) = has_trb td trbs

abbrev pub has_trb_on : Pipe → Entry → Bool
has_trb_on pipe entry = has_data_trb (trbs_on pipe entry) (td_on pipe entry)

-- LEFT OVER, AND RETIRED

abbrev pub is_td_left_over : Option Td → Bool
is_td_left_over None = false
is_td_left_over (Some td) = is_left_over td.state

abbrev pub is_left_over_on : Pipe → Entry → Bool
is_left_over_on pipe entry = is_td_left_over (td_on pipe entry)

-- the entry with a change of its TD on a pipe
abbrev pub with_td_on : (Td → Td) → Pipe → Entry → Entry
with_td_on change Command entry = entry
with_td_on change Status entry = record entry { status_td = change entry.status_td }
with_td_on change DataIn entry = record entry { data_td = option_map change entry.data_td }
with_td_on change DataOut entry = record entry { data_td = option_map change entry.data_td }

-- the controller was moved past the TD's TRBs: all are consumed
abbrev pub passed_td : ℕ → Td → Td
passed_td trbs td = record td { consumed = trbs }

abbrev pub passed_on : Pipe → Entry → Entry
passed_on pipe entry = with_td_on (passed_td (trbs_on pipe entry)) pipe entry

abbrev pub retired_td : Td → Td
retired_td td = record td { state = Retired }

-- the entry once its TD on a pipe is retired, or none where that TD isn't left over
abbrev pub retired_on : Pipe → Entry → Option Entry
retired_on pipe entry = if is_left_over_on pipe entry then Some (with_td_on retired_td pipe entry) else None

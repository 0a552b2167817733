-- What stands under one tag fits what the shared machine has at its place.
use Rattle.std.specs.Prelude.{◌≡◌, ℕ, ◌<◌, ◌^◌, List, [], length, map, take, Option, Some, None, option_map}
use Rattle.xhci_trb.specs.declared.Trb.{Trb}
use Rattle.cycle_ring.specs.Items.{ItemRing, known}
use Rattle.scsi_cmd.specs.declared.Request.{Request}
use Rattle.scsi_cmd.specs.declared.Request.TheVariants.{Execute, Manage}
use Rattle.solo_model.specs.declared.TaskAnswer.{TaskAnswer}
use Rattle.solo_model.specs.declared.TaskAnswer.TheVariants.{WithStatus, WithResponse}
use Rattle.solo_model.specs.TaggedTask.{response_number}
use Rattle.solo_model.specs.declared.Phase.{Phase}
use Rattle.solo_model.specs.declared.Phase.TheVariants.{Queued, Begun, Sent, Gone}
use Rattle.device_server.specs.Server.{status_of, sense_of}
use Rattle.solo_model.specs.Soundness.{IsSound}
use Rattle.uas_profile.specs.declared.Place.{Place}
use Rattle.uas_profile.specs.declared.TdState.{TdState}
use Rattle.uas_profile.specs.declared.TdState.TheVariants.{Pending, Seen, LeftOver, Retired}
use Rattle.uas_host.specs.declared.HostAnswer.{HostAnswer}
use Rattle.uas_host.specs.declared.HostAnswer.TheVariants.{Unanswered, Status as AnsweredStatus, Response as AnsweredResponse}
use Rattle.uas_host.specs.declared.HostEntry.{HostEntry}
use Rattle.uas_profile.specs.Tags.{tag_of}
use Rattle.uas_host.specs.Tasks.{named_tag}
use Rattle.uas_host.specs.Tds.{data_td, status_td}
use Rattle.shared_machine.specs.declared.Td.{Td}
use Rattle.shared_machine.specs.Td.{Entry}
pub use Rattle.shared_machine.specs.Td.{data_in_td, data_out_td}
use Rattle.shared_machine.specs.Td.{request_direction}
use Rattle.bus_core.specs.Wire.{request_text, answer_text}
use Rattle.bus_core.specs.Hosts.{device_task}
use Rattle.machine_invariant.specs.Matched.{request_bytes}
use Rattle.bus_core.specs.World.{Cell}

-- THE HOST'S SIDE OF AN ENTRY: it knows no phase, no bytes, and not how many TRBs were taken

abbrev pub state_of : Td → TdState
state_of td = td.state

-- a command is told its status and sense, a task management its response code
abbrev pub told_of : TaskAnswer → HostAnswer
told_of (WithStatus answer) = AnsweredStatus (status_of answer) (record { items = sense_of answer })
told_of (WithResponse code) = AnsweredResponse (response_number code)

-- the host was told the answer once it has seen the status event
abbrev pub told_sent : TaskAnswer → TdState → HostAnswer
told_sent answer Pending = Unanswered
told_sent answer Seen = told_of answer
told_sent answer LeftOver = Unanswered
told_sent answer Retired = Unanswered

abbrev pub told_by : Phase → TdState → HostAnswer
told_by Queued state = Unanswered
told_by (Begun progress) state = Unanswered
told_by (Sent answer) state = told_sent answer state
told_by Gone state = Unanswered

abbrev pub host_side : Entry → HostEntry
host_side entry = record {
  ticket = entry.task.ticket;
  request = entry.task.request;
  told = told_by entry.task.phase entry.status_td.state;
  command_td = entry.command_td.state;
  status_td = entry.status_td.state;
  data_td = option_map state_of entry.data_td;
}

-- THE RINGS OF AN ENTRY

-- these TRBs are on a ring, no foreign bytes, and so many of them were taken
abbrev pub HoldsTrbs : ItemRing → List Trb → ℕ → Type 0
HoldsTrbs ring trbs taken = (ring.put ≡ map known trbs) × (ring.got ≡ taken)

-- The ring of a TD. While its event is awaited, and where it is left over, its TRBs are there; once the event was seen or
-- it was retired they were reclaimed, all of them taken.
abbrev pub HoldsIn : ItemRing → List Trb → ℕ → TdState → Type 0
HoldsIn ring trbs consumed Pending = HoldsTrbs ring trbs consumed
HoldsIn ring trbs consumed Seen = HoldsTrbs ring [] 0 × (consumed ≡ length trbs)
HoldsIn ring trbs consumed LeftOver = HoldsTrbs ring trbs consumed
HoldsIn ring trbs consumed Retired = HoldsTrbs ring [] 0 × (consumed ≡ length trbs)

abbrev pub HoldsTd : ItemRing → List Trb → Td → Type 0
HoldsTd ring trbs td = HoldsIn ring trbs td.consumed td.state

abbrev pub HoldsData : ItemRing → List Trb → Option Td → Type 0
HoldsData ring trbs None = HoldsTrbs ring [] 0
HoldsData ring trbs (Some td) = HoldsTd ring trbs td

-- THE BUFFERS

-- the status buffer begins with the answer once it was sent
abbrev pub HasAnswerIn : Phase → ℕ → List ℕ → Type 0
HasAnswerIn Queued tag bytes = Unit {0}
HasAnswerIn (Begun progress) tag bytes = Unit {0}
HasAnswerIn (Sent answer) tag bytes = take (length (answer_text tag answer)) bytes ≡ answer_text tag answer
HasAnswerIn Gone tag bytes = Unit {0}

-- The command buffer has the Command unit, or begins with the Task Management unit, which has 16 bytes, two of them for the tag that it
-- names.
abbrev pub HasUnitIn : ℕ → ℕ → Request → List ℕ → Type 0
HasUnitIn client tag (Execute op) bytes = bytes ≡ request_text client tag (Execute op)
HasUnitIn client tag (Manage what noted) bytes = (take 16 bytes ≡ request_text client tag (Manage what noted)) × (named_tag what < 2 ^ 16)

-- a command lends its buffer, a task management none
abbrev pub lent_for : Request → List ℕ → Option (List ℕ)
lent_for (Execute op) buffer = Some buffer
lent_for (Manage what noted) buffer = None

-- a task management brings no bytes, and none come in
abbrev pub HasNoBytes : Request → List ℕ → Type 0
HasNoBytes (Execute op) buffer = Unit {0}
HasNoBytes (Manage what noted) buffer = buffer ≡ []

-- ONE CELL

-- a cell with an entry of a client whose unit has so many blocks
pub record FitsCell (tags client count : ℕ) (place : Place) (entry : Entry) (cell : Cell) : Type 0 where
  pub held : cell.held ≡ Some (host_side entry)
  pub task : cell.task ≡ device_task client entry
  pub status : HoldsTd cell.status (status_td (tag_of tags place)) entry.status_td
  pub data_in : HoldsData cell.data_in (data_td (tag_of tags place) (request_bytes entry.task.request))
      (data_in_td (request_direction entry.task.request) entry.data_td)
  pub data_out : HoldsData cell.data_out (data_td (tag_of tags place) (request_bytes entry.task.request))
      (data_out_td (request_direction entry.task.request) entry.data_td)
  pub lent : cell.buffers.lent ≡ lent_for entry.task.request entry.task.buffer
  pub bytes : HasNoBytes entry.task.request entry.task.buffer
  pub unit : HasUnitIn client (tag_of tags place) entry.task.request cell.buffers.command
  pub answer : HasAnswerIn entry.task.phase (tag_of tags place) cell.buffers.status
  pub sound : IsSound count entry.task

-- a cell with nothing
pub record IsEmptyCell (cell : Cell) : Type 0 where
  pub held : cell.held ≡ None
  pub task : cell.task ≡ None
  pub status : HoldsTrbs cell.status [] 0
  pub data_in : HoldsTrbs cell.data_in [] 0
  pub data_out : HoldsTrbs cell.data_out [] 0
  pub lent : cell.buffers.lent ≡ None

abbrev pub FitsHeld : ℕ → ℕ → ℕ → Place → Option Entry → Cell → Type 0
FitsHeld tags client count place None cell = IsEmptyCell cell
FitsHeld tags client count place (Some entry) cell = FitsCell tags client count place entry cell

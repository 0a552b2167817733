-- What an event says of the tags (xHCI 1.2, 6.4.2.1): it names a TRB by its address, and so a ring, a third and a place.
use Rattle.std.specs.Prelude.{ℕ, ◌-◌, ◌==◌, ◌&&◌, if◌then◌else◌, Bool, true, false, Option, None, Some, is_none, List}
use Rattle.block_requests.specs.declared.outcomes.DataEnd.{DataEnd}
use Rattle.block_requests.specs.declared.outcomes.DataEnd.TheVariants as data_end
use Rattle.block_requests.specs.declared.outcomes.Outcome.{Outcome}
use Rattle.block_requests.specs.Outcomes.{data_end as end_of, outcome_of, stopped_at}
use Rattle.disk_ready.specs.declared.puts.Spots.{Spots}
use Rattle.disk_requests.specs.declared.StatusUnit.{StatusUnit}
use Rattle.disk_requests.specs.Statuses.{status_in}
use Rattle.host_layout.specs.declared.layout.Layout.{Layout}
use Rattle.host_layout.specs.declared.rings.Ring.{Ring}
use Rattle.host_layout.specs.declared.rings.Ring.TheVariants as ring
use Rattle.host_layout.specs.declared.rings.RingPlace.{RingPlace}
use Rattle.host_layout.specs.Rings.{guess_of, trb_of}
use Rattle.host_trbs.specs.declared.events.Completion.{Completion}
use Rattle.host_trbs.specs.declared.events.Completion.TheVariants as completion
use Rattle.host_trbs.specs.declared.events.Event.{Event}
use Rattle.host_trbs.specs.declared.events.Event.TheVariants as event
use Rattle.host_trbs.specs.Events.{is_failure, transfer_completion}
use Rattle.block_driver.specs.declared.events.Said.{Said}
use Rattle.block_driver.specs.declared.events.Said.TheVariants as said
use Rattle.block_driver.specs.declared.table.Entry.{Entry}
use Rattle.block_driver.specs.declared.table.Entry.TheVariants as entry
use Rattle.block_driver.specs.declared.table.Outstanding.{Outstanding}
use Rattle.block_driver.specs.declared.tasks.OwnTask.{OwnTask}
use Rattle.block_driver.specs.Table.{entry_at, is_pending, is_way}

-- the one place whose TRB may begin at an address, where it does
abbrev pub found_at : Option ℕ → RingPlace → ℕ → Option RingPlace
found_at None at pointer = None
found_at (Some address) at pointer = if address == pointer then Some at else None

abbrev pub found_in : Layout → ℕ → Option RingPlace
found_in layout pointer =
    found_at (trb_of layout (guess_of layout.shape (pointer - layout.base))) (guess_of layout.shape (pointer - layout.base)) pointer

abbrev pub failed_if : Bool → Said
failed_if true = said.Failed
failed_if false = said.Nothing

-- THE DATA of a tag: an event at the third of its TD, while that is pending

abbrev pub said_of : ℕ → DataEnd → Said
said_of tag (data_end.Moved count) = said.Moved tag count
said_of tag data_end.Failed = said.Failed
said_of tag data_end.GoesOn = said.Nothing

-- a TD that was stopped goes on behind the next doorbell, or is taken off
abbrev pub stopped_or : Option ℕ → ℕ → DataEnd → Said
stopped_or None tag end = said_of tag end
stopped_or (Some count) tag end = said.Stopped tag count

abbrev pub pending_said : Outstanding → ℕ → RingPlace → ℕ → Completion → Said
pending_said command tag at residual came =
    stopped_or (stopped_at command.pieces.items at.place residual came) tag (end_of command.pieces.items at.place residual came)

abbrev pub data_said_in : Option Spots → Outstanding → ℕ → Bool → RingPlace → ℕ → Completion → Said
data_said_in None command tag is_in at residual came = said.Nothing
data_said_in (Some spots) command tag is_in at residual came =
    if is_way command.sent.way is_in && (spots.data_third == at.segment) && is_pending command.data_state then
    pending_said command tag at residual came
    else said.Nothing

abbrev pub command_data_said : Outstanding → ℕ → Bool → RingPlace → ℕ → Completion → Said
command_data_said command tag is_in at residual came = data_said_in command.spots command tag is_in at residual came

abbrev pub data_said : Entry → ℕ → Bool → RingPlace → ℕ → Completion → Said
data_said entry.Free tag is_in at residual came = said.Nothing
data_said (entry.Outstanding command) tag is_in at residual came = command_data_said command tag is_in at residual came
data_said (entry.Replied reply) tag is_in at residual came = said.Nothing

-- ITS STATUS: 112 bytes less the residual ones came

abbrev pub status_count : ℕ → ℕ → Completion → Said
status_count tag residual completion.Success = said.Unit tag (112 - residual)
status_count tag residual completion.ShortPacket = said.Unit tag (112 - residual)
status_count tag residual completion.Stall = said.Failed
status_count tag residual completion.Transaction = said.Failed
status_count tag residual completion.Failed = said.Failed
status_count tag residual _ = said.Nothing

abbrev pub status_said_in : Option Spots → Outstanding → ℕ → RingPlace → ℕ → Completion → Said
status_said_in None command tag at residual came = said.Nothing
status_said_in (Some spots) command tag at residual came =
    if (spots.status_third == at.segment) && (at.place == 0) && is_none command.status then status_count tag residual came
    else said.Nothing

abbrev pub command_status_said : Outstanding → ℕ → RingPlace → ℕ → Completion → Said
command_status_said command tag at residual came = status_said_in command.spots command tag at residual came

abbrev pub status_said : Entry → ℕ → RingPlace → ℕ → Completion → Said
status_said entry.Free tag at residual came = said.Nothing
status_said (entry.Outstanding command) tag at residual came = command_status_said command tag at residual came
status_said (entry.Replied reply) tag at residual came = said.Nothing

-- THE DRIVER'S OWN TASK has its status on its tag's stream, on which no command is

abbrev pub own_said : OwnTask → RingPlace → ℕ → Completion → Said
own_said own at residual came =
    if (own.spots.status_third == at.segment) && (at.place == 0) then status_count own.tag residual came else said.Nothing

abbrev pub status_said_on : Option OwnTask → List Entry → ℕ → RingPlace → ℕ → Completion → Said
status_said_on None tags tag at residual came = status_said (entry_at tags tag) tag at residual came
status_said_on (Some own) tags tag at residual came =
    if own.tag == tag then own_said own at residual came else status_said (entry_at tags tag) tag at residual came

-- AN EVENT: at a ring of a tag; a failing one at the command pipe's, or at no TRB, is of a TD too

abbrev pub said_at : Ring → List Entry → Option OwnTask → RingPlace → ℕ → Completion → Said
said_at (ring.Status tag) tags own at residual came = status_said_on own tags tag at residual came
said_at (ring.DataIn tag) tags own at residual came = data_said (entry_at tags tag) tag true at residual came
said_at (ring.DataOut tag) tags own at residual came = data_said (entry_at tags tag) tag false at residual came
said_at ring.CommandPipe tags own at residual came = failed_if (is_failure came)
said_at ring.Command tags own at residual came = said.Nothing
said_at ring.Control tags own at residual came = said.Nothing

abbrev pub said_by : Option RingPlace → List Entry → Option OwnTask → ℕ → ℕ → Completion → Said
said_by None tags own trb residual came = failed_if ((trb == 0) && is_failure came)
said_by (Some at) tags own trb residual came = said_at at.ring tags own at residual came

-- endpoint 0's events are of nothing here
abbrev pub transfer_said : List Entry → Option OwnTask → Layout → ℕ → ℕ → ℕ → ℕ → Said
transfer_said tags own layout trb residual code endpoint =
    if endpoint == 1 then said.Nothing else said_by (found_in layout trb) tags own trb residual (transfer_completion code residual)

abbrev pub event_said : Event → List Entry → Option OwnTask → Layout → Said
event_said (event.Transfer trb residual code endpoint slot) tags own layout = transfer_said tags own layout trb residual code endpoint
event_said (event.Command trb code slot) tags own layout = said.Nothing
event_said (event.Port port) tags own layout = said.Port port
event_said (event.Controller code) tags own layout = said.Nothing
event_said (event.Other kind) tags own layout = said.Nothing

-- THE STATUS UNIT of a tag: what it says where all bytes came; another tag's, and one of no command, says nothing

abbrev pub unit_outcome_of : Option StatusUnit → ℕ → ℕ → Option Outcome
unit_outcome_of None tag wanted = None
unit_outcome_of (Some unit) tag wanted = if unit.tag == tag then outcome_of unit.kind wanted wanted else None

abbrev pub unit_outcome : List ℕ → ℕ → ℕ → Option Outcome
unit_outcome bytes tag wanted = unit_outcome_of (status_in bytes) tag wanted

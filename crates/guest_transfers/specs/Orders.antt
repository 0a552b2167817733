-- What commands of the command ring make of the pipes, and what is left to do.
use Rattle.std.specs.Prelude.{ℕ, ◌==◌, nat_lt, Bool, true, false, not, ◌||◌, if◌then◌else◌, [], Option, Some, None, option_map, map}
use Rattle.guest_memory.specs.Bytes.{Memory}
use Rattle.guest_memory.specs.declared.rings.cursor.Cursor.{Cursor}
use Rattle.guest_memory.specs.rings.Events.{EventEnd}
use Rattle.guest_pipes.specs.declared.acted.Acted.{Acted}
use Rattle.guest_pipes.specs.declared.acted.Acted.TheVariants.{Off, Idle, Full, Emptied, Waits, Worked}
use Rattle.guest_pipes.specs.declared.consumer.EndpointState.{EndpointState}
use Rattle.guest_pipes.specs.declared.consumer.EndpointState.TheVariants.{Disabled, Running, Stopped}
use Rattle.guest_pipes.specs.Progress.{fresh, runs}
use Rattle.guest_pipes.specs.Gate.{after, room_gate, through}
use Rattle.guest_pipes.specs.Orders.{PipeWorld, dequeue_set, stray_stepped}
use Rattle.guest_pipes.specs.declared.consumer.Consumer.{Consumer}
use Rattle.guest_pipes.specs.Pipe.{PipeState, configured, forgotten, progress_on, reset_with, stored}
use Rattle.guest_tags.specs.declared.device.Phase.{Phase}
use Rattle.guest_tags.specs.declared.device.Phase.TheVariants.{Absent, Gives, Takes, Ended}
use Rattle.guest_tags.specs.Devices.{Kind}
use Rattle.guest_tags.specs.Status.{has_unit, rewound}
use Rattle.guest_transfers.specs.declared.slot.Slot.{Slot}
use Rattle.guest_transfers.specs.declared.control.StreamPipe.{StreamPipe}
use Rattle.guest_transfers.specs.declared.control.StreamPipe.TheVariants.{Status, DataOut, DataIn}
use Rattle.guest_transfers.specs.State.{TransfersState, TransfersWorld, empty_slot, slot_of, with_slot}
use Rattle.guest_transfers.specs.Steps.{in_stepped, out_stepped}

-- a pipe with streams
abbrev pub pipe_of : TransfersState → StreamPipe → PipeState
pipe_of t Status = t.status
pipe_of t DataOut = t.data_out
pipe_of t DataIn = t.data_in

abbrev pub with_pipe : TransfersState → StreamPipe → PipeState → TransfersState
with_pipe t Status p = record t { status = p }
with_pipe t DataOut p = record t { data_out = p }
with_pipe t DataIn p = record t { data_in = p }

-- the command pipe, by an endpoint that was added, dropped, stopped or reset
abbrev pub command_configured : TransfersState → ℕ → TransfersState
command_configured t home = record t {
  command = record { endpoint = 2; state = Running; rung = false; progress = fresh };
  home = home;
  gathered = [];
}

abbrev pub command_disabled : TransfersState → TransfersState
command_disabled t = record t {
  command = record { endpoint = 2; state = Disabled; rung = false; progress = fresh };
  home = 0;
  gathered = [];
}

abbrev pub command_stopped : TransfersState → TransfersState
command_stopped t = record t { command = record t.command { state = Stopped; rung = false } }

-- the same of the TD that was begun, as Set TR Dequeue Pointer and Reset Endpoint without TSP forget it
abbrev pub command_forgotten : TransfersState → EndpointState → TransfersState
command_forgotten t state = record t { command = record t.command { state = state; progress = fresh }; gathered = [] }

-- Set TR Dequeue Pointer of a status stream: the information unit that its TD had begun goes from its start
abbrev pub status_forgotten : Slot → Slot
status_forgotten slot = record slot { tag = rewound slot.tag }

abbrev pub unit_forgotten : TransfersState → StreamPipe → ℕ → TransfersState
unit_forgotten t Status stream = if nat_lt stream 241 then with_slot t stream (status_forgotten (slot_of t stream)) else t
unit_forgotten t DataOut stream = t
unit_forgotten t DataIn stream = t

-- and those of all its streams, where the pipe is added or reset
abbrev pub units_forgotten : TransfersState → StreamPipe → TransfersState
units_forgotten t Status = record t { tags = map status_forgotten t.tags }
units_forgotten t DataOut = t
units_forgotten t DataIn = t

-- a pipe with streams, by an endpoint that was added, or reset, where TSP keeps what is opaque
abbrev pub pipe_added : TransfersState → StreamPipe → ℕ → ℕ → TransfersState
pipe_added t name array streams = units_forgotten (with_pipe t name (configured (pipe_of t name) array streams)) name

abbrev pub pipe_reset : Bool → TransfersState → StreamPipe → TransfersState
pipe_reset true t name = with_pipe t name (reset_with true (pipe_of t name))
pipe_reset false t name = units_forgotten (with_pipe t name (reset_with false (pipe_of t name))) name

abbrev pub pipe_kept : TransfersState → StreamPipe → Memory × PipeState → Memory × TransfersState
pipe_kept t name after = (after.0, with_pipe t name after.1)

abbrev pub dequeue_kept : TransfersState → StreamPipe → ℕ → Memory × PipeState → Memory × TransfersState
dequeue_kept t name stream after = (after.0, unit_forgotten (with_pipe t name after.1) name stream)

-- memory and pipes after Set TR Dequeue Pointer of a stream; None where its context isn't there
abbrev pub dequeue_moved : Memory → TransfersState → StreamPipe → ℕ → Cursor → ℕ → Option (Memory × TransfersState)
dequeue_moved memory t name stream cursor kind =
    option_map (dequeue_kept t name stream) (dequeue_set memory (pipe_of t name) stream cursor kind)

-- the same of the one ring of a pipe without streams, which is that of stream 0
abbrev pub lone_forgotten : TransfersState → StreamPipe → TransfersState
lone_forgotten t name = with_pipe t name (forgotten (pipe_of t name) 0)

-- that ring's consumer once it has changed
abbrev pub lone_kept : TransfersState → StreamPipe → Consumer → TransfersState
lone_kept t name consumer = with_pipe t name (stored (pipe_of t name) 0 consumer)

-- after a device reset nothing is kept of a tag
abbrev pub emptied : Slot → Slot
emptied slot = empty_slot

abbrev pub tags_cleared : TransfersState → TransfersState
tags_cleared t = record t { tags = map emptied t.tags }

-- memory, event ring and pipes after a step for a doorbell of a pipe that no stream's turn serves; TDs of a pipe without streams are told with
-- this code
abbrev pub pipe_world : Memory → EventEnd → TransfersState → StreamPipe → PipeWorld
pipe_world memory events t name = record { memory = memory; events = events; pipe = pipe_of t name }

abbrev pub stray_noted : TransfersState → StreamPipe → PipeWorld × Option Acted → Memory × (EventEnd × (TransfersState × Option Acted))
stray_noted t name after = (after.0.memory, (after.0.events, (with_pipe t name after.0.pipe, after.1)))

abbrev pub stray_on : ℕ → Memory → EventEnd → TransfersState → StreamPipe → Memory × (EventEnd × (TransfersState × Option Acted))
stray_on code memory events t name =
    stray_noted t name (after (pipe_world memory events t name) (stray_stepped code (pipe_world memory events t name)))

-- whether the device has a task of a tag
abbrev pub has_task : Phase → Bool
has_task Absent = false
has_task (Gives count) = true
has_task (Takes count) = true
has_task (Ended end) = true

-- whether a data TD of a tag was begun and isn't over
abbrev pub has_begun_data : TransfersState → ℕ → Bool
has_begun_data t tag = (progress_on t.data_in tag).begun || (progress_on t.data_out tag).begun

-- whether a tag has something to do: a task, an information unit on its way, an overlap to be answered, a status TD whose rest is
-- skipped, or a data TD that was begun
abbrev pub has_work : TransfersState → ℕ → Phase → Bool
has_work t tag phase =
    has_task phase || (has_unit (slot_of t tag).tag || (not ((slot_of t tag).tag.overlaps == 0)
    || (not (runs (progress_on t.status tag).ending) || has_begun_data t tag)))

-- what a task that is gone has left of its chunk is dropped
abbrev pub left_dropped : TransfersState → ℕ → TransfersState
left_dropped t tag = with_slot t tag (record (slot_of t tag) { tag = record (slot_of t tag).tag { chunk = [] } })

-- a chunk is given that is dropped
abbrev pub drops_now : Bool → Phase → Bool
drops_now drops Absent = false
drops_now drops (Gives count) = drops
drops_now drops (Takes count) = false
drops_now drops (Ended end) = false

module _ {D : Type 0} (kind : Kind D) where
  -- what a task still gives after its buffer wasn't there is dropped, a chunk a step
  unfoldable pub chunk_dropped : TransfersWorld D → ℕ → TransfersWorld D
  chunk_dropped w tag = record w {
    transfers = with_slot w.transfers tag (record (slot_of w.transfers tag) { tag = record (slot_of w.transfers tag).tag { chunk = [] } });
    device = kind.gave w.device tag;
  }

  -- data-in first; data-out where that did nothing
  abbrev pub or_out : TransfersWorld D × Option Acted → ℕ → TransfersWorld D × Option Acted
  or_out (w, None) tag = (w, None)
  or_out (w, Some Off) tag = out_stepped kind w tag
  or_out (w, Some Idle) tag = out_stepped kind w tag
  or_out (w, Some Full) tag = out_stepped kind w tag
  or_out (w, Some Emptied) tag = (w, Some Emptied)
  or_out (w, Some Waits) tag = out_stepped kind w tag
  or_out (w, Some Worked) tag = (w, Some Worked)

  abbrev pub dropped_in : TransfersWorld D → ℕ → TransfersWorld D × Option Acted
  dropped_in w tag = after w (through w (room_gate w.memory w.events) (Some (chunk_dropped w tag, Worked)))

  abbrev pub data_by : Bool → TransfersWorld D → ℕ → TransfersWorld D × Option Acted
  data_by true w tag = dropped_in w tag
  data_by false w tag = or_out (in_stepped kind w tag) tag

  -- a step for a tag's data
  abbrev pub data_stepped : TransfersWorld D → ℕ → TransfersWorld D × Option Acted
  data_stepped w tag = data_by (drops_now (slot_of w.transfers tag).tag.drops (kind.phase w.device tag)) w tag

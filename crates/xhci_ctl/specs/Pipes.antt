-- The pipes with streams as the controller keeps them, and which streams are armed (xHCI 4.7, 4.12).
use Rattle.std.specs.Prelude.{ℕ, Bool, true, false, ◌&&◌, ◌==◌, nat_lt, length, slice_set, slice_index_or, replicate}
use Rattle.uas_profile.specs.PipeStates.{new_pipe, is_open}
use Rattle.cycle_ring.specs.Items.{ItemRing}
use Rattle.uas_profile.specs.declared.Pipe.{Pipe}
use Rattle.uas_profile.specs.declared.Pipe.TheVariants.{Command, Status, DataIn, DataOut}
use Rattle.uas_profile.specs.declared.TheConstants.{STREAM_ENTRIES}
use Rattle.stream_array.specs.Contexts.{has_stream}
use Rattle.stream_array.specs.Rings.{LinesState, ring_of}
use Rattle.uas_profile.specs.declared.PipeState.{PipeState}

-- the controller: the state of each pipe with streams
pub record ControllerState : Type 0 where
  pub status : PipeState
  pub data_in : PipeState
  pub data_out : PipeState

abbrev pub new_controller : ControllerState
new_controller = record { status = new_pipe; data_in = new_pipe; data_out = new_pipe }

-- a pipe's endpoint runs; that of the command pipe always does
abbrev pub is_running : ControllerState → Pipe → Bool
is_running controller Command = true
is_running controller Status = controller.status.runs
is_running controller DataIn = controller.data_in.runs
is_running controller DataOut = controller.data_out.runs

-- a ring has a pending TRB, or pending foreign bytes
abbrev pub has_pending : ItemRing → Bool
has_pending ring = nat_lt ring.got (length ring.put)

-- a stream with a ring is open on its pipe; the command pipe's one ring always is
abbrev pub is_open_on : ControllerState → Pipe → ℕ → Bool
is_open_on controller Command stream = stream == 0
is_open_on controller Status stream = has_stream stream && is_open controller.status stream
is_open_on controller DataIn stream = has_stream stream && is_open controller.data_in stream
is_open_on controller DataOut stream = has_stream stream && is_open controller.data_out stream

-- a stream is armed: it was rung since the last stop of its pipe, the pipe runs, and its ring has a pending TRB
abbrev pub is_armed : ControllerState → LinesState → Pipe → ℕ → Bool
is_armed controller lines pipe stream = is_open_on controller pipe stream && has_pending (ring_of lines pipe stream)

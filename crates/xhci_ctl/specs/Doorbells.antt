-- Doorbell values (xHCI 5.6): the target in bits 7:0, the stream in bits 31:16.
use Rattle.std.specs.Prelude.{ℕ, ◌/◌, ◌%◌, ◌^◌, ◌==◌, ◌&&◌, if◌then◌else◌, Option, None, Some, option_map}
use Rattle.std.specs.Option.{option_map_or}
use Rattle.uas_profile.specs.Doors.{stream_in}
use Rattle.uas_profile.specs.declared.Pipe.{Pipe}
use Rattle.uas_profile.specs.declared.Pipe.TheVariants.{Command, Status, DataIn, DataOut}
use Rattle.stream_array.specs.Contexts.{has_stream}
use Rattle.uas_profile.specs.declared.TheConstants.{STATUS_ENDPOINT, DATA_OUT_ENDPOINT, DATA_IN_ENDPOINT}
use Rattle.uas_profile.specs.PipeStates.{rung_at}
use Rattle.xhci_ctl.specs.Pipes.{ControllerState}

-- the fields of a value, and the bits between them, which are reserved
abbrev pub target_in : ℕ → ℕ
target_in value = value % 2 ^ 8

abbrev pub reserved_in : ℕ → ℕ
reserved_in value = value / 2 ^ 8 % 2 ^ 8

-- the pipe with streams whose endpoint a target names
abbrev pub pipe_at : ℕ → Option Pipe
pipe_at target =
    if target == STATUS_ENDPOINT then Some Status
    else if target == DATA_OUT_ENDPOINT then Some DataOut
    else if target == DATA_IN_ENDPOINT then Some DataIn
    else None

-- The pipe and the stream that a value rings; None of the value 0, whose stream is 0, and of every value with another
-- target, a reserved bit set, or a stream without a ring. Worked: 0x00120005 is data-in, stream 18.
abbrev pub rung_in : ℕ → Option (Pipe × ℕ)
rung_in value =
    if reserved_in value == 0 && has_stream (stream_in value)
    then option_map (λ pipe. (pipe, stream_in value)) (pipe_at (target_in value)) else None

abbrev pub rung_on : ControllerState → Pipe → ℕ → ControllerState
rung_on controller Command stream = controller
rung_on controller Status stream = record controller { status = rung_at controller.status stream }
rung_on controller DataIn stream = record controller { data_in = rung_at controller.data_in stream }
rung_on controller DataOut stream = record controller { data_out = rung_at controller.data_out stream }

-- the controller after a doorbell of this value
abbrev pub rung_by : ControllerState → ℕ → ControllerState
rung_by controller value = option_map_or (λ rung. rung_on controller rung.0 rung.1) (rung_in value) controller

-- The controller's own commands (xHCI 1.2, 4.6): Stop Endpoint (4.6.9), Set TR Dequeue Pointer (4.6.10), and a step that executes
-- the first of them and posts its event (4.11.4, 6.4.2.2).
use Rattle.std.specs.Prelude.{ℕ, ◌+◌, ◌==◌, ◌&&◌, ◌||◌, nat_le, Bool, true, false, not, if◌then◌else◌, length, Option, None, Some, option_and_then, replicate}
use Rattle.std.specs.Option.{option_map_or}
use Rattle.uas_profile.specs.PipeStates.{stopped_pipe}
use Rattle.xhci_trb.specs.declared.Trb.{Trb}
use Rattle.xhci_trb.specs.declared.Trb.TheVariants.{Normal, Link, StopEndpoint, SetDequeue, TransferEvent, CommandEvent}
use Rattle.cycle_ring.specs.Ring.{cycle_of, item_at}
use Rattle.cycle_ring.specs.Items.{ItemRing}
use Rattle.event_ring.specs.declared.Event.TheVariants.{Command as CommandDone}
use Rattle.uas_profile.specs.declared.Pipe.{Pipe}
use Rattle.uas_profile.specs.declared.Pipe.TheVariants.{Command, Status, DataIn, DataOut}
use Rattle.uas_profile.specs.declared.TheConstants.{ENGINE_RING_PLACES, STREAM_ENTRIES}
use Rattle.stream_array.specs.Contexts.{has_stream}
use Rattle.stream_array.specs.Map.{places_of}
use Rattle.stream_array.specs.Rings.{LinesState, ring_of, with_engine, with_ring}
use Rattle.xhci_ctl.specs.declared.Acted.{Acted}
use Rattle.xhci_ctl.specs.declared.Acted.TheVariants.{Acted as ActedOn, Idle}
use Rattle.uas_profile.specs.declared.PipeState.{PipeState}
use Rattle.uas_profile.specs.declared.TheConstants.{CONTEXT_STATE_ERROR, INVALID_STREAM_ID, SLOT, SUCCESS, TRB_ERROR}
use Rattle.xhci_ctl.specs.Doorbells.{pipe_at}
use Rattle.xhci_ctl.specs.Pipes.{ControllerState, is_running}
use Rattle.xhci_ctl.specs.Steps.{front_at, has_event_room, posted}

-- the pipe with streams whose endpoint a command names, of the one slot. Worked: endpoint 5 of slot 1 is data-in
abbrev pub commanded_pipe : ℕ → ℕ → Option Pipe
commanded_pipe endpoint slot = if slot == SLOT then pipe_at endpoint else None

-- STOP ENDPOINT

abbrev pub stopped_on : ControllerState → Pipe → ControllerState
stopped_on controller Command = controller
stopped_on controller Status = record controller { status = stopped_pipe }
stopped_on controller DataIn = record controller { data_in = stopped_pipe }
stopped_on controller DataOut = record controller { data_out = stopped_pipe }

-- A pipe that runs is stopped; on one that is stopped nothing changes. Worked: twelve zeros and 01h 3ch 05h 01h stop data-in.
abbrev pub stop_endpoint : ControllerState → Pipe → ControllerState × ℕ
stop_endpoint controller pipe =
    if is_running controller pipe then (stopped_on controller pipe, SUCCESS) else (controller, CONTEXT_STATE_ERROR)

-- SET TR DEQUEUE POINTER

abbrev pub is_state : Bool → Bool → Bool
is_state true cycle = cycle
is_state false cycle = not cycle

-- The ring with its consumer's end at item k: a pending one, or the enqueue place, where nothing is pending then. The cycle
-- state is that place's.
abbrev pub dequeued_to : ℕ → ItemRing → Bool → ℕ → Option ItemRing
dequeued_to n ring cycle k =
    if nat_le ring.got k && (nat_le k (length ring.put) && is_state cycle (cycle_of n ring k)) then Some (record ring { got = k }) else None

-- the same by the item's address
abbrev pub dequeued_at : ℕ → ItemRing → ℕ → Bool → Option ItemRing
dequeued_at n ring pointer cycle = option_and_then (dequeued_to n ring cycle) (item_at n ring pointer)

-- the ring of a stream with its consumer's end there; a stream past the last one has no ring
abbrev pub dequeued_on : LinesState → Pipe → ℕ → ℕ → Bool → Option ItemRing
dequeued_on lines pipe stream pointer cycle =
    if has_stream stream then dequeued_at (places_of pipe) (ring_of lines pipe stream) pointer cycle else None

-- The tests in their order. Worked: 33h 20h 01h 43h and four zeros, 00h 00h 12h 00h, 01h 40h 05h 01h moves data-in, stream 18,
-- to place 3, and the stream's context then reads 33h 20h 01h 43h and twelve zeros.
abbrev pub set_dequeue : ControllerState → LinesState → Pipe → ℕ → ℕ → Bool → LinesState × ℕ
set_dequeue controller lines pipe stream pointer cycle =
    if stream == 0 || nat_le STREAM_ENTRIES stream then (lines, INVALID_STREAM_ID)
    else if is_running controller pipe then (lines, CONTEXT_STATE_ERROR)
    else option_map_or (λ ring. (with_ring lines pipe stream ring, SUCCESS)) (dequeued_on lines pipe stream pointer cycle) (lines, TRB_ERROR)

-- A STEP

-- what a command does to controller and rings, and its completion code; of any other TRB, slot or endpoint, and of foreign bytes, nothing
abbrev pub executed : ControllerState × LinesState → Option Trb → (ControllerState × LinesState) × ℕ
executed (controller, lines) (Some (StopEndpoint endpoint slot)) =
    option_map_or (λ pipe. let done = stop_endpoint controller pipe in ((done.0, lines), done.1))
    (commanded_pipe endpoint slot) ((controller, lines), TRB_ERROR)
executed (controller, lines) (Some (SetDequeue pointer cycle stream endpoint slot)) =
    option_map_or (λ pipe. let done = set_dequeue controller lines pipe stream pointer cycle in ((controller, done.0), done.1))
    (commanded_pipe endpoint slot) ((controller, lines), TRB_ERROR)
executed sides (Some (Normal pointer length td_size flags)) = (sides, TRB_ERROR)
executed sides (Some (Link pointer toggle chain ioc)) = (sides, TRB_ERROR)
executed sides (Some (TransferEvent pointer residual code endpoint slot)) = (sides, TRB_ERROR)
executed sides (Some (CommandEvent pointer code slot)) = (sides, TRB_ERROR)
executed sides None = (sides, TRB_ERROR)

-- the first pending item of the command ring is consumed
abbrev pub engine_consumed : LinesState → LinesState
engine_consumed lines = with_engine lines (record lines.engine { got = lines.engine.got + 1 })

-- The command in front of the ring is executed and consumed, and the event of its address is posted. Worked: of the command at
-- place 1 that is 10h 00h 00h 50h and seven zeros, 01h, 01h 84h 00h 01h.
abbrev pub engine_did : ControllerState × LinesState → ℕ × Option Trb → (ControllerState × LinesState) × Acted
engine_did sides front =
    let done = executed sides front.1 in
    ((done.0.0, posted (engine_consumed done.0.1) (CommandDone front.0 done.1 SLOT)), ActedOn 0)

-- the command in front of the ring, while the event ring has room
abbrev pub engine_front : LinesState → Option (ℕ × Option Trb)
engine_front lines = if has_event_room lines then front_at ENGINE_RING_PLACES lines.engine else None

-- a step of the command ring; it is Idle where there is no such command
abbrev pub engine_acted : ControllerState × LinesState → (ControllerState × LinesState) × Acted
engine_acted sides = option_map_or (engine_did sides) (engine_front sides.1) (sides, Idle)

-- The rings as the controller must have left them where it posts an event (xHCI 1.2, 4.6 and 4.11.3): no controller beyond tells
-- where a ring's consumer stands but by its events.
use Rattle.std.specs.Prelude.{ℕ, ◌+◌, ◌-◌, ◌*◌, ◌==◌, ◌&&◌, nat_le, nat_lt, Bool, true, false, not, if◌then◌else◌, length, Option, None, Some, option_and_then, slice_get, is_some}
use Rattle.std.specs.List.{find, range_with_len}
use Rattle.std.specs.Option.{option_map_or}
use Rattle.xhci_trb.specs.declared.Trb.{Trb}
use Rattle.xhci_trb.specs.declared.Trb.TheVariants.{Normal, Link, StopEndpoint, SetDequeue, TransferEvent, CommandEvent}
use Rattle.cycle_ring.specs.Ring.{cycle_of, item_at, pointer_of}
use Rattle.cycle_ring.specs.Items.{ItemRing, known_front_of, known_of}
use Rattle.uas_profile.specs.declared.Pipe.{Pipe}
use Rattle.uas_profile.specs.declared.Pipe.TheVariants.{Command, Status, DataIn, DataOut}
use Rattle.uas_profile.specs.declared.TheConstants.{STREAMS, STREAM_RING_PLACES, ENGINE_RING_PLACES, SUCCESS, STATUS_ENDPOINT, DATA_OUT_ENDPOINT, DATA_IN_ENDPOINT}
use Rattle.stream_array.specs.Contexts.{has_stream}
use Rattle.stream_array.specs.Map.{places_of, ring_base}
use Rattle.uas_host.specs.Events.{command_tag}
use Rattle.uas_host.specs.Retirement.{has_pending}
use Rattle.stream_array.specs.Rings.{LinesState, ring_of, with_engine, with_ring}

-- PENDING ITEMS

-- the pending item at an address, by its place among the items that weren't given back
abbrev pub pending_to : ItemRing → ℕ → Option ℕ
pending_to ring k = if nat_le ring.got k && nat_lt k (length ring.put) then Some k else None

abbrev pub pending_place : ℕ → ItemRing → ℕ → Option ℕ
pending_place n ring address = option_and_then (pending_to ring) (item_at n ring address)

-- a consumer's end

-- The ring of a pipe once its consumer stands at the pending item at an address: those before it are consumed. Worked: of three items at
-- 43012000h to 43012020h, of which none is consumed, 43012010h leaves two pending, and 43012030h three.
abbrev pub stood : LinesState → Pipe → ℕ → ℕ → LinesState
stood lines pipe stream pointer =
    option_map_or (λ k. with_ring lines pipe stream (record (ring_of lines pipe stream) { got = k }))
    (pending_place (places_of pipe) (ring_of lines pipe stream) pointer) lines

-- an item of the ring is pending at an address
abbrev pub is_pending_at : LinesState → Pipe → ℕ → ℕ → Bool
is_pending_at lines pipe stream pointer = is_some (pending_place (places_of pipe) (ring_of lines pipe stream) pointer)

-- the ring once its consumer passed the first pending item, if there is one
abbrev pub stepped : LinesState → Pipe → ℕ → LinesState
stepped lines pipe stream =
    if has_pending (ring_of lines pipe stream)
    then with_ring lines pipe stream (record (ring_of lines pipe stream) { got = (ring_of lines pipe stream).got + 1 }) else lines

-- the ring once its consumer passed all pending items
abbrev pub all_passed : LinesState → Pipe → ℕ → LinesState
all_passed lines pipe stream = with_ring lines pipe stream (record (ring_of lines pipe stream) { got = length (ring_of lines pipe stream).put })

-- the address of the item before the enqueue place of a stream's ring: behind the Link it is the first place's turn to be that
abbrev pub address_before : ℕ → ℕ → ℕ
address_before base enqueue = if enqueue == base then base + 16 * (STREAM_RING_PLACES - 2) else enqueue - 16

-- The address of the last item of a stream's ring. Worked: of nine items from place 12 on of the ring at 43012000h, the enqueue place is
-- 43012020h, and the last item is at 43012010h.
abbrev pub last_address : LinesState → Pipe → ℕ → ℕ
last_address lines pipe stream =
    address_before (ring_base pipe stream) (pointer_of (places_of pipe) (ring_of lines pipe stream) (length (ring_of lines pipe stream).put))

-- THE FIRST TD OF A PIPE

-- the first stream of a pipe that has a pending TRB
unfoldable pub first_pending : LinesState → Pipe → Option ℕ
first_pending lines pipe = find (λ stream. has_pending (ring_of lines pipe stream)) (range_with_len 1 STREAMS)

-- the tag of the TRB at the front of the command pipe
abbrev pub front_tag : LinesState → Option ℕ
front_tag lines = option_and_then (λ front. command_tag front.1) (known_front_of (places_of Command) lines.command)

-- the tag of the first TD that is pending on a pipe
abbrev pub first_td : LinesState → Pipe → Option ℕ
first_td lines Command = front_tag lines
first_td lines Status = first_pending lines Status
first_td lines DataIn = first_pending lines DataIn
first_td lines DataOut = first_pending lines DataOut

-- the tag of the TD of the TRB at which a ring's consumer stands
abbrev pub td_tag : LinesState → Pipe → ℕ → Option ℕ
td_tag lines Command stream = front_tag lines
td_tag lines Status stream = Some stream
td_tag lines DataIn stream = Some stream
td_tag lines DataOut stream = Some stream

-- COMMAND COMPLETION EVENTS

-- the pipe with streams whose endpoint a command names
abbrev pub pipe_at : ℕ → Option Pipe
pipe_at endpoint =
    if endpoint == STATUS_ENDPOINT then Some Status
    else (if endpoint == DATA_OUT_ENDPOINT then Some DataOut
    else (if endpoint == DATA_IN_ENDPOINT then Some DataIn
    else None))

abbrev pub same_state : Bool → Bool → Bool
same_state true cycle = cycle
same_state false cycle = not cycle

-- The ring with its consumer's end at item k: a pending one, or the enqueue place, where nothing is pending then. The cycle state is
-- that place's (4.6.10).
abbrev pub moved_to : ℕ → ItemRing → Bool → ℕ → Option ItemRing
moved_to n ring cycle k =
    if nat_le ring.got k && (nat_le k (length ring.put) && same_state (cycle_of n ring k) cycle) then Some (record ring { got = k }) else None

-- the same by the item's address
abbrev pub moved_at : ℕ → ItemRing → ℕ → Bool → Option ItemRing
moved_at n ring pointer cycle = option_and_then (moved_to n ring cycle) (item_at n ring pointer)

-- the rings once a stream's consumer's end is moved there; where it can't stand there, and where the stream has no ring, as they were
abbrev pub moved_on : LinesState → ℕ → ℕ → Bool → Pipe → LinesState
moved_on lines stream pointer cycle pipe =
    if has_stream stream
    then option_map_or (with_ring lines pipe stream) (moved_at (places_of pipe) (ring_of lines pipe stream) pointer cycle) lines
    else lines

-- what a command that succeeded did to the rings: Set TR Dequeue Pointer moves a ring's consumer's end, and no other command does
abbrev pub executed : LinesState → Option Trb → LinesState
executed lines (Some (SetDequeue pointer cycle stream endpoint slot)) = option_map_or (moved_on lines stream pointer cycle) (pipe_at endpoint) lines
executed lines (Some (StopEndpoint endpoint slot)) = lines
executed lines (Some (Normal pointer length td_size flags)) = lines
executed lines (Some (Link pointer toggle chain ioc)) = lines
executed lines (Some (TransferEvent pointer residual code endpoint slot)) = lines
executed lines (Some (CommandEvent pointer code slot)) = lines
executed lines None = lines

-- the controller's command ring once its consumer passed item k, and all before it
abbrev pub engine_passed : LinesState → ℕ → LinesState
engine_passed lines k = with_engine lines (record lines.engine { got = k + 1 })

-- the same, with what the command did where it succeeded
abbrev pub completed_to : LinesState → ℕ → ℕ → LinesState
completed_to lines code k =
    if code == SUCCESS then executed (engine_passed lines k) (option_and_then known_of (slice_get lines.engine.put k)) else engine_passed lines k

-- A command completion event is of the command at its pointer, which is consumed then, and done where its code is 1. Worked: of a
-- Set TR Dequeue Pointer of data-in, stream 18, to its enqueue place, the event of code 1 leaves nothing pending on that ring; one of
-- code 5 leaves the ring as it was.
abbrev pub completed : LinesState → ℕ → ℕ → LinesState
completed lines pointer code = option_map_or (completed_to lines code) (pending_place ENGINE_RING_PLACES lines.engine pointer) lines

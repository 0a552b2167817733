-- What each step makes of rings, memory and device (xHCI 4.11, 6.4.2.1), and its answer.
use Rattle.std.specs.Prelude.{ℕ, ◌+◌, ◌-◌, nat_lt, Bool, true, false, if◌then◌else◌, List, [], ◌∷◌, ◌++◌, length as list_length, Option}
use Rattle.std.specs.Prelude.{None, Some, is_some, option_and_then, option_map, slice_get, Result, Ok, Err}
use Rattle.std.specs.Option.{option_map_or}
use Rattle.xhci_trb.specs.declared.Trb.{Trb}
use Rattle.xhci_trb.specs.declared.Trb.TheVariants.{Normal, Link, StopEndpoint, SetDequeue, TransferEvent, CommandEvent}
use Rattle.xhci_trb.specs.Text.{has_chain}
use Rattle.cycle_ring.specs.Ring.{pointer_of}
use Rattle.cycle_ring.specs.Items.{ItemRing, known_of}
use Rattle.event_ring.specs.declared.Event.{Event}
use Rattle.event_ring.specs.declared.Event.TheVariants.{Transfer}
use Rattle.uas_profile.specs.declared.Pipe.{Pipe}
use Rattle.uas_profile.specs.declared.Pipe.TheVariants.{Command, Status, DataIn, DataOut}
use Rattle.stream_array.specs.Map.{places_of}
use Rattle.stream_array.specs.Rings.{LinesState, ring_of, with_ring, with_events}
use Rattle.frame_store.specs.declared.TagBuffers.{TagBuffers}
use Rattle.frame_store.specs.Buffers.{bytes_at, written}
use Rattle.uas_iu.specs.declared.Iu.{Iu}
use Rattle.uas_iu.specs.Units.{unit_text}
use Rattle.uas_target.specs.Device.{Device, answered, fits, gave, given, received, took, wanted, without_task}
use Rattle.uas_target.specs.declared.Overlap.{Overlap}
use Rattle.uas_target.specs.declared.Phase.{Phase}
use Rattle.uas_target.specs.declared.Phase.TheVariants.{Absent, Gives, Takes, Ends}
use Rattle.uas_target.specs.declared.Took.{Took}
use Rattle.uas_target.specs.declared.Took.TheVariants.{Began, Dropped}
use Rattle.xhci_ctl.specs.declared.Acted.{Acted}
use Rattle.xhci_ctl.specs.declared.Acted.TheVariants.{Acted as ActedOn, Idle}
use Rattle.uas_profile.specs.declared.TheConstants.{COMMAND_ENDPOINT, DATA_IN_ENDPOINT, DATA_OUT_ENDPOINT, MOST_EVENTS, SHORT_PACKET, SLOT}
use Rattle.uas_profile.specs.declared.TheConstants.{STATUS_ENDPOINT, SUCCESS, TRB_ERROR}
use Rattle.uas_profile.specs.declared.TheConstants.{STATUS_BYTES}
use Rattle.xhci_ctl.specs.Pipes.{ControllerState, is_armed}

-- everything that a step may change
pub record Sides : Type 0 where
  pub lines : LinesState
  pub frames : List TagBuffers
  pub device : Device

abbrev pub sides_of : LinesState → List TagBuffers → Device → Sides
sides_of lines frames device = record { lines = lines; frames = frames; device = device }

-- THE TRB THAT A STEP TAKES, AND ITS EVENT

-- the first pending item of a ring: its address and its TRB, none of foreign bytes
abbrev pub front_at : ℕ → ItemRing → Option (ℕ × Option Trb)
front_at n ring = option_map (λ item. (pointer_of n ring ring.got, known_of item)) (slice_get ring.put ring.got)

-- a TRB in front of a ring: its address, the bytes that it names, and whether its TD goes on behind it
pub record Front : Type 0 where
  pub address : ℕ
  pub pointer : ℕ
  pub length : ℕ
  pub chain : Bool

-- what isn't a Normal TRB isn't one to carry out (specs/Own), so nothing comes of it here
abbrev pub front_in : ℕ × Option Trb → Option Front
front_in (address, Some (Normal pointer length td_size flags)) = Some (record {
  address = address;
  pointer = pointer;
  length = length;
  chain = has_chain (Normal pointer length td_size flags);
})
front_in (address, Some (Link pointer toggle chain ioc)) = None
front_in (address, Some (StopEndpoint endpoint slot)) = None
front_in (address, Some (SetDequeue pointer cycle stream endpoint slot)) = None
front_in (address, Some (TransferEvent pointer residual code endpoint slot)) = None
front_in (address, Some (CommandEvent pointer code slot)) = None
front_in (address, None) = None

-- the event ring has room for one more
abbrev pub has_event_room : LinesState → Bool
has_event_room lines = nat_lt (list_length lines.events.pending) MOST_EVENTS

-- what is in front of a ring, while the event ring has room
abbrev pub room_front : LinesState → Pipe → ℕ → Option (ℕ × Option Trb)
room_front lines pipe stream = if has_event_room lines then front_at (places_of pipe) (ring_of lines pipe stream) else None

-- the same of a stream that is armed
abbrev pub armed_front : ControllerState → LinesState → Pipe → ℕ → Option (ℕ × Option Trb)
armed_front controller lines pipe stream = if is_armed controller lines pipe stream then room_front lines pipe stream else None

-- the first pending item of a ring is consumed
abbrev pub consumed : LinesState → Pipe → ℕ → LinesState
consumed lines pipe stream =
    with_ring lines pipe stream (record (ring_of lines pipe stream) { got = (ring_of lines pipe stream).got + 1 })

-- an event is posted
abbrev pub posted : LinesState → Event → LinesState
posted lines event = with_events lines (record lines.events { pending = lines.events.pending ++ event ∷ [] })

-- the endpoint of a pipe
abbrev pub endpoint_of : Pipe → ℕ
endpoint_of Command = COMMAND_ENDPOINT
endpoint_of Status = STATUS_ENDPOINT
endpoint_of DataIn = DATA_IN_ENDPOINT
endpoint_of DataOut = DATA_OUT_ENDPOINT

-- the first pending item of a ring is consumed, and the event of its address is posted
abbrev pub completed : LinesState → Pipe → ℕ → ℕ → ℕ → ℕ → LinesState
completed lines pipe stream address residual code =
    posted (consumed lines pipe stream) (Transfer address residual code (endpoint_of pipe) SLOT)

-- A foreign TRB in front of a ring, or foreign bytes, are stepped over: the item is consumed, and its event has code TRB Error and residual 0. The endpoint runs
-- on. Worked: at address 43012000h on data-in it is 00h 20h 01h 43h, seven zeros, 05h, 01h 80h 05h 01h.
abbrev pub stepped_over : Sides → Pipe → ℕ → ℕ → ℕ → Sides × Acted
stepped_over sides pipe stream address tag = (record sides { lines = completed sides.lines pipe stream address 0 TRB_ERROR }, ActedOn tag)

-- what a step makes of the TRB in front of its ring; it is Idle where there is none
abbrev pub on_front : Sides → (Front → Sides × Acted) → Option (ℕ × Option Trb) → Sides × Acted
on_front sides step front = option_map_or step (option_and_then front_in front) (sides, Idle)

-- THE COMMAND PIPE

-- the tag of the task that began; 0 of a dropped unit and of an overlap
abbrev pub began_tag : Result Took Overlap → ℕ
began_tag (Ok (Began tag)) = tag
began_tag (Ok Dropped) = 0
began_tag (Err overlap) = 0

-- the device receives the bytes that the TRB names
abbrev pub received_at : Sides → Front → Sides × Acted
received_at sides front =
    let after = received sides.device (bytes_at sides.frames front.pointer front.length) in
    (record sides { lines = completed sides.lines Command 0 front.address 0 SUCCESS; device = after.0 }, ActedOn (began_tag after.1))

-- a step of the command pipe
abbrev pub commanded : Sides → Sides × Acted
commanded sides = on_front sides (received_at sides) (room_front sides.lines Command 0)

-- A DATA STREAM

-- the rings after a chunk: where it met no bad block its TRB is consumed, and where its TD ends with that TRB its event is posted
abbrev pub after_chunk : Bool → LinesState → Pipe → ℕ → Front → LinesState
after_chunk false lines pipe stream front = lines
after_chunk true lines pipe stream front =
    if front.chain then consumed lines pipe stream else completed lines pipe stream front.address 0 SUCCESS

-- the device gives a chunk of so many bytes, which go where the TRB points, or meets a bad block
abbrev pub gave_at : Sides → ℕ → ℕ → Front → Sides × Acted
gave_at sides tag size front = (
  record {
    lines = after_chunk (is_some (given sides.device tag)) sides.lines DataIn tag front;
    frames = option_map_or (λ bytes. written sides.frames front.pointer size bytes) (given sides.device tag) sides.frames;
    device = gave sides.device tag;
  },
  ActedOn tag,
)

-- the device takes a chunk of so many bytes from where the TRB points, or meets a bad block
abbrev pub took_at : Sides → ℕ → ℕ → Front → Sides × Acted
took_at sides tag size front = (
  record sides {
    lines = after_chunk (fits sides.device tag) sides.lines DataOut tag front;
    device = took sides.device tag (bytes_at sides.frames front.pointer size);
  },
  ActedOn tag,
)

-- a step of a data stream, by what the device wants on its tag
abbrev pub moved_by : ControllerState → Sides → ℕ → Phase → Sides × Acted
moved_by controller sides tag Absent = (sides, Idle)
moved_by controller sides tag (Gives size) = on_front sides (gave_at sides tag size) (armed_front controller sides.lines DataIn tag)
moved_by controller sides tag (Takes size) = on_front sides (took_at sides tag size) (armed_front controller sides.lines DataOut tag)
moved_by controller sides tag Ends = (sides, Idle)

abbrev pub moved : ControllerState → Sides → ℕ → Sides × Acted
moved controller sides tag = moved_by controller sides tag (wanted sides.device tag)

-- A STATUS STREAM

-- the unit's bytes go where the TRB points, and the device is done with the task. The residual is what a buffer of 112 bytes
-- has left. Worked: of a Sense unit of 16 bytes it is 96.
abbrev pub sent_at : Sides → ℕ → List ℕ → Front → Sides × Acted
sent_at sides tag text front = (
  record {
    lines = completed sides.lines Status tag front.address (STATUS_BYTES - list_length text) SHORT_PACKET;
    frames = written sides.frames front.pointer (list_length text) text;
    device = without_task sides.device tag;
  },
  ActedOn tag,
)

-- once the task of its tag has ended, the device has a unit that answers it
abbrev pub sent_as : ControllerState → Sides → ℕ → Phase → Option Iu → Sides × Acted
sent_as controller sides tag Ends (Some unit) = on_front sides (sent_at sides tag (unit_text unit)) (armed_front controller sides.lines Status tag)
sent_as controller sides tag Ends None = (sides, Idle)
sent_as controller sides tag Absent answer = (sides, Idle)
sent_as controller sides tag (Gives size) answer = (sides, Idle)
sent_as controller sides tag (Takes size) answer = (sides, Idle)

-- a step of a status stream, by what the device wants on its tag
abbrev pub sent_by : ControllerState → Sides → ℕ → Sides × Acted
sent_by controller sides tag = sent_as controller sides tag (wanted sides.device tag) (answered sides.device tag)

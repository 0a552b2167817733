-- Steps of both controllers over the same rings: what one makes of device, events, rings and buffers, the other makes in memory.
use Rattle.std.specs.Prelude.{◌≡◌, ℕ, ◌-◌, ◌≤◌, ◌<◌, ◌==◌, true, false, if◌then◌else◌, List, [], length as list_length, set, Some}
use Rattle.uas_profile.specs.declared.Pipe.TheVariants.{Command, Status}
use Rattle.uas_profile.specs.declared.TheConstants.{COMMAND_ENDPOINT, COMMAND_RING_PLACES, SHORT_PACKET, SLOT, STATUS_BYTES, STATUS_ENDPOINT, STREAMS, STREAM_RING_PLACES, SUCCESS}
use Rattle.xhci_trb.specs.declared.Trb.TheVariants.{Normal}
use Rattle.xhci_trb.specs.declared.TrbFlags.{TrbFlags}
use Rattle.cycle_ring.specs.Ring.{pointer_of}
use Rattle.event_ring.specs.declared.Event.{Event}
use Rattle.event_ring.specs.declared.Event.TheVariants.{Transfer}
use Rattle.stream_array.specs.Rings.{LinesState, stream_ring}
use Rattle.frame_store.specs.Buffers.{bytes_at}
use Rattle.uas_iu.specs.declared.Iu.{Iu}
use Rattle.uas_iu.specs.Units.{unit_text}
use Rattle.uas_target.specs.Device.{Device, answered, received, without_task}
use Rattle.xhci_ctl.specs.declared.Acted.TheVariants.{Idle}
use Rattle.xhci_ctl.specs.Pipes.{ControllerState, is_armed}
use Rattle.xhci_ctl.specs.Own.{IsOwnCommand, IsOwnStatus}
use Rattle.xhci_ctl.specs.Steps.{Sides, commanded, sent_by}
use Rattle.guest_memory.specs.Bytes.{written}
use Rattle.guest_memory.specs.rings.Ends.{behind}
use Rattle.guest_pipes.specs.declared.acted.Acted.TheVariants.{Emptied, Worked}
use Rattle.guest_pipes.specs.Pipe.{loaded}
use Rattle.guest_tags.specs.Units.{whole}
use Rattle.guest_profile.specs.target.Targets.{received_as, target_kind}
use Rattle.guest_transfers.specs.State.{TransfersState, TransfersWorld, slot_of}
use Rattle.guest_transfers.specs.Steps.{command_stepped, due_by, received_on, status_stepped}
use Rattle.guest_profile.specs.Rings.{cursor_at}
use Rattle.guest_profile.specs.Ready.{HasRoom, IsTdInFront, rung_consumer, told_memory}
use Rattle.guest_profile.specs.Layout.{IsAtItem, IsAtLink, IsLaid, IsLayout, Layout, kept_at}

-- BOTH AT ONCE

-- One has these rings, buffers and device; the other has the same device, and a memory that is laid out with them.
pub record Mirrors (layout : Layout) (sides : Sides) (w : TransfersWorld Device) : Type 0 where
  pub laid : IsLaid layout sides.lines sides.frames w.memory w.events
  pub device : w.device ≡ sides.device

-- THE COMMAND PIPE

-- nothing is gathered of a TD
pub record IsCommandReady (layout : Layout) (t : TransfersState) : Type 0 where
  pub home : t.home ≡ layout.command
  pub consumer : t.command ≡ rung_consumer COMMAND_ENDPOINT
  pub gathered : t.gathered ≡ []

-- the event of the TRB in front of the command pipe
abbrev pub command_event : LinesState → Event
command_event lines = Transfer (pointer_of COMMAND_RING_PLACES lines.command lines.command.got) 0 SUCCESS COMMAND_ENDPOINT SLOT

-- What is kept of the tags is noted, so that an overlap is answered; of rings, event, device and each other byte both have the same.
pub record TakesCommand (layout : Layout) (sides : Sides) (w : TransfersWorld Device) (bytes : List ℕ) : Type 0 where
  pub mirrors : Mirrors layout (commanded sides).0 (command_stepped target_kind w).0
  pub acted : (command_stepped target_kind w).1 ≡ Some Worked
  pub device : (command_stepped target_kind w).0.device ≡ (received sides.device bytes).0
  pub memory : (command_stepped target_kind w).0.memory
      ≡ told_memory w.memory w.events (command_event sides.lines) (kept_at layout Command 0) (behind (cursor_at COMMAND_RING_PLACES sides.lines.command sides.lines.command.got))
  pub pipes : (command_stepped target_kind w).0.transfers ≡ received_on w.transfers (received_as bytes (received sides.device bytes).1)

-- a command stands in front, and a step of either controller may take it
pub record HasCommand (layout : Layout) (sides : Sides) (w : TransfersWorld Device) (pointer length td_size : ℕ) (flags : TrbFlags) : Type 0 where
  pub mirrors : Mirrors layout sides w
  pub ready : IsCommandReady layout w.transfers
  pub item : IsAtItem COMMAND_RING_PLACES sides.lines.command (kept_at layout Command 0) w.memory
  pub room : HasRoom sides.lines
  pub td : IsTdInFront sides.lines.command pointer length td_size flags
  pub own : IsOwnCommand sides.frames (Some (Normal pointer length td_size flags))

-- a step at a command that stands in front
abbrev pub CommandsAreTaken : Type 0
CommandsAreTaken =
    (layout : Layout) (sides : Sides) (w : TransfersWorld Device) (pointer length td_size : ℕ) (flags : TrbFlags) → IsLayout layout
    → HasCommand layout sides w pointer length td_size flags → TakesCommand layout sides w (bytes_at sides.frames pointer length)

-- a step at the Link before it: the same rings, and the end at the item
pub record FollowsCommandLink (layout : Layout) (sides : Sides) (w : TransfersWorld Device) : Type 0 where
  pub mirrors : Mirrors layout sides (command_stepped target_kind w).0
  pub acted : (command_stepped target_kind w).1 ≡ Some Worked
  pub item : IsAtItem COMMAND_RING_PLACES sides.lines.command (kept_at layout Command 0) (command_stepped target_kind w).0.memory
  pub pipes : (command_stepped target_kind w).0.transfers ≡ w.transfers

abbrev pub CommandLinksAreFollowed : Type 0
CommandLinksAreFollowed =
    (layout : Layout) (sides : Sides) (w : TransfersWorld Device) → IsLayout layout → Mirrors layout sides w → IsCommandReady layout w.transfers
    → IsAtLink COMMAND_RING_PLACES sides.lines.command (kept_at layout Command 0) w.memory → HasRoom sides.lines → FollowsCommandLink layout sides w

-- a step where nothing is in front: the one does nothing, and of the other the doorbell is used up
pub record EmptiesCommand (sides : Sides) (w : TransfersWorld Device) : Type 0 where
  pub idle : commanded sides ≡ (sides, Idle)
  pub emptied : command_stepped target_kind w ≡ (record w { transfers = record w.transfers { command = record w.transfers.command { rung = false } } }, Some Emptied)

abbrev pub NoCommandEmpties : Type 0
NoCommandEmpties =
    (layout : Layout) (sides : Sides) (w : TransfersWorld Device) → Mirrors layout sides w → IsCommandReady layout w.transfers
    → IsAtItem COMMAND_RING_PLACES sides.lines.command (kept_at layout Command 0) w.memory → HasRoom sides.lines
    → sides.lines.command.got ≡ list_length sides.lines.command.put → EmptiesCommand sides w

-- A STATUS STREAM

-- a stream of the status pipe at a TD's start, and nothing of its tag on its way
pub record IsStatusReady (layout : Layout) (t : TransfersState) (tag : ℕ) : Type 0 where
  pub array : t.status.array ≡ layout.status
  pub consumer : loaded t.status tag ≡ rung_consumer STATUS_ENDPOINT
  pub unit : (slot_of t tag).tag.unit ≡ whole []
  pub overlaps : (slot_of t tag).tag.overlaps ≡ 0

-- the code of an information unit in a TRB of this length, and its event: Short Packet where something is left
abbrev pub status_code : ℕ → ℕ → ℕ
status_code count length = if count == length then SUCCESS else SHORT_PACKET

abbrev pub status_event : LinesState → ℕ → ℕ → ℕ → Event
status_event lines tag count length =
    Transfer (pointer_of STREAM_RING_PLACES (stream_ring lines.status tag) (stream_ring lines.status tag).got) (length - count) (status_code count length)
    STATUS_ENDPOINT SLOT

-- the information unit goes into the TRB's buffer, and the task is gone
pub record SendsAnswer (layout : Layout) (sides : Sides) (w : TransfersWorld Device) (tag pointer length : ℕ) (answer : List ℕ) : Type 0 where
  pub acted : (status_stepped target_kind w tag).1 ≡ Some Worked
  pub device : (status_stepped target_kind w tag).0.device ≡ without_task sides.device tag
  pub memory : (status_stepped target_kind w tag).0.memory
      ≡ told_memory (written w.memory pointer answer) w.events (status_event sides.lines tag (list_length answer) length) (kept_at layout Status tag)
      (behind (cursor_at STREAM_RING_PLACES (stream_ring sides.lines.status tag) (stream_ring sides.lines.status tag).got))
  pub pipes : (status_stepped target_kind w tag).0.transfers ≡ w.transfers

-- The answer of a tag's task is due, and a status TRB stands in front that has room for it.
pub record HasAnswer (layout : Layout) (sides : Sides) (w : TransfersWorld Device) (tag : ℕ) (unit : Iu) (pointer length td_size : ℕ) (flags : TrbFlags) : Type 0 where
  pub mirrors : Mirrors layout sides w
  pub ready : IsStatusReady layout w.transfers tag
  pub first_tag : 0 < tag
  pub last_tag : tag ≤ STREAMS
  pub item : IsAtItem STREAM_RING_PLACES (stream_ring sides.lines.status tag) (kept_at layout Status tag) w.memory
  pub room : HasRoom sides.lines
  pub td : IsTdInFront (stream_ring sides.lines.status tag) pointer length td_size flags
  pub answer : answered sides.device tag ≡ Some unit
  pub due : due_by w.transfers tag (target_kind.phase w.device tag) ≡ true
  pub own : IsOwnStatus sides.frames unit (Some (Normal pointer length td_size flags))

abbrev pub AnswersAreSent : Type 0
AnswersAreSent =
    (layout : Layout) (sides : Sides) (w : TransfersWorld Device) (tag : ℕ) (unit : Iu) (pointer length td_size : ℕ) (flags : TrbFlags) → IsLayout layout
    → HasAnswer layout sides w tag unit pointer length td_size flags → SendsAnswer layout sides w tag pointer length (unit_text unit)

-- In a TRB as long as the host's, 112 bytes, of a stream that is armed: both do the same. The profile's controller tells what such a TRB
-- has left, whatever the length of this one.
abbrev pub AnswersAreSentAlike : Type 0
AnswersAreSentAlike =
    (layout : Layout) (controller : ControllerState) (sides : Sides) (w : TransfersWorld Device) (tag : ℕ) (unit : Iu) (pointer td_size : ℕ) (flags : TrbFlags)
    → IsLayout layout → HasAnswer layout sides w tag unit pointer STATUS_BYTES td_size flags → is_armed controller sides.lines Status tag ≡ true
    → Mirrors layout (sent_by controller sides tag).0 (status_stepped target_kind w tag).0

-- a step at the Link before it
pub record FollowsStatusLink (layout : Layout) (sides : Sides) (w : TransfersWorld Device) (tag : ℕ) : Type 0 where
  pub mirrors : Mirrors layout sides (status_stepped target_kind w tag).0
  pub acted : (status_stepped target_kind w tag).1 ≡ Some Worked
  pub item : IsAtItem STREAM_RING_PLACES (stream_ring sides.lines.status tag) (kept_at layout Status tag) (status_stepped target_kind w tag).0.memory
  pub pipes : (status_stepped target_kind w tag).0.transfers ≡ w.transfers

abbrev pub StatusLinksAreFollowed : Type 0
StatusLinksAreFollowed =
    (layout : Layout) (sides : Sides) (w : TransfersWorld Device) (tag : ℕ) → IsLayout layout → Mirrors layout sides w → IsStatusReady layout w.transfers tag
    → 0 < tag → tag ≤ STREAMS → IsAtLink STREAM_RING_PLACES (stream_ring sides.lines.status tag) (kept_at layout Status tag) w.memory → HasRoom sides.lines
    → FollowsStatusLink layout sides w tag

-- a step where nothing is in front
pub record EmptiesStatus (controller : ControllerState) (sides : Sides) (w : TransfersWorld Device) (tag : ℕ) : Type 0 where
  pub idle : sent_by controller sides tag ≡ (sides, Idle)
  pub emptied : status_stepped target_kind w tag
      ≡ (record w { transfers = record w.transfers { status = record w.transfers.status { rung = set w.transfers.status.rung tag false } } }, Some Emptied)

abbrev pub NoAnswerEmpties : Type 0
NoAnswerEmpties =
    (layout : Layout) (controller : ControllerState) (sides : Sides) (w : TransfersWorld Device) (tag : ℕ) → Mirrors layout sides w
    → IsStatusReady layout w.transfers tag → 0 < tag → tag ≤ STREAMS
    → IsAtItem STREAM_RING_PLACES (stream_ring sides.lines.status tag) (kept_at layout Status tag) w.memory → HasRoom sides.lines
    → (stream_ring sides.lines.status tag).got ≡ list_length (stream_ring sides.lines.status tag).put → EmptiesStatus controller sides w tag

-- The world of rings fits a state of the shared machine: what each ring, context, buffer and table has to hold for it.
use Rattle.std.specs.Prelude.{◌≡◌, ℕ, suc, ◌+◌, ◌-◌, ◌<◌, ◌≤◌, ◌==◌, if◌then◌else◌, List, [], ◌∷◌, ◌++◌, length, map, slice_get, slice_index, Option, Some}
use Rattle.std.specs.Prelude.{None, option_map}
use Rattle.block_unit.specs.BlockMaps.{BlockMaps}
use Rattle.xhci_trb.specs.declared.Trb.{Trb}
use Rattle.xhci_trb.specs.declared.Trb.TheVariants.{Normal}
use Rattle.cycle_ring.specs.Ring.{pointer_of}
use Rattle.cycle_ring.specs.Items.{Item, ItemRing, known}
use Rattle.event_ring.specs.declared.Event.{Event}
use Rattle.event_ring.specs.declared.Event.TheVariants.{Transfer, Command as CommandCompletion}
use Rattle.uas_profile.specs.declared.Pipe.{Pipe}
use Rattle.uas_profile.specs.declared.Pipe.TheVariants.{Command, Status, DataIn, DataOut}
use Rattle.uas_profile.specs.declared.TheConstants.{MOST_TAGS, MAX_CLIENTS, STREAMS, STREAM_RING_PLACES, COMMAND_RING_PLACES, ENGINE_RING_PLACES, COMMAND_BYTES, STATUS_BYTES, SLOT, SUCCESS, SHORT_PACKET}
use Rattle.stream_array.specs.Rings.{IsLines, LinesState, stream_ring}
use Rattle.frame_store.specs.Buffers.{IsWhole, held_for}
use Rattle.scsi_cmd.specs.Held.{held_at}
use Rattle.uas_target.specs.Device.{task_of}
use Rattle.uas_profile.specs.declared.Place.{Place}
use Rattle.uas_host.specs.declared.HostClient.{HostClient}
use Rattle.uas_host.specs.State.{IsHost}
use Rattle.uas_host.specs.declared.Retirement.{Retirement as HostRetirement}
use Rattle.uas_host.specs.declared.RetirementStage.{RetirementStage as HostStage}
use Rattle.uas_host.specs.declared.RetirementStage.TheVariants.{Stopping, Moving}
use Rattle.uas_host.specs.Retirement.{move_trb, stop_trb}
use Rattle.uas_profile.specs.Tags.{tag_of, task_slot}
use Rattle.uas_host.specs.Tds.{command_buffer_of}
use Rattle.xhci_ctl.specs.Steps.{endpoint_of}
use Rattle.shared_machine.specs.declared.Completion.{Completion}
use Rattle.shared_machine.specs.declared.Completion.TheVariants.{CommandDone, DataDone, StatusDone, EngineDone}
use Rattle.shared_machine.specs.declared.Retirement.{Retirement}
use Rattle.shared_machine.specs.declared.RetirementStage.{RetirementStage}
use Rattle.shared_machine.specs.declared.RetirementStage.TheVariants.{StopAsked, StopAnswered, MoveAsked, MoveAnswered}
use Rattle.shared_machine.specs.Part.{Part}
use Rattle.shared_machine.specs.Shared.{Shared, greatest_tag}
use Rattle.machine_invariant.specs.Matched.{IsMatched, carried_places}
use Rattle.bus_core.specs.World.{World, cell_at}
use Rattle.bus_core.specs.Cells.{FitsHeld, HoldsTrbs}

-- THE COMMAND PIPE AND THE EVENT RING

-- a Command unit has COMMAND_BYTES bytes, and a Task Management unit, which is the last slot's, 16
abbrev pub unit_bytes : ℕ → ℕ → ℕ
unit_bytes tags slot = if slot == task_slot tags then 16 else COMMAND_BYTES

-- the command TRB of a place
abbrev pub command_trb : ℕ → Place → Trb
command_trb tags place = Normal (command_buffer_of (tag_of tags place)) (unit_bytes tags place.slot) 0 (record { 0 = 16 })

-- the same as it stands on the ring
abbrev pub command_item : ℕ → Place → Item
command_item tags place = known (command_trb tags place)

-- the address of the last TRB on a stream's ring
abbrev pub last_pointer : ItemRing → ℕ
last_pointer ring = pointer_of STREAM_RING_PLACES ring (length ring.put - 1)

-- the event of a data TD, which is on one of these two rings
abbrev pub data_event : ItemRing → ItemRing → Event
data_event data_in data_out =
    if length data_in.put == 0
    then Transfer (last_pointer data_out) 0 SUCCESS (endpoint_of DataOut) SLOT
    else Transfer (last_pointer data_in) 0 SUCCESS (endpoint_of DataIn) SLOT

-- the length of the unit in a status buffer: a Sense unit tells the length of its sense in byte 15, and a Response unit, which is the last
-- slot's, has 8 bytes
abbrev pub unit_len : ℕ → ℕ → List ℕ → ℕ
unit_len tags slot bytes = if slot == task_slot tags then 8 else 16 + slice_index bytes 15

-- the event of a status TD
abbrev pub status_event : ℕ → ℕ → ItemRing → List ℕ → Event
status_event tags slot ring bytes = Transfer (last_pointer ring) (STATUS_BYTES - unit_len tags slot bytes) SHORT_PACKET (endpoint_of Status) SLOT

-- the event of the controller's own command, the first on its command ring
abbrev pub engine_event : ItemRing → Event
engine_event ring = CommandCompletion (pointer_of ENGINE_RING_PLACES ring 0) SUCCESS SLOT

-- The events that wait, as TRBs: the k-th command event points at TRB k of the command pipe, and an event of a stream at the
-- last TRB of its TD.
abbrev pub event_texts : ℕ → World → ℕ → List Completion → List Event
event_texts tags world k [] = []
event_texts tags world k (CommandDone place ∷ rest) =
    Transfer (pointer_of COMMAND_RING_PLACES world.lines.command k) 0 SUCCESS (endpoint_of Command) SLOT ∷ event_texts tags world (suc k) rest
event_texts tags world k (DataDone place ∷ rest) =
    data_event (stream_ring world.lines.data_in (tag_of tags place)) (stream_ring world.lines.data_out (tag_of tags place)) ∷ event_texts tags world k rest
event_texts tags world k (StatusDone place ∷ rest) =
    status_event tags place.slot (stream_ring world.lines.status (tag_of tags place)) (held_for world.frames (tag_of tags place)).status ∷ event_texts tags world k rest
event_texts tags world k (EngineDone place ∷ rest) = engine_event world.lines.engine ∷ event_texts tags world k rest

-- On the command pipe stand first the TRBs that were taken and whose events wait, then the messages.
pub record FitsQueues (state : Shared) (world : World) : Type 0 where
  pub put : world.lines.command.put ≡ map (command_item state.tags) (carried_places state.events ++ state.messages)
  pub got : world.lines.command.got ≡ length (carried_places state.events)
  pub texts : world.lines.events.pending ≡ event_texts state.tags world 0 state.events

-- THE CONTROLLER'S COMMAND RING

-- the host knows which of its two commands is under way, and not whether it was executed
abbrev pub host_stage : RetirementStage → HostStage
host_stage StopAsked = Stopping
host_stage StopAnswered = Stopping
host_stage MoveAsked = Moving
host_stage MoveAnswered = Moving

abbrev pub host_retirement : Retirement → HostRetirement
host_retirement retirement = record { pipe = retirement.pipe; place = retirement.place; stage = host_stage retirement.stage }

-- The command stands alone on the controller's command ring; it is consumed once it was executed. Set TR Dequeue Pointer names the enqueue
-- place of the stream's ring, where nothing is put before the TD is retired.
abbrev pub HoldsCommand : ℕ → LinesState → Pipe → Place → RetirementStage → Type 0
HoldsCommand tags lines pipe place StopAsked = HoldsTrbs lines.engine (stop_trb pipe ∷ []) 0
HoldsCommand tags lines pipe place StopAnswered = HoldsTrbs lines.engine (stop_trb pipe ∷ []) 1
HoldsCommand tags lines pipe place MoveAsked = HoldsTrbs lines.engine (move_trb lines pipe (tag_of tags place) ∷ []) 0
HoldsCommand tags lines pipe place MoveAnswered = HoldsTrbs lines.engine (move_trb lines pipe (tag_of tags place) ∷ []) 1

abbrev pub HoldsCommandOf : ℕ → LinesState → Option Retirement → Type 0
HoldsCommandOf tags lines None = HoldsTrbs lines.engine [] 0
HoldsCommandOf tags lines (Some retirement) = HoldsCommand tags lines retirement.pipe retirement.place retirement.stage

pub record FitsEngine (state : Shared) (world : World) : Type 0 where
  pub retirement : world.host.retirement ≡ option_map host_retirement state.retirement
  pub commands : HoldsCommandOf state.tags world.lines state.retirement

-- ONE CLIENT

abbrev pub place_in : ℕ → ℕ → Place
place_in client slot = record { client = client; slot = slot }

pub record FitsPart (tags : ℕ) (world : World) (client : ℕ) (unit : BlockMaps) (held : HostClient) (part : Part) : Type 0 where
  pub number : part.number ≡ client
  pub unit_same : part.unit ≡ unit
  pub least_ticket : part.least_ticket ≡ held.least_ticket
  pub ready : part.ready ≡ held.ready.items
  pub slots : length part.entries ≡ MOST_TAGS
  pub cells : (slot : ℕ) → slot < tags → FitsHeld tags client unit.count (place_in client slot) (held_at part.entries slot)
      (cell_at tags world (place_in client slot))

-- unit, host and part of a client are there, or none is
abbrev pub FitsClient : ℕ → World → ℕ → Option BlockMaps → Option HostClient → Option Part → Type 0
FitsClient tags world client None None None = Unit {0}
FitsClient tags world client None None (Some part) = ⊥
FitsClient tags world client None (Some held) part = ⊥
FitsClient tags world client (Some unit) None part = ⊥
FitsClient tags world client (Some unit) (Some held) None = ⊥
FitsClient tags world client (Some unit) (Some held) (Some part) = FitsPart tags world client unit held part

-- THE STREAMS OF NOBODY

pub record AreUnused (lines : LinesState) (tag : ℕ) : Type 0 where
  pub status : HoldsTrbs (stream_ring lines.status tag) [] 0
  pub data_in : HoldsTrbs (stream_ring lines.data_in tag) [] 0
  pub data_out : HoldsTrbs (stream_ring lines.data_out tag) [] 0

-- THE WHOLE

-- what the types of host, rings, buffers and device tell of them at all times
pub record IsSoundWorld (world : World) : Type 0 where
  pub host : IsHost world.host
  pub lines : IsLines world.lines
  pub frames : IsWhole world.frames
  pub tags : length world.device.tasks ≡ STREAMS

pub record Fits (state : Shared) (world : World) : Type 0 where
  pub tags : world.host.tags ≡ state.tags
  pub some_client : 1 ≤ length state.parts
  pub most_clients : length state.parts ≤ MAX_CLIENTS
  pub most_tags : greatest_tag state ≤ STREAMS
  pub status : world.controller.status ≡ state.status
  pub data_in : world.controller.data_in ≡ state.data_in
  pub data_out : world.controller.data_out ≡ state.data_out
  pub sound : IsSoundWorld world
  pub queues : FitsQueues state world
  pub engine : FitsEngine state world
  pub matched : IsMatched state
  pub clients : (client : ℕ) → FitsClient state.tags world client (slice_get world.device.units client) (slice_get world.host.clients client)
      (slice_get state.parts client)
  -- the device has no task of a tag that is no client's
  pub others : (tag : ℕ) → greatest_tag state < tag → task_of world.device tag ≡ None
  -- and nothing is on the rings of its streams
  pub unused : (tag : ℕ) → greatest_tag state < tag → AreUnused world.lines tag

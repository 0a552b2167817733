-- The rings show the shared machine: what it has waiting stands in them, in order, and nothing else does. The buffers show its units and vectors.
use Rattle.std.specs.Prelude.{◌≡◌, ℕ, suc, ◌<◌, ◌≤◌, ◌==◌, if◌then◌else◌, List, [], ◌∷◌, drop, length, map, Option, None, Some}
use Rattle.xhci_trb.specs.declared.Trb.{Trb}
use Rattle.cycle_ring.specs.Ring.{cycle_of, pointer_of}
use Rattle.cycle_ring.specs.Items.{Item, ItemRing, known}
use Rattle.event_ring.specs.declared.Event.{Event}
use Rattle.event_ring.specs.declared.Event.TheVariants.{Transfer, Command as CommandCompletion}
use Rattle.uas_profile.specs.declared.Pipe.{Pipe}
use Rattle.uas_profile.specs.declared.Pipe.TheVariants.{Command, Status, DataIn, DataOut}
use Rattle.stream_array.specs.declared.Dequeue.{Dequeue}
use Rattle.uas_profile.specs.declared.TheConstants.{STREAM_RING_PLACES, COMMAND_RING_PLACES, ENGINE_RING_PLACES, SUCCESS, SHORT_PACKET}
use Rattle.uas_profile.specs.declared.TheConstants.{MOST_DATA_TRBS, MOST_EVENTS_PENDING, MOST_MESSAGES}
use Rattle.stream_array.specs.Contexts.{Contexts, entry_of}
use Rattle.uas_profile.specs.Pipes.{HasStreams}
use Rattle.stream_array.specs.Map.{HasRing}
use Rattle.stream_array.specs.Rings.{LinesState, ShowsRings, ring_of, stream_ring}
use Rattle.frame_store.specs.declared.TagBuffers.{TagBuffers}
use Rattle.frame_store.specs.Buffers.{held_for}
use Rattle.uas_profile.specs.declared.Place.{Place}
use Rattle.uas_profile.specs.declared.TdState.{TdState}
use Rattle.uas_profile.specs.declared.TdState.TheVariants.{Pending, Seen, LeftOver, Retired}
use Rattle.uas_host.specs.Retirement.{move_trb, stop_trb}
use Rattle.uas_profile.specs.Tags.{tag_of}
use Rattle.uas_host.specs.Tds.{data_td, status_td}
use Rattle.xhci_ctl.specs.Steps.{endpoint_of}
use Rattle.shared_machine.specs.declared.Td.{Td}
use Rattle.shared_machine.specs.declared.Completion.{Completion}
use Rattle.shared_machine.specs.declared.Completion.TheVariants.{CommandDone, DataDone, StatusDone, EngineDone}
use Rattle.shared_machine.specs.declared.Retirement.{Retirement}
use Rattle.shared_machine.specs.declared.RetirementStage.{RetirementStage}
use Rattle.shared_machine.specs.declared.RetirementStage.TheVariants.{StopAsked, StopAnswered, MoveAsked, MoveAnswered}
use Rattle.shared_machine.specs.Td.{Entry}
use Rattle.shared_machine.specs.Shared.{Shared, greatest_tag, request_direction}
use Rattle.machine_invariant.specs.Matched.{request_bytes, under}
use Rattle.bus_core.specs.Cells.{HasAnswerIn, HasUnitIn, data_in_td, data_out_td, lent_for}
use Rattle.bus_core.specs.Fits.{AreUnused, command_item, last_pointer}

-- EVENTS

-- what an event tells: its pointer, its completion code, its endpoint; an event of the controller's own commands is of none, 0
pub record Tells : Type 0 where
  pub pointer : ℕ
  pub code : ℕ
  pub endpoint : ℕ

abbrev pub tells : ℕ → ℕ → Pipe → Tells
tells pointer code pipe = record { pointer = pointer; code = code; endpoint = endpoint_of pipe }

abbrev pub told_in : Event → Option Tells
told_in (Transfer pointer residual code endpoint slot) = Some (record { pointer = pointer; code = code; endpoint = endpoint })
told_in (CommandCompletion pointer code slot) = Some (record { pointer = pointer; code = code; endpoint = 0 })

-- the event of a data TD, which is on one of these two rings
abbrev pub data_tells : ItemRing → ItemRing → Tells
data_tells data_in data_out =
    if length data_in.put == 0 then tells (last_pointer data_out) SUCCESS DataOut else tells (last_pointer data_in) SUCCESS DataIn

-- the event of the first command on the controller's command ring
abbrev pub engine_tells : ItemRing → Tells
engine_tells ring = record { pointer = pointer_of ENGINE_RING_PLACES ring 0; code = SUCCESS; endpoint = 0 }

-- What the events tell that wait, the oldest first: the k-th command event points at TRB k of the command pipe's ring, and an
-- event of a stream at the last TRB of its TD.
abbrev pub tells_of : ℕ → LinesState → ℕ → List Completion → List (Option Tells)
tells_of tags lines k [] = []
tells_of tags lines k (CommandDone place ∷ rest) = Some (tells (pointer_of COMMAND_RING_PLACES lines.command k) SUCCESS Command) ∷ tells_of tags lines (suc k) rest
tells_of tags lines k (DataDone place ∷ rest) =
    Some (data_tells (stream_ring lines.data_in (tag_of tags place)) (stream_ring lines.data_out (tag_of tags place))) ∷ tells_of tags lines k rest
tells_of tags lines k (EngineDone place ∷ rest) = Some (engine_tells lines.engine) ∷ tells_of tags lines k rest
tells_of tags lines k (StatusDone place ∷ rest) = Some (tells (last_pointer (stream_ring lines.status (tag_of tags place))) SHORT_PACKET Status) ∷ tells_of tags lines k rest

-- TDS

-- what stands on a ring that the controller may take
abbrev pub pending_in : ItemRing → List Item
pending_in ring = drop ring.got ring.put

-- what is left of a TD of these TRBs: all that weren't taken, while they are in the ring
abbrev pub left_in : List Trb → ℕ → TdState → List Trb
left_in trbs consumed Pending = drop consumed trbs
left_in trbs consumed Seen = []
left_in trbs consumed LeftOver = drop consumed trbs
left_in trbs consumed Retired = []

abbrev pub left_of : List Trb → Option Td → List Trb
left_of trbs None = []
left_of trbs (Some td) = left_in trbs td.consumed td.state

-- the TDs of an entry, and none where nothing stands
abbrev pub status_left : ℕ → Place → Option Entry → List Trb
status_left tags place None = []
status_left tags place (Some entry) = left_of (status_td (tag_of tags place)) (Some entry.status_td)

abbrev pub data_in_left : ℕ → Place → Option Entry → List Trb
data_in_left tags place None = []
data_in_left tags place (Some entry) =
    left_of (data_td (tag_of tags place) (request_bytes entry.task.request)) (data_in_td (request_direction entry.task.request) entry.data_td)

abbrev pub data_out_left : ℕ → Place → Option Entry → List Trb
data_out_left tags place None = []
data_out_left tags place (Some entry) =
    left_of (data_td (tag_of tags place) (request_bytes entry.task.request)) (data_out_td (request_direction entry.task.request) entry.data_td)

-- the three streams of a place have what is left of the TDs that stand there
pub record ShowsPlace (tags : ℕ) (lines : LinesState) (place : Place) (held : Option Entry) : Type 0 where
  pub status : pending_in (stream_ring lines.status (tag_of tags place)) ≡ map known (status_left tags place held)
  pub data_in : pending_in (stream_ring lines.data_in (tag_of tags place)) ≡ map known (data_in_left tags place held)
  pub data_out : pending_in (stream_ring lines.data_out (tag_of tags place)) ≡ map known (data_out_left tags place held)

-- THE CONTROLLER'S COMMAND RING

-- the command that the controller may execute
abbrev pub commands_at : ℕ → LinesState → Pipe → Place → RetirementStage → List Trb
commands_at tags lines pipe place StopAsked = stop_trb pipe ∷ []
commands_at tags lines pipe place StopAnswered = []
commands_at tags lines pipe place MoveAsked = move_trb lines pipe (tag_of tags place) ∷ []
commands_at tags lines pipe place MoveAnswered = []

abbrev pub commands_of : ℕ → LinesState → Option Retirement → List Trb
commands_of tags lines None = []
commands_of tags lines (Some retirement) = commands_at tags lines retirement.pipe retirement.place retirement.stage

-- THE WHOLE

-- The command pipe's ring has a TRB with the tag's buffer for each message, the controller's command ring the command of the
-- retirement that wasn't executed yet, the event ring an event for each event, and the streams of each place that is there what is left of
-- its TDs; all in order. A stream that is no client's has nothing.
pub record ShowsShared (state : Shared) (lines : LinesState) : Type 0 where
  pub messages : pending_in lines.command ≡ map (command_item state.tags) state.messages
  pub commands : pending_in lines.engine ≡ map known (commands_of state.tags lines state.retirement)
  pub events : map told_in lines.events.pending ≡ tells_of state.tags lines 0 state.events
  pub places : (place : Place) → place.client < length state.parts → place.slot < state.tags → ShowsPlace state.tags lines place (under state.parts place)
  pub unused : (stream : ℕ) → greatest_tag state < stream → AreUnused lines stream

-- BUFFERS

-- The buffers of an entry's tag: its unit in the command buffer, its answer at the front of the status buffer once it was sent, and the vector
-- that a command lent.
pub record ShowsEntry (tags : ℕ) (place : Place) (entry : Entry) (held : TagBuffers) : Type 0 where
  pub unit : HasUnitIn place.client (tag_of tags place) entry.task.request held.command
  pub answer : HasAnswerIn entry.task.phase (tag_of tags place) held.status
  pub lent : held.lent ≡ lent_for entry.task.request entry.task.buffer

-- where no entry stands no vector is lent
abbrev pub ShowsHeld : ℕ → Place → Option Entry → TagBuffers → Type 0
ShowsHeld tags place None held = held.lent ≡ None
ShowsHeld tags place (Some entry) held = ShowsEntry tags place entry held

-- the buffers of each place's tag
abbrev pub ShowsFrames : Shared → List TagBuffers → Type 0
ShowsFrames state frames = (place : Place) → place.client < length state.parts → place.slot < state.tags
    → ShowsHeld state.tags place (under state.parts place) (held_for frames (tag_of state.tags place))

-- CONTEXTS

-- where the controller goes on in a stream's ring: at the first TRB that it may take, at the enqueue place where there is none
abbrev pub next_place : ItemRing → Dequeue
next_place ring = record { pointer = pointer_of STREAM_RING_PLACES ring ring.got; cycle = cycle_of STREAM_RING_PLACES ring ring.got }

-- Each stream's context points there (xHCI 4.12), whatever contexts show the rings of its pipe.
abbrev pub PointAhead : LinesState → Type 0
PointAhead lines =
    (pipe : Pipe) (stream : ℕ) (contexts : Contexts) → HasStreams pipe → HasRing pipe stream → ShowsRings lines pipe contexts
    → entry_of contexts stream ≡ Some (next_place (ring_of lines pipe stream))

-- ROOM

-- No ring is ever full: on each are so many TRBs at most that aren't reclaimed yet, and so many events wait. The command pipe's ring holds
-- 254, a stream's 18, the controller's command ring 14, and the event ring 1,023.
pub record AreNeverFull (lines : LinesState) : Type 0 where
  pub command : length lines.command.put ≤ MOST_MESSAGES
  pub streams : (pipe : Pipe) (stream : ℕ) → HasStreams pipe → 1 ≤ stream → length (ring_of lines pipe stream).put ≤ MOST_DATA_TRBS
  pub engine : length lines.engine.put ≤ 1
  pub events : length lines.events.pending ≤ MOST_EVENTS_PENDING

-- The steps of the world of rings, by the calls of host and controller, and what is claimed of them: each is the shared
-- machine's step wherever the world fits a state.
use Rattle.std.specs.Prelude.{◌≡◌, ℕ, ◌*◌, ◌^◌, ◌<◌, true, false, List, [], ◌∷◌, fold, length, slice_get, ◌≤◌, Some, None, is_some, option_map}
use Rattle.block_unit.specs.BlockMaps.{BlockMaps}
use Rattle.event_ring.specs.declared.Event.{Event}
use Rattle.event_ring.specs.Events.{taken}
use Rattle.uas_profile.specs.declared.TheConstants.{MAX_CLIENTS, STREAMS, EVENT_RING_PLACES}
use Rattle.stream_array.specs.Rings.{LinesState, IsOpeningLines, with_events}
use Rattle.frame_store.specs.Buffers.{opening as opening_frames}
use Rattle.scsi_cmd.specs.declared.Command.{Command}
use Rattle.scsi_cmd.specs.declared.SubmitFault.{SubmitFault}
use Rattle.scsi_cmd.specs.Op.{direction_of}
use Rattle.uas_target.specs.Device.{answered, opening as opening_device, wanted}
use Rattle.uas_profile.specs.declared.Pipe.{Pipe}
use Rattle.uas_host.specs.declared.Handled.{Handled}
use Rattle.uas_host.specs.declared.Handled.TheVariants.{Engine as EngineHandled, Matched}
use Rattle.uas_profile.specs.declared.Place.{Place}
use Rattle.uas_host.specs.State.{opening as opening_host}
use Rattle.uas_profile.specs.Doors.{answer_doors, submission_doors}
use Rattle.uas_host.specs.Tasks.{managed, task_fault, task_tag, with_task_unit}
use Rattle.scsi_cmd.specs.declared.Task.{Task}
use Rattle.uas_host.specs.Retirement.{HasEngineRoom, is_held, retirement_for, stop_trb, with_engine_command, with_retirement}
use Rattle.uas_host.specs.Submit.{HasRoomFor, host_fault, lent, submitted}
use Rattle.uas_host.specs.Tds.{HasTaskRoom, pushed, pushed_task}
use Rattle.uas_host.specs.declared.RetirementStage.TheVariants.{Stopping}
use Rattle.uas_profile.specs.Tags.{AreTags, place_of, tag_of}
use Rattle.uas_host.specs.Events.{Sides as EventSides, event_doors, handled}
use Rattle.uas_host.specs.Replies.{no_reply, replied}
use Rattle.xhci_ctl.specs.declared.Acted.{Acted as ActedAnswer}
use Rattle.xhci_ctl.specs.declared.Acted.TheVariants.{Acted, Idle}
use Rattle.xhci_ctl.specs.Doorbells.{rung_by}
use Rattle.xhci_ctl.specs.Own.{IsOwnCommandFront, IsOwnDataFront, IsOwnStatusFront}
use Rattle.xhci_ctl.specs.Pipes.{ControllerState, new_controller}
use Rattle.xhci_ctl.specs.Engine.{engine_acted}
use Rattle.xhci_ctl.specs.Steps.{Sides, commanded, moved, sent_by}
use Rattle.shared_machine.specs.declared.Completion.{Completion}
use Rattle.shared_machine.specs.declared.Completion.TheVariants.{CommandDone, DataDone, StatusDone, EngineDone}
use Rattle.shared_machine.specs.declared.Refusal.{Refusal}
use Rattle.shared_machine.specs.declared.Step.{Step}
use Rattle.shared_machine.specs.declared.Step.TheVariants.{CommandPipe, Data, Status, Engine as EngineStep, Event as EventStep, Retire, Take}
use Rattle.shared_machine.specs.Shared.{Shared, opening, due, shared_step, submit_step, task_step}
use Rattle.bus_core.specs.World.{World, sides_in, with_sides}
use Rattle.bus_core.specs.Fits.{Fits, IsSoundWorld}
use Rattle.bus_core.specs.Decoded.{decoded}

-- READING BACK

-- a world that fits a state tells that state
abbrev pub WorldReadsBack : Type 0
WorldReadsBack = (state : Shared) (world : World) → Fits state world → decoded world ≡ state

-- THE OPENING

abbrev pub opening_world : ℕ → List BlockMaps → ℕ → LinesState → World
opening_world tags units clients lines = record {
  host = opening_host tags clients;
  controller = new_controller;
  device = opening_device STREAMS units;
  lines = lines;
  frames = opening_frames;
}

-- a new bus of 1 to 31 units with 2 to 16 tags of each client, 248 in all at most, fits the opening shared machine
abbrev pub OpeningFits : Type 0
OpeningFits =
    (tags : ℕ) (units : List BlockMaps) (lines : LinesState) → AreTags tags → 1 ≤ length units → length units ≤ MAX_CLIENTS → length units * tags ≤ STREAMS
    → IsOpeningLines lines
    → IsSoundWorld (opening_world tags units (length units) lines) → Fits (opening tags units) (opening_world tags units (length units) lines)

-- THE STEPS

-- the command pipe: the device receives the unit that the first pending TRB names
abbrev pub command_world : World → World
command_world world = with_sides world (commanded (sides_in world)).0

abbrev pub data_world : World → ℕ → World
data_world world tag = with_sides world (moved world.controller (sides_in world) tag).0

abbrev pub status_world : World → ℕ → World
status_world world tag = with_sides world (sent_by world.controller (sides_in world) tag).0

-- the first event leaves the event ring, and the host handles it
abbrev pub without_event : LinesState → LinesState
without_event lines = with_events lines (taken EVENT_RING_PLACES lines.events)

abbrev pub event_sides : World → EventSides
event_sides world = record { host = world.host; lines = without_event world.lines }

-- doorbells are rung in their order
abbrev pub rung_all : ControllerState → List ℕ → ControllerState
rung_all controller doors = fold rung_by controller doors

abbrev pub event_world : World → Event → World
event_world world event = record world {
  host = (handled (event_sides world) world.frames event).0.host;
  controller = rung_all world.controller (event_doors (event_sides world) event);
  lines = (handled (event_sides world) world.frames event).0.lines;
}

-- the controller executes the first command of its own command ring
abbrev pub engine_world : World → World
engine_world world = record world {
  controller = (engine_acted (world.controller, world.lines)).0.0;
  lines = (engine_acted (world.controller, world.lines)).0.1;
}

-- the host begins a retirement: Stop Endpoint is put; the controller's own doorbell changes nothing of it
abbrev pub retire_world : World → Pipe → Place → World
retire_world world pipe place = record world {
  host = with_retirement world.host (record { pipe = pipe; place = place; stage = Stopping });
  lines = with_engine_command world.lines (stop_trb pipe);
}

-- the host submits a command
abbrev pub submit_world : World → ℕ → ℕ → ℕ → Command → World
submit_world world client tag ticket command = record world {
  host = submitted world.host client tag ticket command.op;
  controller = rung_all world.controller (submission_doors (is_held world.host) (direction_of command.op) tag);
  lines = pushed world.lines tag command.op;
  frames = lent world.frames client tag command;
}

-- the host submits a task management, likewise
abbrev pub task_world : World → ℕ → ℕ → Task → World
task_world world client ticket task = record world {
  host = managed world.host client ticket task;
  controller = rung_all world.controller (answer_doors (is_held world.host) (task_tag world.host.tags client));
  lines = pushed_task world.lines (task_tag world.host.tags client);
  frames = with_task_unit world.host.tags world.frames client task;
}

-- the host gives the client's reply that was ready first
abbrev pub take_world : World → ℕ → World
take_world world client = record world { host = (replied world.host world.frames client).host; frames = (replied world.host world.frames client).frames }

-- WHAT IS CLAIMED

-- CommandPipe: the TRB in front is the host's own, and the step is the shared machine's
pub record CommandFits (state : Shared) (world : World) (place : Place) : Type 0 where
  pub own : IsOwnCommandFront world.lines world.frames
  pub acted : (commanded (sides_in world)).1 ≡ Acted (tag_of state.tags place)
  pub fits : IsSoundWorld (command_world world) → Fits (shared_step state CommandPipe).0 (command_world world)

abbrev pub CommandsFit : Type 0
CommandsFit = (state : Shared) (world : World) (place : Place) (rest : List Place) → Fits state world → state.messages ≡ place ∷ rest
    → CommandFits state world place

-- where no message waits the controller is idle
abbrev pub NoCommandIsIdle : Type 0
NoCommandIsIdle = (state : Shared) (world : World) → Fits state world → state.messages ≡ [] → commanded (sides_in world) ≡ (sides_in world, Idle)

-- A step of a tag's stream: likewise, wherever it is due. Elsewhere the controller is idle.
abbrev pub StreamsFit : (ℕ → Step) → (Shared → World → ℕ → Type 0) → Type 0
StreamsFit step FitsAt = (state : Shared) (world : World) (tag : ℕ) → Fits state world → due state (step tag) ≡ true → FitsAt state world tag

abbrev pub StreamsAreIdle : (ℕ → Step) → (ControllerState → Sides → ℕ → Sides × ActedAnswer) → Type 0
StreamsAreIdle step acts = (state : Shared) (world : World) (tag : ℕ) → Fits state world → due state (step tag) ≡ false
    → acts world.controller (sides_in world) tag ≡ (sides_in world, Idle)

pub record DataFits (state : Shared) (world : World) (tag : ℕ) : Type 0 where
  pub own : IsOwnDataFront world.controller world.lines world.frames tag (wanted world.device tag)
  pub acted : (moved world.controller (sides_in world) tag).1 ≡ Acted tag
  pub fits : IsSoundWorld (data_world world tag) → Fits (shared_step state (Data tag)).0 (data_world world tag)

pub record StatusFits (state : Shared) (world : World) (tag : ℕ) : Type 0 where
  pub own : IsOwnStatusFront world.controller world.lines world.frames tag (wanted world.device tag) (answered world.device tag)
  pub acted : (sent_by world.controller (sides_in world) tag).1 ≡ Acted tag
  pub fits : IsSoundWorld (status_world world tag) → Fits (shared_step state (Status tag)).0 (status_world world tag)

abbrev pub DataFit : Type 0
DataFit = StreamsFit Data DataFits

abbrev pub DataIsIdle : Type 0
DataIsIdle = StreamsAreIdle Data moved

abbrev pub StatusesFit : Type 0
StatusesFit = StreamsFit Status StatusFits

abbrev pub StatusIsIdle : Type 0
StatusIsIdle = StreamsAreIdle Status sent_by

-- Event: the first event is matched to the TD that it is of, or to the command of the retirement; none is stray
abbrev pub handled_for : ℕ → Completion → Handled
handled_for tags (CommandDone place) = Matched (tag_of tags place)
handled_for tags (DataDone place) = Matched (tag_of tags place)
handled_for tags (StatusDone place) = Matched (tag_of tags place)
handled_for tags (EngineDone place) = EngineHandled

pub record EventFits (state : Shared) (world : World) (event : Event) (done : Completion) : Type 0 where
  pub matched : (handled (event_sides world) world.frames event).1 ≡ handled_for state.tags done
  pub doors : event_doors (event_sides world) event ≡ (shared_step state EventStep).1.doors
  pub fits : IsSoundWorld (event_world world event) → Fits (shared_step state EventStep).0 (event_world world event)

abbrev pub EventsFit : Type 0
EventsFit =
    (state : Shared) (world : World) (done : Completion) (rest : List Completion) → Fits state world → state.events ≡ done ∷ rest
    → (event : Event) × (slice_get world.lines.events.pending 0 ≡ Some event) × EventFits state world event done

-- Engine: the controller executes the retirement's command with code 1, where one waits
pub record EngineFits (state : Shared) (world : World) : Type 0 where
  pub acted : (engine_acted (world.controller, world.lines)).1 ≡ Acted 0
  pub fits : IsSoundWorld (engine_world world) → Fits (shared_step state EngineStep).0 (engine_world world)

abbrev pub EnginesFit : Type 0
EnginesFit = (state : Shared) (world : World) → Fits state world → due state EngineStep ≡ true → EngineFits state world

abbrev pub EngineIsIdle : Type 0
EngineIsIdle = (state : Shared) (world : World) → Fits state world → due state EngineStep ≡ false
    → engine_acted (world.controller, world.lines) ≡ ((world.controller, world.lines), Idle)

-- Retire: the host finds the TD left over exactly where the shared machine does
pub record RetireFits (state : Shared) (world : World) (pipe : Pipe) (tag : ℕ) : Type 0 where
  pub place : Place
  pub named : place_of state.tags (length state.parts) tag ≡ Some place
  pub begins : retirement_for world.host pipe tag ≡ Some (record { pipe = pipe; place = place; stage = Stopping })
  pub room : HasEngineRoom world.lines
  pub fits : IsSoundWorld (retire_world world pipe place) → Fits (shared_step state (Retire pipe tag)).0 (retire_world world pipe place)

abbrev pub RetirementsFit : Type 0
RetirementsFit =
    (state : Shared) (world : World) (pipe : Pipe) (tag : ℕ) → Fits state world → due state (Retire pipe tag) ≡ true → RetireFits state world pipe tag

abbrev pub RetireIsIdle : Type 0
RetireIsIdle =
    (state : Shared) (world : World) (pipe : Pipe) (tag : ℕ) → Fits state world → due state (Retire pipe tag) ≡ false
    → retirement_for world.host pipe tag ≡ None

-- Submit: the host finds the fault that the shared machine finds, and where there is none, room on all rings
abbrev pub fault_in : Refusal → SubmitFault
fault_in refusal = refusal.fault

abbrev pub FaultsAgree : Type 0
FaultsAgree =
    (state : Shared) (world : World) (client tag ticket : ℕ) (command : Command) → Fits state world
    → host_fault world.host client tag ticket command ≡ option_map fault_in (submit_step state client tag ticket command).1.refused

pub record SubmitFits (state : Shared) (world : World) (client tag ticket : ℕ) (command : Command) : Type 0 where
  pub room : HasRoomFor world.lines world.frames tag command.op
  pub fits : IsSoundWorld (submit_world world client tag ticket command)
      → Fits (submit_step state client tag ticket command).0 (submit_world world client tag ticket command)

abbrev pub SubmissionsFit : Type 0
SubmissionsFit =
    (state : Shared) (world : World) (client tag ticket : ℕ) (command : Command) → Fits state world → ticket < 2 ^ 60
    → host_fault world.host client tag ticket command ≡ None → SubmitFits state world client tag ticket command

-- Task: likewise
abbrev pub TaskFaultsAgree : Type 0
TaskFaultsAgree =
    (state : Shared) (world : World) (client ticket : ℕ) (task : Task) → Fits state world
    → task_fault world.host client ticket task ≡ option_map fault_in (task_step state client ticket task).1.refused

pub record TaskFits (state : Shared) (world : World) (client ticket : ℕ) (task : Task) : Type 0 where
  pub room : HasTaskRoom world.lines (task_tag world.host.tags client)
  pub fits : IsSoundWorld (task_world world client ticket task) → Fits (task_step state client ticket task).0 (task_world world client ticket task)

abbrev pub TasksFit : Type 0
TasksFit =
    (state : Shared) (world : World) (client ticket : ℕ) (task : Task) → Fits state world → ticket < 2 ^ 60
    → task_fault world.host client ticket task ≡ None → TaskFits state world client ticket task

-- Take: the reply is the shared machine's, and there is one
pub record TakeFits (state : Shared) (world : World) (client : ℕ) : Type 0 where
  pub reply : (replied world.host world.frames client).reply ≡ (shared_step state (Take client)).1.reply
  pub brings : is_some (replied world.host world.frames client).reply ≡ true
  pub fits : IsSoundWorld (take_world world client) → Fits (shared_step state (Take client)).0 (take_world world client)

abbrev pub TakesFit : Type 0
TakesFit = (state : Shared) (world : World) (client : ℕ) → Fits state world → due state (Take client) ≡ true → TakeFits state world client

abbrev pub TakeIsIdle : Type 0
TakeIsIdle =
    (state : Shared) (world : World) (client : ℕ) → Fits state world → due state (Take client) ≡ false
    → replied world.host world.frames client ≡ no_reply world.host world.frames

-- The shared machine: many clients over one controller and one device, without rings or bytes.
use Rattle.std.specs.Prelude.{ℕ, suc, ◌*◌, Bool, true, false, ◌&&◌, if◌then◌else◌, List, [], ◌∷◌, ◌++◌, filter, map, length, slice_get}
use Rattle.std.specs.Prelude.{slice_set, Option, Some, None, is_none}
use Rattle.std.specs.Prelude.{option_to_list}
use Rattle.std.specs.List.{range_with_len}
use Rattle.std.specs.Option.{option_map_or}
use Rattle.block_unit.specs.BlockMaps.{BlockMaps}
use Rattle.uas_profile.specs.declared.Pipe.{Pipe}
use Rattle.uas_profile.specs.declared.Pipe.TheVariants.{Command as CommandPipeName, Status as StatusPipe, DataIn, DataOut}
use Rattle.uas_profile.specs.declared.TheConstants.{STREAMS}
use Rattle.scsi_cmd.specs.declared.Command.{Command}
use Rattle.uas_profile.specs.declared.Direction.{Direction}
use Rattle.uas_profile.specs.declared.Direction.TheVariants.{Nothing, ToHost, ToDevice}
use Rattle.scsi_cmd.specs.declared.SubmitFault.{SubmitFault}
use Rattle.scsi_cmd.specs.declared.SubmitFault.TheVariants.{NotYours}
use Rattle.scsi_cmd.specs.Op.{direction_of}
use Rattle.solo_model.specs.declared.Phase.{Phase}
use Rattle.solo_model.specs.declared.Phase.TheVariants.{Begun}
use Rattle.solo_model.specs.declared.TaskProgress.TheVariants.{Moving, Ended}
use Rattle.scsi_cmd.specs.Held.{held_at}
use Rattle.uas_profile.specs.declared.Place.{Place}
use Rattle.shared_machine.specs.Td.{Entry}
use Rattle.shared_machine.specs.declared.Completion.{Completion}
use Rattle.shared_machine.specs.declared.Completion.TheVariants.{CommandDone, DataDone, StatusDone, EngineDone}
use Rattle.shared_machine.specs.declared.Retirement.{Retirement}
use Rattle.shared_machine.specs.declared.RetirementStage.{RetirementStage}
use Rattle.shared_machine.specs.declared.RetirementStage.TheVariants.{StopAsked, StopAnswered, MoveAsked, MoveAnswered}
use Rattle.uas_profile.specs.declared.PipeState.{PipeState}
use Rattle.shared_machine.specs.declared.Mark.{Mark}
use Rattle.shared_machine.specs.declared.Mark.TheVariants.{Submit as SubmitMark, Task as TaskMark, Quiet}
use Rattle.shared_machine.specs.declared.Step.{Step}
use Rattle.shared_machine.specs.declared.Step.TheVariants.{Submit, Task as TaskStep, CommandPipe, Data, Status, Engine, Event, Retire, Take}
use Rattle.shared_machine.specs.declared.Outcome.{Outcome}
use Rattle.scsi_cmd.specs.declared.Task.{Task}
use Rattle.uas_profile.specs.Tags.{place_of, command_slot, tag_of, task_slot}
use Rattle.uas_profile.specs.Doors.{door}
use Rattle.shared_machine.specs.Tests.{submission_bells}
use Rattle.uas_profile.specs.Pipes.{target_of}
use Rattle.uas_profile.specs.Pipes.{same_pipe}
pub use Rattle.shared_machine.specs.Td.{has_data_trb, request_direction}
use Rattle.shared_machine.specs.Td.{has_trb, has_trb_on, data_trbs, is_left_over_on}
use Rattle.shared_machine.specs.Pipes.{all_rung, rung_unless}
use Rattle.uas_profile.specs.PipeStates.{new_pipe, is_open}
use Rattle.uas_profile.specs.PipeStates.{stopped_pipe}
use Rattle.shared_machine.specs.Part.{Part, Act, new_part, fault_at, submitted_part, carry_act, move_act, send_act, event_act}
use Rattle.shared_machine.specs.Part.{take_act, stop_act, pass_act, retire_act, managed_part, named_slot, task_fault_at}

-- how many tags each client has, which never changes; each client's part by number; the messages in the command pipe and the events not yet taken, the oldest first; the
-- pipes 2 to 4; and the retirement under way
pub record Shared : Type 0 where
  pub tags : ℕ
  pub parts : List Part
  pub messages : List Place
  pub events : List Completion
  pub status : PipeState
  pub data_in : PipeState
  pub data_out : PipeState
  pub retirement : Option Retirement

-- the parts of new clients, by number from this one on
abbrev pub new_parts : ℕ → List BlockMaps → List Part
new_parts number [] = []
new_parts number (unit ∷ units) = new_part number unit ∷ new_parts (suc number) units

-- the shared machine over these units, the unit of client c at place c, with so many tags of each client
abbrev pub opening : ℕ → List BlockMaps → Shared
opening tags units = record {
  tags = tags;
  parts = new_parts 0 units;
  messages = [];
  events = [];
  status = new_pipe;
  data_in = new_pipe;
  data_out = new_pipe;
  retirement = None;
}

-- the greatest tag of a client
abbrev pub greatest_tag : Shared → ℕ
greatest_tag state = length state.parts * state.tags

-- THE PIPES

-- the state of a pipe; the command pipe, which has no streams, always runs
abbrev pub pipe_of : Shared → Pipe → PipeState
pipe_of state CommandPipeName = new_pipe
pipe_of state StatusPipe = state.status
pipe_of state DataIn = state.data_in
pipe_of state DataOut = state.data_out

abbrev pub with_pipe : Shared → Pipe → PipeState → Shared
with_pipe state CommandPipeName pipe = state
with_pipe state StatusPipe pipe = record state { status = pipe }
with_pipe state DataIn pipe = record state { data_in = pipe }
with_pipe state DataOut pipe = record state { data_out = pipe }

-- A pipe is held while a retirement on it is under way: the host pushes TDs and rings no doorbell of it.
abbrev pub is_held : Shared → Pipe → Bool
is_held state pipe = option_map_or (λ retirement. same_pipe retirement.pipe pipe) state.retirement false

-- OUTCOMES

-- a step that wasn't due
abbrev pub idle : Outcome
idle = record { acted = false; owner = None; mark = Quiet; reply = None; refused = None; doors = [] }

-- the outcome of an act of this client
abbrev pub outcome_of : ℕ → Act → Outcome
outcome_of client act =
    record { acted = true; owner = Some client; mark = act.mark; reply = act.reply; refused = None; doors = [] }

-- the outcome of a step that found no such client
abbrev pub unmoved : ℕ → Outcome
unmoved client =
    record { acted = true; owner = Some client; mark = Quiet; reply = None; refused = None; doors = [] }

-- a refused submission is Quiet, and hands the command back
abbrev pub refusal : ℕ → SubmitFault → Command → Outcome
refusal client fault command =
    record {
      acted = true;
      owner = Some client;
      mark = Quiet;
      reply = None;
      refused = Some (record { fault = fault; command = Some command });
      doors = [];
    }

-- a refused task management brought no command
abbrev pub task_refusal : ℕ → SubmitFault → Outcome
task_refusal client fault =
    record {
      acted = true;
      owner = Some client;
      mark = Quiet;
      reply = None;
      refused = Some (record { fault = fault; command = None });
      doors = [];
    }

-- a step that acted for a client, told nothing and rang these doorbells
abbrev pub ringing : ℕ → List ℕ → Outcome
ringing client doors =
    record { acted = true; owner = Some client; mark = Quiet; reply = None; refused = None; doors = doors }

-- an accepted submission of this mark rings these doorbells
abbrev pub acceptance : ℕ → Mark → List ℕ → Outcome
acceptance client mark doors =
    record { acted = true; owner = Some client; mark = mark; reply = None; refused = None; doors = doors }

-- DUE

-- a fact of the entry at a place, false where there is none
abbrev pub entry_fact : (Entry → Bool) → ℕ → Part → Bool
entry_fact test slot part = option_map_or test (held_at part.entries slot) false

abbrev pub part_fact : Shared → ℕ → (Part → Bool) → Bool
part_fact state client test = option_map_or test (slice_get state.parts client) false

abbrev pub place_fact : Shared → ℕ → (Entry → Bool) → Bool
place_fact state tag test =
    option_map_or (λ place. part_fact state place.client (entry_fact test place.slot)) (place_of state.tags (length state.parts) tag) false

-- the target gives or takes data
abbrev pub is_moving : Phase → Bool
is_moving (Begun (Moving chunk)) = true
is_moving _ = false

-- the target has an answer to send
abbrev pub is_ended : Phase → Bool
is_ended (Begun (Ended answer)) = true
is_ended _ = false

-- the data stream was rung since the last stop of its pipe, which runs
abbrev pub is_data_open : Shared → ℕ → Direction → Bool
is_data_open state tag Nothing = false
is_data_open state tag ToHost = is_open state.data_in tag
is_data_open state tag ToDevice = is_open state.data_out tag

-- the data stream of the tag is armed, and the target gives or takes on it
abbrev pub data_is_due : Shared → ℕ → Entry → Bool
data_is_due state tag entry =
    is_moving entry.task.phase
    && (is_data_open state tag (request_direction entry.task.request)
    && has_data_trb (data_trbs entry.task.request) entry.data_td)

-- the status stream of the tag is armed, and the target has its answer
abbrev pub status_is_due : Shared → ℕ → Entry → Bool
status_is_due state tag entry = is_ended entry.task.phase && (is_open state.status tag && has_trb entry.status_td 1)

abbrev pub is_some_of : {T : Type 0} → List T → Bool
is_some_of [] = false
is_some_of (x ∷ xs) = true

abbrev pub has_ready : Part → Bool
has_ready part = is_some_of part.ready

-- the controller's command ring has the retirement's command
abbrev pub is_asked : RetirementStage → Bool
is_asked StopAsked = true
is_asked MoveAsked = true
is_asked _ = false

-- a retirement of the tag's TD on a pipe may begin: none is under way, and the TD is left over
abbrev pub retire_is_due : Shared → Pipe → ℕ → Bool
retire_is_due state pipe tag = is_none state.retirement && place_fact state tag (is_left_over_on pipe)

-- where a step acts; elsewhere it is idle
abbrev pub due : Shared → Step → Bool
due state (Submit client tag ticket command) = true
due state (TaskStep client ticket task) = true
due state CommandPipe = is_some_of state.messages
due state (Data tag) = place_fact state tag (data_is_due state tag)
due state (Status tag) = place_fact state tag (status_is_due state tag)
due state Engine = option_map_or (λ retirement. is_asked retirement.stage) state.retirement false
due state Event = is_some_of state.events
due state (Retire pipe tag) = retire_is_due state pipe tag
due state (Take client) = part_fact state client has_ready

-- STEPS

-- an act on one client's part, with the event that it posts
abbrev pub acted_on : Shared → ℕ → Act → Shared × Outcome
acted_on state client act =
    (record state { parts = slice_set state.parts client act.part; events = state.events ++ option_to_list act.event }, outcome_of client act)

abbrev pub routed_to : Shared → ℕ → (Part → Act) → Option Part → Shared × Outcome
routed_to state client act None = (state, unmoved client)
routed_to state client act (Some part) = acted_on state client (act part)

-- an act on the client of this number, which changes nothing where it isn't there
abbrev pub routed : Shared → ℕ → (Part → Act) → Shared × Outcome
routed state client act = routed_to state client act (slice_get state.parts client)

-- an act at the place that a tag names
abbrev pub routed_by_tag : Shared → (Place → Part → Act) → Option Place → Shared × Outcome
routed_by_tag state act None = (state, idle)
routed_by_tag state act (Some place) = routed state place.client (act place)

-- the doorbells of a submission arm its status stream and its data stream, those of a held pipe apart
abbrev pub with_streams_rung : Shared → Direction → ℕ → Shared
with_streams_rung state Nothing tag = record state { status = rung_unless (is_held state StatusPipe) state.status tag }
with_streams_rung state ToHost tag = record state {
  status = rung_unless (is_held state StatusPipe) state.status tag;
  data_in = rung_unless (is_held state DataIn) state.data_in tag;
}
with_streams_rung state ToDevice tag = record state {
  status = rung_unless (is_held state StatusPipe) state.status tag;
  data_out = rung_unless (is_held state DataOut) state.data_out tag;
}

abbrev pub accepted : Shared → Part → Place → ℕ → ℕ → Command → Shared × Outcome
accepted state part place tag ticket command = (
  record (with_streams_rung state (direction_of command.op) tag) {
    parts = slice_set state.parts place.client (submitted_part part place.slot ticket command);
    messages = state.messages ++ place ∷ [];
  },
  acceptance place.client (SubmitMark (suc place.slot)) (submission_bells (is_held state) (direction_of command.op) tag),
)

abbrev pub answered : Shared → Part → Place → ℕ → ℕ → Command → Option SubmitFault → Shared × Outcome
answered state part place tag ticket command None = accepted state part place tag ticket command
answered state part place tag ticket command (Some fault) = (state, refusal place.client fault command)

abbrev pub submitted_to : Shared → Place → ℕ → ℕ → Command → Option Part → Shared × Outcome
submitted_to state place tag ticket command None = (state, refusal place.client NotYours command)
submitted_to state place tag ticket command (Some part) =
    answered state part place tag ticket command (fault_at part place.slot ticket command)

-- a tag that is no command tag of the client is refused first
abbrev pub submitted_under : Shared → ℕ → ℕ → ℕ → Command → Option ℕ → Shared × Outcome
submitted_under state client tag ticket command None = (state, refusal client NotYours command)
submitted_under state client tag ticket command (Some slot) =
    submitted_to state (record { client = client; slot = slot }) tag ticket command (slice_get state.parts client)

abbrev pub submit_step : Shared → ℕ → ℕ → ℕ → Command → Shared × Outcome
submit_step state client tag ticket command =
    submitted_under state client tag ticket command (command_slot state.tags (length state.parts) client tag)

-- TASK MANAGEMENT

-- it goes the way of a submission without data, under the client's task tag
abbrev pub managed : Shared → Part → Place → Option ℕ → ℕ → Task → Shared × Outcome
managed state part place slot ticket task = (
  record (with_streams_rung state Nothing (tag_of state.tags place)) {
    parts = slice_set state.parts place.client (managed_part state.tags part slot ticket task);
    messages = state.messages ++ place ∷ [];
  },
  acceptance place.client TaskMark (submission_bells (is_held state) Nothing (tag_of state.tags place)),
)

abbrev pub managed_or : Shared → Part → Place → Option ℕ → ℕ → Task → Option SubmitFault → Shared × Outcome
managed_or state part place slot ticket task None = managed state part place slot ticket task
managed_or state part place slot ticket task (Some fault) = (state, task_refusal place.client fault)

abbrev pub managed_to : Shared → Place → Option ℕ → ℕ → Task → Option Part → Shared × Outcome
managed_to state place slot ticket task None = (state, task_refusal place.client NotYours)
managed_to state place slot ticket task (Some part) = managed_or state part place slot ticket task (task_fault_at state.tags part slot ticket task)

abbrev pub task_step : Shared → ℕ → ℕ → Task → Shared × Outcome
task_step state client ticket task =
    managed_to state (record { client = client; slot = task_slot state.tags }) (named_slot state.tags (length state.parts) client task) ticket task
    (slice_get state.parts client)

-- the first message leaves the command pipe
abbrev pub carry_step : Shared → List Place → Shared × Outcome
carry_step state [] = (state, idle)
carry_step state (place ∷ rest) = routed (record state { messages = rest }) place.client (carry_act place)

-- RETIREMENT (xHCI 4.6.9 and 4.6.10)

abbrev pub at_stage : Shared → Retirement → RetirementStage → Shared
at_stage state retirement stage = record state { retirement = Some (record retirement { stage = stage }) }

-- The controller executes the command that waits: Stop Endpoint stops the pipe and disarms its streams, Set TR Dequeue Pointer moves it
-- past the TD.
abbrev pub engine_did : Shared → Retirement → RetirementStage → Shared × Outcome
engine_did state retirement StopAsked =
    routed (at_stage (with_pipe state retirement.pipe stopped_pipe) retirement StopAnswered) retirement.place.client (stop_act retirement.place)
engine_did state retirement StopAnswered = (state, idle)
engine_did state retirement MoveAsked =
    routed (at_stage state retirement MoveAnswered) retirement.place.client (pass_act retirement.pipe retirement.place)
engine_did state retirement MoveAnswered = (state, idle)

abbrev pub engine_step : Shared → Option Retirement → Shared × Outcome
engine_step state None = (state, idle)
engine_step state (Some retirement) = engine_did state retirement retirement.stage

-- a retirement begins: Stop Endpoint is put, and the controller's own doorbell rung
abbrev pub retire_step : Shared → Pipe → Option Place → Shared × Outcome
retire_step state pipe None = (state, idle)
retire_step state pipe (Some place) =
    (record state { retirement = Some (record { pipe = pipe; place = place; stage = StopAsked }) }, ringing place.client (0 ∷ []))

-- the streams of a pipe with pending TRBs, rising
abbrev pub streams_pending : Shared → Pipe → List ℕ
streams_pending state pipe = filter (λ tag. place_fact state tag (has_trb_on pipe)) (range_with_len 1 STREAMS)

-- the pipe is held no more: each of its streams with pending TRBs is rung
abbrev pub resumed : Pipe → Shared × Outcome → Shared × Outcome
resumed pipe after = (
  with_pipe after.0 pipe (all_rung (pipe_of after.0 pipe) (streams_pending after.0 pipe)),
  record after.1 { doors = map (door (target_of pipe)) (streams_pending after.0 pipe) },
)

-- The host takes the event of the controller's command: Set TR Dequeue Pointer follows Stop Endpoint, and after it the TD is retired.
-- No event waits while a command does.
abbrev pub stage_seen : Shared → Retirement → RetirementStage → Shared × Outcome
stage_seen state retirement StopAsked = (state, unmoved retirement.place.client)
stage_seen state retirement StopAnswered = (at_stage state retirement MoveAsked, ringing retirement.place.client (0 ∷ []))
stage_seen state retirement MoveAsked = (state, unmoved retirement.place.client)
stage_seen state retirement MoveAnswered =
    resumed retirement.pipe
    (routed (record state { retirement = None }) retirement.place.client (retire_act retirement.pipe retirement.place))

abbrev pub engine_seen : Shared → Place → Option Retirement → Shared × Outcome
engine_seen state place None = (state, unmoved place.client)
engine_seen state place (Some retirement) = stage_seen state retirement retirement.stage

-- THE EVENTS

-- the host takes an event that has left the event ring
abbrev pub event_seen : Shared → Completion → Shared × Outcome
event_seen state (CommandDone place) = routed state place.client (event_act (CommandDone place))
event_seen state (DataDone place) = routed state place.client (event_act (DataDone place))
event_seen state (StatusDone place) = routed state place.client (event_act (StatusDone place))
event_seen state (EngineDone place) = engine_seen state place state.retirement

-- the first event is taken
abbrev pub event_step : Shared → List Completion → Shared × Outcome
event_step state [] = (state, idle)
event_step state (event ∷ rest) = event_seen (record state { events = rest }) event

abbrev pub due_step : Shared → Step → Shared × Outcome
due_step state (Submit client tag ticket command) = submit_step state client tag ticket command
due_step state (TaskStep client ticket task) = task_step state client ticket task
due_step state CommandPipe = carry_step state state.messages
due_step state (Data tag) = routed_by_tag state move_act (place_of state.tags (length state.parts) tag)
due_step state (Status tag) = routed_by_tag state send_act (place_of state.tags (length state.parts) tag)
due_step state Engine = engine_step state state.retirement
due_step state Event = event_step state state.events
due_step state (Retire pipe tag) = retire_step state pipe (place_of state.tags (length state.parts) tag)
due_step state (Take client) = routed state client (take_act state.tags client)

-- One step of the shared machine: the state after it and its outcome.
abbrev pub shared_step : Shared → Step → Shared × Outcome
shared_step state step = if due state step then due_step state step else (state, idle)

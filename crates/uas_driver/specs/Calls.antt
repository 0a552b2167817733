-- What the calls make of the driver, what they answer, and the doorbells that are to be written. A refused call leaves the driver as it
-- was and gives no doorbell; of several refusals it answers the first that holds.
use Rattle.std.specs.Prelude.{ℕ, ◌^◌, ◌++◌, Bool, true, false, not, nat_lt, nat_le, if◌then◌else◌, List, [], ◌∷◌, length, Option, Some, None, Result, Ok, Err, is_none, is_some, slice_index_or, slice_set}
use Rattle.std.specs.Option.{option_map_or}
use Rattle.scsi_cmd.specs.declared.Command.{Command}
use Rattle.scsi_cmd.specs.declared.Reply.{Reply}
use Rattle.scsi_cmd.specs.declared.Task.{Task}
use Rattle.scsi_cmd.specs.Op.{direction_of}
use Rattle.uas_profile.specs.Doors.{data_doors, door_unless}
use Rattle.uas_profile.specs.declared.Direction.{Direction}
use Rattle.uas_profile.specs.declared.Pipe.{Pipe}
use Rattle.uas_profile.specs.declared.TheConstants.{ENGINE_RING_PLACES}
use Rattle.uas_profile.specs.Tags.{command_slot}
use Rattle.uas_profile.specs.declared.Pipe.TheVariants.{Command as CommandPipe, Status, DataIn, DataOut}
use Rattle.stream_array.specs.Contexts.{context_text, has_stream}
use Rattle.stream_array.specs.Map.{places_of, spot_at}
use Rattle.stream_array.specs.Rings.{consumer_end, ring_of}
use Rattle.frame_store.specs.Buffers.{bytes_at, left_at, written}
use Rattle.frame_store.specs.declared.TagBuffers.{TagBuffers}
use Rattle.uas_host.specs.Replies.{replied}
use Rattle.uas_host.specs.Retirement.{retirement_for, stop_trb, with_engine_command, with_retirement}
use Rattle.uas_host.specs.Submit.{host_fault, lent, submitted}
use Rattle.uas_host.specs.Tasks.{managed, task_fault, task_tag, with_task_unit}
use Rattle.uas_host.specs.Tds.{pushed, pushed_task}
use Rattle.uas_driver.specs.declared.Refusal.{Refusal}
use Rattle.uas_driver.specs.declared.Refusal.TheVariants.{BadTicket, NoRoom, BadAddress, NoRing, Fault}
use Rattle.uas_driver.specs.Driver.{DriverState}
use Rattle.uas_driver.specs.Places.{place_read}
use Rattle.uas_driver.specs.Room.{has_engine_room, lacks_room, lacks_task_room}
use Rattle.uas_driver.specs.Endings.{answer_by, end_of, tag_of_reply, with_end, without_end}
use Rattle.uas_driver.specs.Recovery.{Told, gone_on, new_recovery}
pub use Rattle.uas_driver.specs.Telling.{event_by, stated, wanted_state}
use Rattle.uas_driver.specs.declared.Answer.{Answer}
use Rattle.uas_driver.specs.declared.Cause.TheVariants.{GivenUp}
use Rattle.uas_driver.specs.declared.EndpointState.{EndpointState}
use Rattle.uas_driver.specs.declared.EndpointState.TheVariants.{Running, Halted, Stopped}
use Rattle.uas_driver.specs.declared.states.Endpoints.{Endpoints}
use Rattle.uas_driver.specs.declared.states.Recovery.{Recovery}
use Rattle.scsi_cmd.specs.declared.SubmitFault.TheVariants.{NoSuchTask, NotYours}
use Rattle.frame_store.specs.Buffers.{held_for}
use Rattle.uas_host.specs.State.{HostState}
use Rattle.uas_profile.specs.Pipes.{same_pipe}

-- the driver after a call, what the call answers, and the doorbells
abbrev pub After : Type 0 → Type 0
After Answer = DriverState × Answer × List ℕ

abbrev pub refused : {Answer : Type 0} → DriverState → Refusal → After (Result Answer Refusal)
refused driver refusal = (driver, Err refusal, [])

-- SUBMISSIONS

-- tickets are below 2^60
abbrev pub is_ticket : ℕ → Bool
is_ticket ticket = nat_lt ticket (2 ^ 60)

-- no byte of a new command was moved yet
abbrev pub none_moved : List ℕ → ℕ → List ℕ
none_moved moved tag = if has_stream tag then slice_set moved tag 0 else moved

-- an endpoint is under recovery, the host's own retirement too, and no doorbell of it is rung
abbrev pub is_under : Option Recovery → Pipe → Bool
is_under recovery pipe = option_map_or (λ held. same_pipe held.pipe pipe) recovery false

abbrev pub rung_answer : Option Recovery → ℕ → List ℕ
rung_answer recovery tag = door_unless (is_under recovery Status) Status tag ++ door_unless (is_under recovery CommandPipe) CommandPipe 0

-- the doorbells of a submission, data, status, command, but for those of an endpoint under recovery
abbrev pub rung_submission : Option Recovery → Direction → ℕ → List ℕ
rung_submission recovery way tag = data_doors (is_under recovery) way tag ++ rung_answer recovery tag

-- an endpoint that was stopped and isn't under recovery runs once it is rung
abbrev pub rung_state : Option Recovery → Pipe → EndpointState → EndpointState
rung_state recovery pipe Running = Running
rung_state recovery pipe Halted = Halted
rung_state recovery pipe Stopped = if is_under recovery pipe then Stopped else Running

abbrev pub all_rung : Option Recovery → Endpoints → Endpoints
all_rung recovery endpoints = record {
  command = rung_state recovery CommandPipe endpoints.command;
  status = rung_state recovery Status endpoints.status;
  data_in = rung_state recovery DataIn endpoints.data_in;
  data_out = rung_state recovery DataOut endpoints.data_out;
}

abbrev pub submitted_to : DriverState → ℕ → ℕ → ℕ → Command → After (Result (Unit {0}) Refusal)
submitted_to driver client tag ticket command = (
  record driver {
    host = submitted driver.host client tag ticket command.op;
    lines = pushed driver.lines tag command.op;
    frames = lent driver.frames client tag command;
    moved = none_moved driver.moved tag;
    endpoints = all_rung driver.recovery driver.endpoints;
  },
  Ok tt,
  rung_submission driver.recovery (direction_of command.op) tag,
)

-- what the host makes of it where there is room
abbrev pub host_submits : DriverState → ℕ → ℕ → ℕ → Command → After (Result (Unit {0}) Refusal)
host_submits driver client tag ticket command =
    option_map_or (λ fault. refused driver (Fault fault)) (host_fault driver.host client tag ticket command)
    (submitted_to driver client tag ticket command)

-- A command of a client under a tag: none is taken once a pipe was given up. A tag without rings is the host's to refuse. Worked: READ on
-- tag 18 gives 00120005h, 00120003h, 00000002h.
abbrev pub submit_by : DriverState → ℕ → ℕ → ℕ → Command → After (Result (Unit {0}) Refusal)
submit_by driver client tag ticket command =
    if not (is_ticket ticket) then refused driver BadTicket
    else (if driver.given_up then refused driver NoRing
    else (if lacks_room driver.lines driver.frames tag then refused driver NoRoom else host_submits driver client tag ticket command))

-- the task tag of a client that is there
abbrev pub task_tag_in : HostState → ℕ → ℕ
task_tag_in host client = if nat_lt client (length host.clients) then task_tag host.tags client else 0

abbrev pub managed_to : DriverState → ℕ → ℕ → Task → After (Result (Unit {0}) Refusal)
managed_to driver client ticket task = (
  record driver {
    host = managed driver.host client ticket task;
    lines = pushed_task driver.lines (task_tag driver.host.tags client);
    frames = with_task_unit driver.host.tags driver.frames client task;
    endpoints = all_rung driver.recovery driver.endpoints;
  },
  Ok tt,
  rung_answer driver.recovery (task_tag_in driver.host client),
)

-- what the host makes of it where there is room
abbrev pub host_manages : DriverState → ℕ → ℕ → Task → After (Result (Unit {0}) Refusal)
host_manages driver client ticket task =
    option_map_or (λ fault. refused driver (Fault fault)) (task_fault driver.host client ticket task) (managed_to driver client ticket task)

-- A task management of a client under its task tag: none is taken once a pipe was given up. A client that isn't there is the host's to
-- refuse.
abbrev pub task_by : DriverState → ℕ → ℕ → Task → After (Result (Unit {0}) Refusal)
task_by driver client ticket task =
    if not (is_ticket ticket) then refused driver BadTicket
    else (if driver.given_up then refused driver NoRing
    else (if lacks_task_room driver.host driver.lines client then refused driver NoRoom else host_manages driver client ticket task))

-- RETIREMENTS

-- The retirement of a tag's TD on a pipe, where it may begin and no recovery is under way: Stop Endpoint goes on the controller's command
-- ring, whose doorbell is 0.
abbrev pub retire_by : DriverState → Pipe → ℕ → After (Result Bool Refusal)
retire_by driver pipe tag =
    if not (has_engine_room driver.lines) then refused driver NoRoom
    else option_map_or (λ retirement. (
      record driver {
        host = with_retirement driver.host retirement;
        lines = with_engine_command driver.lines (stop_trb pipe);
        recovery = Some (new_recovery pipe Stopped);
      },
      Ok true,
      0 ∷ [],
    )) (if is_some driver.recovery then None else retirement_for driver.host pipe tag) (driver, Ok false, [])

-- REPLIES

-- the reply of a client that was ready first, if there is one
abbrev pub answered : DriverState → Option Reply → DriverState × Option Answer
answered driver None = (driver, None)
answered driver (Some reply) =
    let tag = tag_of_reply reply in
    (without_end driver tag, Some (answer_by (slice_index_or driver.moved tag 0) (end_of driver.ends tag) reply))

abbrev pub reply_by : DriverState → ℕ → DriverState × Option Answer
reply_by driver client =
    let given = replied driver.host driver.frames client in answered (record driver { host = given.host; frames = given.frames }) given.reply

-- COMMANDS THAT ARE GIVEN UP

-- the tag is one of a client's for commands
abbrev pub is_own : HostState → ℕ → ℕ → Bool
is_own host client tag = is_some (command_slot host.tags (length host.clients) client tag)

abbrev pub with_done : Told → After (Result (Unit {0}) Refusal)
with_done (driver, doors) = (driver, Ok tt, doors)

-- A client gives up its command under a tag: its TDs are taken off their pipes, and unless the device's status comes before, its client is
-- told that it is aborted.
abbrev pub give_up_by : DriverState → ℕ → ℕ → After (Result (Unit {0}) Refusal)
give_up_by driver client tag =
    if not (is_own driver.host client tag) then refused driver (Fault NotYours)
    else (if is_none (held_for driver.frames tag).lent then refused driver (Fault NoSuchTask)
    else with_done (gone_on (with_end driver tag GivenUp, [])))

-- WHAT THE CONTROLLER BEYOND READS AND WRITES

-- the bytes from an address on are bytes of one buffer that is there, or there is none
abbrev pub is_named : List TagBuffers → ℕ → ℕ → Bool
is_named frames address len = nat_le len (left_at frames address)

abbrev pub write_by : DriverState → ℕ → List ℕ → DriverState × Result (Unit {0}) Refusal
write_by driver address bytes =
    if is_named driver.frames address (length bytes)
    then (record driver { frames = written driver.frames address (length bytes) bytes }, Ok tt) else (driver, Err BadAddress)

abbrev pub read_by : DriverState → ℕ → ℕ → Result (List ℕ) Refusal
read_by driver address len = if is_named driver.frames address len then Ok (bytes_at driver.frames address len) else Err BadAddress

-- what stands at a place of a ring: of a pipe's, or of the controller's command ring
abbrev pub item_by : DriverState → ℕ → Option (List ℕ)
item_by driver address =
    option_map_or (λ at. place_read (places_of at.0) (ring_of driver.lines at.0 at.1) address) (spot_at address)
    (place_read ENGINE_RING_PLACES driver.lines.engine address)

-- the pipe has streams, and a ring for this one
abbrev pub has_context : Pipe → ℕ → Bool
has_context CommandPipe stream = false
has_context Status stream = has_stream stream
has_context DataIn stream = has_stream stream
has_context DataOut stream = has_stream stream

-- a stream's context (6.2.4.1), which shows where the ring's consumer stands
abbrev pub context_by : DriverState → Pipe → ℕ → Result (List ℕ) Refusal
context_by driver pipe stream =
    if has_context pipe stream then Ok (context_text (Some (consumer_end (ring_of driver.lines pipe stream)))) else Err NoRing

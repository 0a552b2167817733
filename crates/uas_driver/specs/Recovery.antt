-- Recovery of an endpoint (xHCI 1.2, 4.6.8 to 4.6.10 and 4.8.3): Stop Endpoint, or Reset Endpoint where it is halted; Set TR Dequeue
-- Pointer behind each TD that is to be taken off; and the doorbells of all streams with pending TRBs.
use Rattle.std.specs.Prelude.{ℕ, zero, suc, ◌+◌, ◌-◌, ◌*◌, ◌%◌, ◌==◌, ◌&&◌, ◌||◌, not, nat_le, nat_lt, Bool, true, false, if◌then◌else◌, List, [], ◌∷◌, ◌++◌, length}
use Rattle.std.specs.Prelude.{is_some, is_none, slice_index, slice_set, Option, Some, None, option_and_then}
use Rattle.std.specs.Option.{option_map_or}
use Rattle.xhci_trb.specs.declared.Trb.{Trb}
use Rattle.xhci_trb.specs.declared.Trb.TheVariants.{SetDequeue}
use Rattle.cycle_ring.specs.Ring.{cycle_of, pointer_of}
use Rattle.cycle_ring.specs.Items.{ItemRing, item_read, known_consumed_at, known_front_of, raw_front_of}
use Rattle.event_ring.specs.declared.Event.TheVariants.{Command as CommandCompletion}
use Rattle.stream_array.specs.Contexts.{has_stream}
use Rattle.stream_array.specs.Map.{has_ring, places_of}
use Rattle.stream_array.specs.Rings.{ring_of, LinesState, stream_ring, with_engine}
use Rattle.uas_profile.specs.Doors.{door}
use Rattle.uas_profile.specs.Pipes.{same_pipe, target_of}
use Rattle.uas_profile.specs.Tags.{tag_of}
use Rattle.uas_profile.specs.declared.Pipe.{Pipe}
use Rattle.uas_profile.specs.declared.Pipe.TheVariants.{Command, Status, DataIn, DataOut}
use Rattle.uas_profile.specs.declared.TheConstants.{BUFFER_SPAN, ENGINE_RING_PLACES, SHORT_PACKET, SLOT, STATUS_BUFFERS, STATUS_BYTES, STREAM_ENTRIES, STREAM_RING_PLACES, STREAMS, SUCCESS}
use Rattle.uas_host.specs.Events.{event_doors, handled}
use Rattle.uas_host.specs.Retirement.{engine_freed, has_pending, resumed_doors, stop_trb, with_engine_command}
use Rattle.uas_host.specs.declared.Retirement.{Retirement}
use Rattle.uas_host.specs.declared.RetirementStage.{RetirementStage}
use Rattle.uas_host.specs.declared.RetirementStage.TheVariants as hosts
use Rattle.frame_store.specs.Buffers.{left_at, written}
use Rattle.uas_driver.specs.Driver.{DriverState}
use Rattle.uas_driver.specs.Endings.{due_tag, end_of, stand_in, with_end}
use Rattle.uas_driver.specs.Room.{has_engine_room}
use Rattle.uas_driver.specs.Settled.{all_passed, first_td, last_address, stepped}
use Rattle.uas_driver.specs.Taking.{handed, sides_of}
use Rattle.uas_driver.specs.declared.Cause.TheVariants.{Failed}
use Rattle.uas_driver.specs.declared.states.End.{End}
use Rattle.uas_driver.specs.declared.EndpointState.{EndpointState}
use Rattle.uas_driver.specs.declared.EndpointState.TheVariants.{Running, Halted, Stopped}
use Rattle.uas_driver.specs.declared.states.Endpoints.{Endpoints}
use Rattle.uas_driver.specs.declared.states.Next.{Next}
use Rattle.uas_driver.specs.declared.states.Next.TheVariants as nexts
use Rattle.uas_driver.specs.declared.states.Recovery.{Recovery}
use Rattle.uas_driver.specs.declared.states.Stage.{Stage}
use Rattle.uas_driver.specs.declared.states.Stage.TheVariants.{Stopping, Asking, Resetting, Moving}
use Rattle.uas_driver.specs.declared.states.Subject.{Subject}
use Rattle.uas_driver.specs.declared.states.Subject.TheVariants.{Nothing, Ended, HostTd}
use Rattle.uas_driver.specs.declared.Taken.{Taken}
use Rattle.uas_driver.specs.declared.Taken.TheVariants.{Matched}

-- a driver and the doorbells that were told so far
abbrev pub Told : Type 0
Told = DriverState × List ℕ

-- ENDPOINTS

abbrev pub state_of : Endpoints → Pipe → EndpointState
state_of endpoints Command = endpoints.command
state_of endpoints Status = endpoints.status
state_of endpoints DataIn = endpoints.data_in
state_of endpoints DataOut = endpoints.data_out

abbrev pub with_endpoint : Endpoints → Pipe → EndpointState → Endpoints
with_endpoint endpoints Command state = record endpoints { command = state }
with_endpoint endpoints Status state = record endpoints { status = state }
with_endpoint endpoints DataIn state = record endpoints { data_in = state }
with_endpoint endpoints DataOut state = record endpoints { data_out = state }

abbrev pub with_state : DriverState → Pipe → EndpointState → DriverState
with_state driver pipe state = record driver { endpoints = with_endpoint driver.endpoints pipe state }

abbrev pub is_halted : EndpointState → Bool
is_halted Halted = true
is_halted _ = false

abbrev pub running_if : Bool → EndpointState
running_if rings = if rings then Running else Stopped

abbrev pub is_resetting : Stage → Bool
is_resetting Resetting = true
is_resetting _ = false

abbrev pub is_moving : Stage → Bool
is_moving Moving = true
is_moving _ = false

-- WHAT A COMPLETION CODE ASKS FOR

-- The command ring was stopped (24), or the command given up (25): it is put again.
abbrev pub is_put_again : ℕ → Bool
is_put_again code = code == 24 || code == 25

-- Context State Error, 19, of Stop Endpoint: the endpoint stood already. Where nothing said so, its state is asked for.
abbrev pub next_stood : EndpointState → Next
next_stood Running = nexts.Ask
next_stood Halted = nexts.Reset
next_stood Stopped = nexts.Go

-- The codes of a command's completion, by the command. Stop Endpoint: Success 1, Context State Error 19. Reset Endpoint: whatever it is
-- answered, the endpoint isn't halted any more. Set TR Dequeue Pointer: Success 1, else once more after Stop Endpoint, and then the pipe is
-- given up.
abbrev pub next_by : Stage → EndpointState → Bool → ℕ → Next
next_by Stopping state again code =
    if is_put_again code then nexts.Again else (if code == 1 then nexts.Go else (if code == 19 then next_stood state else nexts.Lose))
next_by Asking state again code = nexts.Again
next_by Resetting state again code = if is_put_again code then nexts.Again else nexts.Go
next_by Moving state again code =
    if is_put_again code then nexts.Again else (if code == 1 then nexts.Go else (if again then nexts.Lose else nexts.Retry))

-- THE COMMAND RING

-- Reset Endpoint (6.4.3.7) with TSP 0 of a pipe's endpoint of the device: type 14 in bits 15:10 of the last word, endpoint in 20:16, slot
-- in 31:24; its Cycle bit is the ring's. Worked: data-in is twelve zeros and 00 38 05 01.
abbrev pub reset_text : Pipe → List ℕ
reset_text pipe = 0 ∷ 0 ∷ 0 ∷ 0 ∷ 0 ∷ 0 ∷ 0 ∷ 0 ∷ 0 ∷ 0 ∷ 0 ∷ 0 ∷ 0 ∷ 56 ∷ target_of pipe ∷ SLOT ∷ []

-- the consumer's end of a stream's ring
abbrev pub end_at : ItemRing → ℕ × Bool
end_at ring = (pointer_of STREAM_RING_PLACES ring ring.got, cycle_of STREAM_RING_PLACES ring ring.got)

-- Where the consumer of a pipe's ring stands, and the Cycle bit there: of the command pipe, which has no context, as its first pending item
-- shows it.
abbrev pub standing : LinesState → Pipe → ℕ → ℕ × Bool
standing lines Command stream =
    option_map_or (λ at. (at.0, slice_index at.1 12 % 2 == 1)) (raw_front_of (places_of Command) lines.command)
    (pointer_of (places_of Command) lines.command (length lines.command.put), cycle_of (places_of Command) lines.command (length lines.command.put))
standing lines Status stream = end_at (stream_ring lines.status stream)
standing lines DataIn stream = end_at (stream_ring lines.data_in stream)
standing lines DataOut stream = end_at (stream_ring lines.data_out stream)

-- Set TR Dequeue Pointer to where the consumer stands
abbrev pub move_to : LinesState → Pipe → ℕ → Trb
move_to lines pipe stream = SetDequeue (standing lines pipe stream).0 (standing lines pipe stream).1 stream (target_of pipe) SLOT

-- a command on the controller's command ring, where that has room
abbrev pub with_command : LinesState → Trb → LinesState
with_command lines trb = if has_engine_room lines then with_engine_command lines trb else lines

abbrev pub with_reset : LinesState → Pipe → LinesState
with_reset lines pipe =
    if has_engine_room lines then with_engine lines (record lines.engine { put = lines.engine.put ++ item_read (reset_text pipe) ∷ [] }) else lines

abbrev pub with_move : LinesState → Pipe → ℕ → LinesState
with_move lines pipe stream = if has_ring pipe stream then with_command lines (move_to lines pipe stream) else lines

-- the command of a recovery's stage is put
abbrev pub with_stage : LinesState → Recovery → LinesState
with_stage lines recovery = by_stage recovery.stage
  where
    by_stage : Stage → LinesState
    by_stage Stopping = with_command lines (stop_trb recovery.pipe)
    by_stage Asking = lines
    by_stage Resetting = with_reset lines recovery.pipe
    by_stage Moving = with_move lines recovery.pipe recovery.stream

-- the commands up to this consumed one are freed; behind Reset Endpoint they are with the next one
abbrev pub freed : LinesState → ℕ → LinesState
freed lines pointer = if is_some (known_consumed_at ENGINE_RING_PLACES lines.engine pointer) then engine_freed lines pointer else lines

-- a doorbell more, where there is room
abbrev pub rung : List ℕ → ℕ → List ℕ
rung doors value = if nat_lt (length doors) STREAM_ENTRIES then doors ++ value ∷ [] else doors

-- a recovery goes on with the command of its stage
abbrev pub put : DriverState → Recovery → List ℕ → Told
put driver recovery doors =
    (record driver { lines = with_stage (freed driver.lines recovery.command) recovery; recovery = Some recovery }, rung doors 0)

-- TDS THAT ARE TAKEN OFF

-- the bytes are written into the buffer at an address, where they fit
abbrev pub wrote : DriverState → ℕ → List ℕ → DriverState
wrote driver address bytes =
    if nat_le (length bytes) (left_at driver.frames address) then record driver { frames = written driver.frames address (length bytes) bytes } else driver

-- the driver told the status of this tag itself
abbrev pub told_in : List (Option End) → ℕ → List (Option End)
told_in ends tag = option_map_or (λ end. slice_set ends tag (Some (record end { told = true }))) (end_of ends tag) ends

abbrev pub is_matched : Taken → Bool
is_matched (Matched tag) = true
is_matched _ = false

abbrev pub with_told_end : ℕ → DriverState × Taken → DriverState
with_told_end tag made = if is_matched made.1 then record made.0 { ends = told_in made.0.ends tag } else made.0

-- The TD of a tag is off its pipe's ring, and the host is handed that it is done; for a status the stand-in is written into the tag's
-- status buffer first. `last` is the address of the TD's last TRB.
abbrev pub taken_off : DriverState → Pipe → ℕ → ℕ → DriverState
taken_off driver Command tag last = (handed driver (Some (record { pointer = last; residual = 0; code = SUCCESS }))).0
taken_off driver Status tag last =
    with_told_end tag (handed (wrote driver (STATUS_BUFFERS + BUFFER_SPAN * tag) (stand_in driver.host.tags tag))
    (Some (record { pointer = last; residual = STATUS_BYTES - length (stand_in driver.host.tags tag); code = SHORT_PACKET })))
taken_off driver DataIn tag last = (handed driver (Some (record { pointer = last; residual = 0; code = SUCCESS }))).0
taken_off driver DataOut tag last = (handed driver (Some (record { pointer = last; residual = 0; code = SUCCESS }))).0

abbrev pub given_back : DriverState → Pipe → ℕ → ℕ → DriverState
given_back driver pipe tag last = if has_stream tag then taken_off driver pipe tag last else driver

-- the address of the last TRB of a tag's TD: on the command pipe, where it is one TRB, that at the front
abbrev pub td_end : LinesState → Pipe → ℕ → ℕ
td_end lines Command tag = option_map_or (λ front. front.0) (known_front_of (places_of Command) lines.command) 0
td_end lines Status tag = last_address lines Status tag
td_end lines DataIn tag = last_address lines DataIn tag
td_end lines DataOut tag = last_address lines DataOut tag

-- the stream of a tag on a pipe
abbrev pub stream_of : Pipe → ℕ → ℕ
stream_of Command tag = 0
stream_of Status tag = tag
stream_of DataIn tag = tag
stream_of DataOut tag = tag

-- the ring once its consumer is behind the TD of a tag
abbrev pub td_passed : LinesState → Pipe → ℕ → LinesState
td_passed lines Command tag = stepped lines Command 0
td_passed lines Status tag = all_passed lines Status tag
td_passed lines DataIn tag = all_passed lines DataIn tag
td_passed lines DataOut tag = all_passed lines DataOut tag

-- THE STEPS OF A RECOVERY

-- Set TR Dequeue Pointer behind the TD of a tag
abbrev pub move_ended : DriverState → Recovery → ℕ → List ℕ → Told
move_ended driver recovery tag doors =
    put (record driver { lines = td_passed driver.lines recovery.pipe tag })
    (record recovery { stage = Moving; subject = Ended tag; stream = stream_of recovery.pipe tag; last = td_end driver.lines recovery.pipe tag }) doors

-- The host's own retirement goes on: it is handed the completion, with Success, of the command that was done last.
abbrev pub host_handed : DriverState → ℕ → Told
host_handed driver pointer =
    let event = CommandCompletion pointer SUCCESS SLOT in
    let made = handled (sides_of driver) driver.frames event in
    (record driver { host = made.0.host; lines = made.0.lines }, event_doors (sides_of driver) event)

-- its Set TR Dequeue Pointer is put by it
abbrev pub host_moves : DriverState → Recovery → List ℕ → Told
host_moves driver recovery doors =
    let made = host_handed driver recovery.command in
    (record made.0 { recovery = Some (record recovery { stage = Moving; subject = HostTd }) }, made.1)

-- its TD is off the ring, and it rang the pipe's streams that wait
abbrev pub host_moved : DriverState → Recovery → List ℕ → Told
host_moved driver recovery doors =
    let made = host_handed driver recovery.command in
    (with_state (record made.0 { recovery = None }) recovery.pipe (running_if (not (length made.1 == 0))), made.1)

-- its Set TR Dequeue Pointer is put once more
abbrev pub host_moves_again : DriverState → Recovery → ℕ → List ℕ → Told
host_moves_again driver recovery tag doors =
    put (record driver { lines = td_passed driver.lines recovery.pipe tag })
    (record recovery { stage = Moving; subject = HostTd; stream = stream_of recovery.pipe tag }) doors

-- Behind Reset Endpoint the host is handed no completion, as that is no command of its own: Stop Endpoint follows once more.
abbrev pub host_goes_on : DriverState → Recovery → Retirement → List ℕ → Told
host_goes_on driver recovery retirement doors = by_stage retirement.stage
  where
    by_stage : RetirementStage → Told
    by_stage hosts.Stopping =
        if is_resetting recovery.stage then put driver (record recovery { stage = Stopping }) doors else host_moves driver recovery doors
    by_stage hosts.Moving = host_moves_again driver recovery (tag_of driver.host.tags retirement.place) doors

-- the doorbells of all streams of a pipe with pending TRBs, in rising order; of the command pipe its own
abbrev pub restart_doors : LinesState → Pipe → List ℕ
restart_doors lines Command = if has_pending lines.command then door (target_of Command) 0 ∷ [] else []
restart_doors lines Status = resumed_doors lines Status
restart_doors lines DataIn = resumed_doors lines DataIn
restart_doors lines DataOut = resumed_doors lines DataOut

-- the endpoint runs again
abbrev pub restarted : DriverState → Recovery → Told
restarted driver recovery =
    let lines = freed driver.lines recovery.command in
    let doors = restart_doors lines recovery.pipe in
    (with_state (record driver { lines = lines; recovery = None }) recovery.pipe (running_if (not (length doors == 0))), doors)

-- the last of so many streams whose ring has nothing pending, or the last one where each has
unfoldable pub idle_below : LinesState → Pipe → ℕ → ℕ
idle_below lines pipe zero = STREAMS
idle_below lines pipe (suc stream) = if has_pending (ring_of lines pipe (suc stream)) then idle_below lines pipe stream else suc stream

-- that of a pipe; the command pipe has one ring
abbrev pub resting_stream : LinesState → Pipe → ℕ
resting_stream lines Command = 0
resting_stream lines Status = idle_below lines Status STREAMS
resting_stream lines DataIn = idle_below lines DataIn STREAMS
resting_stream lines DataOut = idle_below lines DataOut STREAMS

-- An endpoint that was halted, of which no TD is to be taken off: a dequeue pointer is set where it stands, since from state Error only that
-- leads on (4.8.3). It is that of an empty ring, where there is one: of a TD that has begun no event told how far the controller is.
abbrev pub ends_here : DriverState → Recovery → List ℕ → Told
ends_here driver recovery doors =
    if is_resetting recovery.stage
    then put driver (record recovery { stage = Moving; subject = Nothing; stream = resting_stream driver.lines recovery.pipe }) doors
    else restarted driver recovery

-- the retirement of the host's that is under way on a pipe
abbrev pub retirement_on : DriverState → Pipe → Option Retirement
retirement_on driver pipe = option_and_then (λ retirement. if same_pipe retirement.pipe pipe then Some retirement else None) driver.host.retirement

-- the endpoint stands: the next TD is taken off, the host's own retirement goes on, or the endpoint runs again
abbrev pub stood_still : DriverState → Recovery → List ℕ → Told
stood_still driver recovery doors =
    option_map_or (λ tag. move_ended driver recovery tag doors) (due_tag driver recovery.pipe)
    (option_map_or (λ retirement. host_goes_on driver recovery retirement doors) (retirement_on driver recovery.pipe) (ends_here driver recovery doors))

-- The same once Stop Endpoint or Reset Endpoint is done. A Set TR Dequeue Pointer that was refused is put once more first, the host's own
-- by its retirement.
abbrev pub stood_by : DriverState → Recovery → List ℕ → Subject → Told
stood_by driver recovery doors Nothing =
    if recovery.again then put driver (record recovery { stage = Moving }) doors else stood_still driver recovery doors
stood_by driver recovery doors (Ended tag) = put driver (record recovery { stage = Moving }) doors
stood_by driver recovery doors HostTd = stood_still driver recovery doors

abbrev pub now_stands : DriverState → Recovery → List ℕ → Told
now_stands driver recovery doors = stood_by (with_state driver recovery.pipe Stopped) recovery doors recovery.subject

-- Set TR Dequeue Pointer is done
abbrev pub moved_on_to : DriverState → Recovery → List ℕ → Told
moved_on_to driver recovery doors = by_subject recovery.subject
  where
    by_subject : Subject → Told
    by_subject Nothing = stood_still driver recovery doors
    by_subject (Ended tag) = stood_still (given_back driver recovery.pipe tag recovery.last) recovery doors
    by_subject HostTd = host_moved driver recovery doors

abbrev pub went_on : DriverState → Recovery → List ℕ → Told
went_on driver recovery doors = if is_moving recovery.stage then moved_on_to driver recovery doors else now_stands driver recovery doors

-- A PIPE THAT IS GIVEN UP

-- the TD of a tag on a given-up pipe: its command has failed
abbrev pub lost_td : Pipe → ℕ → DriverState → ℕ → DriverState
lost_td pipe code driver tag =
    if has_stream tag
    then given_back (record (with_end driver tag (Failed code)) { lines = td_passed driver.lines pipe tag }) pipe tag (td_end driver.lines pipe tag)
    else driver

abbrev pub first_lost : Pipe → ℕ → DriverState → DriverState
first_lost pipe code driver = option_map_or (lost_td pipe code driver) (first_td driver.lines pipe) driver

unfoldable pub times : {A : Type 0} → ℕ → (A → A) → A → A
times zero step a = a
times (suc more) step a = step (times more step a)

-- every command on the pipe has failed
abbrev pub all_lost : Pipe → ℕ → DriverState → DriverState
all_lost pipe code driver = times STREAM_ENTRIES (first_lost pipe code) driver

-- the endpoint stands, and no doorbell of it is written
abbrev pub left : DriverState → Recovery → Told
left driver recovery = (with_state (record driver { lines = freed driver.lines recovery.command; recovery = None }) recovery.pipe Stopped, [])

-- the host's own retirement, where it is of this pipe, ends as if it had succeeded
abbrev pub lost_host : DriverState → Recovery → Option Retirement → List ℕ → Told
lost_host driver recovery None doors = left driver recovery
lost_host driver recovery (Some retirement) doors = by_stage retirement.stage
  where
    by_stage : RetirementStage → Told
    by_stage hosts.Stopping = host_moves driver (record recovery { again = true }) doors
    by_stage hosts.Moving = host_moved driver recovery doors

-- the TD whose Set TR Dequeue Pointer was refused is given back all the same
abbrev pub subject_lost : DriverState → Recovery → Subject → DriverState
subject_lost driver recovery Nothing = driver
subject_lost driver recovery (Ended tag) = given_back driver recovery.pipe tag recovery.last
subject_lost driver recovery HostTd = driver

-- every command on the pipe has failed, its endpoint stands, and no submission is taken any more
abbrev pub lost : DriverState → Recovery → ℕ → List ℕ → Told
lost driver recovery code doors =
    let now = all_lost recovery.pipe code (subject_lost (record driver { given_up = true }) recovery recovery.subject) in
    lost_host now recovery (retirement_on now recovery.pipe) doors

-- ALL TOGETHER

abbrev pub is_host_td : Subject → Bool
is_host_td HostTd = true
is_host_td _ = false

-- the retirement of the host's whose Set TR Dequeue Pointer is the command that was done last
abbrev pub host_move_of : DriverState → Recovery → Option Retirement
host_move_of driver recovery =
    if is_moving recovery.stage && is_host_td recovery.subject then retirement_on driver recovery.pipe else None

-- the command that was done last is put once more
abbrev pub put_again : DriverState → Recovery → List ℕ → Told
put_again driver recovery doors =
    option_map_or (λ retirement. host_moves_again driver recovery (tag_of driver.host.tags retirement.place) doors) (host_move_of driver recovery)
    (put driver recovery doors)

abbrev pub by_next : DriverState → Recovery → ℕ → Next → List ℕ → Told
by_next driver recovery code nexts.Again doors = put_again driver recovery doors
by_next driver recovery code nexts.Reset doors = put driver (record recovery { stage = Resetting }) doors
by_next driver recovery code nexts.Ask doors = (record driver { recovery = Some (record recovery { stage = Asking }) }, doors)
by_next driver recovery code nexts.Retry doors = put driver (record recovery { stage = Stopping; again = true }) doors
by_next driver recovery code nexts.Lose doors = lost driver recovery code doors
by_next driver recovery code nexts.Go doors = went_on driver recovery doors

-- THE NEXT ENDPOINT

-- an endpoint is halted, or a TD is to be taken off it
abbrev pub is_needed : DriverState → Pipe → Bool
is_needed driver pipe = is_halted (state_of driver.endpoints pipe) || is_some (due_tag driver pipe)

abbrev pub needed : DriverState → Option Pipe
needed driver =
    if is_needed driver DataIn then Some DataIn
    else (if is_needed driver DataOut then Some DataOut
    else (if is_needed driver Status then Some Status else (if is_needed driver Command then Some Command else None)))

abbrev pub new_recovery : Pipe → EndpointState → Recovery
new_recovery pipe state = record {
  pipe = pipe;
  stage = if is_halted state then Resetting else Stopping;
  subject = Nothing;
  stream = 0;
  last = 0;
  command = 0;
  again = false;
  asked = false;
}

-- where no recovery is under way the next one begins
abbrev pub gone_on : Told → Told
gone_on (driver, doors) =
    if is_none driver.recovery
    then option_map_or (λ pipe. put driver (new_recovery pipe (state_of driver.endpoints pipe)) doors) (needed driver) (driver, doors)
    else (driver, doors)

-- What the driver makes of an event (xHCI 1.2, 4.6, 4.10.1 and table 6-90).
use Rattle.std.specs.Prelude.{ℕ, ◌==◌, ◌&&◌, ◌||◌, Bool, true, false, if◌then◌else◌, List, [], Option, Some, None, is_some}
use Rattle.std.specs.Option.{option_map_or}
use Rattle.event_ring.specs.declared.Event.{Event}
use Rattle.event_ring.specs.declared.Event.TheVariants.{Transfer, Command as CommandCompletion}
use Rattle.cycle_ring.specs.Items.{known_consumed_at}
use Rattle.stream_array.specs.Map.{places_of, spot_at}
use Rattle.stream_array.specs.Rings.{LinesState, ring_of}
use Rattle.uas_profile.specs.Pipes.{same_pipe, target_of}
use Rattle.uas_profile.specs.declared.Pipe.{Pipe}
use Rattle.uas_profile.specs.declared.Pipe.TheVariants.{Command, Status, DataIn, DataOut}
use Rattle.uas_profile.specs.declared.TheConstants.{ENGINE_RING_PLACES, SLOT, COMMAND_ENDPOINT, STATUS_ENDPOINT, DATA_OUT_ENDPOINT, DATA_IN_ENDPOINT}
use Rattle.uas_driver.specs.Driver.{DriverState}
use Rattle.uas_driver.specs.Endings.{with_end}
use Rattle.uas_driver.specs.Meaning.{meaning}
use Rattle.uas_driver.specs.Recovery.{Told, by_next, gone_on, lost_td, next_by, state_of, with_state}
use Rattle.uas_driver.specs.Settled.{completed, is_pending_at, pending_place, stood, td_tag}
use Rattle.uas_driver.specs.Taking.{handed, handing_by, lines_by, strayed, with_told}
use Rattle.uas_driver.specs.declared.Cause.TheVariants.{Failed}
use Rattle.uas_driver.specs.declared.EndpointState.{EndpointState}
use Rattle.uas_driver.specs.declared.EndpointState.TheVariants.{Running, Halted, Stopped}
use Rattle.uas_driver.specs.declared.Meaning.{Meaning}
use Rattle.uas_driver.specs.declared.Meaning.TheVariants as means
use Rattle.uas_driver.specs.declared.Taken.{Taken}
use Rattle.uas_driver.specs.declared.Taken.TheVariants.{Engine, Noted, Stray}
use Rattle.uas_driver.specs.declared.states.Next.TheVariants as nexts
use Rattle.uas_driver.specs.declared.states.Recovery.{Recovery}
use Rattle.uas_driver.specs.declared.states.Stage.{Stage}
use Rattle.uas_driver.specs.declared.states.Stage.TheVariants.{Stopping, Asking}
use Rattle.uas_driver.specs.declared.states.Next.{Next}

-- TDS THAT FAILED

-- The TD of a tag failed: where its endpoint is halted it is taken off once that is reset, else it is over.
abbrev pub failed_td : DriverState → Pipe → ℕ → Bool → ℕ → DriverState
failed_td driver pipe code true tag = with_end driver tag (Failed code)
failed_td driver pipe code false tag = lost_td pipe code driver tag

abbrev pub halted_if : Bool → DriverState → Pipe → DriverState
halted_if true driver pipe = with_state driver pipe Halted
halted_if false driver pipe = driver

abbrev pub failed : DriverState → Pipe → ℕ → ℕ → Bool → DriverState
failed driver pipe stream code halted =
    halted_if halted (option_map_or (failed_td driver pipe code halted) (td_tag driver.lines pipe stream) driver) pipe

-- TRANSFER EVENTS

-- a recovery waits for Stop Endpoint on a pipe
abbrev pub is_stop : Stage → Bool
is_stop Stopping = true
is_stop _ = false

abbrev pub is_stopping : DriverState → Pipe → Bool
is_stopping driver pipe = option_map_or (λ recovery. same_pipe recovery.pipe pipe && is_stop recovery.stage) driver.recovery false

-- the ring and the host, once an event said this of a TRB that didn't fail
abbrev pub moved_along : DriverState → Pipe → ℕ → ℕ → ℕ → Meaning → DriverState × Taken
moved_along driver pipe stream pointer residual meaning =
    handed (record driver { lines = lines_by driver.lines pipe stream meaning }) (handing_by driver.lines pipe stream pointer residual meaning)

-- the driver whose ring's consumer stands at the event's TRB, once the event said this of it
abbrev pub told : DriverState → Pipe → ℕ → ℕ → ℕ → ℕ → Meaning → DriverState × Taken
told driver pipe stream pointer residual code (means.Failed halted) = (failed driver pipe stream code halted, Noted)
told driver pipe stream pointer residual code means.Consumed = moved_along driver pipe stream pointer residual means.Consumed
told driver pipe stream pointer residual code means.NotConsumed = moved_along driver pipe stream pointer residual means.NotConsumed
told driver pipe stream pointer residual code means.EndedShort = moved_along driver pipe stream pointer residual means.EndedShort
told driver pipe stream pointer residual code means.Stray = moved_along driver pipe stream pointer residual means.Stray

-- a meaning that is of a TRB
abbrev pub is_told : Meaning → Bool
is_told means.Stray = false
is_told _ = true

-- the event is of this pipe's endpoint, and of the device's slot
abbrev pub is_from : Pipe → ℕ → ℕ → Bool
is_from pipe endpoint slot = endpoint == target_of pipe && slot == SLOT

-- the driver where the event is of a pending TRB, at which the ring's consumer stands then
abbrev pub told_pending : DriverState → ℕ → ℕ → ℕ → Meaning → Pipe → ℕ → DriverState × Taken
told_pending driver pointer residual code meaning pipe stream =
    told (with_told (record driver { lines = stood driver.lines pipe stream pointer }) pipe stream code residual) pipe stream pointer residual code meaning

-- the event is of a consumed TRB that isn't given back: its TD has begun, and may be over by it
abbrev pub is_begun_at : LinesState → Pipe → ℕ → ℕ → Bool
is_begun_at lines pipe stream pointer = is_some (known_consumed_at (places_of pipe) (ring_of lines pipe stream) pointer)

abbrev pub is_noted : Taken → Bool
is_noted Noted = true
is_noted _ = false

-- what the host doesn't wait for is stray
abbrev pub unless_noted : DriverState × Taken → DriverState × Taken
unless_noted made = if is_noted made.1 then strayed made.0 else made

-- The driver where the event is of a consumed TRB: what ends its TD is handed to the host. An error halts the endpoint all the same.
abbrev pub told_begun : DriverState → Pipe → ℕ → ℕ → ℕ → Meaning → DriverState × Taken
told_begun driver pipe stream pointer residual means.Consumed =
    unless_noted (handed driver (handing_by driver.lines pipe stream pointer residual means.Consumed))
told_begun driver pipe stream pointer residual means.EndedShort =
    unless_noted (handed driver (handing_by driver.lines pipe stream pointer residual means.EndedShort))
told_begun driver pipe stream pointer residual (means.Failed halted) = (halted_if halted driver pipe, Noted)
told_begun driver pipe stream pointer residual means.NotConsumed = strayed driver
told_begun driver pipe stream pointer residual means.Stray = strayed driver

abbrev pub told_on : DriverState → ℕ → ℕ → ℕ → Meaning → Pipe → ℕ → DriverState × Taken
told_on driver pointer residual code meaning pipe stream =
    if is_told meaning && is_pending_at driver.lines pipe stream pointer then told_pending driver pointer residual code meaning pipe stream
    else (if is_begun_at driver.lines pipe stream pointer then told_begun driver pipe stream pointer residual meaning else strayed driver)

-- the same of an event from an endpoint and a slot: from another one it is stray
abbrev pub told_from : DriverState → ℕ → ℕ → ℕ → ℕ → ℕ → Pipe → ℕ → DriverState × Taken
told_from driver pointer residual code endpoint slot pipe stream =
    if is_from pipe endpoint slot then told_on driver pointer residual code (meaning pipe (is_stopping driver pipe) code) pipe stream
    else strayed driver

-- the pipe of an endpoint
abbrev pub endpoint_pipe : ℕ → Option Pipe
endpoint_pipe endpoint =
    if endpoint == COMMAND_ENDPOINT then Some Command
    else (if endpoint == STATUS_ENDPOINT then Some Status
    else (if endpoint == DATA_OUT_ENDPOINT then Some DataOut
    else (if endpoint == DATA_IN_ENDPOINT then Some DataIn else None)))

-- TRB Error 5, Invalid Stream Type 10 and Invalid Stream ID 34 may name no TRB, by a pointer 0: the endpoint is halted, and no TD failed
abbrev pub names_none : ℕ → ℕ → ℕ → Bool
names_none pointer code slot = pointer == 0 && ((code == 5 || (code == 10 || code == 34)) && slot == SLOT)

abbrev pub told_nowhere : DriverState → ℕ → ℕ → ℕ → ℕ → DriverState × Taken
told_nowhere driver pointer code endpoint slot =
    if names_none pointer code slot
    then option_map_or (λ pipe. (with_state driver pipe Halted, Noted)) (endpoint_pipe endpoint) (strayed driver) else strayed driver

-- A transfer event, by its pointer, its residual, its code, its endpoint and its slot. It is stray where its pointer is no TRB's
-- of a TD that is pending or begun, where endpoint or slot is another's, and where its code says nothing of a TRB.
abbrev pub transferred : DriverState → ℕ → ℕ → ℕ → ℕ → ℕ → DriverState × Taken
transferred driver pointer residual code endpoint slot =
    option_map_or (λ at. told_from driver pointer residual code endpoint slot at.0 at.1) (spot_at pointer) (told_nowhere driver pointer code endpoint slot)

-- COMMAND COMPLETION EVENTS

-- the recovery goes on as the code of its command asks for
abbrev pub done : DriverState → ℕ → ℕ → Recovery → Told
done driver pointer code recovery =
    by_next driver (record recovery { command = pointer }) code
    (next_by recovery.stage (state_of driver.endpoints recovery.pipe) recovery.again code) []

-- what was made of an event, the driver's answer, and the doorbells
abbrev pub Made : Type 0
Made = DriverState × Taken × List ℕ

abbrev pub with_answer : Taken → Told → Made
with_answer taken (driver, doors) = (driver, taken, doors)

abbrev pub without_doors : DriverState × Taken → Made
without_doors (driver, taken) = (driver, taken, [])

-- A command completion event, by its pointer, its code and its slot. It is stray where no command is pending at its pointer, and where its
-- slot is another's.
abbrev pub commanded : DriverState → ℕ → ℕ → ℕ → Made
commanded driver pointer code slot =
    option_map_or (λ recovery. if slot == SLOT && is_some (pending_place ENGINE_RING_PLACES driver.lines.engine pointer)
    then with_answer Engine (gone_on (done (record driver { lines = completed driver.lines pointer code }) pointer code recovery))
    else without_doors (strayed driver)) driver.recovery (without_doors (strayed driver))

-- EITHER

abbrev pub is_stray : Taken → Bool
is_stray Stray = true
is_stray _ = false

-- after an event that wasn't stray the next recovery may begin
abbrev pub next_begun : DriverState × Taken → Made
next_begun (driver, taken) = if is_stray taken then (driver, taken, []) else with_answer taken (gone_on (driver, []))

abbrev pub event_by : DriverState → Event → Made
event_by driver (Transfer pointer residual code endpoint slot) = next_begun (transferred driver pointer residual code endpoint slot)
event_by driver (CommandCompletion pointer code slot) = commanded driver pointer code slot

-- THE STATE OF AN ENDPOINT

abbrev pub is_asking : Recovery → Pipe → Bool
is_asking recovery pipe = same_pipe recovery.pipe pipe && asks recovery.stage
  where
    asks : Stage → Bool
    asks Asking = true
    asks _ = false

-- What it asks for: where the endpoint runs, Stop Endpoint once more, and where that was asked for before, the pipe is given up.
abbrev pub next_told : Bool → EndpointState → Next
next_told asked Running = if asked then nexts.Lose else nexts.Again
next_told asked Halted = nexts.Reset
next_told asked Stopped = nexts.Go

-- the code of Stop Endpoint was Context State Error, 19
abbrev pub asked_state : DriverState → EndpointState → Recovery → Told
asked_state driver state recovery = by_next driver (record recovery { stage = Stopping; asked = true }) 19 (next_told recovery.asked state) []

abbrev pub state_for : DriverState → Pipe → EndpointState → Recovery → Told
state_for driver pipe state recovery = if is_asking recovery pipe then asked_state driver state recovery else (driver, [])

abbrev pub state_taken : DriverState → Pipe → EndpointState → Told
state_taken driver pipe state = option_map_or (state_for driver pipe state) driver.recovery (driver, [])

-- the state of an endpoint, as its context has it, is handed in
abbrev pub stated : DriverState → Pipe → EndpointState → Told
stated driver pipe state = gone_on (state_taken (with_state driver pipe state) pipe state)

-- the pipe whose endpoint's state is asked for
abbrev pub wanted_state : DriverState → Option Pipe
wanted_state driver =
    option_map_or (λ recovery. if is_asking recovery recovery.pipe then Some recovery.pipe else None) driver.recovery None

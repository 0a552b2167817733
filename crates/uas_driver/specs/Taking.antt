-- What the driver makes of an event (xHCI 1.2, 4.10.1 and table 6-90): the rings as the event leaves them, what the host is handed for it,
-- and what of it is kept.
use Rattle.std.specs.Prelude.{ℕ, Bool, true, false, if◌then◌else◌, slice_set, Option, Some, None, option_and_then}
use Rattle.cycle_ring.specs.Items.{known_front_of}
use Rattle.uas_profile.specs.declared.Pipe.{Pipe}
use Rattle.uas_profile.specs.declared.Pipe.TheVariants.{Command, Status, DataIn, DataOut}
use Rattle.uas_profile.specs.declared.TheConstants.{SHORT_PACKET, SUCCESS}
use Rattle.stream_array.specs.Map.{places_of}
use Rattle.stream_array.specs.Rings.{LinesState, ring_of}
use Rattle.uas_host.specs.Events.{Sides, ended_at, handled_td}
use Rattle.uas_host.specs.declared.Handled.{Handled}
use Rattle.uas_host.specs.declared.Handled.TheVariants as hosts
use Rattle.uas_driver.specs.Counted.{counted}
use Rattle.uas_driver.specs.Driver.{DriverState}
use Rattle.uas_driver.specs.Meaning.{moved_by}
use Rattle.uas_driver.specs.Settled.{all_passed, last_address, stepped}
use Rattle.uas_driver.specs.declared.Meaning.{Meaning}
use Rattle.uas_driver.specs.declared.Meaning.TheVariants as means
use Rattle.uas_driver.specs.declared.Taken.{Taken}
use Rattle.uas_driver.specs.declared.Taken.TheVariants.{Matched, Engine, Noted, Stray}
use Rattle.uas_driver.specs.declared.taking.Handing.{Handing}

-- a stray event changes nothing, but that it is counted
abbrev pub strayed : DriverState → DriverState × Taken
strayed driver = (record driver { strays = counted driver.strays }, Stray)

-- THE RINGS

abbrev pub is_data : Pipe → Bool
is_data Command = false
is_data Status = false
is_data DataIn = true
is_data DataOut = true

-- The rings once an event said this of the TRB at which the ring's consumer stands. A stream has one TD at a time on a data pipe, so the
-- TD's end is the ring's.
abbrev pub lines_by : LinesState → Pipe → ℕ → Meaning → LinesState
lines_by lines pipe stream means.Consumed = stepped lines pipe stream
lines_by lines pipe stream means.NotConsumed = lines
lines_by lines pipe stream means.EndedShort = if is_data pipe then all_passed lines pipe stream else stepped lines pipe stream
lines_by lines pipe stream (means.Failed halted) = lines
lines_by lines pipe stream means.Stray = lines

-- WHAT THE HOST IS HANDED

-- the code by which the host knows that a TD is done: of a status, whose information unit tells its own length, Short Packet
abbrev pub done_code : Pipe → ℕ
done_code Command = SUCCESS
done_code Status = SHORT_PACKET
done_code DataIn = SUCCESS
done_code DataOut = SUCCESS

-- the event that the host is handed, by the address of its TRB, its residual and its code. A status with Success fills its TRB.
abbrev pub handing_by : LinesState → Pipe → ℕ → ℕ → ℕ → Meaning → Option Handing
handing_by lines pipe stream pointer residual means.Consumed = Some (record { pointer = pointer; residual = 0; code = done_code pipe })
handing_by lines pipe stream pointer residual means.NotConsumed = None
handing_by lines pipe stream pointer residual means.EndedShort =
    if is_data pipe then Some (record { pointer = last_address lines pipe stream; residual = 0; code = SUCCESS })
    else Some (record { pointer = pointer; residual = residual; code = SHORT_PACKET })
handing_by lines pipe stream pointer residual (means.Failed halted) = None
handing_by lines pipe stream pointer residual means.Stray = None

-- what the host made of it; what it doesn't wait for is noted
abbrev pub taken : Handled → Taken
taken (hosts.Matched tag) = Matched tag
taken hosts.Engine = Engine
taken hosts.Stray = Noted

abbrev pub with_sides : DriverState → Sides × Handled → DriverState × Taken
with_sides driver made = (record driver { host = made.0.host; lines = made.0.lines }, taken made.1)

abbrev pub sides_of : DriverState → Sides
sides_of driver = record { host = driver.host; lines = driver.lines }

abbrev pub handed : DriverState → Option Handing → DriverState × Taken
handed driver None = (driver, Noted)
handed driver (Some event) =
    with_sides driver (handled_td (sides_of driver) driver.frames event.pointer event.residual event.code (ended_at driver.lines event.pointer))

-- BYTES

abbrev pub with_moved : DriverState → ℕ → Option ℕ → DriverState
with_moved driver tag None = driver
with_moved driver tag (Some bytes) = record driver { moved = slice_set driver.moved tag bytes }

-- how many bytes were moved, by an event of the TRB at which the ring's consumer stands
abbrev pub with_told : DriverState → Pipe → ℕ → ℕ → ℕ → DriverState
with_told driver pipe stream code residual =
    if is_data pipe
    then with_moved driver stream (option_and_then (λ front. moved_by front.1 code residual) (known_front_of (places_of pipe) (ring_of driver.lines pipe stream)))
    else driver

-- Commands on endpoints: Stop Endpoint, Reset Endpoint and Set TR Dequeue Pointer (xHCI 1.2, 4.6.8 to 4.6.10). An answer None: memory isn't
-- there, and nothing behind that is done.
use Rattle.std.specs.Prelude.{ℕ, zero, suc, ◌-◌, ◌%◌, ◌==◌, Bool, true, false, not, ◌&&◌, ◌||◌, if◌then◌else◌, Option, Some, None, is_some, option_map}
use Rattle.guest_memory.specs.Bytes.{Memory, is_there, written}
use Rattle.guest_memory.specs.declared.rings.context.Home.{Home}
use Rattle.guest_memory.specs.declared.rings.context.Home.TheVariants as home
use Rattle.guest_memory.specs.declared.rings.cursor.Cursor.{Cursor}
use Rattle.guest_memory.specs.rings.Ends.{home_bytes}
use Rattle.guest_pipes.specs.declared.consumer.Consumer.{Consumer}
use Rattle.guest_pipes.specs.declared.consumer.EndpointState.{EndpointState}
use Rattle.guest_pipes.specs.declared.consumer.EndpointState.TheVariants.{Disabled, Running, Halted, Stopped, Error}
use Rattle.guest_pipes.specs.Gate.{stop_looked}
use Rattle.guest_pipes.specs.Pipe.{PipeState, has_stream, loaded, progress_on, ring_home, stopped}
use Rattle.guest_pipes.specs.Step.{World as RingWorld, has_place}
use Rattle.guest_transfers.specs.declared.control.StreamPipe.{StreamPipe}
use Rattle.guest_transfers.specs.declared.control.StreamPipe.TheVariants.{Status, DataOut, DataIn}
use Rattle.guest_transfers.specs.Orders.{command_forgotten, command_stopped, dequeue_moved, lone_forgotten, pipe_of, pipe_reset, with_pipe}
use Rattle.guest_transfers.specs.State.{TransfersState}
use Rattle.xhci_control.specs.Steps.{control_stopped as control_stop, forgotten as control_forgotten, halt_reset, stopped as control_stopped}
use Rattle.xhci_machine.specs.Bus.{bulk_forgotten, forgotten_unless}
use Rattle.xhci_machine.specs.declared.Machine.{Machine}
use Rattle.xhci_machine.specs.declared.command.Order.{Order}
use Rattle.xhci_machine.specs.declared.command.Order.TheVariants.{Reset, Stop, SetDequeue}
use Rattle.xhci_machine.specs.declared.orders.Endpoint.{Endpoint}
use Rattle.xhci_machine.specs.declared.orders.Endpoint.TheVariants.{Control, Command, Streams}
use Rattle.xhci_machine.specs.declared.ring.Ended.{Ended}
use Rattle.xhci_machine.specs.Contexts.{context_wanted}
use Rattle.xhci_machine.specs.Ring.{ended, pointer_home}
use Rattle.xhci_machine.specs.Turns.{World}

-- ENDPOINTS

-- the endpoint of an ID (4.5.1)
unfoldable pub endpoint_of : ℕ → Option Endpoint
endpoint_of id =
    if id == 1 then Some Control
    else if id == 2 then Some Command
    else if id == 3 then Some (Streams Status)
    else if id == 4 then Some (Streams DataOut)
    else if id == 5 then Some (Streams DataIn)
    else None

abbrev pub state_in : Machine → Endpoint → EndpointState
state_in m Control = m.control.consumer.state
state_in m Command = m.transfers.command.state
state_in m (Streams name) = (pipe_of m.transfers name).state

-- one ring of an endpoint, and where its end is kept
abbrev pub consumer_in : Machine → Endpoint → ℕ → Consumer
consumer_in m Control stream = m.control.consumer
consumer_in m Command stream = m.transfers.command
consumer_in m (Streams name) stream = loaded (pipe_of m.transfers name) stream

abbrev pub home_in : Machine → Endpoint → ℕ → Home
home_in m Control stream = home.Endpoint m.control.home
home_in m Command stream = home.Endpoint (pointer_home m.slot.context 2)
home_in m (Streams name) stream = ring_home (pipe_of m.transfers name) stream

-- STOP ENDPOINT (4.6.9)

unfoldable pub stopped_on : Machine → Endpoint → Machine
stopped_on m Control = record m { control = control_stopped m.control }
stopped_on m Command = record m { transfers = command_stopped m.transfers }
stopped_on m (Streams name) = record m { transfers = with_pipe m.transfers name (stopped (pipe_of m.transfers name)) }

-- of so many streams from one on the first whose TD in front was begun
abbrev pub begun_among : PipeState → ℕ → ℕ → Option ℕ
begun_among p zero stream = None
begun_among p (suc left) stream = if (progress_on p stream).begun then Some stream else begun_among p left (suc stream)

unfoldable pub next_begun : PipeState → ℕ → Option ℕ
next_begun p from = begun_among p (256 - from) from

-- an endpoint without streams has one ring
abbrev pub alone : Bool → ℕ → Option ℕ
alone begun from = if begun && from == 0 then Some 0 else None

-- the first ring from one on whose TD in front was begun
abbrev pub begun_in : Machine → Endpoint → ℕ → Option ℕ
begun_in m Control from = alone m.control.consumer.progress.begun from
begun_in m Command from = alone m.transfers.command.progress.begun from
begun_in m (Streams name) from = next_begun (pipe_of m.transfers name) from

abbrev pub ring_of : World → Endpoint → ℕ → RingWorld
ring_of w endpoint stream = record { memory = w.memory; events = w.events; consumer = consumer_in w.machine endpoint stream }

abbrev pub with_ring : World → RingWorld → World
with_ring w ring = record w { memory = ring.memory; events = ring.events }

-- the ring once that is posted which Stop Endpoint posts of it; endpoint 0 has a Data Stage beside Normal TRBs
abbrev pub ring_stopped : World → Endpoint → ℕ → Option RingWorld
ring_stopped w Control stream = control_stop (record { memory = w.memory; events = w.events; pipe = w.machine.control })
ring_stopped w Command stream = stop_looked (ring_of w Command stream) (home_in w.machine Command stream)
ring_stopped w (Streams name) stream = stop_looked (ring_of w (Streams name) stream) (home_in w.machine (Streams name) stream)

-- what is posted of a ring whose TD in front was begun
unfoldable pub begun_told : World → Endpoint → ℕ → Option World
begun_told w endpoint stream =
    if has_place w.memory w.events
    then option_map (with_ring w) (ring_stopped w endpoint stream) else None

-- the stream that is looked at next
abbrev pub with_next : World → Option ℕ → World
with_next w stream = record w { machine = record w.machine { commands = record w.machine.commands { stopping = stream } } }

abbrev pub told_or_not : World → Option World → World × Option (Option ℕ)
told_or_not w None = (w, None)
told_or_not w (Some after) = (after, Some None)

-- such a ring is told of in a step of its own, which isn't the command's end; where there is none the command ends with Success
abbrev pub told_from : World → Endpoint → Option ℕ → World × Option (Option ℕ)
told_from w endpoint None = (with_next w None, Some (Some 1))
told_from w endpoint (Some stream) = told_or_not (with_next w (Some (suc stream))) (begun_told (with_next w (Some (suc stream))) endpoint stream)

unfoldable pub stop_told_from : World → Endpoint → ℕ → World × Option (Option ℕ)
stop_told_from w endpoint from = told_from w endpoint (begun_in w.machine endpoint from)

abbrev pub stop_in : World → Endpoint → EndpointState → World × Option (Option ℕ)
stop_in w endpoint Disabled = (w, Some (Some 12))
stop_in w endpoint Running = stop_told_from (record w { machine = stopped_on w.machine endpoint }) endpoint 0
stop_in w endpoint Halted = (w, Some (Some 19))
stop_in w endpoint Stopped = (w, Some (Some 19))
stop_in w endpoint Error = (w, Some (Some 19))

abbrev pub stop_by : World → Endpoint → Option ℕ → World × Option (Option ℕ)
stop_by w endpoint (Some from) = stop_told_from w endpoint from
stop_by w endpoint None = stop_in w endpoint (state_in w.machine endpoint)

-- the command's code once it is over
unfoldable pub stop_done : World → Endpoint → World × Option (Option ℕ)
stop_done w endpoint = stop_by w endpoint w.machine.commands.stopping

-- RESET ENDPOINT (4.6.8)

-- from halted to stopped; with TSP what is opaque stays
unfoldable pub halt_ended : Machine → Endpoint → Bool → Machine
halt_ended m Control keeps = record m { control = halt_reset keeps m.control }
halt_ended m Command true = record m { transfers = command_stopped m.transfers }
halt_ended m Command false = record m { transfers = command_forgotten m.transfers Stopped }
halt_ended m (Streams name) keeps = forgotten_unless keeps name (record m { transfers = pipe_reset keeps m.transfers name })

abbrev pub reset_in : Machine → Endpoint → Bool → EndpointState → Machine × ℕ
reset_in m endpoint keeps Disabled = (m, 12)
reset_in m endpoint keeps Running = (m, 19)
reset_in m endpoint keeps Halted = (halt_ended m endpoint keeps, 1)
reset_in m endpoint keeps Stopped = (m, 19)
reset_in m endpoint keeps Error = (m, 19)

abbrev pub reset_done : Machine → Endpoint → Bool → Machine × ℕ
reset_done m endpoint keeps = reset_in m endpoint keeps (state_in m endpoint)

-- SET TR DEQUEUE POINTER (4.6.10)

-- the pointer of an endpoint without streams, in its context
unfoldable pub pointer_set : Memory → ℕ → Cursor → Option Memory
pointer_set memory at cursor = if is_there memory at 8 then Some (written memory at (home_bytes (home.Endpoint at) 0 cursor)) else None

abbrev pub with_success : Machine → Memory → Memory × (Machine × ℕ)
with_success m memory = (memory, (m, 1))

abbrev pub stream_success : Machine → Memory × TransfersState → Memory × (Machine × ℕ)
stream_success m after = (after.0, (record m { transfers = after.1 }, 1))

-- the pointer of a stream that is there; a pipe without streams has one ring
unfoldable pub stream_moved : Memory → Machine → StreamPipe → ℕ → Cursor → ℕ → ℕ → Option (Memory × (Machine × ℕ))
stream_moved memory m name at cursor kind stream =
    if has_stream (pipe_of m.transfers name) stream
    then option_map (stream_success m) (dequeue_moved memory m.transfers name stream cursor (kind % 8))
    else if stream == 0 && not (has_stream (pipe_of m.transfers name) 1)
    then option_map (with_success (bulk_forgotten name (record m { transfers = lone_forgotten m.transfers name }))) (pointer_set memory at cursor)
    else Some (memory, (m, 34))

unfoldable pub moved : Memory → Machine → Endpoint → ℕ → Cursor → ℕ → ℕ → Option (Memory × (Machine × ℕ))
moved memory m Control at cursor kind stream =
    option_map (with_success (record m { control = control_forgotten m.control })) (pointer_set memory at cursor)
moved memory m Command at cursor kind stream =
    option_map (with_success (record m { transfers = command_forgotten m.transfers Stopped })) (pointer_set memory at cursor)
moved memory m (Streams name) at cursor kind stream = stream_moved memory m name at cursor kind stream

-- of an endpoint that is stopped or in error
abbrev pub dequeue_in : Memory → Machine → Endpoint → ℕ → Cursor → ℕ → ℕ → EndpointState → Option (Memory × (Machine × ℕ))
dequeue_in memory m endpoint id cursor kind stream Disabled = Some (memory, (m, 12))
dequeue_in memory m endpoint id cursor kind stream Running = Some (memory, (m, 19))
dequeue_in memory m endpoint id cursor kind stream Halted = Some (memory, (m, 19))
dequeue_in memory m endpoint id cursor kind stream Stopped = moved memory m endpoint (pointer_home m.slot.context id) cursor kind stream
dequeue_in memory m endpoint id cursor kind stream Error = moved memory m endpoint (pointer_home m.slot.context id) cursor kind stream

abbrev pub dequeue_done : Memory → Machine → Endpoint → ℕ → Cursor → ℕ → ℕ → Option (Memory × (Machine × ℕ))
dequeue_done memory m endpoint id cursor kind stream = dequeue_in memory m endpoint id cursor kind stream (state_in m endpoint)

-- A COMMAND ON AN ENDPOINT

abbrev pub with_reset : World → Machine × ℕ → World × Option (Option ℕ)
with_reset w after = (record w { machine = after.0 }, Some (Some after.1))

abbrev pub with_dequeue : World → Option (Memory × (Machine × ℕ)) → World × Option (Option ℕ)
with_dequeue w None = (w, None)
with_dequeue w (Some after) = (record w { memory = after.0; machine = after.1.0 }, Some (Some after.1.1))

-- its code once it is over
unfoldable pub order_coded : World → Endpoint → ℕ → Order → World × Option (Option ℕ)
order_coded w endpoint id Stop = stop_done w endpoint
order_coded w endpoint id (Reset keeps) = with_reset w (reset_done w.machine endpoint keeps)
order_coded w endpoint id (SetDequeue cursor kind stream) = with_dequeue w (dequeue_done w.memory w.machine endpoint id cursor kind stream)

abbrev pub with_slot : ℕ → World × Option (Option ℕ) → World × Option (Option Ended)
with_slot slot (w, None) = (w, None)
with_slot slot (w, Some None) = (w, Some None)
with_slot slot (w, Some (Some code)) = (w, Some (Some (ended code slot)))

-- of one of the disk's endpoints once the device context is tested, as it may change the endpoint's state there
abbrev pub order_on : World → ℕ → ℕ → Order → Option Endpoint → World × Option (Option Ended)
order_on w slot id order None = (w, Some (Some (ended 12 slot)))
order_on w slot id order (Some endpoint) =
    if is_some (context_wanted w.memory w.machine.slot) then (w, None) else with_slot slot (order_coded w endpoint id order)

-- another slot than 1, or one that isn't enabled, has no endpoints
unfoldable pub order_done : World → ℕ → ℕ → Order → World × Option (Option Ended)
order_done w slot id order =
    if not (slot == 1) || not (is_some w.machine.slot.state) then (w, Some (Some (ended 11 slot))) else order_on w slot id order (endpoint_of id)

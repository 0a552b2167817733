-- The first range of memory that the command in front of the command ring lacks, in the order of `front_taken` (xHCI 1.2, 4.6).
use Rattle.std.specs.Prelude.{ℕ, ◌==◌, not, ◌&&◌, if◌then◌else◌, Option, Some, None, is_some}
use Rattle.guest_memory.specs.Bytes.{Memory}
use Rattle.guest_memory.specs.declared.rings.context.Home.TheVariants as home
use Rattle.guest_memory.specs.declared.rings.cursor.Cursor.{Cursor}
use Rattle.guest_memory.specs.declared.rings.wanting.Range.{Range}
use Rattle.guest_memory.specs.declared.rings.words.Words.{Words}
use Rattle.guest_memory.specs.rings.Ends.{fetched}
use Rattle.guest_memory.specs.rings.Wanted.{look_wanted, missing}
use Rattle.guest_pipes.specs.declared.consumer.EndpointState.{EndpointState}
use Rattle.guest_pipes.specs.declared.consumer.EndpointState.TheVariants.{Disabled, Running, Halted, Stopped, Error}
use Rattle.guest_pipes.specs.Gate.{is_running}
use Rattle.guest_pipes.specs.Pipe.{has_stream}
use Rattle.guest_pipes.specs.Wanted.{front_wanted, ring_wanted}
use Rattle.guest_transfers.specs.declared.control.StreamPipe.{StreamPipe}
use Rattle.guest_transfers.specs.Orders.{pipe_of}
use Rattle.xhci_slots.specs.Slots.{World as SlotWorld}
use Rattle.xhci_slots.specs.Wanted.{slot_wanted}
use Rattle.xhci_machine.specs.declared.Machine.{Machine}
use Rattle.xhci_machine.specs.declared.command.Command.{Command}
use Rattle.xhci_machine.specs.declared.command.Command.TheVariants.{Link, NoOp, OnSlot, OnEndpoint, Foreign}
use Rattle.xhci_machine.specs.declared.command.Order.{Order}
use Rattle.xhci_machine.specs.declared.command.Order.TheVariants.{Reset, Stop, SetDequeue}
use Rattle.xhci_machine.specs.declared.orders.Endpoint.{Endpoint}
use Rattle.xhci_machine.specs.declared.orders.Endpoint.TheVariants.{Control, Command as CommandPipe, Streams}
use Rattle.xhci_machine.specs.Commands.{command_in}
use Rattle.xhci_machine.specs.Orders.{begun_in, endpoint_of, state_in}
use Rattle.xhci_machine.specs.Ring.{command_cursor, pointer_home}

abbrev pub slot_world : Memory → Machine → SlotWorld
slot_world memory m = record { memory = memory; slot = m.slot }

-- STOP ENDPOINT

-- a ring whose TD in front was begun: where its end is, and the TRB there
abbrev pub begun_wanted : Memory → Machine → Endpoint → ℕ → Option Range
begun_wanted memory m Control stream = look_wanted memory (home.Endpoint m.control.home)
begun_wanted memory m CommandPipe stream = look_wanted memory (home.Endpoint (pointer_home m.slot.context 2))
begun_wanted memory m (Streams name) stream = ring_wanted memory (pipe_of m.transfers name) stream

abbrev pub begun_or_none : Memory → Machine → Endpoint → Option ℕ → Option Range
begun_or_none memory m endpoint None = None
begun_or_none memory m endpoint (Some stream) = begun_wanted memory m endpoint stream

-- the next such ring from a stream on
abbrev pub stopping_wanted : Memory → Machine → Endpoint → ℕ → Option Range
stopping_wanted memory m endpoint from = begun_or_none memory m endpoint (begun_in m endpoint from)

-- one that is under way goes on; one that isn't looks at a running endpoint alone
abbrev pub stop_wanted_by : Memory → Machine → Endpoint → Option ℕ → Option Range
stop_wanted_by memory m endpoint (Some from) = stopping_wanted memory m endpoint from
stop_wanted_by memory m endpoint None = if is_running (state_in m endpoint) then stopping_wanted memory m endpoint 0 else None

abbrev pub stop_wanted : Memory → Machine → Endpoint → Option Range
stop_wanted memory m endpoint = stop_wanted_by memory m endpoint m.commands.stopping

-- SET TR DEQUEUE POINTER

-- the pointer of an endpoint without streams, in its context
abbrev pub pointer_wanted : Memory → ℕ → Option Range
pointer_wanted memory at = missing memory (record { at = at; count = 8 }) None

-- of a stream that is there also the TRB in front; a pipe without streams has one ring
abbrev pub stream_wanted : Memory → Machine → StreamPipe → ℕ → ℕ → Option Range
stream_wanted memory m name at stream =
    if has_stream (pipe_of m.transfers name) stream then front_wanted memory (pipe_of m.transfers name) stream
    else if stream == 0 && not (has_stream (pipe_of m.transfers name) 1) then pointer_wanted memory at
    else None

abbrev pub moved_wanted : Memory → Machine → Endpoint → ℕ → ℕ → Option Range
moved_wanted memory m Control at stream = pointer_wanted memory at
moved_wanted memory m CommandPipe at stream = pointer_wanted memory at
moved_wanted memory m (Streams name) at stream = stream_wanted memory m name at stream

-- an endpoint that is stopped or in error
abbrev pub dequeue_wanted_in : Memory → Machine → Endpoint → ℕ → ℕ → EndpointState → Option Range
dequeue_wanted_in memory m endpoint at stream Disabled = None
dequeue_wanted_in memory m endpoint at stream Running = None
dequeue_wanted_in memory m endpoint at stream Halted = None
dequeue_wanted_in memory m endpoint at stream Stopped = moved_wanted memory m endpoint at stream
dequeue_wanted_in memory m endpoint at stream Error = moved_wanted memory m endpoint at stream

abbrev pub dequeue_wanted : Memory → Machine → Endpoint → ℕ → ℕ → Option Range
dequeue_wanted memory m endpoint at stream = dequeue_wanted_in memory m endpoint at stream (state_in m endpoint)

-- A COMMAND

abbrev pub order_on_wanted : Memory → Machine → ℕ → Endpoint → Order → Option Range
order_on_wanted memory m id endpoint Stop = stop_wanted memory m endpoint
order_on_wanted memory m id endpoint (Reset keeps) = None
order_on_wanted memory m id endpoint (SetDequeue cursor kind stream) =
    dequeue_wanted memory m endpoint (pointer_home m.slot.context id) stream

abbrev pub order_wanted : Memory → Machine → ℕ → Order → Option Endpoint → Option Range
order_wanted memory m id order None = None
order_wanted memory m id order (Some endpoint) = order_on_wanted memory m id endpoint order

-- another slot than 1 has nothing, and one that isn't enabled has no endpoints
abbrev pub taken_wanted : Memory → Machine → Command → Option Range
taken_wanted memory m (Link pointer toggle ioc) = None
taken_wanted memory m NoOp = None
taken_wanted memory m (OnSlot slot command) =
    if slot == 1 then slot_wanted (slot_world memory m) m.registers.contexts command else None
taken_wanted memory m (OnEndpoint slot id order) =
    if slot == 1 && is_some m.slot.state then order_wanted memory m id order (endpoint_of id) else None
taken_wanted memory m Foreign = None

-- by the words where the ring stands: the TRB itself where a byte of it isn't there
abbrev pub words_wanted : Memory → Machine → Cursor → Option (Option Words) → Option Range
words_wanted memory m cursor None = Some (record { at = cursor.place; count = 16 })
words_wanted memory m cursor (Some None) = None
words_wanted memory m cursor (Some (Some words)) = taken_wanted memory m (command_in words)

abbrev pub command_wanted : Memory → Machine → Option Range
command_wanted memory m = words_wanted memory m (command_cursor m) (fetched memory (command_cursor m))

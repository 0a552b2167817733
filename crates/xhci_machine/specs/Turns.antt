-- What a turn of a round leaves: interrupts, endpoints' states in their contexts, Event Ring Full Error, and the port's event (xHCI 1.2, 4.9.4,
-- 4.17, 4.19.2 and 6.2.3). The Bool: false where memory isn't there, and nothing behind that is done.
use Rattle.std.specs.Prelude.{ℕ, ◌-◌, ◌==◌, Bool, true, false, not, ◌&&◌, ◌||◌, if◌then◌else◌, Option, Some, None}
use Rattle.guest_memory.specs.Bytes.{Memory}
use Rattle.guest_pipes.specs.declared.acted.Acted.{Acted}
use Rattle.guest_pipes.specs.declared.acted.Acted.TheVariants.{Off, Idle, Full, Emptied, Waits, Worked}
use Rattle.guest_pipes.specs.declared.consumer.EndpointState.{EndpointState}
use Rattle.guest_pipes.specs.declared.consumer.EndpointState.TheVariants.{Disabled, Running, Halted, Stopped, Error}
use Rattle.guest_pipes.specs.Step.{has_place}
use Rattle.guest_memory.specs.declared.rings.event.Event.TheVariants.{PortChange}
use Rattle.guest_memory.specs.rings.Events.{EventEnd, has_room}
use Rattle.xhci_slots.specs.declared.contexts.EndpointState.{EndpointState as ContextState}
use Rattle.xhci_slots.specs.declared.contexts.EndpointState.TheVariants as context
use Rattle.xhci_slots.specs.declared.contexts.Number.{Number}
use Rattle.xhci_slots.specs.declared.contexts.Number.TheVariants.{ControlPipe, CommandPipe, StatusPipe, DataOutPipe, DataInPipe}
use Rattle.xhci_registers.specs.Signals.{detecting, raised, told as port_told}
use Rattle.xhci_slots.specs.declared.Slot.{Slot}
use Rattle.xhci_slots.specs.Slots.{World as SlotWorld, told}
use Rattle.xhci_machine.specs.declared.Machine.{Machine}
use Rattle.xhci_machine.specs.declared.states.States.{States}
use Rattle.xhci_machine.specs.Interrupter.{event_posted, full_told, tells_full}
use Rattle.xhci_machine.specs.Ring.{states_of}

-- all that a turn may change but the budget
pub record World : Type 0 where
  pub memory : Memory
  pub events : EventEnd
  pub machine : Machine

-- STATES IN CONTEXTS

-- a state as a context has it (6.2.3)
abbrev pub context_state : EndpointState → ContextState
context_state Disabled = context.Disabled
context_state Running = context.Running
context_state Halted = context.Halted
context_state Stopped = context.Stopped
context_state Error = context.Error

abbrev pub state_number : EndpointState → ℕ
state_number Disabled = 0
state_number Running = 1
state_number Halted = 2
state_number Stopped = 3
state_number Error = 4

abbrev pub same_state : EndpointState → EndpointState → Bool
same_state was now = state_number was == state_number now

abbrev pub told_or : Memory → Option SlotWorld → Memory × Bool
told_or memory None = (memory, false)
told_or memory (Some world) = (world.memory, true)

-- a state that changed is told in the endpoint's context
unfoldable pub state_told : Memory → Slot → Number → EndpointState → EndpointState → Memory × Bool
state_told memory slot number was now =
    if same_state was now then (memory, true)
    else told_or memory (told (record { memory = memory; slot = slot }) number (context_state now))

abbrev pub then_told : Slot → Number → EndpointState → EndpointState → Memory × Bool → Memory × Bool
then_told slot number was now (memory, false) = (memory, false)
then_told slot number was now (memory, true) = state_told memory slot number was now

-- those of the pipes behind endpoint 0's, in the order of their numbers
abbrev pub pipes_told : Slot → States → States → Memory × Bool → Memory × Bool
pipes_told slot was now after =
    then_told slot DataInPipe was.data_in now.data_in
    (then_told slot DataOutPipe was.data_out now.data_out
    (then_told slot StatusPipe was.status now.status
    (then_told slot CommandPipe was.command now.command after)))

unfoldable pub states_told : Memory → Slot → States → States → Memory × Bool
states_told memory slot was now = pipes_told slot was now (state_told memory slot ControlPipe was.control now.control)

-- WHAT A STEP LEFT

-- an interrupt where an event asked for one
abbrev pub interrupted : Bool → Machine → Machine
interrupted true m = record m { registers = raised m.registers }
interrupted false m = m

-- the contexts have these states; where memory wasn't there for one, all that changed are told again
abbrev pub told_if : Bool → States → Machine → Machine
told_if true states m = record m { told = states }
told_if false states m = m

abbrev pub with_told : Machine → EventEnd → Memory × Bool → World × Bool
with_told m events after =
    let left = told_if after.1 (states_of m) (interrupted events.asks m) in
    (record { memory = after.0; events = record events { asks = false }; machine = left }, after.1)

unfoldable pub settled : World → World × Bool
settled w = with_told w.machine w.events (states_told w.memory w.machine.slot w.machine.told (states_of w.machine))

-- Event Ring Full Error is told once
abbrev pub full_noted : Machine → Bool → Machine
full_noted m last = record m { interrupts = record m.interrupts { told_full = m.interrupts.told_full || last } }

abbrev pub with_events : Machine → Memory × EventEnd → World
with_events m after = record { memory = after.0; events = after.1; machine = m }

abbrev pub full_posted : World → World
full_posted w =
    with_events (full_noted w.machine (w.events.free == 1)) (full_told (tells_full w.machine.interrupts w.events) w.memory w.events)

abbrev pub has_full : World → Bool
has_full w = not (tells_full w.machine.interrupts w.events) || has_place w.memory w.events

-- what a step did is settled
unfoldable pub noted : World → Acted → World × Bool
noted w Off = (w, true)
noted w Idle = (w, true)
noted w Full = if has_full w then settled (full_posted w) else (full_posted w, false)
noted w Emptied = settled w
noted w Waits = (w, true)
noted w Worked = settled w

-- and counts where it changed something
abbrev pub left_after : Acted → ℕ → ℕ
left_after Off left = left
left_after Idle left = left
left_after Full left = left
left_after Emptied left = left - 1
left_after Waits left = left
left_after Worked left = left - 1

-- THE PORT

abbrev pub detected : World → World
detected w = record w { machine = record w.machine { registers = detecting w.machine.registers } }

-- the Port Status Change Event of port 2, which isn't owed any more
abbrev pub port_posted : World → World
port_posted w =
    with_events (record w.machine { registers = port_told w.machine.registers }) (event_posted w.memory w.events (PortChange 2))

unfoldable pub told_of_port : World → World × Bool
told_of_port w =
    if not w.machine.registers.port.owes_event then (w, true)
    else if not (has_room w.events) then noted w Full
    else if has_place w.memory w.events then noted (port_posted w) Worked
    else (w, false)

-- the disk is detected, or its port's change is told
abbrev pub port_turned : World → World × Bool
port_turned w = told_of_port (detected w)

-- whether the turn was a step
abbrev pub tells_port : World → Bool
tells_port w = (detecting w.machine.registers).port.owes_event && (has_room w.events && has_place w.memory w.events)

-- The command ring: where it stands, its events, and what a command on the slot makes of the whole controller (xHCI 1.2, 4.6 and 4.9.3).
use Rattle.std.specs.Prelude.{ℕ, ◌+◌, ◌*◌, ◌%◌, ◌^◌, ◌==◌, min, Bool, true, false, not, ◌&&◌, ◌||◌, if◌then◌else◌, Option, Some, None, option_map}
use Rattle.guest_memory.specs.Bytes.{Memory}
use Rattle.guest_memory.specs.declared.rings.cursor.Cursor.{Cursor}
use Rattle.guest_transfers.specs.declared.control.StreamPipe.{StreamPipe}
use Rattle.guest_transfers.specs.declared.control.StreamPipe.TheVariants.{Status, DataOut, DataIn}
use Rattle.guest_transfers.specs.Orders.{command_configured, command_disabled, pipe_added}
use Rattle.xhci_control.specs.Steps.{configured as control_configured, disabled as control_disabled}
use Rattle.xhci_slots.specs.declared.Change.{Change}
use Rattle.xhci_slots.specs.declared.Change.TheVariants.{Kept, Disabled, Set}
use Rattle.xhci_slots.specs.declared.Changes.{Changes}
use Rattle.xhci_slots.specs.declared.Code.{Code}
use Rattle.xhci_slots.specs.declared.Code.TheVariants.{Success, NoSlotsAvailable, SlotNotEnabled, ParameterError, ContextStateError}
use Rattle.xhci_slots.specs.declared.Done.{Done}
use Rattle.xhci_slots.specs.declared.SlotCommand.{SlotCommand}
use Rattle.xhci_slots.specs.declared.SlotCommand.TheVariants.{Enable, Disable, Address, Configure, Evaluate, Reset}
use Rattle.xhci_slots.specs.declared.contexts.InputContext.{InputContext}
use Rattle.xhci_slots.specs.declared.contexts.SlotState.{SlotState}
use Rattle.xhci_slots.specs.contexts.Inputs.{input_at, is_bad_address}
use Rattle.xhci_slots.specs.Slots.{World as SlotWorld, executed, may_address}
use Rattle.xhci_registers.specs.Writes.{has_slots}
use Rattle.xhci_machine.specs.declared.Machine.{Machine}
use Rattle.xhci_machine.specs.declared.ring.Ended.{Ended}
use Rattle.xhci_machine.specs.declared.states.States.{States}
use Rattle.xhci_machine.specs.Bus.{bulk_forgotten, is_cut, transaction_error}
use Rattle.xhci_machine.specs.Effects.{dropped}

-- WHERE IT STANDS

-- its stop is to be told, or it is looked at: it runs, and its doorbell is rung
abbrev pub has_command : Machine → Bool
has_command m = m.commands.owes_stop || (m.registers.command_ring.runs && m.commands.rung)

-- CRCR
abbrev pub command_cursor : Machine → Cursor
command_cursor m = record { place = m.registers.command_ring.pointer; cycle = m.registers.command_ring.cycle }

abbrev pub stood_at : Machine → Cursor → Machine
stood_at m cursor = record m {
  registers = record m.registers { command_ring = record m.registers.command_ring { pointer = cursor.place; cycle = cursor.cycle } };
}

-- its stop isn't owed any more
abbrev pub stop_told : Machine → Machine
stop_told m = record m { commands = record m.commands { owes_stop = false } }

-- HOW A COMMAND ENDS

abbrev pub ended : ℕ → ℕ → Ended
ended code slot = record { code = code; slot = slot }

-- table 6-90
abbrev pub code_number : Code → ℕ
code_number Success = 1
code_number NoSlotsAvailable = 9
code_number SlotNotEnabled = 11
code_number ParameterError = 17
code_number ContextStateError = 19

abbrev pub slot_enabled : Code → ℕ
slot_enabled Success = 1
slot_enabled NoSlotsAvailable = 0
slot_enabled SlotNotEnabled = 0
slot_enabled ParameterError = 0
slot_enabled ContextStateError = 0

-- the slot that the event names: of Enable Slot the one that was given out, or none; else the command's
abbrev pub slot_told : ℕ → SlotCommand → Code → ℕ
slot_told slot Enable code = slot_enabled code
slot_told slot Disable code = slot
slot_told slot (Address input blocked) code = slot
slot_told slot (Configure input deconfigures) code = slot
slot_told slot (Evaluate input) code = slot
slot_told slot Reset code = slot

-- THE ENDPOINTS

-- where the dequeue pointer of an endpoint is in the device context at an address (6.2.3)
abbrev pub pointer_home : ℕ → ℕ → ℕ
pointer_home context endpoint = (context + 32 * endpoint + 8) % 2 ^ 64

abbrev pub states_of : Machine → States
states_of m = record {
  control = m.control.consumer.state;
  command = m.transfers.command.state;
  status = m.transfers.status.state;
  data_out = m.transfers.data_out.state;
  data_in = m.transfers.data_in.state;
}

unfoldable pub control_changed : Machine → Change → Machine
control_changed m Kept = m
control_changed m Disabled = record m { control = control_disabled m.control }
control_changed m (Set pointer entries) = record m { control = control_configured m.control (pointer_home m.slot.context 1) }

unfoldable pub command_changed : Machine → Change → Machine
command_changed m Kept = m
command_changed m Disabled = record m { transfers = command_disabled m.transfers }
command_changed m (Set pointer entries) = record m { transfers = command_configured m.transfers (pointer_home m.slot.context 2) }

-- an endpoint's ID (4.5.1)
abbrev pub endpoint_id : StreamPipe → ℕ
endpoint_id Status = 3
endpoint_id DataOut = 4
endpoint_id DataIn = 5

-- where the stream contexts of a pipe are; of one without streams where the dequeue pointer of its one ring is (6.2.3)
abbrev pub array_of : Machine → StreamPipe → ℕ → ℕ → ℕ
array_of m name pointer entries = if entries == 0 then pointer_home m.slot.context (endpoint_id name) else pointer

-- a pipe has at most 256 streams
unfoldable pub pipe_changed : Machine → StreamPipe → Change → Machine
pipe_changed m name Kept = m
pipe_changed m name Disabled = record m { transfers = dropped m.transfers name }
pipe_changed m name (Set pointer entries) =
    bulk_forgotten name (record m { transfers = pipe_added m.transfers name (array_of m name pointer entries) (min entries 256) })

abbrev pub pipes_changed : Machine → Changes → Machine
pipes_changed m changes =
    pipe_changed (pipe_changed (pipe_changed m Status changes.status) DataOut changes.data_out) DataIn changes.data_in

-- their contexts have their states
abbrev pub told_as : Machine → Machine
told_as m = record m { told = states_of m }

-- as a command on the slot left them
unfoldable pub changed : Machine → Changes → Machine
changed m changes = told_as (pipes_changed (command_changed (control_changed m changes.control) changes.command) changes)

-- A COMMAND ON THE SLOT

abbrev pub is_enable : SlotCommand → Bool
is_enable Enable = true
is_enable Disable = false
is_enable (Address input blocked) = false
is_enable (Configure input deconfigures) = false
is_enable (Evaluate input) = false
is_enable Reset = false

abbrev pub commanded : Machine → ℕ → SlotCommand → SlotWorld × Done → Memory × (Machine × Ended)
commanded m slot command after = (
  after.0.memory,
  (changed (record m { slot = after.0.slot }) after.1.changes, ended (code_number after.1.code) (slot_told slot command after.1.code)),
)

-- an input context that is there and isn't bad, of a slot that may be addressed
abbrev pub is_good_input : Option InputContext → Bool
is_good_input None = false
is_good_input (Some input) = not (is_bad_address input)

abbrev pub is_addressable : Memory → ℕ → Option SlotState → Bool
is_addressable memory input None = false
is_addressable memory input (Some state) = may_address state false && is_good_input (input_at memory input)

-- Address Device without BSR sends a request, and nothing answers at the port (4.6.5)
abbrev pub is_unanswered : Memory → Machine → SlotCommand → Bool
is_unanswered memory m Enable = false
is_unanswered memory m Disable = false
is_unanswered memory m (Address input true) = false
is_unanswered memory m (Address input false) = is_cut m && is_addressable memory input m.slot.state
is_unanswered memory m (Configure input deconfigures) = false
is_unanswered memory m (Evaluate input) = false
is_unanswered memory m Reset = false

-- Memory, the whole controller, and how the command ended: of another slot than 1 all but Enable Slot end with Slot Not Enabled, and Enable
-- Slot with No Slots Available where CONFIG enables none; a request that nothing answers is USB Transaction Error, and changes nothing. None:
-- memory that the command needs isn't there
unfoldable pub on_slot_done : Memory → Machine → ℕ → SlotCommand → Option (Memory × (Machine × Ended))
on_slot_done memory m slot command =
    if not (slot == 1) && not (is_enable command) then Some (memory, (m, ended 11 slot))
    else if is_enable command && not (has_slots m.registers) then Some (memory, (m, ended 9 0))
    else if is_unanswered memory m command then Some (memory, (m, ended transaction_error slot))
    else option_map (commanded m slot command) (executed (record { memory = memory; slot = m.slot }) m.registers.contexts command)

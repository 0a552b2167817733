-- The slot's states and commands (xHCI 1.2, 4.5.3, 4.6.3 to 4.6.7 and 4.6.11). None: memory that a command needs isn't there.
use Rattle.std.specs.Prelude.{ℕ, ◌+◌, ◌-◌, ◌*◌, ◌%◌, ◌^◌, ◌==◌, ◌||◌, nat_lt, Bool, true, false, not, if◌then◌else◌, Option, Some, None}
use Rattle.byteorder.specs.Endian.{little_number}
use Rattle.guest_memory.specs.Bytes.{Memory, ◌>>=◌, bytes_from}
use Rattle.xhci_slots.specs.declared.contexts.DeviceContext.{DeviceContext}
use Rattle.xhci_slots.specs.declared.contexts.EndpointContext.{EndpointContext}
use Rattle.xhci_slots.specs.declared.contexts.EndpointState.{EndpointState}
use Rattle.xhci_slots.specs.declared.contexts.InputContext.{InputContext}
use Rattle.xhci_slots.specs.declared.contexts.Number.{Number}
use Rattle.xhci_slots.specs.declared.contexts.Number.TheVariants.{CommandPipe, StatusPipe, DataOutPipe, DataInPipe}
use Rattle.xhci_slots.specs.declared.contexts.SlotState.{SlotState}
use Rattle.xhci_slots.specs.declared.contexts.SlotState.TheVariants.{Enabled, Default, Addressed, Configured}
use Rattle.xhci_slots.specs.contexts.Contexts.{device_at, device_written}
use Rattle.xhci_slots.specs.contexts.Inputs.{endpoint_of, has_flag, index_of, input_at, is_bad_address, is_bad_configuration, is_bad_evaluation, streams_of}
use Rattle.xhci_slots.specs.contexts.Commands.{addressed, configured, deconfigured, device_reset, evaluated, has_pipe, slot_disabled, with_endpoint_state}
use Rattle.xhci_slots.specs.declared.Change.{Change}
use Rattle.xhci_slots.specs.declared.Change.TheVariants.{Kept, Disabled, Set}
use Rattle.xhci_slots.specs.declared.Changes.{Changes}
use Rattle.xhci_slots.specs.declared.Code.{Code}
use Rattle.xhci_slots.specs.declared.Code.TheVariants.{Success, NoSlotsAvailable, SlotNotEnabled, ParameterError, ContextStateError}
use Rattle.xhci_slots.specs.declared.Done.{Done}
use Rattle.xhci_slots.specs.declared.Slot.{Slot}
use Rattle.xhci_slots.specs.declared.SlotCommand.{SlotCommand}
use Rattle.xhci_slots.specs.declared.SlotCommand.TheVariants.{Enable, Disable, Address, Configure, Evaluate, Reset}

-- the driver's memory, and the slot: whether it is given out and in which state, and where its device context is
pub record World : Type 0 where
  pub memory : Memory
  pub slot : Slot

-- not given out
abbrev pub free_slot : Slot
free_slot = record { state = None; context = 0 }

-- WHAT COMES OF A COMMAND

-- every endpoint stays
abbrev pub no_changes : Changes
no_changes = record { control = Kept; command = Kept; status = Kept; data_out = Kept; data_in = Kept }

-- the pipes are disabled, endpoint 0 stays
abbrev pub pipes_gone : Changes
pipes_gone = record { control = Kept; command = Disabled; status = Disabled; data_out = Disabled; data_in = Disabled }

abbrev pub all_gone : Changes
all_gone = record pipes_gone { control = Disabled }

-- a command that ends with this code and changes nothing
abbrev pub refused : World → Code → World × Done
refused world code = (world, record { code = code; changes = no_changes })

abbrev pub done : World → Changes → World × Done
done world changes = (world, record { code = Success; changes = changes })

-- how many entries a stream array of this MaxPStreams, at most 7, has: none, or 2 to the power of one more
abbrev pub array_entries : ℕ → ℕ
array_entries streams = if streams == 0 || nat_lt 7 streams then 0 else 2 * 2 ^ streams

-- an endpoint that is added runs, with its dequeue pointer or stream array
abbrev pub set_by : EndpointContext → Change
set_by endpoint = Set (endpoint.dequeue - endpoint.dequeue % 16) (array_entries (streams_of endpoint))

abbrev pub change_of : InputContext → Number → Change
change_of input number =
    if has_flag input.adds (index_of number) then set_by (endpoint_of input.device number)
    else (if has_flag input.drops (index_of number) then Disabled else Kept)

abbrev pub changes_of : InputContext → Changes
changes_of input = record {
  control = Kept;
  command = change_of input CommandPipe;
  status = change_of input StatusPipe;
  data_out = change_of input DataOutPipe;
  data_in = change_of input DataInPipe;
}

-- STATES

abbrev pub with_slot : World → Slot → World
with_slot world slot = record world { slot = slot }

abbrev pub in_state : Slot → SlotState → Slot
in_state slot state = record slot { state = Some state }

-- Address Device is of an Enabled slot, without BSR also of a Default one
abbrev pub may_address : SlotState → Bool → Bool
may_address Enabled blocked = true
may_address Default blocked = not blocked
may_address Addressed blocked = false
may_address Configured blocked = false

-- Configure Endpoint is of a slot with an address
abbrev pub may_configure : SlotState → Bool
may_configure Enabled = false
may_configure Default = false
may_configure Addressed = true
may_configure Configured = true

-- Evaluate Context is of any slot whose device has a context
abbrev pub may_evaluate : SlotState → Bool
may_evaluate Enabled = false
may_evaluate Default = true
may_evaluate Addressed = true
may_evaluate Configured = true

-- THE COMMANDS

-- the slot's entry of the device context base address array (6.1): a multiple of 64
unfoldable pub entry_at : Memory → ℕ → Option ℕ
entry_at memory array = do
  bytes ← bytes_from memory ((array + 8) % 2 ^ 64) 8
  Some (little_number 8 bytes - little_number 8 bytes % 64)

-- the slot has this device context at this address, and is in this state
abbrev pub stood : World → ℕ → DeviceContext → SlotState → World
stood world at device state =
    record { memory = device_written world.memory at device; slot = record { state = Some state; context = at } }

-- Address Device (4.6.5), of an input that isn't bad
unfoldable pub addressed_by : World → ℕ → InputContext → Bool → Option (World × Done)
addressed_by world array input blocked = do
  at ← entry_at world.memory array
  device ← device_at world.memory at
  Some (done (stood world at (addressed device input blocked) (if blocked then Default else Addressed)) (record no_changes { control = set_by input.device.control }))

unfoldable pub address_step : World → ℕ → ℕ → Bool → Option (World × Done)
address_step world array input blocked = do
  read ← input_at world.memory input
  if is_bad_address read then Some (refused world ParameterError) else addressed_by world array read blocked

-- Configured where a pipe is enabled
abbrev pub state_of : DeviceContext → SlotState
state_of device = if has_pipe device then Configured else Addressed

-- Configure Endpoint (4.6.6), of an input that isn't bad; with DC no input is read
unfoldable pub configured_by : World → InputContext → Option (World × Done)
configured_by world input = do
  device ← device_at world.memory world.slot.context
  Some (done (stood world world.slot.context (configured device input) (state_of (configured device input))) (changes_of input))

unfoldable pub configure_step : World → ℕ → Option (World × Done)
configure_step world input = do
  read ← input_at world.memory input
  if is_bad_configuration read then Some (refused world ParameterError) else configured_by world read

unfoldable pub deconfigure_step : World → Option (World × Done)
deconfigure_step world = do
  device ← device_at world.memory world.slot.context
  Some (done (stood world world.slot.context (deconfigured device) Addressed) pipes_gone)

-- Evaluate Context (4.6.7)
unfoldable pub evaluated_by : World → InputContext → SlotState → Option (World × Done)
evaluated_by world input state = do
  device ← device_at world.memory world.slot.context
  Some (done (stood world world.slot.context (evaluated device input) state) no_changes)

unfoldable pub evaluate_step : World → ℕ → SlotState → Option (World × Done)
evaluate_step world input state = do
  read ← input_at world.memory input
  if is_bad_evaluation read then Some (refused world ParameterError) else evaluated_by world read state

-- Reset Device (4.6.11): the slot is Default
unfoldable pub reset_step : World → Option (World × Done)
reset_step world = do
  device ← device_at world.memory world.slot.context
  Some (done (stood world world.slot.context (device_reset device) Default) pipes_gone)

-- Disable Slot (4.6.4): of a slot that only was enabled there is no device context
abbrev pub has_context : SlotState → Bool
has_context Enabled = false
has_context Default = true
has_context Addressed = true
has_context Configured = true

unfoldable pub context_disabled : World → Option (World × Done)
context_disabled world = do
  device ← device_at world.memory world.slot.context
  Some (done (record { memory = device_written world.memory world.slot.context (slot_disabled device); slot = free_slot }) all_gone)

unfoldable pub disable_step : World → SlotState → Option (World × Done)
disable_step world state = if has_context state then context_disabled world else Some (done (with_slot world free_slot) all_gone)

-- a command on the slot that is given out and in this state
abbrev pub slot_step : World → ℕ → SlotCommand → SlotState → Option (World × Done)
slot_step world array Enable state = Some (refused world NoSlotsAvailable)
slot_step world array Disable state = disable_step world state
slot_step world array (Address input blocked) state =
    if may_address state blocked then address_step world array input blocked else Some (refused world ContextStateError)
slot_step world array (Configure input deconfigures) state =
    if may_configure state then (if deconfigures then deconfigure_step world else configure_step world input)
    else Some (refused world ContextStateError)
slot_step world array (Evaluate input) state =
    if may_evaluate state then evaluate_step world input state else Some (refused world ContextStateError)
slot_step world array Reset state =
    if may_configure state then reset_step world else Some (refused world ContextStateError)

-- a slot that isn't given out can be enabled, and no more
abbrev pub free_step : World → SlotCommand → World × Done
free_step world Enable = done (with_slot world (record free_slot { state = Some Enabled })) no_changes
free_step world Disable = refused world SlotNotEnabled
free_step world (Address input blocked) = refused world SlotNotEnabled
free_step world (Configure input deconfigures) = refused world SlotNotEnabled
free_step world (Evaluate input) = refused world SlotNotEnabled
free_step world Reset = refused world SlotNotEnabled

-- A command on the slot; the array is the one of device context base addresses.
abbrev pub executed : World → ℕ → SlotCommand → Option (World × Done)
executed world array command = by_state world.slot.state
  where
    by_state : Option SlotState → Option (World × Done)
    by_state None = Some (free_step world command)
    by_state (Some state) = slot_step world array command state

-- an endpoint's state, told in the device context
unfoldable pub told : World → Number → EndpointState → Option World
told world number state = do
  device ← device_at world.memory world.slot.context
  Some (record world { memory = device_written world.memory world.slot.context (with_endpoint_state device number state) })

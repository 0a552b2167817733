-- What the commands on contexts make of a device context (xHCI 1.2, 4.6.5 to 4.6.11). Whether one of them may run is the caller's question.
use Rattle.std.specs.Prelude.{ℕ, ◌+◌, ◌-◌, ◌*◌, ◌%◌, ◌^◌, ◌==◌, ◌||◌, Bool, true, false, if◌then◌else◌}
use Rattle.xhci_slots.specs.declared.contexts.DeviceContext.{DeviceContext}
use Rattle.xhci_slots.specs.declared.contexts.EndpointContext.{EndpointContext}
use Rattle.xhci_slots.specs.declared.contexts.EndpointState.{EndpointState}
use Rattle.xhci_slots.specs.declared.contexts.EndpointState.TheVariants.{Disabled as EndpointDisabled, Running, Halted, Stopped, Error}
use Rattle.xhci_slots.specs.declared.contexts.InputContext.{InputContext}
use Rattle.xhci_slots.specs.declared.contexts.Number.{Number}
use Rattle.xhci_slots.specs.declared.contexts.Number.TheVariants.{ControlPipe, CommandPipe, StatusPipe, DataOutPipe, DataInPipe}
use Rattle.xhci_slots.specs.declared.contexts.SlotContext.{SlotContext}
use Rattle.xhci_slots.specs.declared.contexts.SlotState.{SlotState}
use Rattle.xhci_slots.specs.declared.contexts.SlotState.TheVariants.{Enabled, Default, Addressed, Configured}
use Rattle.xhci_slots.specs.contexts.Contexts.{slot_number}
use Rattle.xhci_slots.specs.contexts.Inputs.{endpoint_of, has_flag, index_of}

-- EP State (table 6-8)
abbrev pub state_number : EndpointState → ℕ
state_number EndpointDisabled = 0
state_number Running = 1
state_number Halted = 2
state_number Stopped = 3
state_number Error = 4

-- bits 2:0 of the first word
abbrev pub with_state : EndpointContext → EndpointState → EndpointContext
with_state endpoint state = record endpoint { state = (endpoint.state - endpoint.state % 8) + state_number state }

abbrev pub with_endpoint : DeviceContext → Number → EndpointContext → DeviceContext
with_endpoint device ControlPipe endpoint = record device { control = endpoint }
with_endpoint device CommandPipe endpoint = record device { command = endpoint }
with_endpoint device StatusPipe endpoint = record device { status = endpoint }
with_endpoint device DataOutPipe endpoint = record device { data_out = endpoint }
with_endpoint device DataInPipe endpoint = record device { data_in = endpoint }

-- an endpoint's state, told in its context
abbrev pub with_endpoint_state : DeviceContext → Number → EndpointState → DeviceContext
with_endpoint_state device number state = with_endpoint device number (with_state (endpoint_of device number) state)

-- the USB device address in bits 7:0 of the fourth word, and the slot's state
abbrev pub with_address : SlotContext → ℕ → SlotState → SlotContext
with_address slot address state = record slot { state = address + 2 ^ 27 * slot_number state }

abbrev pub with_slot_state : SlotContext → SlotState → SlotContext
with_slot_state slot state = record slot { state = slot.state % 2 ^ 27 + 2 ^ 27 * slot_number state }

-- Context Entries, bits 31:27 of the first word
abbrev pub with_entries_of : SlotContext → SlotContext → SlotContext
with_entries_of slot other = record slot { route = slot.route % 2 ^ 27 + (other.route - other.route % 2 ^ 27) }

abbrev pub with_entries : SlotContext → ℕ → SlotContext
with_entries slot entries = record slot { route = slot.route % 2 ^ 27 + 2 ^ 27 * entries }

-- 4.6.5, Address Device: slot and endpoint 0 are those of the input, endpoint 0 runs. With BSR the slot is Default, without address; else
-- it has address 1
abbrev pub addressed : DeviceContext → InputContext → Bool → DeviceContext
addressed device input blocked =
    record device {
      slot = with_address input.device.slot (if blocked then 0 else 1) (if blocked then Default else Addressed);
      control = with_state input.device.control Running;
    }

-- an endpoint that is dropped is disabled; one that is added is that of the input, and runs
abbrev pub endpoint_configured : EndpointContext → EndpointContext → Bool → Bool → EndpointContext
endpoint_configured old new drops adds =
    if adds then with_state new Running else (if drops then with_state old EndpointDisabled else old)

abbrev pub configured_of : DeviceContext → InputContext → Number → EndpointContext
configured_of device input number =
    endpoint_configured (endpoint_of device number) (endpoint_of input.device number) (has_flag input.drops (index_of number)) (has_flag input.adds (index_of number))

abbrev pub is_enabled : EndpointContext → Bool
is_enabled endpoint = if endpoint.state % 8 == 0 then false else true

abbrev pub has_pipe : DeviceContext → Bool
has_pipe device = is_enabled device.command || is_enabled device.status || is_enabled device.data_out || is_enabled device.data_in

-- Addressed where no pipe is enabled
abbrev pub with_pipes_told : DeviceContext → DeviceContext
with_pipes_told device = record device { slot = with_slot_state device.slot (if has_pipe device then Configured else Addressed) }

-- 4.6.6, Configure Endpoint: drops before adds; the slot's context entries are those of the input
abbrev pub configured : DeviceContext → InputContext → DeviceContext
configured device input =
    with_pipes_told (record device {
      slot = with_entries_of device.slot input.device.slot;
      command = configured_of device input CommandPipe;
      status = configured_of device input StatusPipe;
      data_out = configured_of device input DataOutPipe;
      data_in = configured_of device input DataInPipe;
    })

abbrev pub pipes_disabled : DeviceContext → DeviceContext
pipes_disabled device = record device {
  command = with_state device.command EndpointDisabled;
  status = with_state device.status EndpointDisabled;
  data_out = with_state device.data_out EndpointDisabled;
  data_in = with_state device.data_in EndpointDisabled;
}

-- the same with DC: all pipes are disabled, one context is left behind the slot's
abbrev pub deconfigured : DeviceContext → DeviceContext
deconfigured device = record (pipes_disabled device) { slot = with_entries (with_slot_state device.slot Addressed) 1 }

-- 4.6.11, Reset Device: the slot is Default, without address
abbrev pub device_reset : DeviceContext → DeviceContext
device_reset device = record (pipes_disabled device) { slot = with_entries (with_address device.slot 0 Default) 1 }

-- 4.6.7, Evaluate Context: with A0 the slot's Max Exit Latency (15:0 of the second word) and Interrupter Target (31:22 of the third),
-- with A1 endpoint 0's Max Packet Size (31:16 of the second word)
abbrev pub slot_evaluated : SlotContext → SlotContext → SlotContext
slot_evaluated old new = record old {
  port = (old.port - old.port % 2 ^ 16) + new.port % 2 ^ 16;
  target = old.target % 2 ^ 22 + (new.target - new.target % 2 ^ 22);
}

abbrev pub control_evaluated : EndpointContext → EndpointContext → EndpointContext
control_evaluated old new = record old { kind = old.kind % 2 ^ 16 + (new.kind - new.kind % 2 ^ 16) }

abbrev pub evaluated : DeviceContext → InputContext → DeviceContext
evaluated device input = record device {
  slot = if has_flag input.adds 0 then slot_evaluated device.slot input.device.slot else device.slot;
  control = if has_flag input.adds 1 then control_evaluated device.control input.device.control else device.control;
}

-- 4.6.4, Disable Slot: nothing of the device context is in use
abbrev pub slot_disabled : DeviceContext → DeviceContext
slot_disabled device = record (pipes_disabled device) { slot = with_address device.slot 0 Enabled; control = with_state device.control EndpointDisabled }

-- Rows 10 and 11: what is stored for a device (xHCI 1.2, 4.3.3, 4.6.3 and 4.6.5).
use Rattle.std.specs.Prelude.{ℕ, Some, List}
use Rattle.host_layout.specs.declared.layout.Area.TheVariants.{At}
use Rattle.host_layout.specs.declared.layout.Fixed.{Fixed}
use Rattle.host_layout.specs.declared.layout.Fixed.TheVariants as fixed
use Rattle.host_layout.specs.declared.layout.Layout.{Layout}
use Rattle.host_layout.specs.Places.{address_of, context_of}
use Rattle.host_trbs.specs.declared.contexts.Dequeue.TheVariants.{Ring}
use Rattle.host_trbs.specs.declared.contexts.EndpointContext.{EndpointContext}
use Rattle.host_trbs.specs.declared.contexts.EndpointKind.TheVariants.{Control}
use Rattle.host_trbs.specs.declared.contexts.SlotContext.{SlotContext}
use Rattle.host_trbs.specs.Contexts.{endpoint_context, input_control, slot_context}
use Rattle.bring_up.specs.declared.access.Access.{Access}
use Rattle.bring_up.specs.declared.access.Access.TheVariants.{Rest}
use Rattle.bring_up.specs.declared.access.Stored.TheVariants.{ThirtyTwo, Zeros}
use Rattle.bring_up.specs.declared.commands.Asked.{Asked}
use Rattle.bring_up.specs.declared.commands.Asked.TheVariants.{EnableSlot, AddressDevice}
use Rattle.bring_up.specs.declared.commands.CommandRing.{CommandRing}
use Rattle.bring_up.specs.declared.slots.Addressing.{Addressing}
use Rattle.bring_up.specs.declared.slots.Addressing.TheVariants.{ControlRing, InputContext, DeviceContext, Entry, Flags, Slot, Endpoint, Settle}
use Rattle.bring_up.specs.declared.slots.Device.{Device}
use Rattle.bring_up.specs.declared.step.Ended.TheVariants.{Addressed}
use Rattle.bring_up.specs.declared.step.Step.{Step}
use Rattle.bring_up.specs.declared.step.Step.TheVariants as step
use Rattle.bring_up.specs.Accesses.{store_in}
use Rattle.bring_up.specs.CommandRings.{begun_command}
use Rattle.bring_up.specs.Programs.{entry_stored}

abbrev pub command_begun : CommandRing → Asked → Step
command_begun ring asked = step.Command asked (begun_command ring)

abbrev pub area_zeroed : Layout → Fixed → ℕ → Access
area_zeroed layout area bytes = store_in (Some (address_of layout (At area))) (Zeros bytes)

-- a context of the input context (6.2.5): 0 the input control context, 1 the slot's, 2 endpoint 0's
abbrev pub context_stored : Layout → ℕ → List ℕ → Access
context_stored layout index context = store_in (context_of layout fixed.InputContext 33 index) (ThirtyTwo context)

-- one context is in use, that of endpoint 0
abbrev pub slot_of : Device → SlotContext
slot_of device = record { speed = device.speed; entries = 1; port = device.port.number }

-- 4.3: endpoint 0 of a SuperSpeed device has packets of 512 bytes
abbrev pub control_endpoint : Layout → EndpointContext
control_endpoint layout = record {
  kind = Control;
  max_packet = 512;
  burst = 0;
  dequeue = Ring (address_of layout (At fixed.ControlRing));
  average = 8;
}

-- ROWS 10 AND 11: Enable Slot behind zeroed contexts; the slot's device context; A0 and A1, the slot context and endpoint 0's; Address Device
abbrev pub addressing_access : Addressing → Layout → Device → Access
addressing_access ControlRing layout device = area_zeroed layout fixed.ControlRing 192
addressing_access InputContext layout device = area_zeroed layout fixed.InputContext 4096
addressing_access DeviceContext layout device = area_zeroed layout fixed.DeviceContext 4096
addressing_access Entry layout device =
    entry_stored (Some (address_of layout (At fixed.DeviceContexts))) device.slot (Some (address_of layout (At fixed.DeviceContext)))
addressing_access Flags layout device = context_stored layout 0 (input_control 0 3)
addressing_access Slot layout device = context_stored layout 1 (slot_context (slot_of device))
addressing_access Endpoint layout device = context_stored layout 2 (endpoint_context (control_endpoint layout))
addressing_access (Settle until) layout device = Rest until

abbrev pub addressing_after : Addressing → CommandRing → Step
addressing_after ControlRing ring = step.Addressing InputContext
addressing_after InputContext ring = step.Addressing DeviceContext
addressing_after DeviceContext ring = command_begun ring EnableSlot
addressing_after Entry ring = step.Addressing Flags
addressing_after Flags ring = step.Addressing Slot
addressing_after Slot ring = step.Addressing Endpoint
addressing_after Endpoint ring = command_begun ring AddressDevice
addressing_after (Settle until) ring = step.Ended Addressed

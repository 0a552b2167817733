-- The slot context, an endpoint context, and the device context that is made of them (xHCI 1.2, 6.2.1 to 6.2.3), of 32 bytes each.
use Rattle.std.specs.Prelude.{ℕ, ◌+◌, ◌*◌, ◌%◌, ◌^◌, ◌&&◌, Bool, List, ◌++◌, drop, replicate, Option, Some}
use Rattle.byteorder.specs.Endian.{little_bytes, little_number}
use Rattle.guest_memory.specs.Bytes.{Memory, ◌>>=◌, bytes_from, is_there, written}
use Rattle.xhci_slots.specs.declared.contexts.SlotContext.{SlotContext}
use Rattle.xhci_slots.specs.declared.contexts.EndpointContext.{EndpointContext}
use Rattle.xhci_slots.specs.declared.contexts.DeviceContext.{DeviceContext}
use Rattle.xhci_slots.specs.declared.contexts.SlotState.{SlotState}
use Rattle.xhci_slots.specs.declared.contexts.SlotState.TheVariants.{Enabled, Default, Addressed, Configured}

-- 6.2.2: the words of a slot context; what is behind the fourth is the controller's own
unfoldable pub slot_in : List ℕ → SlotContext
slot_in bytes = record {
  route = little_number 4 bytes;
  port = little_number 4 (drop 4 bytes);
  target = little_number 4 (drop 8 bytes);
  state = little_number 4 (drop 12 bytes);
}

unfoldable pub slot_bytes : SlotContext → List ℕ
slot_bytes slot =
    little_bytes 4 slot.route ++ (little_bytes 4 slot.port ++ (little_bytes 4 slot.target ++ (little_bytes 4 slot.state ++ replicate 16 0)))

-- 6.2.3: the words of an endpoint context, of which the third and fourth are the dequeue pointer
unfoldable pub endpoint_in : List ℕ → EndpointContext
endpoint_in bytes = record {
  state = little_number 4 bytes;
  kind = little_number 4 (drop 4 bytes);
  dequeue = little_number 8 (drop 8 bytes);
  average = little_number 4 (drop 16 bytes);
}

unfoldable pub endpoint_bytes : EndpointContext → List ℕ
endpoint_bytes endpoint =
    little_bytes 4 endpoint.state ++ (little_bytes 4 endpoint.kind ++ (little_bytes 8 endpoint.dequeue ++ (little_bytes 4 endpoint.average ++ replicate 12 0)))

-- where the context of a number stands: the slot's is 0, and an endpoint's its device context index; addresses wrap at 2^64
abbrev pub context_at : ℕ → ℕ → ℕ
context_at base number = (base + 32 * number) % 2 ^ 64

unfoldable pub slot_at : Memory → ℕ → Option SlotContext
slot_at memory at = do
  bytes ← bytes_from memory at 32
  Some (slot_in bytes)

unfoldable pub endpoint_at : Memory → ℕ → Option EndpointContext
endpoint_at memory at = do
  bytes ← bytes_from memory at 32
  Some (endpoint_in bytes)

-- a device context: the slot's, endpoint 0's (index 1), and those of the pipes for commands (2), status (3), data-out (4) and data-in (5)
unfoldable pub device_at : Memory → ℕ → Option DeviceContext
device_at memory base = do
  slot ← slot_at memory base
  control ← endpoint_at memory (context_at base 1)
  command ← endpoint_at memory (context_at base 2)
  status ← endpoint_at memory (context_at base 3)
  data_out ← endpoint_at memory (context_at base 4)
  data_in ← endpoint_at memory (context_at base 5)
  Some (record { slot = slot; control = control; command = command; status = status; data_out = data_out; data_in = data_in })

-- each context of a device context is there
abbrev pub has_device : Memory → ℕ → Bool
has_device memory base =
    is_there memory base 32 && is_there memory (context_at base 1) 32 && is_there memory (context_at base 2) 32
    && is_there memory (context_at base 3) 32 && is_there memory (context_at base 4) 32 && is_there memory (context_at base 5) 32

abbrev pub slot_written : Memory → ℕ → SlotContext → Memory
slot_written memory at slot = written memory at (slot_bytes slot)

abbrev pub endpoint_written : Memory → ℕ → EndpointContext → Memory
endpoint_written memory at endpoint = written memory at (endpoint_bytes endpoint)

-- the memory with this device context, written from the slot's on
abbrev pub device_written : Memory → ℕ → DeviceContext → Memory
device_written memory base device =
    endpoint_written (endpoint_written (endpoint_written (endpoint_written (endpoint_written
    (slot_written memory base device.slot)
    (context_at base 1) device.control) (context_at base 2) device.command) (context_at base 3) device.status)
    (context_at base 4) device.data_out) (context_at base 5) device.data_in

-- table 6-7, the state in bits 31:27 of the fourth word
abbrev pub slot_number : SlotState → ℕ
slot_number Enabled = 0
slot_number Default = 1
slot_number Addressed = 2
slot_number Configured = 3

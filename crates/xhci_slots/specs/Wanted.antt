-- The first range of memory that a command on the slot lacks, of those that it reads one behind another.
use Rattle.std.specs.Prelude.{ℕ, ◌+◌, ◌%◌, ◌^◌, Bool, true, false, if◌then◌else◌, Option, Some, None}
use Rattle.guest_memory.specs.Bytes.{Memory}
use Rattle.guest_memory.specs.declared.rings.wanting.Range.{Range}
use Rattle.guest_memory.specs.rings.Wanted.{missing}
use Rattle.xhci_slots.specs.declared.contexts.InputContext.{InputContext}
use Rattle.xhci_slots.specs.declared.contexts.SlotState.{SlotState}
use Rattle.xhci_slots.specs.contexts.Contexts.{context_at, has_device}
use Rattle.xhci_slots.specs.contexts.Inputs.{input_at, is_bad_address, is_bad_configuration, is_bad_evaluation}
use Rattle.xhci_slots.specs.declared.SlotCommand.{SlotCommand}
use Rattle.xhci_slots.specs.declared.SlotCommand.TheVariants.{Enable, Disable, Address, Configure, Evaluate, Reset}
use Rattle.xhci_slots.specs.Slots.{World, entry_at, has_context, may_address, may_configure, may_evaluate}

-- a device context: six contexts of 32 bytes
abbrev pub device_range : ℕ → Range
device_range base = record { at = base; count = 192 }

-- where a byte of it isn't there
abbrev pub device_wanted : Memory → ℕ → Option Range
device_wanted memory base = if has_device memory base then None else Some (device_range base)

-- an input context: the flags of its control context, then the contexts behind that
abbrev pub input_wanted : Memory → ℕ → Option Range
input_wanted memory input = missing memory (record { at = input; count = 8 }) (device_wanted memory (context_at input 1))

-- by the input that was read: what the command reads then
abbrev pub read_wanted : Option InputContext → Option Range → (InputContext → Option Range) → Option Range
read_wanted None lacks rest = lacks
read_wanted (Some input) lacks rest = rest input

-- the slot's entry of the device context base address array, then the device context that it names
abbrev pub entry_wanted : ℕ → Memory → Option ℕ → Option Range
entry_wanted array memory None = Some (record { at = (array + 8) % 2 ^ 64; count = 8 })
entry_wanted array memory (Some at) = device_wanted memory at

-- an input that is bad ends its command: no more is read
abbrev pub unless_bad : Bool → Option Range → Option Range
unless_bad true rest = None
unless_bad false rest = rest

abbrev pub address_wanted : World → ℕ → ℕ → Option Range
address_wanted world array input =
    read_wanted (input_at world.memory input) (input_wanted world.memory input)
    (λ read. unless_bad (is_bad_address read) (entry_wanted array world.memory (entry_at world.memory array)))

abbrev pub configure_wanted : World → ℕ → Option Range
configure_wanted world input =
    read_wanted (input_at world.memory input) (input_wanted world.memory input)
    (λ read. unless_bad (is_bad_configuration read) (device_wanted world.memory world.slot.context))

abbrev pub evaluate_wanted : World → ℕ → Option Range
evaluate_wanted world input =
    read_wanted (input_at world.memory input) (input_wanted world.memory input)
    (λ read. unless_bad (is_bad_evaluation read) (device_wanted world.memory world.slot.context))

-- of a command on the slot that is given out and in this state; one that the state refuses reads nothing
abbrev pub command_wanted : World → ℕ → SlotCommand → SlotState → Option Range
command_wanted world array Enable state = None
command_wanted world array Disable state = if has_context state then device_wanted world.memory world.slot.context else None
command_wanted world array (Address input blocked) state = if may_address state blocked then address_wanted world array input else None
command_wanted world array (Configure input deconfigures) state =
    if may_configure state then (if deconfigures then device_wanted world.memory world.slot.context else configure_wanted world input) else None
command_wanted world array (Evaluate input) state = if may_evaluate state then evaluate_wanted world input else None
command_wanted world array Reset state = if may_configure state then device_wanted world.memory world.slot.context else None

abbrev pub wanted_in : World → ℕ → SlotCommand → Option SlotState → Option Range
wanted_in world array command None = None
wanted_in world array command (Some state) = command_wanted world array command state

-- of a command on the slot, in the order of `executed`
abbrev pub slot_wanted : World → ℕ → SlotCommand → Option Range
slot_wanted world array command = wanted_in world array command world.slot.state

-- of an endpoint's state that is told
abbrev pub tell_wanted : World → Option Range
tell_wanted world = device_wanted world.memory world.slot.context

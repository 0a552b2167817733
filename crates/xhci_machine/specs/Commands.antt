-- What a TRB in the command ring asks for (xHCI 6.4.3).
use Rattle.std.specs.Prelude.{ℕ, ◌*◌, ◌/◌, ◌%◌, ◌^◌, ◌==◌, if◌then◌else◌}
use Rattle.guest_memory.specs.declared.rings.words.Words.{Words}
use Rattle.guest_memory.specs.rings.Ends.{cursor_in}
use Rattle.guest_memory.specs.rings.Words.{bit_in, type_in}
use Rattle.xhci_slots.specs.declared.SlotCommand.{SlotCommand}
use Rattle.xhci_slots.specs.declared.SlotCommand.TheVariants.{Enable, Disable, Address, Configure, Evaluate, Reset as ResetDevice}
use Rattle.xhci_machine.specs.declared.command.Command.{Command}
use Rattle.xhci_machine.specs.declared.command.Command.TheVariants.{Link, NoOp, OnSlot, OnEndpoint, Foreign}
use Rattle.xhci_machine.specs.declared.command.Order.{Order}
use Rattle.xhci_machine.specs.declared.command.Order.TheVariants.{Reset, Stop, SetDequeue}

-- Slot ID: control bits 31:24; Endpoint ID: 20:16; an address: parameter bits 63:4
abbrev pub on_slot : Words → SlotCommand → Command
on_slot w command = OnSlot (w.control / 2 ^ 24) command

abbrev pub on_endpoint : Words → Order → Command
on_endpoint w order = OnEndpoint (w.control / 2 ^ 24) (w.control / 2 ^ 16 % 32) order

abbrev pub address_in : Words → ℕ
address_in w = 16 * (w.parameter / 16)

-- SCT is parameter bits 3:1, the stream status bits 31:16
abbrev pub dequeue_in : Words → Order
dequeue_in w = SetDequeue (cursor_in w.parameter) (w.parameter / 2 % 8) (w.status / 2 ^ 16)

-- BSR, DC and TSP are control bit 9; TC bit 1, IOC bit 5
unfoldable pub command_in : Words → Command
command_in w =
    if type_in w == 6 then Link (address_in w) (bit_in w.control 1) (bit_in w.control 5)
    else if type_in w == 9 then on_slot w Enable
    else if type_in w == 10 then on_slot w Disable
    else if type_in w == 11 then on_slot w (Address (address_in w) (bit_in w.control 9))
    else if type_in w == 12 then on_slot w (Configure (address_in w) (bit_in w.control 9))
    else if type_in w == 13 then on_slot w (Evaluate (address_in w))
    else if type_in w == 14 then on_endpoint w (Reset (bit_in w.control 9))
    else if type_in w == 15 then on_endpoint w Stop
    else if type_in w == 16 then on_endpoint w (dequeue_in w)
    else if type_in w == 17 then on_slot w ResetDevice
    else if type_in w == 23 then NoOp
    else Foreign

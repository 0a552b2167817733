-- Where registers are (xHCI 1.2, 5.3 to 5.6 and 7), and the ports of USB 3.
use Rattle.std.specs.Prelude.{ℕ, ◌+◌, ◌*◌, ◌/◌, ◌%◌, ◌^◌, ◌==◌, min, nat_lt, if◌then◌else◌, Bool, Option, Some, None, is_some, slice_get}
use Rattle.bring_up.specs.declared.controller.Controller.{Controller}
use Rattle.bring_up.specs.declared.controller.Port.{Port}
use Rattle.bring_up.specs.declared.controller.PortPlace.{PortPlace}
use Rattle.bring_up.specs.declared.controller.Protocol.{Protocol}

-- whether a bit of a register is set
abbrev pub is_set : ℕ → ℕ → Bool
is_set value place = value / 2 ^ place % 2 == 1

-- USBCMD (5.4.1) and USBSTS (5.4.2), the first operational registers
abbrev pub command_register : Controller → ℕ
command_register c = c.operational

abbrev pub status_register : Controller → ℕ
status_register c = c.operational + 4

-- 5.5.2: the register set of interrupter 0, at 20h of the runtime registers
abbrev pub interrupter : Controller → ℕ
interrupter c = c.runtime + 0x20

-- 5.6: the doorbells, of 4 bytes each
abbrev pub doorbell : Controller → ℕ → ℕ
doorbell c slot = c.doorbells + 4 * slot

-- 5.4: the port register sets, of 16 bytes each from 400h on; ports count from 1
abbrev pub port_register : Controller → ℕ → ℕ
port_register c port = c.operational + 0x3f0 + 16 * port

-- 7.1
abbrev pub at_or_none : Option ℕ → ℕ
at_or_none (Some at) = at
at_or_none None = 0

abbrev pub legacy_register : Controller → ℕ
legacy_register c = at_or_none c.legacy

-- 7.2: the ports of a protocol, and the type of slot that they ask for
abbrev pub port_of : Protocol → ℕ → Option Port
port_of protocol index =
    if nat_lt index protocol.count then Some (record { number = min (protocol.first + index) 255; slot_type = protocol.slot_type }) else None

abbrev pub port_in : Option Protocol → ℕ → Option Port
port_in None index = None
port_in (Some protocol) index = port_of protocol index

abbrev pub port_at : Controller → PortPlace → Option Port
port_at c place = port_in (slice_get c.protocols place.protocol) place.index

abbrev pub first_place : PortPlace
first_place = record { protocol = 0; index = 0 }

-- the next port of the protocol, or the first of the next
abbrev pub next_place : Controller → PortPlace → PortPlace
next_place c place =
    let next : PortPlace = record { protocol = place.protocol; index = min (place.index + 1) 255 } in
    if is_some (port_at c next) then next else record { protocol = min (place.protocol + 1) 255; index = 0 }

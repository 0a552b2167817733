-- What the controller itself sets in its registers: interrupts, errors, and what the port meets.
use Rattle.std.specs.Prelude.{Bool, true, false, not, ◌&&◌, ◌||◌, if◌then◌else◌}
use Rattle.xhci_registers.specs.Ports.{detected, is_idle, lost}
use Rattle.xhci_registers.specs.declared.ports.Port.{Port}
use Rattle.xhci_registers.specs.declared.Registers.{Registers}

-- 4.17.2, 4.17.5: an event that isn't blocked sets IP, with it EINT, and EHB, unless EHB says that the driver is at the events already
abbrev pub raised : Registers → Registers
raised registers =
    if registers.interrupter.busy then registers
    else record registers { event_interrupt = true; interrupter = record registers.interrupter { pending = true; busy = true } }

-- the pin: IP and IE and INTE
abbrev pub is_asserted : Registers → Bool
is_asserted registers = registers.interrupter.pending && registers.interrupter.enabled && registers.interrupts

-- a message is sent where the pin would be asserted, and clears IP
abbrev pub messaged : Registers → Registers
messaged registers =
    if is_asserted registers then record registers { interrupter = record registers.interrupter { pending = false } } else registers

-- 4.24: an error of the host's memory sets HSE and stops the controller, and the command ring with it
abbrev pub failed : Registers → Registers
failed registers = record registers { host_error = true; runs = false; command_ring = record registers.command_ring { runs = false } }

-- 5.4.1, 5.4.2: HSE and HSEE, which a system is told out of band
abbrev pub tells_host_error : Registers → Bool
tells_host_error registers = registers.host_error && registers.host_error_interrupts

-- the port is this one now; where it owes an event that it didn't owe, PCD is set
abbrev pub with_port : Registers → Port → Registers
with_port registers port =
    record registers { port = port; port_change = registers.port_change || (port.owes_event && not registers.port.owes_event) }

-- a controller that runs detects a disk that is plugged in and not detected yet
abbrev pub is_detecting : Registers → Bool
is_detecting registers = registers.runs && registers.port.attached && is_idle registers.port

abbrev pub detecting : Registers → Registers
detecting registers = if is_detecting registers then with_port registers (detected registers.port) else registers

-- the disk is plugged in, or is pulled, which a port that had it tells
abbrev pub plugged : Registers → Bool → Registers
plugged registers attached = of_port (record registers.port { attached = attached })
  where
    of_port : Port → Registers
    of_port port = if not attached && port.connected then with_port registers (lost port) else record registers { port = port }

-- the owed event was posted
abbrev pub told : Registers → Registers
told registers = record registers { port = record registers.port { owes_event = false } }

-- The register page, written, and what a write asks for beyond the registers (xHCI 1.2, 5.4 to 5.6).
use Rattle.std.specs.Prelude.{ℕ, ◌==◌, ◌&&◌, ◌||◌, nat_lt, Bool, true, false, not, if◌then◌else◌}
use Rattle.xhci_registers.specs.Bits.{field, is_set, multiple, with_high, with_low}
use Rattle.xhci_registers.specs.Ports.{idle_port, is_reset_by, no_wake, port_written, wake_in}
use Rattle.xhci_registers.specs.Signals.{with_port}
use Rattle.xhci_registers.specs.declared.Effect.{Effect}
use Rattle.xhci_registers.specs.declared.Effect.TheVariants.{Nothing, Reset, PortReset, Halted, CommandRingStopped, CommandDoorbell, Doorbell, EventRing, Dequeued}
use Rattle.xhci_registers.specs.declared.Registers.{Registers}

-- as a reset of the controller leaves them; the disk stays plugged in
abbrev pub reset_registers : Bool → Registers
reset_registers attached = record {
  runs = false;
  interrupts = false;
  host_error_interrupts = false;
  wrap_events = false;
  host_error = false;
  event_interrupt = false;
  port_change = false;
  restore_error = false;
  notifications = 0;
  command_ring = record { pointer = 0; cycle = false; runs = false; low_refused = false };
  contexts = 0;
  config = 0;
  empty_port_wake = no_wake;
  port = idle_port attached;
  frame_index = 0;
  interrupter = record { pending = false; enabled = false; moderation = 4000; table_size = 0; table = 0; dequeue = 0; segment = 0; busy = false };
}

-- CONFIG's MaxSlotsEn, bits 7:0: slot 1 is enabled where it isn't 0 (5.4.7)
abbrev pub has_slots : Registers → Bool
has_slots registers = not (field registers.config 0 0x100 == 0)

-- a write that asks for nothing else
abbrev pub only : Registers → Registers × Effect
only registers = (registers, Nothing)

-- where R/S goes from 1 to 0 the controller halts
abbrev pub halting : Registers → ℕ → Effect
halting registers value = if registers.runs && not (is_set value 0) then Halted else Nothing

-- USBCMD: HCRST resets all at once; R/S stays 0 while HSE is 1 (5.4.2), and where it is cleared the command ring stops too (5.4.5); CRS isn't
-- supported and sets SRE (own)
abbrev pub command_written : Registers → ℕ → Registers × Effect
command_written registers value =
    if is_set value 1 then (reset_registers registers.port.attached, Reset)
    else (
      record registers {
        runs = is_set value 0 && not registers.host_error;
        interrupts = is_set value 2;
        host_error_interrupts = is_set value 3;
        wrap_events = is_set value 10;
        restore_error = registers.restore_error || is_set value 9;
        command_ring = record registers.command_ring { runs = registers.command_ring.runs && is_set value 0 };
      },
      halting registers value,
    )

-- USBSTS: HSE, EINT, PCD and SRE are cleared where they are written 1
abbrev pub status_written : Registers → ℕ → Registers
status_written registers value = record registers {
  host_error = registers.host_error && not (is_set value 2);
  event_interrupt = registers.event_interrupt && not (is_set value 3);
  port_change = registers.port_change && not (is_set value 4);
  restore_error = registers.restore_error && not (is_set value 10);
}

-- CRCR (5.4.5) while the ring runs: CS or CA stops it, and all else is ignored, the high half behind it too; else pointer and cycle state are set
abbrev pub ring_low_written : Registers → ℕ → Registers × Effect
ring_low_written registers value =
    if registers.command_ring.runs then stopped_by (record registers { command_ring = record registers.command_ring { low_refused = true } }) value
    else only (record registers {
      command_ring = record registers.command_ring { pointer = with_low registers.command_ring.pointer (multiple value 64); cycle = is_set value 0; low_refused = false };
    })
  where
    stopped_by : Registers → ℕ → Registers × Effect
    stopped_by registers value =
        if is_set value 1 || is_set value 2
        then (record registers { command_ring = record registers.command_ring { runs = false } }, CommandRingStopped)
        else only registers

abbrev pub ring_high_written : Registers → ℕ → Registers
ring_high_written registers value =
    if registers.command_ring.runs || registers.command_ring.low_refused then registers
    else record registers { command_ring = record registers.command_ring { pointer = with_high registers.command_ring.pointer value } }

-- PORTSC of the disk: PCD is set with the port's change bits
abbrev pub port_change_written : Registers → ℕ → Registers × Effect
port_change_written registers value =
    (with_port registers (port_written registers.port value), if is_reset_by registers.port value then PortReset else Nothing)

-- IMAN: IP is cleared where it is written 1, IE is kept
abbrev pub management_written : Registers → ℕ → Registers
management_written registers value = record registers {
  interrupter = record registers.interrupter { pending = registers.interrupter.pending && not (is_set value 0); enabled = is_set value 1 };
}

-- ERDP's low half: EHB is cleared where it is written 1; the pointer's low bits are 31:4
abbrev pub dequeue_low_written : Registers → ℕ → Registers × Effect
dequeue_low_written registers value = (
  record registers {
    interrupter = record registers.interrupter {
      dequeue = with_low registers.interrupter.dequeue (multiple value 16);
      segment = field value 0 8;
      busy = registers.interrupter.busy && not (is_set value 3);
    };
  },
  Dequeued (registers.interrupter.busy && is_set value 3),
)

abbrev pub operational_written : Registers → ℕ → ℕ → Registers × Effect
operational_written registers at value =
    if at == 0x40 then command_written registers value
    else (if at == 0x44 then only (status_written registers value)
    else (if at == 0x54 then only (record registers { notifications = field value 0 0x10000 })
    else (if at == 0x58 then ring_low_written registers value
    else (if at == 0x5c then only (ring_high_written registers value)
    else (if at == 0x70 then only (record registers { contexts = with_low registers.contexts (multiple value 64) })
    else (if at == 0x74 then only (record registers { contexts = with_high registers.contexts value })
    else (if at == 0x78 then only (record registers { config = field value 0 0x100 })
    else only registers)))))))

abbrev pub ports_written : Registers → ℕ → ℕ → Registers × Effect
ports_written registers at value =
    if at == 0x440 then only (record registers { empty_port_wake = wake_in value })
    else (if at == 0x450 then port_change_written registers value
    else (if at == 0x454 then only (record registers { port = record registers.port { power = field value 0 0x20000 } })
    else only registers))

abbrev pub runtime_written : Registers → ℕ → ℕ → Registers × Effect
runtime_written registers at value =
    if at == 0x620 then only (management_written registers value)
    else (if at == 0x624 then only (record registers { interrupter = record registers.interrupter { moderation = field value 0 0x10000 } })
    else (if at == 0x628 then only (record registers { interrupter = record registers.interrupter { table_size = field value 0 0x10000 } })
    else (if at == 0x630 then (record registers { interrupter = record registers.interrupter { table = with_low registers.interrupter.table (multiple value 64) } }, EventRing)
    else (if at == 0x634 then (record registers { interrupter = record registers.interrupter { table = with_high registers.interrupter.table value } }, EventRing)
    else (if at == 0x638 then dequeue_low_written registers value
    else (if at == 0x63c then (record registers { interrupter = record registers.interrupter { dequeue = with_high registers.interrupter.dequeue value } }, Dequeued false)
    else only registers))))))

-- Doorbells (5.6): DB target 7:0, stream 31:16. Doorbell 0 with target 0 starts the command ring where the controller runs. That of a slot
-- which CONFIG doesn't enable does nothing (5.4.7).
abbrev pub doorbell_written : Registers → ℕ → ℕ → Registers × Effect
doorbell_written registers at value =
    if at == 0x800 then command_doorbell registers (field value 0 0x100)
    else (if at == 0x804 && has_slots registers then (registers, Doorbell (field value 0 0x100) (field value 16 0x10000))
    else only registers)
  where
    command_doorbell : Registers → ℕ → Registers × Effect
    command_doorbell registers target =
        if target == 0 && registers.runs
        then (record registers { command_ring = record registers.command_ring { runs = true } }, CommandDoorbell)
        else only registers

-- a write of the word at a multiple of 4
abbrev pub word_written : Registers → ℕ → ℕ → Registers × Effect
word_written registers at value =
    if nat_lt at 0x400 then operational_written registers at value
    else (if nat_lt at 0x600 then ports_written registers at value
    else (if nat_lt at 0x800 then runtime_written registers at value
    else doorbell_written registers at value))

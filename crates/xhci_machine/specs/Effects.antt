-- What a call from outside makes of the whole controller: a write of the register page with what it asks for beyond the registers (5.4 to
-- 5.6), a reset of the controller, and of the disk.
use Rattle.std.specs.Prelude.{ℕ, ◌+◌, ◌/◌, ◌%◌, ◌^◌, ◌==◌, nat_le, Bool, true, false, not, ◌||◌, if◌then◌else◌, [], None}
use Rattle.guest_bulk.specs.declared.bulk.Bulk.{Bulk}
use Rattle.guest_bulk.specs.declared.bulk.BulkStage.TheVariants.{Awaits}
use Rattle.guest_bulk.specs.Commands.{bulk_restarted}
use Rattle.guest_pipes.specs.declared.consumer.EndpointState.TheVariants.{Disabled}
use Rattle.guest_pipes.specs.Pipe.{disabled as pipe_disabled}
use Rattle.guest_tasks.specs.declared.GuestTasks.{GuestTasks}
use Rattle.guest_transfers.specs.declared.control.StreamPipe.{StreamPipe}
use Rattle.guest_transfers.specs.declared.control.StreamPipe.TheVariants.{Status, DataOut, DataIn}
use Rattle.guest_transfers.specs.Calls.{rung_at}
use Rattle.guest_transfers.specs.Orders.{command_disabled, pipe_of, tags_cleared, with_pipe}
use Rattle.guest_transfers.specs.State.{TransfersState, opening}
use Rattle.uas_tasks.specs.Machine.{powered_machine}
use Rattle.usb_disk.specs.Answers.{both_disk}
use Rattle.xhci_control.specs.Steps.{disabled as control_disabled, disk_reset, opened as control_opened, opened_over, rung_in}
use Rattle.xhci_registers.specs.declared.Effect.{Effect}
use Rattle.xhci_registers.specs.declared.Effect.TheVariants.{Nothing, Reset, PortReset, Halted, CommandRingStopped, CommandDoorbell, Doorbell, EventRing, Dequeued}
use Rattle.xhci_registers.specs.declared.Width.{Width}
use Rattle.xhci_registers.specs.declared.Width.TheVariants.{One, Two, Four, Eight}
use Rattle.xhci_registers.specs.Signals.{plugged}
use Rattle.xhci_registers.specs.Writes.{reset_registers, word_written}
use Rattle.xhci_slots.specs.Slots.{free_slot}
use Rattle.xhci_machine.specs.declared.Machine.{Machine}
use Rattle.xhci_machine.specs.declared.interrupts.Interrupts.{Interrupts}
use Rattle.xhci_machine.specs.declared.ring.CommandRing.{CommandRing}
use Rattle.xhci_machine.specs.declared.states.States.{States}

abbrev pub idle_ring : CommandRing
idle_ring = record { rung = false; owes_stop = false; stopping = None }

abbrev pub no_event_ring : Interrupts
no_event_ring = record { ring = None; dequeued = false; cleared_busy = false; told_full = false }

abbrev pub all_disabled : States
all_disabled = record { control = Disabled; command = Disabled; status = Disabled; data_out = Disabled; data_in = Disabled }

abbrev pub opening_bulk : Bulk
opening_bulk = record { stage = Awaits; chunk = []; taken = []; gathers = false; kept = None }

-- after a reset, with a disk of UAS alone plugged in
abbrev pub opened : GuestTasks → Machine
opened device = record {
  registers = reset_registers true;
  slot = free_slot;
  commands = idle_ring;
  interrupts = no_event_ring;
  control = control_opened;
  transfers = opening;
  bulk = opening_bulk;
  device = device;
  told = all_disabled;
}

-- The disk is reset: it isn't configured, it is in its first alternate setting, every task is gone, and each logical unit owes a unit attention.
abbrev pub device_reset : Machine → Machine
device_reset m = record m {
  device = record m.device { tasks = powered_machine m.device.tasks };
  transfers = tags_cleared m.transfers;
  bulk = bulk_restarted m.bulk;
  control = disk_reset m.control;
}

-- It tells Bulk-Only's alternate setting before that of UAS, of logical units up to this number and with this serial number: it is reset, as
-- another disk in its place, and endpoint 0 is disabled.
abbrev pub bulk_offered : Machine → ℕ → ℕ → Machine
bulk_offered m most_lun serial = record (device_reset m) { control = opened_over (both_disk most_lun serial) }

abbrev pub dropped : TransfersState → StreamPipe → TransfersState
dropped t name = with_pipe t name (pipe_disabled (pipe_of t name).endpoint)

-- all but the registers, as a reset of the controller leaves it
abbrev pub without_endpoints : Machine → Machine
without_endpoints m = record m {
  slot = free_slot;
  commands = idle_ring;
  interrupts = no_event_ring;
  control = control_disabled m.control;
  transfers = dropped (dropped (dropped (command_disabled m.transfers) Status) DataOut) DataIn;
  told = all_disabled;
}

abbrev pub all_reset : Machine → Machine
all_reset m = without_endpoints (device_reset m)

-- the disk is plugged in, or pulled, which resets it
abbrev pub plugged_in : Machine → Bool → Machine
plugged_in m true = record m { registers = plugged m.registers true }
plugged_in m false = device_reset (record m { registers = plugged m.registers false })

-- a doorbell of the slot: 1 is endpoint 0
abbrev pub rung : Machine → ℕ → ℕ → Machine
rung m target stream =
    if target == 1 then record m { control = rung_in m.control.consumer.state m.control }
    else record m { transfers = rung_at m.transfers target stream }

-- what a write asks for beyond the registers; a controller that halts drops what is owed of the command ring
abbrev pub effected : Effect → Machine → Machine
effected Nothing m = m
effected Reset m = all_reset m
effected PortReset m = device_reset m
effected Halted m = record m { commands = idle_ring }
effected CommandRingStopped m = record m { commands = record { rung = false; owes_stop = true; stopping = None } }
effected CommandDoorbell m = record m { commands = record m.commands { rung = true } }
effected (Doorbell target stream) m = rung m target stream
effected EventRing m = record m { interrupts = record m.interrupts { ring = None } }
effected (Dequeued clears) m =
    record m { interrupts = record m.interrupts { dequeued = true; cleared_busy = m.interrupts.cleared_busy || clears } }

-- a word
unfoldable pub word_done : Machine → ℕ → ℕ → Machine
word_done m offset value = effected (word_written m.registers offset value).1 (record m { registers = (word_written m.registers offset value).0 })

-- two words, the low half first
abbrev pub both_done : Machine → ℕ → ℕ → Machine
both_done m offset value = word_done (word_done m offset (value % 2 ^ 32)) (offset + 4) (value / 2 ^ 32)

abbrev pub bytes_done : Machine → ℕ → Width → ℕ → Machine
bytes_done m offset One value = m
bytes_done m offset Two value = m
bytes_done m offset Four value = word_done m offset (value % 2 ^ 32)
bytes_done m offset Eight value = both_done m offset value

-- 4 or 8 bytes at a multiple of 4; any other write does nothing
abbrev pub page_done : Machine → ℕ → Width → ℕ → Machine
page_done m offset width value = if not (offset % 4 == 0) || nat_le 4096 offset then m else bytes_done m offset width value

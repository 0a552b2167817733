-- The form of what is kept of the controller beside tags and device.
use Rattle.std.specs.Prelude.{ℕ, Bool, List, Option}
use Rattle.controller_bytes.specs.Bulk.{bulk_form}
use Rattle.controller_bytes.specs.Consumers.{state_form}
use Rattle.controller_bytes.specs.Control.{control_form}
use Rattle.controller_bytes.specs.Registers.{registers_form}
use Rattle.controller_bytes.specs.Slots.{ring_form, slot_form}
use Rattle.controller_bytes.specs.Transfers.{PipesState, pipes_form, pipes_in, transfers_of}
use Rattle.guest_bulk.specs.declared.bulk.Bulk.{Bulk}
use Rattle.guest_memory.specs.rings.Events.{EventEnd}
use Rattle.guest_pipes.specs.declared.consumer.EndpointState.{EndpointState}
use Rattle.guest_tasks.specs.declared.GuestTasks.{GuestTasks}
use Rattle.guest_transfers.specs.declared.slot.Slot.{Slot as Tag}
use Rattle.machine_bytes.specs.Forms.{Form, flag, mapped, number, optional, pair}
use Rattle.xhci_control.specs.declared.pipe.ControlPipe.{ControlPipe}
use Rattle.xhci_registers.specs.declared.Registers.{Registers}
use Rattle.xhci_slots.specs.declared.Slot.{Slot}
use Rattle.xhci_machine.specs.declared.Machine.{Machine}
use Rattle.xhci_machine.specs.declared.interrupts.Interrupts.{Interrupts}
use Rattle.xhci_machine.specs.declared.ring.CommandRing.{CommandRing}
use Rattle.xhci_machine.specs.declared.states.States.{States}

-- the command ring beside CRCR: doorbell, stop owed, the stream of a Stop Endpoint that is under way (option, 2)
abbrev pub commands_form : Form CommandRing
commands_form = mapped to from (pair flag (pair flag (optional (number 2))))
  where
    to : Bool × (Bool × Option ℕ) → CommandRing
    to c = record { rung = c.0; owes_stop = c.1.0; stopping = c.1.1 }

    from : CommandRing → Bool × (Bool × Option ℕ)
    from c = (c.rung, (c.owes_stop, c.stopping))

-- the event ring (option), whether ERDP was written, whether that cleared EHB, and whether Event Ring Full Error was told
abbrev pub interrupts_form : Form Interrupts
interrupts_form = mapped to from (pair (optional ring_form) (pair flag (pair flag flag)))
  where
    to : Option EventEnd × (Bool × (Bool × Bool)) → Interrupts
    to i = record { ring = i.0; dequeued = i.1.0; cleared_busy = i.1.1.0; told_full = i.1.1.1 }

    from : Interrupts → Option EventEnd × (Bool × (Bool × Bool))
    from i = (i.ring, (i.dequeued, (i.cleared_busy, i.told_full)))

-- the states as they were told: endpoint 0, commands, status, data-out, data-in
abbrev pub states_form : Form States
states_form = mapped to from (pair state_form (pair state_form (pair state_form (pair state_form state_form))))
  where
    to : EndpointState × (EndpointState × (EndpointState × (EndpointState × EndpointState))) → States
    to s = record { control = s.0; command = s.1.0; status = s.1.1.0; data_out = s.1.1.1.0; data_in = s.1.1.1.1 }

    from : States → EndpointState × (EndpointState × (EndpointState × (EndpointState × EndpointState)))
    from s = (s.control, (s.command, (s.status, (s.data_out, s.data_in))))

-- the registers, the rings, the slot and the states that were told
pub record RingsState : Type 0 where
  pub registers : Registers
  pub commands : CommandRing
  pub interrupts : Interrupts
  pub slot : Slot
  pub told : States

abbrev pub rings_form : Form RingsState
rings_form = mapped to from (pair registers_form (pair commands_form (pair interrupts_form (pair slot_form states_form))))
  where
    to : Registers × (CommandRing × (Interrupts × (Slot × States))) → RingsState
    to k = record { registers = k.0; commands = k.1.0; interrupts = k.1.1.0; slot = k.1.1.1.0; told = k.1.1.1.1 }

    from : RingsState → Registers × (CommandRing × (Interrupts × (Slot × States)))
    from k = (k.registers, (k.commands, (k.interrupts, (k.slot, k.told))))

-- all but the tags and the device
pub record KeptState : Type 0 where
  pub rings : RingsState
  pub control : ControlPipe
  pub pipes : PipesState
  pub bulk : Bulk

-- registers; rings; slot and states told; endpoint 0; pipes 2 to 5; Bulk-Only Transport
abbrev pub kept_form : Form KeptState
kept_form = mapped to from (pair rings_form (pair control_form (pair pipes_form bulk_form)))
  where
    to : RingsState × (ControlPipe × (PipesState × Bulk)) → KeptState
    to k = record { rings = k.0; control = k.1.0; pipes = k.1.1.0; bulk = k.1.1.1 }

    from : KeptState → RingsState × (ControlPipe × (PipesState × Bulk))
    from k = (k.rings, (k.control, (k.pipes, k.bulk)))

-- what is kept of a machine
abbrev pub rings_of : Machine → RingsState
rings_of m = record { registers = m.registers; commands = m.commands; interrupts = m.interrupts; slot = m.slot; told = m.told }

abbrev pub kept_of : Machine → KeptState
kept_of m = record { rings = rings_of m; control = m.control; pipes = pipes_in m.transfers; bulk = m.bulk }

-- and a machine of that, its tags and its device
abbrev pub machine_of : KeptState → List Tag → GuestTasks → Machine
machine_of k tags device = record {
  registers = k.rings.registers;
  slot = k.rings.slot;
  commands = k.rings.commands;
  interrupts = k.rings.interrupts;
  control = k.control;
  transfers = transfers_of k.pipes tags;
  bulk = k.bulk;
  device = device;
  told = k.rings.told;
}

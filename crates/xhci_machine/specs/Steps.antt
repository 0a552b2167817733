-- A step of the command ring: its stop is told, or the command in front is taken (xHCI 1.2, 4.6 and 4.9.3). A Bool false, or None for what the
-- step did: memory isn't there, and nothing behind that is done.
use Rattle.std.specs.Prelude.{ℕ, Bool, true, false, not, if◌then◌else◌, Option, Some, None}
use Rattle.guest_memory.specs.Bytes.{Memory}
use Rattle.guest_pipes.specs.declared.acted.Acted.{Acted}
use Rattle.guest_pipes.specs.declared.acted.Acted.TheVariants.{Idle, Emptied, Worked}
use Rattle.guest_pipes.specs.Gate.{room_gate}
use Rattle.guest_pipes.specs.Step.{has_place}
use Rattle.guest_memory.specs.declared.rings.cursor.Cursor.{Cursor}
use Rattle.guest_memory.specs.declared.rings.event.Event.TheVariants.{Command as CommandEvent}
use Rattle.guest_memory.specs.declared.rings.words.Words.{Words}
use Rattle.guest_memory.specs.rings.Ends.{behind, fetched, followed}
use Rattle.xhci_slots.specs.declared.SlotCommand.{SlotCommand}
use Rattle.xhci_machine.specs.declared.Machine.{Machine}
use Rattle.xhci_machine.specs.declared.command.Command.{Command}
use Rattle.xhci_machine.specs.declared.command.Command.TheVariants.{Link, NoOp, OnSlot, OnEndpoint, Foreign}
use Rattle.xhci_machine.specs.declared.command.Order.{Order}
use Rattle.xhci_machine.specs.declared.ring.Ended.{Ended}
use Rattle.xhci_machine.specs.Commands.{command_in}
use Rattle.xhci_machine.specs.Interrupter.{event_posted}
use Rattle.xhci_machine.specs.Orders.{order_done}
use Rattle.xhci_machine.specs.Ring.{command_cursor, ended, has_command, on_slot_done, stood_at, stop_told}
use Rattle.xhci_machine.specs.Turns.{World, with_events}

-- THE COMMAND IN FRONT

-- its event, and the cursor goes there
abbrev pub told_and_stood : World → ℕ → Ended → Cursor → World × Bool
told_and_stood w place how to =
    if has_place w.memory w.events
    then (with_events (stood_at w.machine to) (event_posted w.memory w.events (CommandEvent place how.code how.slot)), true)
    else (w, false)

-- a command that ended
unfoldable pub command_ended : World → Cursor → Ended → World × Bool
command_ended w cursor how = told_and_stood w cursor.place how (behind cursor)

-- a Link is followed; with IOC it posts Success
unfoldable pub link_followed : World → Cursor → Cursor → Bool → World × Bool
link_followed w cursor to ioc =
    if ioc then told_and_stood w cursor.place (ended 1 0) to else (record w { machine = stood_at w.machine to }, true)

abbrev pub with_done : World → Memory × (Machine × Ended) → World
with_done w done = record w { memory = done.0; machine = done.1.0 }

abbrev pub slot_ended : World → Cursor → Option (Memory × (Machine × Ended)) → World × Bool
slot_ended w cursor None = (w, false)
slot_ended w cursor (Some done) = command_ended (with_done w done) cursor done.1.1

-- a command on the slot
unfoldable pub slot_command_taken : World → Cursor → ℕ → SlotCommand → World × Bool
slot_command_taken w cursor slot command = slot_ended w cursor (on_slot_done w.memory w.machine slot command)

abbrev pub worked_if : World × Bool → World × Option Acted
worked_if (w, false) = (w, None)
worked_if (w, true) = (w, Some Worked)

-- a command on an endpoint, which isn't over where it tells of a ring
abbrev pub endpoint_ended : Cursor → World × Option (Option Ended) → World × Bool
endpoint_ended cursor (w, None) = (w, false)
endpoint_ended cursor (w, Some None) = (w, true)
endpoint_ended cursor (w, Some (Some how)) = command_ended w cursor how

unfoldable pub endpoint_command_taken : World → Cursor → ℕ → ℕ → Order → World × Bool
endpoint_command_taken w cursor slot endpoint order = endpoint_ended cursor (order_done w slot endpoint order)

abbrev pub command_taken : World → Cursor → Command → World × Option Acted
command_taken w cursor (Link pointer toggle ioc) = worked_if (link_followed w cursor (followed cursor pointer toggle) ioc)
command_taken w cursor NoOp = worked_if (command_ended w cursor (ended 1 0))
command_taken w cursor (OnSlot slot command) = worked_if (slot_command_taken w cursor slot command)
command_taken w cursor (OnEndpoint slot endpoint order) = worked_if (endpoint_command_taken w cursor slot endpoint order)
command_taken w cursor Foreign = worked_if (command_ended w cursor (ended 5 0))

-- A STEP

abbrev pub stop_posted : World → World × Option Acted
stop_posted w = (
  with_events (stop_told w.machine) (event_posted w.memory w.events (CommandEvent w.machine.registers.command_ring.pointer 24 0)),
  (if has_place w.memory w.events then Some Worked else None),
)

-- no command is there yet: the doorbell is used up
abbrev pub unrung : World → World
unrung w = record w { machine = record w.machine { commands = record w.machine.commands { rung = false } } }

abbrev pub taken_by : World → Cursor → Option Words → World × Option Acted
taken_by w cursor None = (unrung w, Some Emptied)
taken_by w cursor (Some words) = command_taken w cursor (command_in words)

abbrev pub fetched_taken : World → Option (Option Words) → World × Option Acted
fetched_taken w None = (w, None)
fetched_taken w (Some words) = taken_by w (command_cursor w.machine) words

unfoldable pub front_taken : World → World × Option Acted
front_taken w = if w.machine.commands.owes_stop then stop_posted w else fetched_taken w (fetched w.memory (command_cursor w.machine))

abbrev pub through : World → Option (Option Acted) → World × Option Acted
through w None = (w, None)
through w (Some None) = front_taken w
through w (Some (Some acted)) = (w, Some acted)

unfoldable pub commands_stepped : World → World × Option Acted
commands_stepped w = if not (has_command w.machine) then (w, Some Idle) else through w (room_gate w.memory w.events)

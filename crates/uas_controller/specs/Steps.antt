-- What each step makes of the machine, and its answer, whatever bytes stand on the rings (xHCI 4.11, 6.4.2).
use Rattle.std.specs.Prelude.{ℕ, Option, slice_get}
use Rattle.std.specs.Option.{option_map_or}
use Rattle.event_ring.specs.declared.Event.{Event}
use Rattle.event_ring.specs.Events.{taken}
use Rattle.uas_profile.specs.declared.Pipe.{Pipe}
use Rattle.uas_profile.specs.declared.Pipe.TheVariants.{Command, Status, DataIn, DataOut}
use Rattle.uas_profile.specs.declared.TheConstants.{EVENT_RING_PLACES}
use Rattle.stream_array.specs.Rings.{with_events}
use Rattle.uas_target.specs.Device.{answered, wanted}
use Rattle.xhci_ctl.specs.declared.Acted.{Acted}
use Rattle.xhci_ctl.specs.Doorbells.{rung_by}
use Rattle.xhci_ctl.specs.Engine.{engine_acted}
use Rattle.xhci_ctl.specs.Steps.{Sides, armed_front, commanded, moved, room_front, sent_by, stepped_over}
use Rattle.uas_controller.specs.Machine.{MachineState, sides, with_sides}
use Rattle.uas_controller.specs.Own.{foreign, is_own_answer, is_own_command, is_own_in, is_own_out}

-- a step that steps over what is foreign at this address, if there is something, and else does this
abbrev pub over_or : MachineState → Pipe → ℕ → ℕ → Sides × Acted → Option ℕ → Sides × Acted
over_or machine pipe stream tag own foreign = option_map_or (λ address. stepped_over (sides machine) pipe stream address tag) foreign own

-- the machine after a step of a pipe, and the step's answer
abbrev pub stepped : MachineState → Sides × Acted → MachineState × Acted
stepped machine after = (with_sides machine after.0, after.1)

-- a step of the command pipe: what is foreign in front of its ring is stepped over, else the device receives the unit
abbrev pub command_by : MachineState → MachineState × Acted
command_by machine =
    stepped machine (over_or machine Command 0 0 (commanded (sides machine)) (foreign (is_own_command machine.frames) (room_front machine.lines Command 0)))

-- what is foreign in front of an armed stream of a tag
abbrev pub foreign_in : MachineState → ℕ → Option ℕ
foreign_in machine tag =
    foreign (is_own_in machine.frames (wanted machine.device tag)) (armed_front machine.controller machine.lines DataIn tag)

abbrev pub foreign_out : MachineState → ℕ → Option ℕ
foreign_out machine tag =
    foreign (is_own_out machine.frames (wanted machine.device tag)) (armed_front machine.controller machine.lines DataOut tag)

abbrev pub foreign_status : MachineState → ℕ → Option ℕ
foreign_status machine tag =
    foreign (is_own_answer machine.frames (wanted machine.device tag) (answered machine.device tag))
    (armed_front machine.controller machine.lines Status tag)

-- a step of a tag's data: what is foreign in front of data-in is stepped over, else what is in front of data-out, else a chunk moves
abbrev pub data_by : MachineState → ℕ → MachineState × Acted
data_by machine tag =
    stepped machine (over_or machine DataIn tag tag
    (over_or machine DataOut tag tag (moved machine.controller (sides machine) tag) (foreign_out machine tag))
    (foreign_in machine tag))

-- a step of a tag's status: what is foreign in front of its stream is stepped over, else the device's unit is sent
abbrev pub status_by : MachineState → ℕ → MachineState × Acted
status_by machine tag =
    stepped machine (over_or machine Status tag tag (sent_by machine.controller (sides machine) tag) (foreign_status machine tag))

-- a step of the controller's own command ring
abbrev pub engine_by : MachineState → MachineState × Acted
engine_by machine =
    let after = engine_acted (machine.controller, machine.lines) in
    (record machine { controller = after.0.0; lines = after.0.1 }, after.1)

-- a doorbell of this value
abbrev pub rung : MachineState → ℕ → MachineState
rung machine value = record machine { controller = rung_by machine.controller value }

-- the oldest event is taken, if there is one
abbrev pub without_event : MachineState → MachineState
without_event machine = record machine { lines = with_events machine.lines (taken EVENT_RING_PLACES machine.lines.events) }

abbrev pub event_by : MachineState → MachineState × Option Event
event_by machine =
    let event = slice_get machine.lines.events.pending 0 in (option_map_or (λ first. without_event machine) event machine, event)

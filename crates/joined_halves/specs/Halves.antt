-- A driver's half and a controller's half over equal bytes, and what of them is the bus.
use Rattle.std.specs.Prelude.{◌≡◌, ℕ, false, List, fold, slice_get, IsTrue, Some}
use Rattle.event_ring.specs.declared.Event.{Event}
use Rattle.scsi_cmd.specs.declared.Command.{Command}
use Rattle.shared_machine.specs.Shared.{Shared}
use Rattle.shared_machine.specs.declared.Step.TheVariants.{Submit, CommandPipe, Data, Status, Engine}
use Rattle.uas_profile.specs.declared.TheConstants.{STREAMS}
use Rattle.uas_profile.specs.declared.Pipe.{Pipe}
use Rattle.uas_profile.specs.declared.Pipe.TheVariants as Pipe
use Rattle.uas_target.specs.Device.{Device}
use Rattle.block_unit.specs.BlockMaps.{BlockMaps}
use Rattle.stream_array.specs.Rings.{LinesState, IsOpeningLines}
use Rattle.xhci_ctl.specs.Pipes.{ControllerState}
use Rattle.uas_host.specs.Retirement.{is_held}
use Rattle.uas_driver.specs.Driver.{DriverState}
use Rattle.uas_driver.specs.Calls.{is_ticket, is_under, submit_by}
use Rattle.uas_driver.specs.Room.{lacks_room}
use Rattle.uas_controller.specs.Machine.{IsOpening, MachineState}
use Rattle.uas_controller.specs.Steps.{command_by, data_by, engine_by, event_by, rung, status_by}
use Rattle.bus_core.specs.World.{World, world_of}
use Rattle.bus_core.specs.WorldSteps.{event_sides, opening_world, rung_all}
use Rattle.bus_core.specs.WholeStep.{world_after}
use Rattle.bus_core.specs.Fits.{Fits}

-- THE CONTROLLER'S HALF

-- of a bus, the rings, buffers, controller and device, without its host
abbrev pub controller_half : World → MachineState
controller_half world = record { lines = world.lines; frames = world.frames; controller = world.controller; device = world.device }

-- Law: of a new bus, with any number of tags of each client, it is a new controller of the same units and a place for each tag that has a stream.
abbrev pub ControllersBeginAsTheBus : Type 0
ControllersBeginAsTheBus =
    (tags clients : ℕ) (units : List BlockMaps) (lines : LinesState) → IsOpeningLines lines
    → IsOpening STREAMS units (controller_half (opening_world tags units clients lines))

-- Each step of the controller's leaves this half as the bus has it after that step. The oldest event is given out, and the rings are left as
-- the host finds them when it handles that event. Doorbells, in their order, are those of the bus.
pub record StepsAsTheBus (world : World) : Type 0 where
  pub command : (command_by (controller_half world)).0 ≡ controller_half (world_after world CommandPipe)
  pub chunk : (tag : ℕ) → (data_by (controller_half world) tag).0 ≡ controller_half (world_after world (Data tag))
  pub status : (tag : ℕ) → (status_by (controller_half world) tag).0 ≡ controller_half (world_after world (Status tag))
  pub engine : (engine_by (controller_half world)).0 ≡ controller_half (world_after world Engine)
  pub event : (event : Event) → slice_get world.lines.events.pending 0 ≡ Some event
      → event_by (controller_half world) ≡ (record (controller_half world) { lines = (event_sides world).lines }, Some event)
  pub doors : (doors : List ℕ)
      → fold rung (controller_half world) doors ≡ record (controller_half world) { controller = rung_all world.controller doors }

-- Law: so it is in every world that fits a state of the shared machine.
abbrev pub ControllersStepAsTheBus : Type 0
ControllersStepAsTheBus = (state : Shared) (world : World) → Fits state world → StepsAsTheBus world

-- THE DRIVER'S HALF

-- the bus that a driver, a controller and a device are, over the driver's rings and buffers
abbrev pub joined : DriverState → ControllerState → Device → World
joined driver controller device = world_of driver.host controller device driver.lines driver.frames

-- No pipe was given up, and no endpoint is under recovery but the one that the host's own retirement holds: so it is on the bus, where no
-- TD fails.
pub record IsUndisturbed (driver : DriverState) : Type 0 where
  pub kept : driver.given_up ≡ false
  pub held : (pipe : Pipe) → is_under driver.recovery pipe ≡ is_held driver.host pipe
  pub command : is_held driver.host Pipe.Command ≡ false

-- Law: a command, accepted or refused, leaves the bus of the three as the bus's own submission does, once its doorbells were rung.
abbrev pub DriversSubmitAsTheBus : Type 0
DriversSubmitAsTheBus =
    (driver : DriverState) (controller : ControllerState) (device : Device) (client tag ticket : ℕ) (command : Command) → IsUndisturbed driver
    → IsTrue (is_ticket ticket) → lacks_room driver.lines driver.frames tag ≡ false
    → joined (submit_by driver client tag ticket command).0 (rung_all controller (submit_by driver client tag ticket command).2) device
    ≡ world_after (joined driver controller device) (Submit client tag ticket command)

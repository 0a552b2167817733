-- The machine: rings, buffers, an xHCI controller and a device, and no host.
use Rattle.std.specs.Prelude.{◌≡◌, ℕ, List}
use Rattle.block_unit.specs.BlockMaps.{BlockMaps}
use Rattle.stream_array.specs.Rings.{LinesState, IsOpeningLines}
use Rattle.frame_store.specs.declared.TagBuffers.{TagBuffers}
use Rattle.frame_store.specs.Buffers.{opening as opening_frames}
use Rattle.uas_target.specs.Device.{Device, opening as opening_device}
use Rattle.xhci_ctl.specs.Pipes.{ControllerState, new_controller}
use Rattle.xhci_ctl.specs.Steps.{Sides, sides_of}

-- all rings and contexts, the buffers of each tag, the controller's pipes, and the device's units and tasks
pub record MachineState : Type 0 where
  pub lines : LinesState
  pub frames : List TagBuffers
  pub controller : ControllerState
  pub device : Device

-- what a step of a pipe may change of it
abbrev pub sides : MachineState → Sides
sides machine = sides_of machine.lines machine.frames machine.device

-- the machine's controller with those sides
abbrev pub with_sides : MachineState → Sides → MachineState
with_sides machine after = record { lines = after.lines; frames = after.frames; controller = machine.controller; device = after.device }

-- At the start every ring is empty at its address with cycle state 1, all buffers are zeros and nothing is lent, every endpoint runs
-- and no stream was rung, and the device has these units, a place for each tag up to the greatest, and no task.
pub record IsOpening (greatest : ℕ) (units : List BlockMaps) (machine : MachineState) : Type 0 where
  pub lines : IsOpeningLines machine.lines
  pub frames : machine.frames ≡ opening_frames
  pub controller : machine.controller ≡ new_controller
  pub device : machine.device ≡ opening_device greatest units

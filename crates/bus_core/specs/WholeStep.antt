-- The world of rings after any step. Where a step isn't due, or is refused, the world is as it was.
use Rattle.std.specs.Prelude.{ℕ, slice_get, Option, Some, None}
use Rattle.event_ring.specs.declared.Event.{Event}
use Rattle.scsi_cmd.specs.declared.Command.{Command}
use Rattle.scsi_cmd.specs.declared.SubmitFault.{SubmitFault}
use Rattle.scsi_cmd.specs.declared.Task.{Task}
use Rattle.uas_profile.specs.declared.Pipe.{Pipe}
use Rattle.uas_host.specs.declared.Retirement.{Retirement}
use Rattle.uas_host.specs.Retirement.{retirement_for}
use Rattle.uas_host.specs.Submit.{host_fault}
use Rattle.uas_host.specs.Tasks.{task_fault}
use Rattle.shared_machine.specs.declared.Step.{Step}
use Rattle.shared_machine.specs.declared.Step.TheVariants.{Submit, Task as TaskStep, CommandPipe, Data, Status, Engine, Event as EventStep, Retire, Take}
use Rattle.bus_core.specs.World.{World}
use Rattle.bus_core.specs.WorldSteps.{submit_world, task_world, command_world, data_world, status_world, engine_world, event_world, retire_world, take_world}

-- a submission, by the fault that the host finds
abbrev pub submit_by : World → ℕ → ℕ → ℕ → Command → Option SubmitFault → World
submit_by world client tag ticket command None = submit_world world client tag ticket command
submit_by world client tag ticket command (Some fault) = world

abbrev pub submit_after : World → ℕ → ℕ → ℕ → Command → World
submit_after world client tag ticket command =
    submit_by world client tag ticket command (host_fault world.host client tag ticket command)

-- a task management, likewise
abbrev pub task_by : World → ℕ → ℕ → Task → Option SubmitFault → World
task_by world client ticket task None = task_world world client ticket task
task_by world client ticket task (Some fault) = world

abbrev pub task_after : World → ℕ → ℕ → Task → World
task_after world client ticket task = task_by world client ticket task (task_fault world.host client ticket task)

-- an event, by the first that is pending
abbrev pub event_by : World → Option Event → World
event_by world None = world
event_by world (Some event) = event_world world event

abbrev pub event_after : World → World
event_after world = event_by world (slice_get world.lines.events.pending 0)

-- a retirement, by what the host begins
abbrev pub retire_by : World → Pipe → Option Retirement → World
retire_by world pipe None = world
retire_by world pipe (Some retirement) = retire_world world pipe retirement.place

abbrev pub retire_after : World → Pipe → ℕ → World
retire_after world pipe tag = retire_by world pipe (retirement_for world.host pipe tag)

-- Any step. The controller leaves its sides as they are where its step isn't due, and so does the host where no reply is ready.
abbrev pub world_after : World → Step → World
world_after world (Submit client tag ticket command) = submit_after world client tag ticket command
world_after world (TaskStep client ticket task) = task_after world client ticket task
world_after world CommandPipe = command_world world
world_after world (Data tag) = data_world world tag
world_after world (Status tag) = status_world world tag
world_after world Engine = engine_world world
world_after world EventStep = event_after world
world_after world (Retire pipe tag) = retire_after world pipe tag
world_after world (Take client) = take_world world client

-- The world of a bus over rings: everything that host, controller and device hold, and what of it stands under one tag.
use Rattle.std.specs.Prelude.{ℕ, List, Option}
use Rattle.cycle_ring.specs.Items.{ItemRing}
use Rattle.stream_array.specs.Rings.{LinesState, stream_ring}
use Rattle.frame_store.specs.declared.TagBuffers.{TagBuffers}
use Rattle.frame_store.specs.Buffers.{held_for}
use Rattle.scsi_cmd.specs.Held.{held_at}
use Rattle.uas_target.specs.declared.DeviceTask.{DeviceTask}
use Rattle.uas_target.specs.Device.{Device, task_of}
use Rattle.uas_profile.specs.declared.Place.{Place}
use Rattle.uas_host.specs.declared.HostEntry.{HostEntry}
use Rattle.uas_host.specs.State.{HostState, client_of}
use Rattle.uas_profile.specs.Tags.{tag_of}
use Rattle.xhci_ctl.specs.Pipes.{ControllerState}
use Rattle.xhci_ctl.specs.Steps.{Sides}

pub record World : Type 0 where
  pub host : HostState
  pub controller : ControllerState
  pub device : Device
  pub lines : LinesState
  pub frames : List TagBuffers

-- what stands under one tag: the host's entry, the device's task, the rings of its streams, its buffers
pub record Cell : Type 0 where
  pub held : Option HostEntry
  pub task : Option DeviceTask
  pub status : ItemRing
  pub data_in : ItemRing
  pub data_out : ItemRing
  pub buffers : TagBuffers

-- the host's entry at a place
abbrev pub entry_at : HostState → Place → Option HostEntry
entry_at host place = held_at (client_of host place.client).entries place.slot

-- the cell of a place, of so many tags of each client
abbrev pub cell_at : ℕ → World → Place → Cell
cell_at tags world place = record {
  held = entry_at world.host place;
  task = task_of world.device (tag_of tags place);
  status = stream_ring world.lines.status (tag_of tags place);
  data_in = stream_ring world.lines.data_in (tag_of tags place);
  data_out = stream_ring world.lines.data_out (tag_of tags place);
  buffers = held_for world.frames (tag_of tags place);
}

-- what a step of the controller may change
abbrev pub sides_in : World → Sides
sides_in world = record { lines = world.lines; frames = world.frames; device = world.device }

abbrev pub with_sides : World → Sides → World
with_sides world sides = record world { lines = sides.lines; frames = sides.frames; device = sides.device }

-- the world of these parts
abbrev pub world_of : HostState → ControllerState → Device → LinesState → List TagBuffers → World
world_of host controller device lines frames =
    record { host = host; controller = controller; device = device; lines = lines; frames = frames }

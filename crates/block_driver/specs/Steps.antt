-- A disk with many commands out: what each step tells.
use Rattle.std.specs.Prelude.{ℕ, ◌+◌, ◌*◌, ◌-◌, ◌^◌, ◌||◌, ◌&&◌, not, if◌then◌else◌, Bool, Option, None, Some, is_none, is_some, List, true, false, bit_and, bit_or, replicate, slice_index_or}
use Rattle.bring_up.specs.declared.access.Access.{Access}
use Rattle.bring_up.specs.declared.access.Access.TheVariants.{Rest}
use Rattle.bring_up.specs.declared.commands.Putting.{Putting}
use Rattle.bring_up.specs.declared.taken.Taken.{Taken}
use Rattle.bring_up.specs.Accesses.{load_in, read_at, write_at}
use Rattle.bring_up.specs.CommandRings.{command_put}
use Rattle.bring_up.specs.Registers.{doorbell, port_register}
use Rattle.bring_up.specs.Services.{service_access}
use Rattle.disk_ready.specs.Puts.{pipe_begun, place_in}
use Rattle.disk_ready.specs.Steps.{target_of}
use Rattle.disk_up.specs.Controls.{at_or_zero}
use Rattle.host_layout.specs.declared.layout.Area.TheVariants.{OfTag}
use Rattle.host_layout.specs.declared.layout.Fixed.TheVariants.{DeviceContext}
use Rattle.host_layout.specs.declared.layout.TagArea.TheVariants.{StatusUnit}
use Rattle.host_layout.specs.Places.{context_of, place_of}
use Rattle.host_trbs.specs.declared.commands.Command.{Command}
use Rattle.host_trbs.specs.declared.commands.Command.TheVariants.{StopEndpoint, SetDequeue}
use Rattle.host_trbs.specs.Commands.{command_words}
use Rattle.usb_descriptors.specs.declared.Pipes.{Pipes}
use Rattle.usb_descriptors.specs.declared.UasFunction.{UasFunction}
use Rattle.usb_descriptors.specs.declared.stream_tags.Streams.{Streams}
use Rattle.usb_descriptors.specs.Endpoints.{context_index}
use Rattle.block_driver.specs.declared.freeing.Freeing.{Freeing}
use Rattle.block_driver.specs.declared.freeing.Freeing.TheVariants.{Stop, Move}
use Rattle.block_driver.specs.declared.freeing.Removal.{Removal}
use Rattle.block_driver.specs.declared.closing.Closing.{Closing}
use Rattle.block_driver.specs.declared.closing.Closing.TheVariants as closing
use Rattle.block_driver.specs.declared.steps.Blocks.{Blocks}
use Rattle.block_driver.specs.declared.steps.Work.{Work}
use Rattle.block_driver.specs.declared.steps.Work.TheVariants as work
use Rattle.block_driver.specs.declared.table.Entry.{Entry}
use Rattle.block_driver.specs.declared.kinds.Kind.TheVariants.{Out, Waiting}
use Rattle.block_driver.specs.declared.kinds.StreamPipe.{StreamPipe}
use Rattle.block_driver.specs.declared.kinds.StreamPipe.TheVariants as pipe
use Rattle.block_driver.specs.declared.tasks.OwnTask.{OwnTask}
use Rattle.block_driver.specs.Rings.{ring_on, third_on, thirds_begun}
use Rattle.block_driver.specs.Tasks.{own_access}
use Rattle.block_driver.specs.Table.{entry_access, entry_at, first_of, least_limit}

-- the disk with its commands, and the controller
pub record World : Type 0 where
  pub blocks : Blocks
  pub taken : Taken

abbrev pub with_blocks : World → Blocks → World
with_blocks w blocks = record { blocks = blocks; taken = w.taken }

abbrev pub with_taken : World → Taken → World
with_taken w taken = record { blocks = w.blocks; taken = taken }

abbrev pub in_work : Blocks → Work → Blocks
in_work b next = record b { work = next }

abbrev pub begun_blocks : List Entry → Blocks
begun_blocks tags = record {
  tags = tags;
  thirds = replicate 256 thirds_begun;
  pipe = pipe_begun;
  disk = None;
  number = 0;
  work = work.Idle;
  removal = None;
  own = None;
  is_interrupted = false;
  loss = None;
  closing = closing.Open;
}

-- THE REST: until a command waits, an interrupt came, or the time of a command on the command ring, or of the driver's own task, or else of any, is
-- over; while TDs are taken off, and while that task is out, no command is put

abbrev pub waiting : Blocks → Option ℕ
waiting b = if is_some b.removal || is_some b.own then None else first_of Waiting b.tags

-- it is shutting down, and no command is out
abbrev pub is_draining : Closing → Bool
is_draining closing.Draining = true
is_draining _ = false

abbrev pub is_drained : Blocks → Bool
is_drained b = is_draining b.closing && is_none (first_of Out b.tags)

abbrev pub is_closable : Blocks → Bool
is_closable b = is_none b.removal && is_none b.own && is_drained b

abbrev pub rest_until : Option Removal → Option OwnTask → List Entry → ℕ
rest_until None None tags = least_limit tags
rest_until None (Some own) tags = own.limit
rest_until (Some removal) own tags = removal.limit

abbrev pub idle_until : Blocks → ℕ
idle_until b = if b.is_interrupted || is_some (waiting b) || is_closable b then 0 else rest_until b.removal b.own b.tags

-- TAKING TDS OFF: 4.6.9, then 4.6.10 to the next third of the stream's ring

abbrev pub endpoint_of : StreamPipe → Pipes → ℕ
endpoint_of pipe.DataIn pipes = context_index pipes.data_in
endpoint_of pipe.DataOut pipes = context_index pipes.data_out
endpoint_of pipe.Status pipes = context_index pipes.status

abbrev pub freeing_command : Freeing → World → Pipes → StreamPipe → Command
freeing_command (Stop since) w pipes on = StopEndpoint w.taken.device.slot (endpoint_of on pipes)
freeing_command (Move tag) w pipes on =
    SetDequeue (at_or_zero (place_in w.taken.layout (ring_on on tag) (third_on on (slice_index_or w.blocks.thirds tag thirds_begun)) 0)) tag
    w.taken.device.slot (endpoint_of on pipes)

abbrev pub freeing_access : World → Pipes → Removal → Putting → Access
freeing_access w pipes removal at =
    command_put w.taken.commands w.taken.controller w.taken.layout at
    (command_words (freeing_command removal.freeing w pipes removal.pipe) w.taken.commands.cycle)
    (command_words (freeing_command removal.freeing w pipes removal.pipe) (not w.taken.commands.cycle))

-- 5.4.8: the change bits of PORTSC, 23:17, are cleared by a 1, and nothing else is changed
abbrev pub changes_cleared : ℕ → ℕ
changes_cleared value = bit_or (bit_and value 0x0e00c3e0) (bit_and value 0x00fe0000)

-- THE ACCESS

abbrev pub work_access : Work → World → Pipes → Access
work_access work.Idle w pipes = Rest (idle_until w.blocks)
work_access (work.Put tag at) w pipes = entry_access (entry_at w.blocks.tags tag) at w.taken.controller w.taken.layout (target_of w.taken pipes)
work_access (work.Serve service) w pipes = service_access service w.taken.controller w.taken.layout w.taken.events
work_access (work.Unit tag count service) w pipes = load_in (place_of w.taken.layout (OfTag tag StatusUnit)) count
work_access (work.Port service) w pipes = read_at (port_register w.taken.controller w.taken.device.port.number)
work_access (work.Changes value service) w pipes = write_at (port_register w.taken.controller w.taken.device.port.number) (changes_cleared value)
work_access (work.Free removal at) w pipes = freeing_access w pipes removal at
work_access (work.Context on) w pipes = load_in (context_of w.taken.layout DeviceContext 32 (endpoint_of on pipes)) 32
work_access (work.Ring on tag) w pipes =
    write_at (doorbell w.taken.controller w.taken.device.slot) (endpoint_of on pipes + tag * 2 ^ 16)
work_access (work.Own at) w pipes = own_access w.blocks.own at w.taken.controller w.taken.layout (target_of w.taken pipes)

abbrev pub blocks_access : World → Pipes → Access
blocks_access w pipes = work_access w.blocks.work w pipes

-- a device whose pipes aren't known has none
abbrev pub found_access : Option (UasFunction × Streams) → World → Access
found_access None w = Rest (2 ^ 64 - 1)
found_access (Some found) w = blocks_access w found.0.pipes

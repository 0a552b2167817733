-- What commands of the command ring make of a pipe and of memory, and a doorbell of a stream that isn't there, or of a pipe without streams.
use Rattle.std.specs.Prelude.{ℕ, ◌==◌, false, not, if◌then◌else◌, Option, Some, None, option_map}
use Rattle.guest_memory.specs.Bytes.{Memory, written}
use Rattle.guest_memory.specs.declared.rings.cursor.Cursor.{Cursor}
use Rattle.guest_memory.specs.rings.Ends.{home_at, home_bytes}
use Rattle.guest_memory.specs.rings.Events.{EventEnd}
use Rattle.guest_pipes.specs.declared.acted.Acted.{Acted}
use Rattle.guest_pipes.specs.declared.acted.Acted.TheVariants.{Off, Idle, Worked}
use Rattle.guest_pipes.specs.Step.{World, has_home, refused}
use Rattle.guest_pipes.specs.Gate.{is_running, room_gate, through}
use Rattle.guest_pipes.specs.Pipe.{PipeState, forgotten, home_of, loaded, ring_home, stored}
use Rattle.guest_pipes.specs.Unserved.{unserved_stepped}

-- Set TR Dequeue Pointer: the stream's context has the pointer, DCS and SCT, and what was moved is forgotten; None where the context
-- isn't there
unfoldable pub dequeue_set : Memory → PipeState → ℕ → Cursor → ℕ → Option (Memory × PipeState)
dequeue_set memory p stream cursor kind =
    if has_home memory (home_of p stream)
    then Some (written memory (home_at (home_of p stream)) (home_bytes (home_of p stream) kind cursor), forgotten p stream) else None

-- all that such a step may change
pub record PipeWorld : Type 0 where
  pub memory : Memory
  pub events : EventEnd
  pub pipe : PipeState

abbrev pub pipe_ring : PipeWorld → ℕ → World
pipe_ring w stream = record { memory = w.memory; events = w.events; consumer = loaded w.pipe stream }

-- a doorbell of a stream that isn't there: Invalid Stream ID, and the endpoint halts
abbrev pub invalid_kept : PipeWorld → World → PipeWorld
invalid_kept w ring = record {
  memory = ring.memory;
  events = ring.events;
  pipe = record w.pipe { state = ring.consumer.state; invalid = false };
}

abbrev pub invalid_told : PipeWorld → PipeWorld
invalid_told w = invalid_kept w (refused (pipe_ring w 0) 34)

unfoldable pub invalid_stepped : PipeWorld → Option (PipeWorld × Acted)
invalid_stepped w =
    if not (is_running w.pipe.state) then Some (w, Off)
    else if not w.pipe.invalid then Some (w, Idle)
    else through w (room_gate w.memory w.events) (Some (invalid_told w, Worked))

-- a pipe without streams, whose one ring nothing can serve: its TDs are told with this code
abbrev pub lone_done : PipeWorld → World × Acted → PipeWorld × Acted
lone_done w done = (record { memory = done.0.memory; events = done.0.events; pipe = stored w.pipe 0 done.0.consumer }, done.1)

abbrev pub lone_stepped : ℕ → PipeWorld → Option (PipeWorld × Acted)
lone_stepped code w = option_map (lone_done w) (unserved_stepped (pipe_ring w 0) (ring_home w.pipe 0) code)

-- a doorbell that no stream's turn serves
abbrev pub stray_stepped : ℕ → PipeWorld → Option (PipeWorld × Acted)
stray_stepped code w = if w.pipe.streams == 0 then lone_stepped code w else invalid_stepped w

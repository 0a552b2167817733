-- The first range of memory that a step at a ring's end lacks: the event's place, then where the ring's end is kept and the TRB there,
-- then what the step moves of the TRB's buffer.
use Rattle.std.specs.Prelude.{ℕ, ◌+◌, ◌*◌, ◌^◌, ◌==◌, nat_lt, if◌then◌else◌, Option, Some, None}
use Rattle.guest_memory.specs.Bytes.{Memory}
use Rattle.guest_memory.specs.declared.rings.context.Front.{Front}
use Rattle.guest_memory.specs.declared.rings.context.Home.TheVariants.{Endpoint}
use Rattle.guest_memory.specs.declared.rings.wanting.Range.{Range}
use Rattle.guest_memory.specs.rings.Ends.{looked}
use Rattle.guest_memory.specs.rings.Events.{EventEnd, enqueue_pointer}
use Rattle.guest_memory.specs.rings.Wanted.{look_wanted}
use Rattle.guest_pipes.specs.declared.acted.Acted.{Acted}
use Rattle.guest_pipes.specs.Gate.{gate}
use Rattle.guest_pipes.specs.Pipe.{PipeState, home_of}
use Rattle.guest_pipes.specs.Step.{World}

-- the next event's place
abbrev pub place_range : EventEnd → Range
place_range events = record { at = enqueue_pointer events; count = 16 }

-- of a stream's context and of the TRB at its ring's end; of the array up to that context where it would begin at 2 ^ 64 or above
abbrev pub front_wanted : Memory → PipeState → ℕ → Option Range
front_wanted memory p stream =
    if nat_lt (p.array + 16 * stream) (2 ^ 64) then look_wanted memory (home_of p stream)
    else Some (record { at = p.array; count = 16 * stream + 16 })

-- of a pipe with streams or without
abbrev pub ring_wanted : Memory → PipeState → ℕ → Option Range
ring_wanted memory p stream = if p.streams == 0 then look_wanted memory (Endpoint p.array) else front_wanted memory p stream

-- by what was found at the end: the part of its buffer that moves
abbrev pub wanted_of : Option Front → Option Range → (Front → Option Range) → Option Range
wanted_of None lacks part = lacks
wanted_of (Some front) lacks part = part front

-- a step that is held back lacks nothing
abbrev pub wanted_through : Option (Option Acted) → EventEnd → Option Range → Option Range
wanted_through None events rest = Some (place_range events)
wanted_through (Some None) events rest = rest
wanted_through (Some (Some acted)) events rest = None

-- of a step for a stream
abbrev pub step_wanted : World → PipeState → ℕ → (Front → Option Range) → Option Range
step_wanted w p stream part =
    wanted_through (gate w.memory w.events w.consumer) w.events (wanted_of (looked w.memory (home_of p stream)) (front_wanted w.memory p stream) part)

-- A pipe none of whose rings anything serves (xHCI 1.2, 4.8.3 and 4.10.2): the TD in front of the first ring whose doorbell is rung is told with a
-- completion code and what is left of it, that ring stays there, and the endpoint halts.
use Rattle.std.specs.Prelude.{ℕ, zero, suc, ◌-◌, ◌==◌, ◌||◌, if◌then◌else◌, Option, Some, None, option_map}
use Rattle.guest_memory.specs.Bytes.{Memory}
use Rattle.guest_memory.specs.declared.rings.context.Home.TheVariants.{Endpoint}
use Rattle.guest_memory.specs.declared.rings.wanting.Range.{Range}
use Rattle.guest_memory.specs.rings.Events.{EventEnd}
use Rattle.guest_memory.specs.rings.Wanted.{look_wanted}
use Rattle.guest_pipes.specs.declared.acted.Acted.{Acted}
use Rattle.guest_pipes.specs.declared.acted.Acted.TheVariants.{Idle}
use Rattle.guest_pipes.specs.declared.consumer.Consumer.{Consumer}
use Rattle.guest_pipes.specs.Gate.{after, gate}
use Rattle.guest_pipes.specs.Orders.{PipeWorld, pipe_ring, stray_stepped}
use Rattle.guest_pipes.specs.Pipe.{PipeState, home_of, loaded, rung_on, stored}
use Rattle.guest_pipes.specs.Step.{World}
use Rattle.guest_pipes.specs.Unserved.{unserved_stepped}
use Rattle.guest_pipes.specs.Wanted.{front_wanted, wanted_through}
use Rattle.guest_transfers.specs.declared.control.StreamPipe.{StreamPipe}
use Rattle.guest_transfers.specs.Orders.{pipe_world, stray_noted}
use Rattle.guest_transfers.specs.State.{TransfersState}
use Rattle.guest_transfers.specs.Wanted.{stray_wanted}

-- WHICH RING

-- of so many streams from one on the first whose doorbell is rung
abbrev pub rung_among : PipeState → ℕ → ℕ → Option ℕ
rung_among p zero stream = None
rung_among p (suc left) stream = if rung_on p stream then Some stream else rung_among p left (suc stream)

unfoldable pub rung_from : PipeState → ℕ → Option ℕ
rung_from p from = rung_among p (256 - from) from

-- the first of all
abbrev pub next_rung : PipeState → Option ℕ
next_rung p = rung_from p 0

-- A STEP

abbrev pub rung_done : ℕ → PipeWorld → World × Acted → PipeWorld × Acted
rung_done stream w done = (record { memory = done.0.memory; events = done.0.events; pipe = stored w.pipe stream done.0.consumer }, done.1)

abbrev pub rung_stepped : ℕ → PipeWorld → ℕ → Option (PipeWorld × Acted)
rung_stepped code w stream = option_map (rung_done stream w) (unserved_stepped (pipe_ring w stream) (home_of w.pipe stream) code)

abbrev pub rung_or_idle : ℕ → PipeWorld → Option ℕ → Option (PipeWorld × Acted)
rung_or_idle code w None = Some (w, Idle)
rung_or_idle code w (Some stream) = rung_stepped code w stream

-- a doorbell of a stream that isn't there comes first; a pipe without streams has one ring
abbrev pub silent_stepped : ℕ → PipeWorld → Option (PipeWorld × Acted)
silent_stepped code w =
    if w.pipe.streams == 0 || w.pipe.invalid then stray_stepped code w else rung_or_idle code w (next_rung w.pipe)

abbrev pub silent_on : ℕ → Memory → EventEnd → TransfersState → StreamPipe → Memory × (EventEnd × (TransfersState × Option Acted))
silent_on code memory events t name =
    stray_noted t name (after (pipe_world memory events t name) (silent_stepped code (pipe_world memory events t name)))

-- THE COMMAND PIPE

abbrev pub command_ring : Memory → EventEnd → TransfersState → World
command_ring memory events t = record { memory = memory; events = events; consumer = t.command }

abbrev pub command_noted : TransfersState → World × Option Acted → Memory × (EventEnd × (TransfersState × Option Acted))
command_noted t after = (after.0.memory, (after.0.events, (record t { command = after.0.consumer }, after.1)))

abbrev pub silent_command : ℕ → Memory → EventEnd → TransfersState → Memory × (EventEnd × (TransfersState × Option Acted))
silent_command code memory events t =
    command_noted t (after (command_ring memory events t) (unserved_stepped (command_ring memory events t) (Endpoint t.home) code))

-- THE FIRST RANGE THAT A STEP LACKS

abbrev pub rung_wanted : Memory → EventEnd → PipeState → Option ℕ → Option Range
rung_wanted memory events p None = None
rung_wanted memory events p (Some stream) = wanted_through (gate memory events (loaded p stream)) events (front_wanted memory p stream)

abbrev pub silent_wanted : Memory → EventEnd → PipeState → Option Range
silent_wanted memory events p =
    if p.streams == 0 || p.invalid then stray_wanted memory events p else rung_wanted memory events p (next_rung p)

abbrev pub silent_command_wanted : Memory → EventEnd → Consumer → ℕ → Option Range
silent_command_wanted memory events consumer home = wanted_through (gate memory events consumer) events (look_wanted memory (Endpoint home))

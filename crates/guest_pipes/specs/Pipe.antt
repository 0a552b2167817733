-- A pipe of streams: its endpoint, its array of stream contexts, and what is kept of each stream's ring. Without streams it has one ring, whose
-- end is in the endpoint context (xHCI 1.2, 4.12.2 and 6.2.3).
use Rattle.std.specs.Prelude.{ℕ, ◌+◌, ◌*◌, ◌==◌, nat_le, nat_lt, Bool, true, false, ◌&&◌, if◌then◌else◌, List, replicate, get_or, set}
use Rattle.guest_memory.specs.declared.rings.context.Home.{Home}
use Rattle.guest_memory.specs.declared.rings.context.Home.TheVariants.{Stream, Endpoint}
use Rattle.guest_pipes.specs.declared.progress.Progress.{Progress}
use Rattle.guest_pipes.specs.declared.consumer.EndpointState.{EndpointState}
use Rattle.guest_pipes.specs.declared.consumer.EndpointState.TheVariants.{Disabled, Running, Halted, Stopped, Error}
use Rattle.guest_pipes.specs.declared.consumer.Consumer.{Consumer}
use Rattle.guest_pipes.specs.Progress.{fresh}

-- streams is how many contexts the array has, 0 where the endpoint has no streams, and then array is where the dequeue pointer of its one ring
-- is, and what is kept of that stands in place 0; invalid where a doorbell rang for a stream that isn't there
pub record PipeState : Type 0 where
  pub endpoint : ℕ
  pub state : EndpointState
  pub array : ℕ
  pub streams : ℕ
  pub invalid : Bool
  pub rung : List Bool
  pub progress : List Progress

-- no stream has anything
abbrev pub disabled : ℕ → PipeState
disabled endpoint = record {
  endpoint = endpoint;
  state = Disabled;
  array = 0;
  streams = 0;
  invalid = false;
  rung = replicate 256 false;
  progress = replicate 256 fresh;
}

-- Configure Endpoint adds it
abbrev pub configured : PipeState → ℕ → ℕ → PipeState
configured p array streams = record (disabled p.endpoint) { state = Running; array = array; streams = streams }

-- whether the array has a stream; stream 0 is none
abbrev pub has_stream : PipeState → ℕ → Bool
has_stream p stream = nat_le 1 stream && nat_lt stream p.streams

-- where a stream's consumer's end is kept
abbrev pub home_of : PipeState → ℕ → Home
home_of p stream = Stream (p.array + 16 * stream)

abbrev pub rung_on : PipeState → ℕ → Bool
rung_on p stream = get_or p.rung stream false

abbrev pub progress_on : PipeState → ℕ → Progress
progress_on p stream = get_or p.progress stream fresh

-- where the consumer's end of a ring is kept, of a pipe with streams or without
abbrev pub ring_home : PipeState → ℕ → Home
ring_home p stream = if p.streams == 0 then Endpoint p.array else home_of p stream

-- the consumer of a stream's ring
abbrev pub loaded : PipeState → ℕ → Consumer
loaded p stream = record { endpoint = p.endpoint; state = p.state; rung = rung_on p stream; progress = progress_on p stream }

-- and the pipe once it has changed
abbrev pub stored : PipeState → ℕ → Consumer → PipeState
stored p stream consumer = record p {
  state = consumer.state;
  rung = set p.rung stream consumer.rung;
  progress = set p.progress stream consumer.progress;
}

-- a doorbell of an endpoint that runs: one of a stream that isn't there is noted as such; without streams the doorbell's stream isn't looked
-- at (5.6)
abbrev pub noted : PipeState → ℕ → PipeState
noted p stream =
    if p.streams == 0 then record p { rung = set p.rung 0 true }
    else if has_stream p stream then record p { rung = set p.rung stream true }
    else record p { invalid = true }

-- whether a doorbell rang that no stream's turn serves: of a stream that isn't there, or of a pipe without streams
abbrev pub has_stray : PipeState → Bool
has_stray p = if p.streams == 0 then rung_on p 0 else p.invalid

-- a doorbell: of an endpoint that is stopped it starts it, else it does nothing unless that runs
abbrev pub rung_by : EndpointState → PipeState → ℕ → PipeState
rung_by Disabled p stream = p
rung_by Running p stream = noted p stream
rung_by Halted p stream = p
rung_by Stopped p stream = noted (record p { state = Running }) stream
rung_by Error p stream = p

-- Stop Endpoint: the doorbells are forgotten, and what is opaque stays
abbrev pub stopped : PipeState → PipeState
stopped p = record p { state = Stopped; invalid = false; rung = replicate 256 false }

-- Reset Endpoint: what is opaque stays where it preserves the transfer state (TSP)
abbrev pub reset_with : Bool → PipeState → PipeState
reset_with true p = record p { state = Stopped }
reset_with false p = record p { state = Stopped; progress = replicate 256 fresh }

-- Set TR Dequeue Pointer: what was moved is forgotten, and an endpoint in error is stopped
abbrev pub recovered : EndpointState → EndpointState
recovered Disabled = Disabled
recovered Running = Running
recovered Halted = Halted
recovered Stopped = Stopped
recovered Error = Stopped

abbrev pub forgotten : PipeState → ℕ → PipeState
forgotten p stream = record p { state = recovered p.state; progress = set p.progress stream fresh }

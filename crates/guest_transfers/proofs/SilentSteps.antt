-- A step of a pipe that nothing serves: where it lacks nothing it isn't refused, and is the same with another memory beside.
use Rattle.std.proofs.Common.{◌≡◌, ℕ, ◌==◌, Bool, true, false, Option, Some, None, refl, ap, ◌∙◌, ◌||◌, arith}
use Rattle.std.specs.Prelude.{is_some, if◌then◌else◌, option_map}
use Rattle.std.proofs.lemmas.Bool.{false≢true}
use Rattle.guest_memory.specs.Bytes.{IsWithinAddresses, Memory}
use Rattle.guest_memory.specs.declared.rings.context.Home.{Home}
use Rattle.guest_memory.specs.declared.rings.context.Home.TheVariants.{Endpoint}
use Rattle.guest_memory.specs.rings.Events.{EventEnd}
use Rattle.guest_memory.specs.rings.Wanted.{LacksIt, look_wanted}
use Rattle.guest_memory.specs.rings.WantedLaws.{look_lacks, look_there}
use Rattle.guest_pipes.specs.declared.acted.Acted.{Acted}
use Rattle.guest_pipes.specs.Gate.{after, gate}
use Rattle.guest_pipes.specs.Orders.{PipeWorld, pipe_ring, stray_stepped}
use Rattle.guest_pipes.specs.Pipe.{home_of, loaded}
use Rattle.guest_pipes.specs.Step.{World}
use Rattle.guest_pipes.specs.Unserved.{unserved_stepped}
use Rattle.guest_pipes.specs.Wanted.{front_wanted, wanted_through}
use Rattle.guest_pipes.specs.WantedLaws.{front_lacks, front_there, gate_lacks}
use Rattle.guest_transfers.specs.declared.control.StreamPipe.{StreamPipe}
use Rattle.guest_transfers.specs.State.{TransfersState}
use Rattle.guest_transfers.specs.Orders.{pipe_of, pipe_world, stray_noted}
use Rattle.guest_transfers.specs.Wanted.{stray_wanted}
use Rattle.guest_transfers.specs.Silent.{command_noted, command_ring, next_rung, rung_done, rung_or_idle, rung_stepped, rung_wanted, silent_command, silent_command_wanted, silent_on, silent_stepped, silent_wanted}
use Rattle.guest_transfers.specs.Beside.{beside}
use Rattle.guest_transfers.proofs.BesideRing.{ring_beside}
use Rattle.guest_transfers.proofs.Stray.{done_beside, pipe_beside, stray_after, stray_lacks, unserved_after}

rung_after : (code : ℕ) (w : PipeWorld) (stream : ℕ) (rest : Memory) → rung_wanted w.memory w.events w.pipe (Some stream) ≡ None
    → (is_some (after w (rung_stepped code w stream)).1 ≡ true)
    × (after (pipe_beside w rest) (rung_stepped code (pipe_beside w rest) stream)
    ≡ (pipe_beside (after w (rung_stepped code w stream)).0 rest, (after w (rung_stepped code w stream)).1))
rung_after code w stream rest none =
    let home : Home = home_of w.pipe stream in
    let law = unserved_after (pipe_ring w stream) rest home code (front_wanted w.memory w.pipe stream) (front_there w.memory w.pipe stream) none in
    let kept = by_step (unserved_stepped (pipe_ring w stream) home code) law.0 in
    let out : Option (World × Acted) → PipeWorld × Option Acted =
    λ step. after (pipe_beside w rest) (option_map (rung_done stream (pipe_beside w rest)) step) in
    (kept.0, ap out law.1 ∙ kept.1)
  where
    by_step : (step : Option (World × Acted)) → is_some step ≡ true
        → (is_some (after w (option_map (rung_done stream w) step)).1 ≡ true)
        × (after (pipe_beside w rest) (option_map (rung_done stream (pipe_beside w rest)) (option_map (λ (done : World × Acted). done_beside done rest) step))
        ≡ (pipe_beside (after w (option_map (rung_done stream w) step)).0 rest, (after w (option_map (rung_done stream w) step)).1))
    by_step None some = absurd (false≢true some)
    by_step (Some done) some = (refl, refl)

silent_after : (code : ℕ) (w : PipeWorld) (rest : Memory) → silent_wanted w.memory w.events w.pipe ≡ None
    → (is_some (after w (silent_stepped code w)).1 ≡ true)
    × (after (pipe_beside w rest) (silent_stepped code (pipe_beside w rest)) ≡ (pipe_beside (after w (silent_stepped code w)).0 rest, (after w (silent_stepped code w)).1))
silent_after code w rest none = by_kind (w.pipe.streams == 0 || w.pipe.invalid) none
  where
    by_ring : (stream : Option ℕ) → rung_wanted w.memory w.events w.pipe stream ≡ None
        → (is_some (after w (rung_or_idle code w stream)).1 ≡ true)
        × (after (pipe_beside w rest) (rung_or_idle code (pipe_beside w rest) stream)
        ≡ (pipe_beside (after w (rung_or_idle code w stream)).0 rest, (after w (rung_or_idle code w stream)).1))
    by_ring None none = (refl, refl)
    by_ring (Some stream) none = rung_after code w stream rest none

    by_kind : (stray : Bool) → (if stray then stray_wanted w.memory w.events w.pipe else rung_wanted w.memory w.events w.pipe (next_rung w.pipe)) ≡ None
        → (is_some (after w (if stray then stray_stepped code w else rung_or_idle code w (next_rung w.pipe))).1 ≡ true)
        × (after (pipe_beside w rest) (if stray then stray_stepped code (pipe_beside w rest) else rung_or_idle code (pipe_beside w rest) (next_rung w.pipe))
        ≡ (
          pipe_beside (after w (if stray then stray_stepped code w else rung_or_idle code w (next_rung w.pipe))).0 rest,
          (after w (if stray then stray_stepped code w else rung_or_idle code w (next_rung w.pipe))).1,
        ))
    by_kind true none = stray_after code w rest none
    by_kind false none = by_ring (next_rung w.pipe) none

pub silent_there : (code : ℕ) (memory : Memory) (events : EventEnd) (t : TransfersState) (name : StreamPipe)
    → silent_wanted memory events (pipe_of t name) ≡ None → is_some (silent_on code memory events t name).1.1.1 ≡ true
silent_there code memory events t name none = (silent_after code (pipe_world memory events t name) memory none).0

pub silent_lacks : (memory : Memory) (events : EventEnd) (t : TransfersState) (name : StreamPipe) → IsWithinAddresses memory
    → LacksIt memory (silent_wanted memory events (pipe_of t name))
silent_lacks memory events t name ends = by_kind ((pipe_of t name).streams == 0 || (pipe_of t name).invalid)
  where
    by_gate : (stream : ℕ) (opens : Option (Option Acted)) → gate memory events (loaded (pipe_of t name) stream) ≡ opens
        → LacksIt memory (wanted_through opens events (front_wanted memory (pipe_of t name) stream))
    by_gate stream None is = (omega arith, gate_lacks memory events (loaded (pipe_of t name) stream) is)
    by_gate stream (Some None) is = front_lacks memory (pipe_of t name) stream ends
    by_gate stream (Some (Some acted)) is = tt

    by_ring : (stream : Option ℕ) → LacksIt memory (rung_wanted memory events (pipe_of t name) stream)
    by_ring None = tt
    by_ring (Some stream) = by_gate stream (gate memory events (loaded (pipe_of t name) stream)) refl

    by_kind : (stray : Bool)
        → LacksIt memory (if stray then stray_wanted memory events (pipe_of t name) else rung_wanted memory events (pipe_of t name) (next_rung (pipe_of t name)))
    by_kind true = stray_lacks memory events t name
    by_kind false = by_ring (next_rung (pipe_of t name))

pub silent-beside : (code : ℕ) (memory rest : Memory) (events : EventEnd) (t : TransfersState) (name : StreamPipe)
    → silent_wanted memory events (pipe_of t name) ≡ None
    → silent_on code (beside memory rest) events t name ≡ (beside (silent_on code memory events t name).0 rest, (silent_on code memory events t name).1)
silent-beside code memory rest events t name none =
    let out : PipeWorld × Option Acted → Memory × (EventEnd × (TransfersState × Option Acted)) = λ done. stray_noted t name done in
    ap out (silent_after code (pipe_world memory events t name) rest none).1

-- THE COMMAND PIPE

command_after : (code : ℕ) (memory rest : Memory) (events : EventEnd) (t : TransfersState) → silent_command_wanted memory events t.command t.home ≡ None
    → (is_some (silent_command code memory events t).1.1.1 ≡ true)
    × (silent_command code (beside memory rest) events t ≡ (beside (silent_command code memory events t).0 rest, (silent_command code memory events t).1))
command_after code memory rest events t none =
    let w : World = command_ring memory events t in
    let law = unserved_after w rest (Endpoint t.home) code (look_wanted memory (Endpoint t.home)) (look_there memory (Endpoint t.home)) none in
    let kept = by_step (unserved_stepped w (Endpoint t.home) code) law.0 in
    let out : Option (World × Acted) → Memory × (EventEnd × (TransfersState × Option Acted)) = λ step. command_noted t (after (ring_beside w rest) step) in
    (kept.0, ap out law.1 ∙ kept.1)
  where
    by_step : (step : Option (World × Acted)) → is_some step ≡ true
        → (is_some (command_noted t (after (command_ring memory events t) step)).1.1.1 ≡ true)
        × (command_noted t (after (ring_beside (command_ring memory events t) rest) (option_map (λ (done : World × Acted). done_beside done rest) step))
        ≡ (beside (command_noted t (after (command_ring memory events t) step)).0 rest, (command_noted t (after (command_ring memory events t) step)).1))
    by_step None some = absurd (false≢true some)
    by_step (Some done) some = (refl, refl)

pub silent_command_there : (code : ℕ) (memory : Memory) (events : EventEnd) (t : TransfersState)
    → silent_command_wanted memory events t.command t.home ≡ None → is_some (silent_command code memory events t).1.1.1 ≡ true
silent_command_there code memory events t none = (command_after code memory memory events t none).0

pub silent_command_lacks : (memory : Memory) (events : EventEnd) (t : TransfersState) → LacksIt memory (silent_command_wanted memory events t.command t.home)
silent_command_lacks memory events t = by_gate (gate memory events t.command) refl
  where
    by_gate : (opens : Option (Option Acted)) → gate memory events t.command ≡ opens
        → LacksIt memory (wanted_through opens events (look_wanted memory (Endpoint t.home)))
    by_gate None is = (omega arith, gate_lacks memory events t.command is)
    by_gate (Some None) is = look_lacks memory (Endpoint t.home)
    by_gate (Some (Some acted)) is = tt

pub silent_command-beside : (code : ℕ) (memory rest : Memory) (events : EventEnd) (t : TransfersState)
    → silent_command_wanted memory events t.command t.home ≡ None
    → silent_command code (beside memory rest) events t ≡ (beside (silent_command code memory events t).0 rest, (silent_command code memory events t).1)
silent_command-beside code memory rest events t none = (command_after code memory rest events t none).1

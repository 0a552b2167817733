-- A step for a doorbell that no stream's turn serves: where it lacks nothing it isn't refused, and is the same with another memory beside.
use Rattle.std.proofs.Common.{◌≡◌, ℕ, ◌==◌, Bool, true, false, Option, Some, None, refl, sym, ap, ◌∙◌, ◌&&◌, arith}
use Rattle.std.specs.Prelude.{is_some, not, if◌then◌else◌, option_map}
use Rattle.std.proofs.lemmas.Bool.{false≢true}
use Rattle.std.proofs.lemmas.Option.{none-some}
use Rattle.guest_memory.specs.Bytes.{Memory}
use Rattle.guest_memory.specs.declared.rings.context.Found.{Found}
use Rattle.guest_memory.specs.declared.rings.context.Found.TheVariants.{WrongKind, NotYet, Item}
use Rattle.guest_memory.specs.declared.rings.context.Front.{Front}
use Rattle.guest_memory.specs.declared.rings.context.Home.{Home}
use Rattle.guest_memory.specs.declared.rings.wanting.Range.{Range}
use Rattle.guest_memory.specs.declared.rings.trb.PipeTrb.{PipeTrb}
use Rattle.guest_memory.specs.declared.rings.trb.PipeTrb.TheVariants.{Normal, Link, NoOp, EventData, Foreign}
use Rattle.guest_memory.specs.rings.Ends.{looked}
use Rattle.guest_memory.specs.rings.Events.{EventEnd}
use Rattle.guest_memory.specs.rings.Wanted.{LacksIt, look_wanted}
use Rattle.guest_memory.specs.rings.WantedLaws.{look_lacks, look_there}
use Rattle.guest_pipes.specs.declared.acted.Acted.{Acted}
use Rattle.guest_pipes.specs.declared.acted.Acted.TheVariants.{Off, Idle, Worked}
use Rattle.guest_pipes.specs.declared.consumer.EndpointState.TheVariants.{Halted}
use Rattle.guest_pipes.specs.Gate.{after, gate, is_running, room_gate, through}
use Rattle.guest_pipes.specs.Orders.{PipeWorld, invalid_kept, invalid_stepped, invalid_told, lone_done, lone_stepped, pipe_ring, stray_stepped}
use Rattle.guest_pipes.specs.Pipe.{loaded, ring_home}
use Rattle.guest_pipes.specs.Step.{World, about, in_state}
use Rattle.guest_pipes.specs.declared.progress.Ending.{Ending}
use Rattle.guest_pipes.specs.declared.progress.Ending.TheVariants.{Runs, Told, Owed}
use Rattle.guest_memory.specs.declared.rings.trb.Flags.{Flags}
use Rattle.guest_pipes.specs.Unserved.{unserved_at, unserved_bytes, unserved_found, unserved_stepped, unserved_trb}
use Rattle.guest_pipes.specs.Wanted.{wanted_through}
use Rattle.guest_pipes.specs.WantedLaws.{gate_lacks}
use Rattle.guest_transfers.specs.declared.control.StreamPipe.{StreamPipe}
use Rattle.guest_transfers.specs.State.{TransfersState}
use Rattle.guest_transfers.specs.Orders.{pipe_of, pipe_world, stray_noted, stray_on}
use Rattle.guest_transfers.specs.Wanted.{invalid_wanted, lone_wanted, stray_wanted}
use Rattle.guest_transfers.specs.Beside.{beside}
use Rattle.guest_transfers.proofs.BesideLook.{gate-beside, looked-beside}
use Rattle.guest_transfers.proofs.BesideRing.{posted-beside, refused-beside, ring_beside, skipped-beside, took_other-beside}
use Rattle.guest_transfers.proofs.DataSteps.{room_gate-beside, room_lacks}

abbrev pub pipe_beside : PipeWorld → Memory → PipeWorld
pipe_beside w rest = record w { memory = beside w.memory rest }

told-beside : (w : PipeWorld) (rest : Memory) → pipe_beside (invalid_told w) rest ≡ invalid_told (pipe_beside w rest)
told-beside w rest =
    let out : World → PipeWorld = λ ring. invalid_kept w ring in
    ap out (refused-beside (pipe_ring w 0) rest 34)

invalid_after : (w : PipeWorld) (rest : Memory) → invalid_wanted w.memory w.events w.pipe ≡ None
    → (is_some (after w (invalid_stepped w)).1 ≡ true)
    × (after (pipe_beside w rest) (invalid_stepped (pipe_beside w rest)) ≡ (pipe_beside (after w (invalid_stepped w)).0 rest, (after w (invalid_stepped w)).1))
unfolding invalid_stepped
invalid_after w rest none = by_tests (is_running w.pipe.state) w.pipe.invalid none
  where
    by_room : (opens both : Option (Option Acted)) → (is_some opens ≡ true → both ≡ opens) → wanted_through opens w.events None ≡ None
        → (is_some (after w (through w opens (Some (invalid_told w, Worked)))).1 ≡ true)
        × (after (pipe_beside w rest) (through (pipe_beside w rest) both (Some (invalid_told (pipe_beside w rest), Worked)))
        ≡ (pipe_beside (after w (through w opens (Some (invalid_told w, Worked)))).0 rest, (after w (through w opens (Some (invalid_told w, Worked)))).1))
    by_room None both same none = absurd (none-some _ (sym none))
    by_room (Some None) both same none =
        let e : both ≡ Some None = same refl in
        let out : PipeWorld → PipeWorld × Option Acted = λ v. (v, Some Worked) in
        (refl, rw e (sym (ap out (told-beside w rest))))
    by_room (Some (Some acted)) both same none = let e : both ≡ Some (Some acted) = same refl in (refl, rw e refl)

    by_tests : (runs invalid : Bool) → (if runs && invalid then wanted_through (room_gate w.memory w.events) w.events None else None) ≡ None
        → (is_some (after w (if not runs then Some (w, Off) else if not invalid then Some (w, Idle) else through w (room_gate w.memory w.events) (Some (invalid_told w, Worked)))).1 ≡ true)
        × (after (pipe_beside w rest) (if not runs then Some (pipe_beside w rest, Off) else if not invalid then Some (pipe_beside w rest, Idle)
        else through (pipe_beside w rest) (room_gate (beside w.memory rest) w.events) (Some (invalid_told (pipe_beside w rest), Worked)))
        ≡ (
          pipe_beside (after w (if not runs then Some (w, Off) else if not invalid then Some (w, Idle) else through w (room_gate w.memory w.events) (Some (invalid_told w, Worked)))).0 rest,
          (after w (if not runs then Some (w, Off) else if not invalid then Some (w, Idle) else through w (room_gate w.memory w.events) (Some (invalid_told w, Worked)))).1,
        ))
    by_tests false invalid none = (refl, refl)
    by_tests true false none = (refl, refl)
    by_tests true true none =
        by_room (room_gate w.memory w.events) (room_gate (beside w.memory rest) w.events) (room_gate-beside w.memory rest w.events) none

-- A RING THAT NOTHING CAN SERVE

abbrev pub done_beside : World × Acted → Memory → World × Acted
done_beside done rest = (ring_beside done.0 rest, done.1)

bytes-beside : (ending : Ending) (w : World) (rest : Memory) (front : Front) (code length : ℕ) (flags : Flags)
    → ring_beside (unserved_bytes ending w front code length flags) rest ≡ unserved_bytes ending (ring_beside w rest) front code length flags
bytes-beside Runs w rest front code length flags =
    let out : World → World = λ v. in_state v Halted in
    ap out (posted-beside w rest (about w.consumer front.cursor.place _ code) false)
bytes-beside (Told told) w rest front code length flags = skipped-beside w rest front length flags
bytes-beside Owed w rest front code length flags = skipped-beside w rest front length flags

trb-beside : (w : World) (rest : Memory) (front : Front) (code : ℕ) (trb : PipeTrb)
    → ring_beside (unserved_trb w front code trb) rest ≡ unserved_trb (ring_beside w rest) front code trb
trb-beside w rest front code (Normal pointer length flags) = bytes-beside w.consumer.progress.ending w rest front code length flags
trb-beside w rest front code (Link pointer toggle flags) = took_other-beside w rest front (Link pointer toggle flags)
trb-beside w rest front code (NoOp flags) = took_other-beside w rest front (NoOp flags)
trb-beside w rest front code (EventData parameter flags) = took_other-beside w rest front (EventData parameter flags)
trb-beside w rest front code Foreign = took_other-beside w rest front Foreign

found-beside : (w : World) (rest : Memory) (front : Front) (code : ℕ) (found : Found)
    → done_beside (unserved_found w front code found) rest ≡ unserved_found (ring_beside w rest) front code found
found-beside w rest front code WrongKind = let out : World → World × Acted = λ v. (v, Worked) in ap out (refused-beside w rest 10)
found-beside w rest front code NotYet = refl
found-beside w rest front code (Item trb) = let out : World → World × Acted = λ v. (v, Worked) in ap out (trb-beside w rest front code trb)

pub unserved_after : (w : World) (rest : Memory) (home : Home) (code : ℕ) (wanted : Option Range) → (wanted ≡ None → is_some (looked w.memory home) ≡ true)
    → wanted_through (gate w.memory w.events w.consumer) w.events wanted ≡ None
    → (is_some (unserved_stepped w home code) ≡ true)
    × (unserved_stepped (ring_beside w rest) home code ≡ option_map (λ done. done_beside done rest) (unserved_stepped w home code))
unserved_after w rest home code wanted there none =
    by_gate (gate w.memory w.events w.consumer) (gate (beside w.memory rest) w.events w.consumer) (looked w.memory home)
    (looked (beside w.memory rest) home) (gate-beside w.memory rest w.events w.consumer) there (looked-beside w.memory rest home) none
  where
    by_gate : (opens both : Option (Option Acted)) (found finds : Option Front) → (is_some opens ≡ true → both ≡ opens)
        → (wanted ≡ None → is_some found ≡ true) → (is_some found ≡ true → finds ≡ found)
        → wanted_through opens w.events wanted ≡ None
        → (is_some (through w opens (option_map (unserved_at w code) found)) ≡ true)
        × (through (ring_beside w rest) both (option_map (unserved_at (ring_beside w rest) code) finds)
        ≡ option_map (λ (done : World × Acted). done_beside done rest) (through w opens (option_map (unserved_at w code) found)))
    by_gate None both found finds same_gate there same_front none = absurd (none-some _ (sym none))
    by_gate (Some None) both None finds same_gate there same_front none = absurd (false≢true (there none))
    by_gate (Some None) both (Some front) finds same_gate there same_front none =
        let e : both ≡ Some None = same_gate refl in
        let f : finds ≡ Some front = same_front refl in
        (refl, rw (e, f) (ap Some (sym (found-beside w rest front code front.found))))
    by_gate (Some (Some acted)) both found finds same_gate there same_front none =
        let e : both ≡ Some (Some acted) = same_gate refl in
        (refl, rw e refl)

-- A PIPE WITHOUT STREAMS

lone_after : (code : ℕ) (w : PipeWorld) (rest : Memory) → lone_wanted w.memory w.events w.pipe ≡ None
    → (is_some (after w (lone_stepped code w)).1 ≡ true)
    × (after (pipe_beside w rest) (lone_stepped code (pipe_beside w rest)) ≡ (pipe_beside (after w (lone_stepped code w)).0 rest, (after w (lone_stepped code w)).1))
lone_after code w rest none =
    let home : Home = ring_home w.pipe 0 in
    let law = unserved_after (pipe_ring w 0) rest home code (look_wanted w.memory home) (look_there w.memory home) none in
    let kept = by_step (unserved_stepped (pipe_ring w 0) home code) law.0 in
    let out : Option (World × Acted) → PipeWorld × Option Acted =
    λ step. after (pipe_beside w rest) (option_map (lone_done (pipe_beside w rest)) step) in
    (kept.0, ap out law.1 ∙ kept.1)
  where
    by_step : (step : Option (World × Acted)) → is_some step ≡ true
        → (is_some (after w (option_map (lone_done w) step)).1 ≡ true)
        × (after (pipe_beside w rest) (option_map (lone_done (pipe_beside w rest)) (option_map (λ (done : World × Acted). done_beside done rest) step))
        ≡ (pipe_beside (after w (option_map (lone_done w) step)).0 rest, (after w (option_map (lone_done w) step)).1))
    by_step None some = absurd (false≢true some)
    by_step (Some done) some = (refl, refl)

-- A DOORBELL THAT NO STREAM'S TURN SERVES

pub stray_after : (code : ℕ) (w : PipeWorld) (rest : Memory) → stray_wanted w.memory w.events w.pipe ≡ None
    → (is_some (after w (stray_stepped code w)).1 ≡ true)
    × (after (pipe_beside w rest) (stray_stepped code (pipe_beside w rest)) ≡ (pipe_beside (after w (stray_stepped code w)).0 rest, (after w (stray_stepped code w)).1))
stray_after code w rest none = by_kind (w.pipe.streams == 0) none
  where
    by_kind : (alone : Bool) → (if alone then lone_wanted w.memory w.events w.pipe else invalid_wanted w.memory w.events w.pipe) ≡ None
        → (is_some (after w (if alone then lone_stepped code w else invalid_stepped w)).1 ≡ true)
        × (after (pipe_beside w rest) (if alone then lone_stepped code (pipe_beside w rest) else invalid_stepped (pipe_beside w rest))
        ≡ (
          pipe_beside (after w (if alone then lone_stepped code w else invalid_stepped w)).0 rest,
          (after w (if alone then lone_stepped code w else invalid_stepped w)).1,
        ))
    by_kind true none = lone_after code w rest none
    by_kind false none = invalid_after w rest none

pub stray_there : (code : ℕ) (memory : Memory) (events : EventEnd) (t : TransfersState) (name : StreamPipe)
    → stray_wanted memory events (pipe_of t name) ≡ None → is_some (stray_on code memory events t name).1.1.1 ≡ true
stray_there code memory events t name none = (stray_after code (pipe_world memory events t name) memory none).0

lone_lacks : (memory : Memory) (events : EventEnd) (t : TransfersState) (name : StreamPipe) → LacksIt memory (lone_wanted memory events (pipe_of t name))
lone_lacks memory events t name = by_gate (gate memory events (loaded (pipe_of t name) 0)) refl
  where
    by_gate : (opens : Option (Option Acted)) → gate memory events (loaded (pipe_of t name) 0) ≡ opens
        → LacksIt memory (wanted_through opens events (look_wanted memory (ring_home (pipe_of t name) 0)))
    by_gate None is = (omega arith, gate_lacks memory events (loaded (pipe_of t name) 0) is)
    by_gate (Some None) is = look_lacks memory (ring_home (pipe_of t name) 0)
    by_gate (Some (Some acted)) is = tt

invalid_lacks : (memory : Memory) (events : EventEnd) (t : TransfersState) (name : StreamPipe) → LacksIt memory (invalid_wanted memory events (pipe_of t name))
invalid_lacks memory events t name = by_tests (is_running (pipe_of t name).state && (pipe_of t name).invalid)
  where
    by_room : (opens : Option (Option Acted)) → room_gate memory events ≡ opens → LacksIt memory (wanted_through opens events None)
    by_room None is = (omega arith, room_lacks memory events is)
    by_room (Some None) is = tt
    by_room (Some (Some acted)) is = tt

    by_tests : (looks : Bool) → LacksIt memory (if looks then wanted_through (room_gate memory events) events None else None)
    by_tests true = by_room (room_gate memory events) refl
    by_tests false = tt

pub stray_lacks : (memory : Memory) (events : EventEnd) (t : TransfersState) (name : StreamPipe) → LacksIt memory (stray_wanted memory events (pipe_of t name))
stray_lacks memory events t name = by_kind ((pipe_of t name).streams == 0)
  where
    by_kind : (alone : Bool) → LacksIt memory (if alone then lone_wanted memory events (pipe_of t name) else invalid_wanted memory events (pipe_of t name))
    by_kind true = lone_lacks memory events t name
    by_kind false = invalid_lacks memory events t name

pub stray-beside : (code : ℕ) (memory rest : Memory) (events : EventEnd) (t : TransfersState) (name : StreamPipe)
    → stray_wanted memory events (pipe_of t name) ≡ None
    → stray_on code (beside memory rest) events t name ≡ (beside (stray_on code memory events t name).0 rest, (stray_on code memory events t name).1)
stray-beside code memory rest events t name none =
    let out : PipeWorld × Option Acted → Memory × (EventEnd × (TransfersState × Option Acted)) = λ done. stray_noted t name done in
    ap out (stray_after code (pipe_world memory events t name) rest none).1

-- The controller executes Stop Endpoint and Set TR Dequeue Pointer, with code 1. Cited by EngineFits.
use Rattle.std.proofs.Common.{◌≡◌, ℕ, ◌-◌, ◌<◌, ◌≤◌, Bool, true, false, ◌&&◌, cond, [], ◌∷◌, length, Some, None}
use Rattle.std.proofs.Common.{option_map, refl, arith, ap, ◌∙◌}
use Rattle.std.specs.Prelude.{nat_lt, nat_le, ◌==◌, slice_get}
use Rattle.std.specs.Option.{option_map_or}
use Rattle.std.proofs.lemmas.Bool.{lt-ltb, le-leb, lt-leb, ne_eqb}
use Rattle.xhci_trb.specs.declared.Trb.{Trb}
use Rattle.xhci_trb.specs.declared.Trb.TheVariants.{SetDequeue}
use Rattle.cycle_ring.specs.Ring.{cycle_of, pointer_of}
use Rattle.cycle_ring.specs.Items.{ItemRing, known_of}
use Rattle.cycle_ring.proofs.Names.{item_at-pointer_of}
use Rattle.event_ring.specs.declared.Event.TheVariants.{Command as CommandDone}
use Rattle.uas_profile.specs.declared.Pipe.{Pipe}
use Rattle.uas_profile.specs.declared.Pipe.TheVariants.{Command, Status, DataIn, DataOut}
use Rattle.uas_profile.specs.Pipes.{HasStreams}
use Rattle.stream_array.specs.Map.{places_of}
use Rattle.stream_array.specs.Rings.{LinesState, ring_of, with_ring}
use Rattle.uas_profile.specs.Pipes.{target_of}
use Rattle.uas_host.specs.Retirement.{move_trb, stop_trb}
use Rattle.xhci_ctl.specs.declared.Acted.TheVariants.{Acted as ActedOn, Idle}
use Rattle.uas_profile.specs.declared.TheConstants.{STREAMS, STREAM_ENTRIES, STREAM_RING_PLACES, ENGINE_RING_PLACES, MOST_DATA_TRBS, SLOT, SUCCESS, TRB_ERROR, CONTEXT_STATE_ERROR}
use Rattle.xhci_ctl.specs.Engine.{commanded_pipe, dequeued_at, engine_acted, engine_consumed, engine_did, engine_front, executed, is_state, set_dequeue}
use Rattle.xhci_ctl.specs.Engine.{stop_endpoint, stopped_on}
use Rattle.xhci_ctl.specs.Pipes.{ControllerState, is_running}
use Rattle.xhci_ctl.specs.Steps.{front_at, has_event_room, posted}
use Rattle.bus_core.specs.Cells.{HoldsTrbs}
use Rattle.bus_core.specs.Fits.{engine_event}

-- THE COMMAND IN FRONT

-- the one command on the ring is the one in front
pub front-is : (lines : LinesState) (trb : Trb) → has_event_room lines ≡ true → HoldsTrbs lines.engine (trb ∷ []) 0
    → engine_front lines ≡ Some (pointer_of ENGINE_RING_PLACES lines.engine 0, Some trb)
front-is lines trb room holds =
    ap (λ b. cond b (front_at ENGINE_RING_PLACES lines.engine) None) room
    ∙ ap (λ k. option_map (λ item. (pointer_of ENGINE_RING_PLACES lines.engine k, known_of item)) (slice_get lines.engine.put k)) holds.1
    ∙ ap (λ items. option_map (λ item. (pointer_of ENGINE_RING_PLACES lines.engine 0, known_of item)) (slice_get items 0)) holds.0

-- what comes of it with code 1
pub acted-is : (controller now : ControllerState) (lines after : LinesState) (trb : Trb) → has_event_room lines ≡ true → HoldsTrbs lines.engine (trb ∷ []) 0
    → executed (controller, lines) (Some trb) ≡ ((now, after), SUCCESS)
    → engine_acted (controller, lines) ≡ ((now, posted (engine_consumed after) (engine_event lines.engine)), ActedOn 0)
acted-is controller now lines after trb room holds does =
    ap (λ front. option_map_or (engine_did (controller, lines)) front ((controller, lines), Idle)) (front-is lines trb room holds)
    ∙ ap (λ (done : (ControllerState × LinesState) × ℕ). (
      (
        done.0.0,
        posted (engine_consumed done.0.1)
            (CommandDone (pointer_of ENGINE_RING_PLACES lines.engine 0) done.1 SLOT),
      ),
      ActedOn 0,
    )) does

pub commanded-is : (pipe : Pipe) → HasStreams pipe → commanded_pipe (target_of pipe) 1 ≡ Some pipe
commanded-is Command streams = absurd streams
commanded-is Status streams = refl
commanded-is DataIn streams = refl
commanded-is DataOut streams = refl

-- STOP ENDPOINT

pub stop-executed : (controller : ControllerState) (lines : LinesState) (pipe : Pipe) → HasStreams pipe → is_running controller pipe ≡ true
    → executed (controller, lines) (Some (stop_trb pipe)) ≡ ((stopped_on controller pipe, lines), SUCCESS)
stop-executed controller lines pipe streams runs =
    ap (λ p. option_map_or (λ p. let done = stop_endpoint controller p in ((done.0, lines), done.1)) p ((controller, lines), TRB_ERROR))
    (commanded-is pipe streams)
    ∙ ap (λ b. let done = cond {A = ControllerState × ℕ} b (stopped_on controller pipe, SUCCESS) (controller, CONTEXT_STATE_ERROR) in
    ((done.0, lines), done.1)) runs

-- SET TR DEQUEUE POINTER

pub is_state-self : (state : Bool) → is_state state state ≡ true
is_state-self true = refl
is_state-self false = refl

-- a ring with its consumer's end at the enqueue place
abbrev pub passed_ring : ItemRing → ItemRing
passed_ring ring = record ring { got = length ring.put }

pub dequeued-is : (n : ℕ) (ring : ItemRing) → 4 ≤ n → ring.got ≤ length ring.put → length ring.put < n - 1
    → dequeued_at n ring (pointer_of n ring (length ring.put)) (cycle_of n ring (length ring.put)) ≡ Some (passed_ring ring)
dequeued-is n ring places consumed room =
    rw (
      item_at-pointer_of n (length ring.put) ring places room,
      le-leb ring.got (length ring.put) consumed,
      le-leb (length ring.put) (length ring.put) (omega arith),
      is_state-self (cycle_of n ring (length ring.put)),
    ) refl

pub places-some : (pipe : Pipe) → HasStreams pipe → (4 ≤ places_of pipe) × (STREAM_RING_PLACES ≤ places_of pipe)
places-some Command streams = absurd streams
places-some Status streams = (omega arith, omega arith)
places-some DataIn streams = (omega arith, omega arith)
places-some DataOut streams = (omega arith, omega arith)

-- the command does what the controller's rule says of its pipe
pub move-done : (controller : ControllerState) (lines : LinesState) (pipe : Pipe) (pointer tag : ℕ) (cycle : Bool) (done : LinesState × ℕ) → HasStreams pipe
    → set_dequeue controller lines pipe tag pointer cycle ≡ done
    → executed (controller, lines) (Some (SetDequeue pointer cycle tag (target_of pipe) 1)) ≡ ((controller, done.0), done.1)
move-done controller lines pipe pointer tag cycle done streams does =
    ap (λ p. option_map_or (λ p. let d = set_dequeue controller lines p tag pointer cycle in ((controller, d.0), d.1)) p ((controller, lines), TRB_ERROR))
    (commanded-is pipe streams)
    ∙ ap (λ (d : LinesState × ℕ). ((controller, d.0), d.1)) does

pub move-executed : (controller : ControllerState) (lines : LinesState) (pipe : Pipe) (tag : ℕ) → HasStreams pipe → 1 ≤ tag → tag ≤ STREAMS
    → is_running controller pipe ≡ false → (ring_of lines pipe tag).got ≤ length (ring_of lines pipe tag).put → length (ring_of lines pipe tag).put ≤ MOST_DATA_TRBS
    → executed (controller, lines) (Some (move_trb lines pipe tag)) ≡ ((controller, with_ring lines pipe tag (passed_ring (ring_of lines pipe tag))), SUCCESS)
move-executed controller lines pipe tag streams some most stopped consumed short =
    let ring : ItemRing = ring_of lines pipe tag in
    let n : ℕ = places_of pipe in
    let places = places-some pipe streams in
    let pointer : ℕ = pointer_of (places_of pipe) (ring_of lines pipe tag) (length (ring_of lines pipe tag).put) in
    let cycle : Bool = cycle_of (places_of pipe) (ring_of lines pipe tag) (length (ring_of lines pipe tag).put) in
    let there : dequeued_at (places_of pipe) (ring_of lines pipe tag) pointer cycle ≡ Some (passed_ring (ring_of lines pipe tag)) =
    dequeued-is (places_of pipe) (ring_of lines pipe tag) places.0 consumed (omega (arith, short, places.1)) in
    let past : nat_le STREAM_ENTRIES tag ≡ false = lt-leb STREAM_ENTRIES tag (omega arith) in
    let none : (tag == 0) ≡ false = ne_eqb tag 0 (λ zero. omega (arith, zero, some)) in
    let has : (nat_lt 0 tag && nat_le tag STREAMS) ≡ true = rw (lt-ltb 0 tag some, le-leb tag STREAMS most) refl in
    let done : set_dequeue controller lines pipe tag pointer cycle ≡ (with_ring lines pipe tag (passed_ring (ring_of lines pipe tag)), SUCCESS) =
    rw (none, past, stopped, has, there) refl in
    move-done controller lines pipe pointer tag cycle (with_ring lines pipe tag (passed_ring (ring_of lines pipe tag)), SUCCESS) streams done

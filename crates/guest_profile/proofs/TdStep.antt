-- A step at the front of a ring: what is found there, and a TRB that is a whole TD.
use Rattle.std.proofs.Common.{◌≡◌, ℕ, Bool, true, false, ◌||◌, List, Some, None, refl, ap, ◌∙◌}
use Rattle.std.specs.Prelude.{is_some}
use Rattle.guest_memory.specs.Bytes.{Memory, bytes_from, is_there, written}
use Rattle.guest_memory.specs.declared.rings.cursor.Cursor.{Cursor}
use Rattle.guest_memory.specs.declared.rings.context.Home.{Home}
use Rattle.guest_memory.specs.declared.rings.context.Front.{Front}
use Rattle.guest_memory.specs.declared.rings.trb.Flags.{Flags}
use Rattle.guest_memory.specs.declared.rings.event.Event.TheVariants.{Transfer as TransferTold}
use Rattle.guest_memory.specs.rings.Ends.{behind, followed, home_at, home_bytes}
use Rattle.guest_memory.specs.rings.Events.{EventEnd, enqueue_pointer, enqueued, event_bytes, has_room}
use Rattle.guest_pipes.specs.declared.consumer.EndpointState.TheVariants.{Running}
use Rattle.guest_pipes.specs.declared.progress.Progress.{Progress}
use Rattle.guest_pipes.specs.Gate.{gate, room_gate}
use Rattle.guest_pipes.specs.Step.{World, consumed, filled, linked, posted, shortened, stood}
use Rattle.guest_profile.specs.Rings.{link_flags}
use Rattle.guest_profile.specs.Ready.{rung_consumer}

-- a consumer whose endpoint runs and whose doorbell is rung, with room for its event
pub gate-open : (memory : Memory) (events : EventEnd) (endpoint : ℕ) (progress : Progress) (place : List ℕ) → has_room events ≡ true
    → bytes_from memory (enqueue_pointer events) 16 ≡ Some place
    → gate memory events (record { endpoint = endpoint; state = Running; rung = true; progress = progress }) ≡ Some None
unfolding gate room_gate
gate-open memory events endpoint progress place room there =
    let is : is_there memory (enqueue_pointer events) 16 ≡ true = ap is_some there in
    rw (room, is) refl

-- memory, event ring and consumer once a TRB posted its event and was consumed, with which its TD ends
abbrev pub told_world : Memory → EventEnd → ℕ → Home → Cursor → ℕ → ℕ → Bool → World
told_world memory events endpoint home cursor residual code quiet = record {
  memory = written (written memory (enqueue_pointer events) (event_bytes (TransferTold cursor.place residual code endpoint false) events.cycle))
      (home_at home) (home_bytes home 1 (behind cursor));
  events = enqueued events quiet;
  consumer = rung_consumer endpoint;
}

-- a TRB that is full, and is a TD with an event
pub filled-whole : (memory : Memory) (events : EventEnd) (endpoint : ℕ) (progress : Progress) (front : Front) (flags : Flags) → flags.chain ≡ false → flags.ioc ≡ true
    → filled (record { memory = memory; events = events; consumer = record { endpoint = endpoint; state = Running; rung = true; progress = progress } }) front flags
    ≡ told_world memory events endpoint front.home front.cursor 0 1 flags.bei
unfolding filled consumed stood posted
filled-whole memory events endpoint progress front flags last told = rw (told, last) refl

or_true : (b : Bool) → (b || true) ≡ true
or_true true = refl
or_true false = refl

-- a TRB that ends short of its length, and is a TD with an event
pub shortened-whole : (memory : Memory) (events : EventEnd) (endpoint left : ℕ) (progress : Progress) (front : Front) (flags : Flags) → flags.chain ≡ false
    → flags.ioc ≡ true
    → shortened (record { memory = memory; events = events; consumer = record { endpoint = endpoint; state = Running; rung = true; progress = progress } }) front left flags
    ≡ told_world memory events endpoint front.home front.cursor left 13 flags.bei
unfolding shortened consumed stood posted
shortened-whole memory events endpoint left progress front flags last told =
    let tells : (flags.isp || flags.ioc) ≡ true = ap (λ (b : Bool). flags.isp || b) told ∙ or_true flags.isp in
    rw (tells, last) refl

-- memory once a Link was followed, without an event
abbrev pub linked_world : Memory → EventEnd → ℕ → Home → Cursor → World
linked_world memory events endpoint home cursor = record {
  memory = written memory (home_at home) (home_bytes home 1 cursor);
  events = events;
  consumer = rung_consumer endpoint;
}

pub linked-quiet : (memory : Memory) (events : EventEnd) (endpoint : ℕ) (front : Front) (pointer : ℕ) (toggle chain : Bool)
    → linked (record { memory = memory; events = events; consumer = rung_consumer endpoint }) front pointer toggle (link_flags chain false)
    ≡ linked_world memory events endpoint front.home (followed front.cursor pointer toggle)
unfolding linked stood
linked-quiet memory events endpoint front pointer toggle chain = refl

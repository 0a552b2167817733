-- What is done at a ring's end writes the next event's place and where the end is kept, and posts one event at most.
use Rattle.std.proofs.Common.{◌≡◌, ℕ, Bool, true, false, List, length, refl, sym, ap, subst, ◌∙◌, inl, inr, ◌&&◌, ◌||◌}
use Rattle.std.specs.Prelude.{not}
use Rattle.guest_memory.specs.Bytes.{Memory, is_in}
use Rattle.guest_memory.specs.Ranges.{written_beside}
use Rattle.guest_memory.specs.declared.rings.cursor.Cursor.{Cursor}
use Rattle.guest_memory.specs.declared.rings.context.Home.{Home}
use Rattle.guest_memory.specs.declared.rings.context.Home.TheVariants.{Stream, Endpoint}
use Rattle.guest_memory.specs.declared.rings.context.Front.{Front}
use Rattle.guest_memory.specs.declared.rings.trb.Flags.{Flags}
use Rattle.guest_memory.specs.declared.rings.trb.PipeTrb.{PipeTrb}
use Rattle.guest_memory.specs.declared.rings.trb.PipeTrb.TheVariants.{Normal, Link, NoOp, EventData, Foreign}
use Rattle.guest_memory.specs.declared.rings.event.Event.{Event}
use Rattle.guest_memory.specs.declared.rings.event.Event.TheVariants.{Transfer}
use Rattle.guest_memory.specs.declared.rings.wanting.Range.{Range}
use Rattle.guest_memory.specs.rings.Ends.{behind, followed, home_at, home_bytes, home_size, pointer_bytes, stream_bytes}
use Rattle.guest_memory.specs.rings.Events.{EventEnd, bytes_of, enqueue_pointer, event_bytes, has_room}
use Rattle.guest_memory.specs.rings.Wanted.{home_range}
use Rattle.guest_pipes.specs.declared.progress.Ending.{Ending}
use Rattle.guest_pipes.specs.declared.progress.Ending.TheVariants.{Runs, Told, Owed}
use Rattle.guest_pipes.specs.Gate.{took_other}
use Rattle.guest_pipes.specs.Progress.{code_of, owes, past, short_ending}
use Rattle.guest_pipes.specs.Step.{World, about, babbled, consumed, data_restarted, data_told, ended_as, erred, failed, filled, filled_if, linked, passed, posted, posted_if, poured, refused, shortened, skipped, stood, used_up, with_progress}
use Rattle.td_laws.specs.Places.{IsOutside, event_range}
use Rattle.td_laws.specs.NothingElse.{HasOneMoreAtMost, LeavesElse}

-- what is done at a ring's end leaves of the memory and the event ring that it found
pub record Keeps (memory : Memory) (ring : EventEnd) (new : World) (home : Home) : Type 0 where
  pub others : (a : ℕ) → IsOutside a (event_range ring) → IsOutside a (home_range home) → new.memory a ≡ memory a
  pub events : HasOneMoreAtMost ring new.events

pub event_size : (event : Event) (cycle : Bool) → length (event_bytes event cycle) ≡ 16
unfolding bytes_of
event_size event cycle = refl

home_sized : (home : Home) (cursor : Cursor) → length (home_bytes home 1 cursor) ≡ home_size home
unfolding stream_bytes pointer_bytes
home_sized (Stream at) cursor = refl
home_sized (Endpoint at) cursor = refl

pub sized : (at n : ℕ) (bytes : List ℕ) (a : ℕ) → length bytes ≡ n → is_in at n a ≡ false → is_in at (length bytes) a ≡ false
sized at n bytes a size outside = ap (λ (k : ℕ). is_in at k a) size ∙ outside

posted_else : (w : World) (event : Event) (quiet : Bool) (a : ℕ) → IsOutside a (event_range w.events) → (posted w event quiet).memory a ≡ w.memory a
unfolding posted
posted_else w event quiet a outside =
    written_beside w.memory (enqueue_pointer w.events) (event_bytes event w.events.cycle) a
    (sized (enqueue_pointer w.events) 16 (event_bytes event w.events.cycle) a (event_size event w.events.cycle) outside)

posted_if_else : (tells : Bool) (w : World) (event : Event) (quiet : Bool) (a : ℕ) → IsOutside a (event_range w.events)
    → (posted_if tells w event quiet).memory a ≡ w.memory a
posted_if_else true w event quiet a outside = posted_else w event quiet a outside
posted_if_else false w event quiet a outside = refl

posted_if_more : (tells : Bool) (w : World) (event : Event) (quiet : Bool) → has_room w.events ≡ true
    → HasOneMoreAtMost w.events (posted_if tells w event quiet).events
unfolding posted
posted_if_more true w event quiet room = inr (quiet, room, refl)
posted_if_more false w event quiet room = inl refl

pub stood_else : (w : World) (home : Home) (cursor : Cursor) (a : ℕ) → IsOutside a (home_range home) → (stood w home cursor).memory a ≡ w.memory a
unfolding stood
stood_else w home cursor a outside =
    written_beside w.memory (home_at home) (home_bytes home 1 cursor) a
    (sized (home_at home) (home_size home) (home_bytes home 1 cursor) a (home_sized home cursor) outside)

pub stood_events : (w : World) (home : Home) (cursor : Cursor) → (stood w home cursor).events ≡ w.events
unfolding stood
stood_events w home cursor = refl

-- an event where one is told, and then the ring's end
told_stood : (tells : Bool) (w : World) (event : Event) (quiet : Bool) (v : World) (home : Home) (cursor : Cursor) → has_room w.events ≡ true
    → v.memory ≡ (posted_if tells w event quiet).memory → v.events ≡ (posted_if tells w event quiet).events
    → Keeps w.memory w.events (stood v home cursor) home
told_stood tells w event quiet v home cursor room memory events = record {
  others = λ a beside outside. stood_else v home cursor a outside ∙ ap (λ (m : Memory). m a) memory ∙ posted_if_else tells w event quiet a beside;
  events = subst (λ (e : EventEnd). HasOneMoreAtMost w.events e) (sym (stood_events v home cursor ∙ events)) (posted_if_more tells w event quiet room);
}

told_alone : (w : World) (event : Event) (quiet : Bool) (v : World) (home : Home) → has_room w.events ≡ true
    → v.memory ≡ (posted w event quiet).memory → v.events ≡ (posted w event quiet).events → Keeps w.memory w.events v home
told_alone w event quiet v home room memory events = record {
  others = λ a beside outside. ap (λ (m : Memory). m a) memory ∙ posted_else w event quiet a beside;
  events = subst (λ (e : EventEnd). HasOneMoreAtMost w.events e) (sym events) (posted_if_more true w event quiet room);
}

pub unchanged : (w : World) (home : Home) → Keeps w.memory w.events w home
unchanged w home = record { others = λ a beside outside. refl; events = inl refl }

pub filled-keeps : (w : World) (front : Front) (flags : Flags) → has_room w.events ≡ true → Keeps w.memory w.events (filled w front flags) front.home
unfolding filled consumed
filled-keeps w front flags room =
    let event = about w.consumer front.cursor.place 0 1 in
    let v = posted_if flags.ioc w event flags.bei in
    told_stood flags.ioc w event flags.bei (with_progress v (past v.consumer.progress flags.chain)) front.home (behind front.cursor) room refl refl

pub filled_if-keeps : (full : Bool) (w : World) (front : Front) (flags : Flags) → has_room w.events ≡ true
    → Keeps w.memory w.events (filled_if full w front flags) front.home
filled_if-keeps true w front flags room = filled-keeps w front flags room
filled_if-keeps false w front flags room = unchanged w front.home

consumed-keeps : (w : World) (front : Front) (chain : Bool) → Keeps w.memory w.events (consumed w front chain) front.home
unfolding consumed
consumed-keeps w front chain =
    let v = with_progress w (past w.consumer.progress chain) in
    record {
      others = λ a beside outside. stood_else v front.home (behind front.cursor) a outside;
      events = inl (stood_events v front.home (behind front.cursor));
    }

linked-keeps : (w : World) (front : Front) (pointer : ℕ) (toggle : Bool) (flags : Flags) → has_room w.events ≡ true
    → Keeps w.memory w.events (linked w front pointer toggle flags) front.home
unfolding linked
linked-keeps w front pointer toggle flags room =
    let event = about w.consumer front.cursor.place 0 1 in
    told_stood flags.ioc w event flags.bei (posted_if flags.ioc w event flags.bei) front.home (followed front.cursor pointer toggle) room refl refl

passed-keeps : (ending : Ending) (w : World) (front : Front) (flags : Flags) → has_room w.events ≡ true
    → Keeps w.memory w.events (passed ending w front flags) front.home
passed-keeps Runs w front flags room = filled-keeps w front flags room
passed-keeps (Told code) w front flags room = consumed-keeps w front flags.chain
passed-keeps Owed w front flags room = consumed-keeps w front flags.chain

data_told-keeps : (w : World) (front : Front) (parameter : ℕ) (flags : Flags) → has_room w.events ≡ true
    → Keeps w.memory w.events (data_told w front parameter flags) front.home
unfolding data_told consumed
data_told-keeps w front parameter flags room =
    let event : Event = Transfer parameter w.consumer.progress.edtla (code_of w.consumer.progress.ending) w.consumer.endpoint true in
    let v = data_restarted (posted_if flags.ioc w event flags.bei) flags.ioc in
    told_stood flags.ioc w event flags.bei (with_progress v (past v.consumer.progress flags.chain)) front.home (behind front.cursor) room refl refl

pub skipped-keeps : (w : World) (front : Front) (length : ℕ) (flags : Flags) → has_room w.events ≡ true
    → Keeps w.memory w.events (skipped w front length flags) front.home
unfolding skipped consumed
skipped-keeps w front length flags room =
    let tells = owes w.consumer.progress.ending && (not flags.chain && flags.ioc) in
    let event = about w.consumer front.cursor.place length 13 in
    let v = posted_if tells w event flags.bei in
    told_stood tells w event flags.bei (with_progress v (past v.consumer.progress flags.chain)) front.home (behind front.cursor) room refl refl

pub shortened-keeps : (w : World) (front : Front) (left : ℕ) (flags : Flags) → has_room w.events ≡ true
    → Keeps w.memory w.events (shortened w front left flags) front.home
unfolding shortened consumed
shortened-keeps w front left flags room =
    let tells = flags.isp || flags.ioc in
    let event = about w.consumer front.cursor.place left 13 in
    let v = ended_as (posted_if tells w event flags.bei) (short_ending tells) in
    told_stood tells w event flags.bei (with_progress v (past v.consumer.progress flags.chain)) front.home (behind front.cursor) room refl refl

pub failed-keeps : (w : World) (front : Front) (length : ℕ) (flags : Flags) → has_room w.events ≡ true
    → Keeps w.memory w.events (failed w front length flags) front.home
unfolding failed consumed
failed-keeps w front length flags room =
    let event = about w.consumer front.cursor.place length 2 in
    let v = ended_as (posted w event flags.bei) (Told 2) in
    told_stood true w event flags.bei (with_progress v (past v.consumer.progress flags.chain)) front.home (behind front.cursor) room refl refl

pub babbled-keeps : (w : World) (front : Front) (flags : Flags) → has_room w.events ≡ true → Keeps w.memory w.events (babbled w front flags) front.home
unfolding babbled consumed
babbled-keeps w front flags room =
    let event = about w.consumer front.cursor.place 0 3 in
    let v = posted w event flags.bei in
    let kept = told_stood true w event flags.bei (with_progress v (past v.consumer.progress flags.chain)) front.home (behind front.cursor) room refl refl in
    record { others = kept.others; events = kept.events }

erred-keeps : (w : World) (front : Front) → has_room w.events ≡ true → Keeps w.memory w.events (erred w front) front.home
erred-keeps w front room = told_alone w (about w.consumer front.cursor.place 0 5) false (erred w front) front.home room refl refl

pub refused-keeps : (w : World) (code : ℕ) (home : Home) → has_room w.events ≡ true → Keeps w.memory w.events (refused w code) home
refused-keeps w code home room = told_alone w (about w.consumer 0 0 code) false (refused w code) home room refl refl

pub used_up-keeps : (w : World) (home : Home) → Keeps w.memory w.events (used_up w) home
used_up-keeps w home = record { others = λ a beside outside. refl; events = inl refl }

pub took_other-keeps : (w : World) (front : Front) (trb : PipeTrb) → has_room w.events ≡ true → Keeps w.memory w.events (took_other w front trb) front.home
took_other-keeps w front (Normal pointer length flags) room = unchanged w front.home
took_other-keeps w front (Link pointer toggle flags) room = linked-keeps w front pointer toggle flags room
took_other-keeps w front (NoOp flags) room = passed-keeps w.consumer.progress.ending w front flags room
took_other-keeps w front (EventData parameter flags) room = data_told-keeps w front parameter flags room
took_other-keeps w front Foreign room = erred-keeps w front room

-- with any part of a buffer that bytes went to before, or none
pub in_part : {memory : Memory} {ring : EventEnd} {new : World} {home : Home} {part : Range} → Keeps memory ring new home → LeavesElse memory ring new home part
in_part kept = record { others = λ a outside beside apart. kept.others a beside apart; events = kept.events }

pub poured_in : (w new : World) (home : Home) (to count : ℕ) (bytes : List ℕ) → length bytes ≡ count
    → Keeps (poured w to bytes).memory w.events new home → LeavesElse w.memory w.events new home (record { at = to; count = count })
unfolding poured
poured_in w new home to count bytes size kept = record {
  others = λ a outside beside apart. kept.others a beside apart ∙ written_beside w.memory to bytes a (sized to count bytes a size outside);
  events = kept.events;
}

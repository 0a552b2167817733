-- What is told at a ring's end: the event's bytes stand at the place that was the next.
use Rattle.std.proofs.Common.{◌≡◌, ℕ, ◌+◌, ◌%◌, ◌^◌, Bool, true, false, length, Some, None, refl, sym, ap, ◌∙◌, arith, ◌&&◌, ◌||◌}
use Rattle.std.specs.Prelude.{not, if◌then◌else◌}
use Rattle.guest_memory.specs.Bytes.{Memory, bytes_from}
use Rattle.guest_memory.specs.Ranges.{from_each, written_ahead}
use Rattle.guest_memory.specs.declared.rings.cursor.Cursor.{Cursor}
use Rattle.guest_memory.specs.declared.rings.context.Home.{Home}
use Rattle.guest_memory.specs.declared.rings.context.Front.{Front}
use Rattle.guest_memory.specs.declared.rings.trb.Flags.{Flags}
use Rattle.guest_memory.specs.declared.rings.event.Event.{Event}
use Rattle.guest_memory.specs.declared.rings.event.Event.TheVariants.{Transfer}
use Rattle.guest_memory.specs.rings.Ends.{behind, followed}
use Rattle.guest_memory.specs.rings.Events.{enqueue_pointer, enqueued, event_bytes}
use Rattle.guest_memory.specs.rings.Wanted.{home_range}
use Rattle.guest_pipes.specs.declared.consumer.EndpointState.TheVariants.{Halted}
use Rattle.guest_pipes.specs.declared.progress.Ending.{Ending}
use Rattle.guest_pipes.specs.declared.progress.Ending.TheVariants.{Runs, Told, Owed}
use Rattle.guest_pipes.specs.declared.progress.Progress.{Progress}
use Rattle.guest_pipes.specs.Progress.{code_of, owes, past, restarted, runs, short_ending}
use Rattle.guest_pipes.specs.Step.{World, about, babbled, consumed, data_restarted, data_told, ended_as, erred, failed, filled, linked, passed, posted, posted_if, shortened, skipped, stood, with_progress, refused}
use Rattle.td_laws.specs.Places.{AreApart, event_range}
use Rattle.guest_memory.specs.declared.rings.context.Found.TheVariants.{Item}
use Rattle.guest_memory.specs.declared.rings.trb.PipeTrb.{PipeTrb}
use Rattle.guest_memory.specs.declared.rings.trb.PipeTrb.TheVariants.{Normal, Link, NoOp, EventData, Foreign}
use Rattle.guest_tags.specs.declared.buffer.Buffer.{Buffer}
use Rattle.guest_tags.specs.Wanted.{buffer_of}
use Rattle.guest_pipes.specs.Gate.{took_other}
use Rattle.std.proofs.lemmas.Option.{none-some}
use Rattle.td_laws.specs.Told.{Counts, HasTold, IsToldOf, Tells, edtla_behind, edtla_past}
use Rattle.td_laws.proofs.RingElse.{event_size, stood_else, stood_events}

posted_events : (w : World) (event : Event) (quiet : Bool) → (posted w event quiet).events ≡ enqueued w.events quiet
unfolding posted
posted_events w event quiet = refl

-- an event, and then the ring's end
stands_there : (w : World) (event : Event) (quiet : Bool) (v : World) (home : Home) (cursor : Cursor) → v.memory ≡ (posted w event quiet).memory
    → AreApart (event_range w.events) (home_range home)
    → bytes_from (stood v home cursor).memory (enqueue_pointer w.events) 16 ≡ Some (event_bytes event w.events.cycle)
unfolding posted
stands_there w event quiet v home cursor memory apart =
    let at = enqueue_pointer w.events in
    let bytes = event_bytes event w.events.cycle in
    let size : length bytes ≡ 16 = event_size event w.events.cycle in
    from_each (stood v home cursor).memory at 16 bytes size (λ k below.
    stood_else v home cursor (at + k) (apart k below) ∙ ap (λ (m : Memory). m (at + k)) memory ∙ written_ahead w.memory at bytes k (omega (arith, size)))

tells : (told : Bool) (w : World) (event : Event) (quiet : Bool) (v : World) (home : Home) (cursor : Cursor) → v.memory ≡ (posted_if told w event quiet).memory
    → v.events ≡ (posted_if told w event quiet).events → AreApart (event_range w.events) (home_range home)
    → Tells told w.events (stood v home cursor) event quiet
tells true w event quiet v home cursor memory events apart = record {
  once = stood_events v home cursor ∙ events ∙ posted_events w event quiet;
  stands = stands_there w event quiet v home cursor memory apart;
}
tells false w event quiet v home cursor memory events apart = stood_events v home cursor ∙ events

pub past_counts : (progress : Progress) (chain : Bool) (edtla : ℕ) → progress.edtla % 2 ^ 24 ≡ edtla % 2 ^ 24
    → Counts (past progress chain) 0 (edtla_behind chain edtla)
past_counts progress true edtla since = record { in_trb = refl; since = since }
past_counts progress false edtla since = record { in_trb = refl; since = refl }

-- what is counted behind a TRB
consumed-counts : (v : World) (front : Front) (chain : Bool) (edtla : ℕ) → v.consumer.progress.edtla % 2 ^ 24 ≡ edtla % 2 ^ 24
    → Counts (consumed v front chain).consumer.progress 0 (edtla_behind chain edtla)
unfolding consumed stood
consumed-counts v front chain edtla since = past_counts v.consumer.progress chain edtla since

-- an event changes nothing of what is counted
told_since : (told : Bool) (w : World) (event : Event) (quiet : Bool) (edtla : ℕ) → w.consumer.progress.edtla % 2 ^ 24 ≡ edtla % 2 ^ 24
    → (posted_if told w event quiet).consumer.progress.edtla % 2 ^ 24 ≡ edtla % 2 ^ 24
unfolding posted
told_since true w event quiet edtla since = since
told_since false w event quiet edtla since = since

pub filled-tells : (w : World) (front : Front) (flags : Flags) → AreApart (event_range w.events) (home_range front.home)
    → Tells flags.ioc w.events (filled w front flags) (about w.consumer front.cursor.place 0 1) flags.bei
unfolding filled consumed
filled-tells w front flags apart =
    let event = about w.consumer front.cursor.place 0 1 in
    let v = posted_if flags.ioc w event flags.bei in
    tells flags.ioc w event flags.bei (with_progress v (past v.consumer.progress flags.chain)) front.home (behind front.cursor) refl refl apart

pub filled-counts : (w : World) (front : Front) (flags : Flags) (edtla : ℕ) → w.consumer.progress.edtla % 2 ^ 24 ≡ edtla % 2 ^ 24
    → Counts (filled w front flags).consumer.progress 0 (edtla_behind flags.chain edtla)
unfolding filled
filled-counts w front flags edtla since =
    let event = about w.consumer front.cursor.place 0 1 in
    consumed-counts (posted_if flags.ioc w event flags.bei) front flags.chain edtla (told_since flags.ioc w event flags.bei edtla since)

pub shortened-tells : (w : World) (front : Front) (left : ℕ) (flags : Flags) → AreApart (event_range w.events) (home_range front.home)
    → Tells (flags.isp || flags.ioc) w.events (shortened w front left flags) (about w.consumer front.cursor.place left 13) flags.bei
unfolding shortened consumed
shortened-tells w front left flags apart =
    let told = flags.isp || flags.ioc in
    let event = about w.consumer front.cursor.place left 13 in
    let v = ended_as (posted_if told w event flags.bei) (short_ending told) in
    tells told w event flags.bei (with_progress v (past v.consumer.progress flags.chain)) front.home (behind front.cursor) refl refl apart

pub shortened-counts : (w : World) (front : Front) (left : ℕ) (flags : Flags) (edtla : ℕ) → w.consumer.progress.edtla % 2 ^ 24 ≡ edtla % 2 ^ 24
    → Counts (shortened w front left flags).consumer.progress 0 (edtla_behind flags.chain edtla)
unfolding shortened
shortened-counts w front left flags edtla since =
    let told = flags.isp || flags.ioc in
    let event = about w.consumer front.cursor.place left 13 in
    consumed-counts (ended_as (posted_if told w event flags.bei) (short_ending told)) front flags.chain edtla (told_since told w event flags.bei edtla since)

pub failed-tells : (w : World) (front : Front) (length : ℕ) (flags : Flags) → AreApart (event_range w.events) (home_range front.home)
    → HasTold w.events (failed w front length flags) (about w.consumer front.cursor.place length 2) flags.bei
unfolding failed consumed
failed-tells w front length flags apart =
    let event = about w.consumer front.cursor.place length 2 in
    let v = ended_as (posted w event flags.bei) (Told 2) in
    tells true w event flags.bei (with_progress v (past v.consumer.progress flags.chain)) front.home (behind front.cursor) refl refl apart

pub babbled-tells : (w : World) (front : Front) (flags : Flags) → AreApart (event_range w.events) (home_range front.home)
    → HasTold w.events (babbled w front flags) (about w.consumer front.cursor.place 0 3) flags.bei
unfolding babbled consumed
babbled-tells w front flags apart =
    let event = about w.consumer front.cursor.place 0 3 in
    let v = posted w event flags.bei in
    let told : HasTold w.events (stood (with_progress v (past v.consumer.progress flags.chain)) front.home (behind front.cursor)) event flags.bei =
    tells true w event flags.bei (with_progress v (past v.consumer.progress flags.chain)) front.home (behind front.cursor) refl refl apart in
    record { once = told.once; stands = told.stands }

pub babbled-halts : (w : World) (front : Front) (flags : Flags) → (babbled w front flags).consumer.state ≡ Halted
unfolding babbled
babbled-halts w front flags = refl

pub skipped-tells : (w : World) (front : Front) (length : ℕ) (flags : Flags) → AreApart (event_range w.events) (home_range front.home)
    → Tells (owes w.consumer.progress.ending && (not flags.chain && flags.ioc)) w.events (skipped w front length flags) (about w.consumer front.cursor.place length 13) flags.bei
unfolding skipped consumed
skipped-tells w front length flags apart =
    let told = owes w.consumer.progress.ending && (not flags.chain && flags.ioc) in
    let event = about w.consumer front.cursor.place length 13 in
    let v = posted_if told w event flags.bei in
    tells told w event flags.bei (with_progress v (past v.consumer.progress flags.chain)) front.home (behind front.cursor) refl refl apart

pub linked-tells : (w : World) (front : Front) (pointer : ℕ) (toggle : Bool) (flags : Flags) → AreApart (event_range w.events) (home_range front.home)
    → Tells flags.ioc w.events (linked w front pointer toggle flags) (about w.consumer front.cursor.place 0 1) flags.bei
unfolding linked
linked-tells w front pointer toggle flags apart =
    let event = about w.consumer front.cursor.place 0 1 in
    tells flags.ioc w event flags.bei (posted_if flags.ioc w event flags.bei) front.home (followed front.cursor pointer toggle) refl refl apart

consumed-events : (w : World) (front : Front) (chain : Bool) → (consumed w front chain).events ≡ w.events
unfolding consumed stood
consumed-events w front chain = refl

pub passed-tells : (ending : Ending) (w : World) (front : Front) (flags : Flags) → AreApart (event_range w.events) (home_range front.home)
    → Tells (runs ending && flags.ioc) w.events (passed ending w front flags) (about w.consumer front.cursor.place 0 1) flags.bei
passed-tells Runs w front flags apart = filled-tells w front flags apart
passed-tells (Told code) w front flags apart = consumed-events w front flags.chain
passed-tells Owed w front flags apart = consumed-events w front flags.chain

pub data_told-tells : (w : World) (front : Front) (parameter : ℕ) (flags : Flags) → AreApart (event_range w.events) (home_range front.home)
    → Tells flags.ioc w.events (data_told w front parameter flags) (Transfer parameter w.consumer.progress.edtla (code_of w.consumer.progress.ending) w.consumer.endpoint true) flags.bei
unfolding data_told consumed
data_told-tells w front parameter flags apart =
    let event : Event = Transfer parameter w.consumer.progress.edtla (code_of w.consumer.progress.ending) w.consumer.endpoint true in
    let v = data_restarted (posted_if flags.ioc w event flags.bei) flags.ioc in
    tells flags.ioc w event flags.bei (with_progress v (past v.consumer.progress flags.chain)) front.home (behind front.cursor) refl refl apart

past_none : (progress : Progress) (posts chain : Bool) → (past (restarted progress posts) chain).edtla ≡ 0
past_none progress posts true = refl
past_none progress posts false = refl

-- EDTLA starts again
pub data_told-restarts : (w : World) (front : Front) (parameter : ℕ) (flags : Flags) → (data_told w front parameter flags).consumer.progress.edtla ≡ 0
unfolding data_told consumed stood
data_told-restarts w front parameter flags =
    let event : Event = Transfer parameter w.consumer.progress.edtla (code_of w.consumer.progress.ending) w.consumer.endpoint true in
    past_none (posted_if flags.ioc w event flags.bei).consumer.progress flags.ioc flags.chain

-- it goes on, or begins anew, behind another TRB
past_edtla : (progress : Progress) (chain : Bool) → (past progress chain).edtla ≡ edtla_behind chain progress.edtla
past_edtla progress true = refl
past_edtla progress false = refl

told_progress : (told : Bool) (w : World) (event : Event) (quiet : Bool) → (posted_if told w event quiet).consumer.progress ≡ w.consumer.progress
unfolding posted
told_progress true w event quiet = refl
told_progress false w event quiet = refl

consumed-edtla : (v : World) (front : Front) (chain : Bool) → (consumed v front chain).consumer.progress.edtla ≡ edtla_behind chain v.consumer.progress.edtla
unfolding consumed stood
consumed-edtla v front chain = past_edtla v.consumer.progress chain

pub skipped-edtla : (w : World) (front : Front) (length : ℕ) (flags : Flags)
    → (skipped w front length flags).consumer.progress.edtla ≡ edtla_behind flags.chain w.consumer.progress.edtla
unfolding skipped
skipped-edtla w front length flags =
    let told = owes w.consumer.progress.ending && (not flags.chain && flags.ioc) in
    let event = about w.consumer front.cursor.place length 13 in
    consumed-edtla (posted_if told w event flags.bei) front flags.chain
    ∙ ap (λ (progress : Progress). edtla_behind flags.chain progress.edtla) (told_progress told w event flags.bei)

filled-edtla : (w : World) (front : Front) (flags : Flags) → (filled w front flags).consumer.progress.edtla ≡ edtla_behind flags.chain w.consumer.progress.edtla
unfolding filled
filled-edtla w front flags =
    let event = about w.consumer front.cursor.place 0 1 in
    consumed-edtla (posted_if flags.ioc w event flags.bei) front flags.chain
    ∙ ap (λ (progress : Progress). edtla_behind flags.chain progress.edtla) (told_progress flags.ioc w event flags.bei)

pub passed-edtla : (ending : Ending) (w : World) (front : Front) (flags : Flags)
    → (passed ending w front flags).consumer.progress.edtla ≡ edtla_behind flags.chain w.consumer.progress.edtla
passed-edtla Runs w front flags = filled-edtla w front flags
passed-edtla (Told code) w front flags = consumed-edtla w front flags.chain
passed-edtla Owed w front flags = consumed-edtla w front flags.chain

pub linked-progress : (w : World) (front : Front) (pointer : ℕ) (toggle : Bool) (flags : Flags)
    → (linked w front pointer toggle flags).consumer.progress ≡ w.consumer.progress
unfolding linked stood
linked-progress w front pointer toggle flags = told_progress flags.ioc w (about w.consumer front.cursor.place 0 1) flags.bei

-- nothing has moved behind a TRB
past_moved : (progress : Progress) (chain : Bool) → (past progress chain).moved ≡ 0
past_moved progress true = refl
past_moved progress false = refl

consumed-gone : (v : World) (front : Front) (chain : Bool) → (consumed v front chain).consumer.progress.moved ≡ 0
unfolding consumed stood
consumed-gone v front chain = past_moved v.consumer.progress chain

pub skipped-gone : (w : World) (front : Front) (length : ℕ) (flags : Flags) → (skipped w front length flags).consumer.progress.moved ≡ 0
unfolding skipped
skipped-gone w front length flags =
    let told = owes w.consumer.progress.ending && (not flags.chain && flags.ioc) in
    consumed-gone (posted_if told w (about w.consumer front.cursor.place length 13) flags.bei) front flags.chain

pub failed-gone : (w : World) (front : Front) (length : ℕ) (flags : Flags) → (failed w front length flags).consumer.progress.moved ≡ 0
unfolding failed
failed-gone w front length flags = consumed-gone (ended_as (posted w (about w.consumer front.cursor.place length 2) flags.bei) (Told 2)) front flags.chain

pub passed-gone : (ending : Ending) (w : World) (front : Front) (flags : Flags) → (passed ending w front flags).consumer.progress.moved ≡ 0
unfolding filled
passed-gone Runs w front flags = consumed-gone (posted_if flags.ioc w (about w.consumer front.cursor.place 0 1) flags.bei) front flags.chain
passed-gone (Told code) w front flags = consumed-gone w front flags.chain
passed-gone Owed w front flags = consumed-gone w front flags.chain

pub data_told-gone : (w : World) (front : Front) (parameter : ℕ) (flags : Flags) → (data_told w front parameter flags).consumer.progress.moved ≡ 0
unfolding data_told
data_told-gone w front parameter flags =
    let event : Event = Transfer parameter w.consumer.progress.edtla (code_of w.consumer.progress.ending) w.consumer.endpoint true in
    consumed-gone (data_restarted (posted_if flags.ioc w event flags.bei) flags.ioc) front flags.chain

pub erred-progress : (w : World) (front : Front) → (erred w front).consumer.progress ≡ w.consumer.progress
unfolding posted
erred-progress w front = refl

pub refused-progress : (w : World) (code : ℕ) → (refused w code).consumer.progress ≡ w.consumer.progress
unfolding posted
refused-progress w code = refl

pub erred-edtla : (w : World) (front : Front) → (erred w front).consumer.progress.edtla ≡ w.consumer.progress.edtla
unfolding posted
erred-edtla w front = refl

pub erred-tells : (w : World) (front : Front) → AreApart (event_range w.events) (home_range front.home)
    → HasTold w.events (erred w front) (about w.consumer front.cursor.place 0 5) false
unfolding posted
erred-tells w front apart =
    let event = about w.consumer front.cursor.place 0 5 in
    let bytes = event_bytes event w.events.cycle in
    let size : length bytes ≡ 16 = event_size event w.events.cycle in
    record {
      once = refl;
      stands = from_each (erred w front).memory (enqueue_pointer w.events) 16 bytes size (λ k below. written_ahead w.memory (enqueue_pointer w.events) bytes k (omega (arith, size)));
    }

-- nothing has moved behind a TRB that moves nothing
pub other-gone : (trb : PipeTrb) (w : World) (front : Front) → w.consumer.progress.moved ≡ 0 → (took_other w front trb).consumer.progress.moved ≡ 0
other-gone (Normal pointer length flags) w front none = none
other-gone (Link pointer toggle flags) w front none = ap (λ (progress : Progress). progress.moved) (linked-progress w front pointer toggle flags) ∙ none
other-gone (NoOp flags) w front none = passed-gone w.consumer.progress.ending w front flags
other-gone (EventData parameter flags) w front none = data_told-gone w front parameter flags
other-gone Foreign w front none = ap (λ (progress : Progress). progress.moved) (erred-progress w front) ∙ none

-- what is told of a TRB that moves nothing, and what EDTLA is behind it
abbrev pub TellsOf : PipeTrb → World → Front → World → Type 0
TellsOf trb w front new = IsToldOf trb w.consumer w.events new front.cursor.place × (new.consumer.progress.edtla ≡ edtla_past trb w.consumer.progress.edtla)

pub other-tells : (trb : PipeTrb) (w : World) (front : Front) → buffer_of (Item trb) ≡ None → AreApart (event_range w.events) (home_range front.home)
    → TellsOf trb w front (took_other w front trb)
other-tells (Normal pointer length flags) w front is apart = absurd (none-some (record { pointer = pointer; length = length; flags = flags }) (sym is))
other-tells (Link pointer toggle flags) w front is apart =
    (linked-tells w front pointer toggle flags apart, ap (λ (progress : Progress). progress.edtla) (linked-progress w front pointer toggle flags))
other-tells (NoOp flags) w front is apart = (passed-tells w.consumer.progress.ending w front flags apart, passed-edtla w.consumer.progress.ending w front flags)
other-tells (EventData parameter flags) w front is apart = (data_told-tells w front parameter flags apart, data_told-restarts w front parameter flags)
other-tells Foreign w front is apart = (erred-tells w front apart, erred-edtla w front)

pub no_buffer : {A : Type 0} (moves : Bool) (buffer : Buffer) → (if moves then None else None) ≡ Some buffer → A
no_buffer true buffer is = absurd (none-some buffer is)
no_buffer false buffer is = absurd (none-some buffer is)

-- What is done at a ring's end is the same with another memory beside this one, for what this one lacks.
use Rattle.std.proofs.Common.{◌≡◌, ℕ, ◌+◌, Bool, true, false, List, Option, Some, None, refl, sym, ap, ◌∙◌, inl, inr, ◌&&◌, ◌||◌}
use Rattle.std.proofs.Math.Path.{fun_ext}
use Rattle.std.proofs.lemmas.Bool.{false≢true}
use Rattle.std.proofs.lemmas.Option.{slice_get-get_or}
use Rattle.std.specs.Prelude.{is_some, not, length}
use Rattle.std.specs.Option.{option_or}
use Rattle.guest_memory.specs.Bytes.{Memory, bytes_from, is_there, written}
use Rattle.guest_memory.specs.Ranges.{range_cases, same_from, there_each, written_ahead, written_beside}
use Rattle.guest_memory.specs.declared.rings.cursor.Cursor.{Cursor}
use Rattle.guest_memory.specs.declared.rings.context.Home.{Home}
use Rattle.guest_memory.specs.declared.rings.context.Front.{Front}
use Rattle.guest_memory.specs.declared.rings.trb.Flags.{Flags}
use Rattle.guest_memory.specs.declared.rings.trb.PipeTrb.{PipeTrb}
use Rattle.guest_memory.specs.declared.rings.trb.PipeTrb.TheVariants.{Normal, Link, NoOp, EventData, Foreign}
use Rattle.guest_memory.specs.declared.rings.event.Event.{Event}
use Rattle.guest_memory.specs.declared.rings.event.Event.TheVariants.{Transfer}
use Rattle.guest_memory.specs.rings.Ends.{behind, followed, home_at, home_bytes}
use Rattle.guest_memory.specs.rings.Events.{enqueue_pointer, enqueued, event_bytes}
use Rattle.guest_pipes.specs.declared.progress.Ending.{Ending}
use Rattle.guest_pipes.specs.declared.progress.Ending.TheVariants.{Runs, Told, Owed}
use Rattle.guest_pipes.specs.declared.consumer.EndpointState.TheVariants.{Halted, Error}
use Rattle.guest_pipes.specs.Progress.{code_of, counted, owes, past, short_ending}
use Rattle.guest_pipes.specs.Gate.{took_other}
use Rattle.guest_transfers.specs.Beside.{beside}
use Rattle.guest_pipes.specs.Step.{World, about, babbled, consumed, data_restarted, data_told, ended_as, erred, failed, filled, filled_if, in_state, linked, passed, posted, posted_if, poured, refused, shortened, skipped, stood, with_progress}

-- all that a step at a ring's end may change, with that memory beside
abbrev pub ring_beside : World → Memory → World
ring_beside w rest = record w { memory = beside w.memory rest }

here : (byte other : Option ℕ) → is_some byte ≡ true → option_or byte other ≡ byte
here None other there = absurd (false≢true there)
here (Some b) other there = refl

-- what is there is read from it
pub bytes-beside : (memory rest : Memory) (at n : ℕ) → is_there memory at n ≡ true → bytes_from (beside memory rest) at n ≡ bytes_from memory at n
bytes-beside memory rest at n there =
    same_from (beside memory rest) memory at n (λ k below. here (memory (at + k)) (rest (at + k)) (there_each memory at n there k below))

pub there-beside : (memory rest : Memory) (at n : ℕ) → is_there memory at n ≡ true → is_there (beside memory rest) at n ≡ true
there-beside memory rest at n there = ap is_some (bytes-beside memory rest at n there) ∙ there

-- what is written goes into it
written_at : (memory rest : Memory) (at : ℕ) (bytes : List ℕ) (a : ℕ) → beside (written memory at bytes) rest a ≡ written (beside memory rest) at bytes a
written_at memory rest at bytes a = elim (range_cases at (length bytes) a) [
  | inl inside ↦
      let byte = slice_get-get_or bytes inside.0 0 inside.1 in
      rw (inside.2, written_ahead memory at bytes inside.0 inside.1, byte) (sym (written_ahead (beside memory rest) at bytes inside.0 inside.1 ∙ byte))
  | inr outside ↦ rw (written_beside memory at bytes a outside) (sym (written_beside (beside memory rest) at bytes a outside))
]

pub beside-written : (memory rest : Memory) (at : ℕ) (bytes : List ℕ) → beside (written memory at bytes) rest ≡ written (beside memory rest) at bytes
beside-written memory rest at bytes = fun_ext (λ a. written_at memory rest at bytes a)

pub posted-beside : (w : World) (rest : Memory) (event : Event) (quiet : Bool) → ring_beside (posted w event quiet) rest ≡ posted (ring_beside w rest) event quiet
unfolding posted
posted-beside w rest event quiet =
    let out : Memory → World = λ m. record { memory = m; events = enqueued w.events quiet; consumer = w.consumer } in
    ap out (beside-written w.memory rest (enqueue_pointer w.events) (event_bytes event w.events.cycle))

pub posted_if-beside : (posts : Bool) (w : World) (rest : Memory) (event : Event) (quiet : Bool)
    → ring_beside (posted_if posts w event quiet) rest ≡ posted_if posts (ring_beside w rest) event quiet
posted_if-beside true w rest event quiet = posted-beside w rest event quiet
posted_if-beside false w rest event quiet = refl

pub stood-beside : (w : World) (rest : Memory) (home : Home) (cursor : Cursor) → ring_beside (stood w home cursor) rest ≡ stood (ring_beside w rest) home cursor
unfolding stood
stood-beside w rest home cursor =
    let out : Memory → World = λ m. record { memory = m; events = w.events; consumer = w.consumer } in
    ap out (beside-written w.memory rest (home_at home) (home_bytes home 1 cursor))

pub consumed-beside : (w : World) (rest : Memory) (front : Front) (chain : Bool) → ring_beside (consumed w front chain) rest ≡ consumed (ring_beside w rest) front chain
unfolding consumed
consumed-beside w rest front chain = stood-beside (with_progress w (past w.consumer.progress chain)) rest front.home (behind front.cursor)

pub filled-beside : (w : World) (rest : Memory) (front : Front) (flags : Flags) → ring_beside (filled w front flags) rest ≡ filled (ring_beside w rest) front flags
unfolding filled
filled-beside w rest front flags =
    let event = about w.consumer front.cursor.place 0 1 in
    let next : World → World = λ v. consumed v front flags.chain in
    consumed-beside (posted_if flags.ioc w event flags.bei) rest front flags.chain ∙ ap next (posted_if-beside flags.ioc w rest event flags.bei)

pub filled_if-beside : (full : Bool) (w : World) (rest : Memory) (front : Front) (flags : Flags)
    → ring_beside (filled_if full w front flags) rest ≡ filled_if full (ring_beside w rest) front flags
filled_if-beside true w rest front flags = filled-beside w rest front flags
filled_if-beside false w rest front flags = refl

linked-beside : (w : World) (rest : Memory) (front : Front) (pointer : ℕ) (toggle : Bool) (flags : Flags)
    → ring_beside (linked w front pointer toggle flags) rest ≡ linked (ring_beside w rest) front pointer toggle flags
unfolding linked
linked-beside w rest front pointer toggle flags =
    let event = about w.consumer front.cursor.place 0 1 in
    let next : World → World = λ v. stood v front.home (followed front.cursor pointer toggle) in
    stood-beside (posted_if flags.ioc w event flags.bei) rest front.home (followed front.cursor pointer toggle)
    ∙ ap next (posted_if-beside flags.ioc w rest event flags.bei)

passed-beside : (ending : Ending) (w : World) (rest : Memory) (front : Front) (flags : Flags)
    → ring_beside (passed ending w front flags) rest ≡ passed ending (ring_beside w rest) front flags
passed-beside Runs w rest front flags = filled-beside w rest front flags
passed-beside (Told code) w rest front flags = consumed-beside w rest front flags.chain
passed-beside Owed w rest front flags = consumed-beside w rest front flags.chain

data_told-beside : (w : World) (rest : Memory) (front : Front) (parameter : ℕ) (flags : Flags)
    → ring_beside (data_told w front parameter flags) rest ≡ data_told (ring_beside w rest) front parameter flags
unfolding data_told
data_told-beside w rest front parameter flags =
    let event : Event = Transfer parameter w.consumer.progress.edtla (code_of w.consumer.progress.ending) w.consumer.endpoint true in
    let next : World → World = λ v. consumed (data_restarted v flags.ioc) front flags.chain in
    consumed-beside (data_restarted (posted_if flags.ioc w event flags.bei) flags.ioc) rest front flags.chain
    ∙ ap next (posted_if-beside flags.ioc w rest event flags.bei)

pub skipped-beside : (w : World) (rest : Memory) (front : Front) (length : ℕ) (flags : Flags)
    → ring_beside (skipped w front length flags) rest ≡ skipped (ring_beside w rest) front length flags
unfolding skipped
skipped-beside w rest front length flags =
    let tells = owes w.consumer.progress.ending && (not flags.chain && flags.ioc) in
    let event = about w.consumer front.cursor.place length 13 in
    let next : World → World = λ v. consumed v front flags.chain in
    consumed-beside (posted_if tells w event flags.bei) rest front flags.chain ∙ ap next (posted_if-beside tells w rest event flags.bei)

pub shortened-beside : (w : World) (rest : Memory) (front : Front) (left : ℕ) (flags : Flags)
    → ring_beside (shortened w front left flags) rest ≡ shortened (ring_beside w rest) front left flags
unfolding shortened
shortened-beside w rest front left flags =
    let tells = flags.isp || flags.ioc in
    let event = about w.consumer front.cursor.place left 13 in
    let next : World → World = λ v. consumed (ended_as v (short_ending tells)) front flags.chain in
    consumed-beside (ended_as (posted_if tells w event flags.bei) (short_ending tells)) rest front flags.chain
    ∙ ap next (posted_if-beside tells w rest event flags.bei)

pub failed-beside : (w : World) (rest : Memory) (front : Front) (length : ℕ) (flags : Flags)
    → ring_beside (failed w front length flags) rest ≡ failed (ring_beside w rest) front length flags
unfolding failed
failed-beside w rest front length flags =
    let event = about w.consumer front.cursor.place length 2 in
    let next : World → World = λ v. consumed (ended_as v (Told 2)) front flags.chain in
    consumed-beside (ended_as (posted w event flags.bei) (Told 2)) rest front flags.chain ∙ ap next (posted-beside w rest event flags.bei)

pub babbled-beside : (w : World) (rest : Memory) (front : Front) (flags : Flags) → ring_beside (babbled w front flags) rest ≡ babbled (ring_beside w rest) front flags
unfolding babbled
babbled-beside w rest front flags =
    let event = about w.consumer front.cursor.place 0 3 in
    let halts : World → World = λ v. in_state v Halted in
    let next : World → World = λ v. in_state (consumed v front flags.chain) Halted in
    ap halts (consumed-beside (posted w event flags.bei) rest front flags.chain) ∙ ap next (posted-beside w rest event flags.bei)

erred-beside : (w : World) (rest : Memory) (front : Front) → ring_beside (erred w front) rest ≡ erred (ring_beside w rest) front
erred-beside w rest front =
    let next : World → World = λ v. in_state v Error in
    ap next (posted-beside w rest (about w.consumer front.cursor.place 0 5) false)

pub refused-beside : (w : World) (rest : Memory) (code : ℕ) → ring_beside (refused w code) rest ≡ refused (ring_beside w rest) code
refused-beside w rest code =
    let next : World → World = λ v. in_state v Halted in
    ap next (posted-beside w rest (about w.consumer 0 0 code) false)

pub poured-beside : (w : World) (rest : Memory) (to : ℕ) (bytes : List ℕ) → ring_beside (poured w to bytes) rest ≡ poured (ring_beside w rest) to bytes
unfolding poured
poured-beside w rest to bytes =
    let out : Memory → World = λ m. record (with_progress w (counted w.consumer.progress (length bytes))) { memory = m } in
    ap out (beside-written w.memory rest to bytes)

pub took_other-beside : (w : World) (rest : Memory) (front : Front) (trb : PipeTrb) → ring_beside (took_other w front trb) rest ≡ took_other (ring_beside w rest) front trb
took_other-beside w rest front (Normal pointer length flags) = refl
took_other-beside w rest front (Link pointer toggle flags) = linked-beside w rest front pointer toggle flags
took_other-beside w rest front (NoOp flags) = passed-beside w.consumer.progress.ending w rest front flags
took_other-beside w rest front (EventData parameter flags) = data_told-beside w rest front parameter flags
took_other-beside w rest front Foreign = erred-beside w rest front

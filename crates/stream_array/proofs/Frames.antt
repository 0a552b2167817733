-- A ring that was changed, and the others.
use Rattle.std.proofs.Common.{◌≡◌, ◌≢◌, ℕ, ◌-◌, ◌<◌, ◌≤◌, List, length, slice_set, length-set, get_or-set_same, get_or-set_other, refl}
use Rattle.std.proofs.Common.{sym, ap, ◌∙◌, arith, inl, inr}
use Rattle.std.proofs.lemmas.Bool.{cases_eq, cases_lt}
use Rattle.cycle_ring.specs.Ring.{opening}
use Rattle.cycle_ring.specs.Items.{ItemRing}
use Rattle.event_ring.specs.Events.{Events}
use Rattle.uas_profile.specs.declared.Pipe.{Pipe}
use Rattle.uas_profile.specs.declared.Pipe.TheVariants.{Command, Status, DataIn, DataOut}
use Rattle.stream_array.specs.Contexts.{Contexts, entry_of}
use Rattle.stream_array.specs.Map.{HasRing, ring_base}
use Rattle.stream_array.specs.Rings.{LinesState, IsLines, IsShown, ring_of, stream_ring, with_ring, ChangedRingIsThere, OtherRingsAreKept}
use Rattle.stream_array.specs.Rings.{OtherContextsAreKept, RingsStayInPlace, with_engine, with_events, EngineLeavesRings, EventsLeaveRings}
use Rattle.uas_profile.specs.declared.TheConstants.{STREAMS}

-- the ring that was changed
pub ring_of_with_ring : ChangedRingIsThere
ring_of_with_ring l Command stream r lines has = refl
ring_of_with_ring l Status stream r lines has = get_or-set_same l.status (stream - 1) r (opening 0) (omega (arith, lines.status))
ring_of_with_ring l DataIn stream r lines has = get_or-set_same l.data_in (stream - 1) r (opening 0) (omega (arith, lines.data_in))
ring_of_with_ring l DataOut stream r lines has = get_or-set_same l.data_out (stream - 1) r (opening 0) (omega (arith, lines.data_out))

-- another ring of the same pipe
stream_ring-other : (rings : List ItemRing) (stream another : ℕ) (r : ItemRing) → 0 < stream → 0 < another → stream ≢ another
    → stream_ring (slice_set rings (stream - 1) r) another ≡ stream_ring rings another
stream_ring-other rings stream another r some also differ =
    get_or-set_other rings (stream - 1) (another - 1) r (opening 0) (λ same. differ (omega arith))

-- any other ring
pub ring_of-others : OtherRingsAreKept
ring_of-others l Command Command stream another r has also apart = absurd (apart refl (omega arith))
ring_of-others l Status Status stream another r has also apart = stream_ring-other l.status stream another r has.0 also.0 (apart refl)
ring_of-others l DataIn DataIn stream another r has also apart = stream_ring-other l.data_in stream another r has.0 also.0 (apart refl)
ring_of-others l DataOut DataOut stream another r has also apart = stream_ring-other l.data_out stream another r has.0 also.0 (apart refl)
ring_of-others l pipe other stream another r has also apart = refl

-- contexts of the same rings, and of rings of which one was changed
entry_of-shown : (rings : List ItemRing) (old new : Contexts) (stream another : ℕ) (r : ItemRing) → 0 < stream → stream ≢ another
    → IsShown rings old → IsShown (slice_set rings (stream - 1) r) new → entry_of new another ≡ entry_of old another
entry_of-shown rings old new stream another r some differ before after =
    elim (cases_eq another 0) as (λ _. entry_of new another ≡ entry_of old another) [
      | inl zero ↦ rw zero (after.reserved ∙ sym before.reserved)
      | inr named ↦ elim (cases_lt STREAMS another) as (λ _. entry_of new another ≡ entry_of old another) [
        | inl past ↦ after.none another past ∙ sym (before.none another past)
        | inr within ↦
            after.ring another (omega arith) within
            ∙ rw (stream_ring-other rings stream another r some (omega arith) differ) (sym (before.ring another (omega arith) within))
      ]
    ]

entry_of-same : (rings : List ItemRing) (old new : Contexts) (another : ℕ) → IsShown rings old → IsShown rings new
    → entry_of new another ≡ entry_of old another
entry_of-same rings old new another before after =
    elim (cases_eq another 0) as (λ _. entry_of new another ≡ entry_of old another) [
      | inl zero ↦ rw zero (after.reserved ∙ sym before.reserved)
      | inr named ↦ elim (cases_lt STREAMS another) as (λ _. entry_of new another ≡ entry_of old another) [
        | inl past ↦ after.none another past ∙ sym (before.none another past)
        | inr within ↦ after.ring another (omega arith) within ∙ sym (before.ring another (omega arith) within)
      ]
    ]

pub entry_of-others : OtherContextsAreKept
entry_of-others l pipe Command stream another r old new has before after apart = absurd before
entry_of-others l Command Status stream another r old new has before after apart = entry_of-same l.status old new another before after
entry_of-others l Command DataIn stream another r old new has before after apart = entry_of-same l.data_in old new another before after
entry_of-others l Command DataOut stream another r old new has before after apart = entry_of-same l.data_out old new another before after
entry_of-others l Status Status stream another r old new has before after apart =
    entry_of-shown l.status old new stream another r has.0 (apart refl) before after
entry_of-others l Status DataIn stream another r old new has before after apart = entry_of-same l.data_in old new another before after
entry_of-others l Status DataOut stream another r old new has before after apart = entry_of-same l.data_out old new another before after
entry_of-others l DataIn Status stream another r old new has before after apart = entry_of-same l.status old new another before after
entry_of-others l DataIn DataIn stream another r old new has before after apart =
    entry_of-shown l.data_in old new stream another r has.0 (apart refl) before after
entry_of-others l DataIn DataOut stream another r old new has before after apart = entry_of-same l.data_out old new another before after
entry_of-others l DataOut Status stream another r old new has before after apart = entry_of-same l.status old new another before after
entry_of-others l DataOut DataIn stream another r old new has before after apart = entry_of-same l.data_in old new another before after
entry_of-others l DataOut DataOut stream another r old new has before after apart =
    entry_of-shown l.data_out old new stream another r has.0 (apart refl) before after

-- WHERE THE RINGS LIE

-- a pipe's rings with one changed
stream_ring-base : (rings : List ItemRing) (stream another base : ℕ) (r : ItemRing) → 0 < stream → stream ≤ length rings → 0 < another
    → (stream ≡ another → r.base ≡ base) → (stream_ring rings another).base ≡ base
    → (stream_ring (slice_set rings (stream - 1) r) another).base ≡ base
stream_ring-base rings stream another base r some last also changed kept =
    elim (cases_eq stream another) as (λ _. (stream_ring (slice_set rings (stream - 1) r) another).base ≡ base) [
      | inl same ↦ rw (← same, get_or-set_same rings (stream - 1) r (opening 0) (omega arith)) (changed same)
      | inr differ ↦ rw (stream_ring-other rings stream another r some also differ) kept
    ]

base_kept : (l : LinesState) (pipe other : Pipe) (stream another : ℕ) (r : ItemRing) → IsLines l → HasRing pipe stream → HasRing other another
    → r.base ≡ ring_base pipe stream → (ring_of (with_ring l pipe stream r) other another).base ≡ ring_base other another
base_kept l Command Command stream another r lines has also e = omega arith
base_kept l Status Status stream another r lines has also e =
    stream_ring-base l.status stream another _ r has.0 (omega (arith, lines.status)) also.0 (λ same. omega arith) (lines.base Status another also)
base_kept l DataIn DataIn stream another r lines has also e =
    stream_ring-base l.data_in stream another _ r has.0 (omega (arith, lines.data_in)) also.0 (λ same. omega arith) (lines.base DataIn another also)
base_kept l DataOut DataOut stream another r lines has also e =
    stream_ring-base l.data_out stream another _ r has.0 (omega (arith, lines.data_out)) also.0 (λ same. omega arith) (lines.base DataOut another also)
base_kept l pipe other stream another r lines has also e = lines.base other another also

-- as many rings as before, and the controller's command ring as it was
sizes_kept : (l : LinesState) (pipe : Pipe) (stream : ℕ) (r : ItemRing) → (length (with_ring l pipe stream r).status ≡ length l.status)
    × (length (with_ring l pipe stream r).data_in ≡ length l.data_in) × (length (with_ring l pipe stream r).data_out ≡ length l.data_out)
    × ((with_ring l pipe stream r).engine ≡ l.engine)
sizes_kept l Command stream r = (refl, refl, refl, refl)
sizes_kept l Status stream r = (length-set l.status (stream - 1) r, refl, refl, refl)
sizes_kept l DataIn stream r = (refl, length-set l.data_in (stream - 1) r, refl, refl)
sizes_kept l DataOut stream r = (refl, refl, length-set l.data_out (stream - 1) r, refl)

pub IsLines-with_ring : RingsStayInPlace
IsLines-with_ring l pipe stream r lines has e =
    let sizes = sizes_kept l pipe stream r in
    record {
      status = sizes.0 ∙ lines.status;
      data_in = sizes.1 ∙ lines.data_in;
      data_out = sizes.2 ∙ lines.data_out;
      base = λ other another also. base_kept l pipe other stream another r lines has also e;
      engine = ap (λ (engine : ItemRing). engine.base) sizes.3 ∙ lines.engine;
    }

-- the same rings on the four pipes
rings_by_pipe : (new old : LinesState) (pipe : Pipe) (stream : ℕ) → new.command ≡ old.command → new.status ≡ old.status → new.data_in ≡ old.data_in
    → new.data_out ≡ old.data_out → ring_of new pipe stream ≡ ring_of old pipe stream
rings_by_pipe new old Command stream command status data_in data_out = command
rings_by_pipe new old Status stream command status data_in data_out = ap (λ (rings : List ItemRing). stream_ring rings stream) status
rings_by_pipe new old DataIn stream command status data_in data_out = ap (λ (rings : List ItemRing). stream_ring rings stream) data_in
rings_by_pipe new old DataOut stream command status data_in data_out = ap (λ (rings : List ItemRing). stream_ring rings stream) data_out

-- the controller's command ring and the event ring beside them
ring_of-with_engine : (l : LinesState) (r : ItemRing) (pipe : Pipe) (stream : ℕ) → ring_of (with_engine l r) pipe stream ≡ ring_of l pipe stream
ring_of-with_engine l r pipe stream = rings_by_pipe (with_engine l r) l pipe stream refl refl refl refl

pub with_engine-kept : EngineLeavesRings
with_engine-kept l r lines e = (
  record {
    status = lines.status;
    data_in = lines.data_in;
    data_out = lines.data_out;
    base = λ pipe stream has. rw (ring_of-with_engine l r pipe stream) (lines.base pipe stream has);
    engine = e;
  },
  ring_of-with_engine l r,
)

ring_of-with_events : (l : LinesState) (e : Events) (pipe : Pipe) (stream : ℕ) → ring_of (with_events l e) pipe stream ≡ ring_of l pipe stream
ring_of-with_events l e pipe stream = rings_by_pipe (with_events l e) l pipe stream refl refl refl refl

pub with_events-kept : EventsLeaveRings
with_events-kept l e lines = (
  record {
    status = lines.status;
    data_in = lines.data_in;
    data_out = lines.data_out;
    base = λ pipe stream has. rw (ring_of-with_events l e pipe stream) (lines.base pipe stream has);
    engine = lines.engine;
  },
  ring_of-with_events l e,
)

pub ruleset one_ring = (ring_of_with_ring, ring_of-others, entry_of-others, IsLines-with_ring, with_engine-kept, with_events-kept)

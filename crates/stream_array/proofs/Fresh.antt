-- New segments and the contexts of a pipe with streams: each context names the first place, so the rings are new.
use Rattle.std.proofs.Common.{◌≡◌, ℕ, ◌+◌, ◌-◌, ◌*◌, ◌/◌, ◌%◌, ◌<◌, ◌≤◌, true, false, List, length, get_or, Some, None, refl, subst, sym, ap, ap₂, ◌∙◌, arith, inl, inr}
use Rattle.std.proofs.Math.ListN.{get_or-eq_default}
use Rattle.std.proofs.lemmas.Bool.{cases_lt, false≢true, le-leb, lt-leb, lt-ltb}
use Rattle.cycle_ring.specs.Ring.{item_in, opening}
use Rattle.cycle_ring.specs.Items.{ItemRing}
use Rattle.cycle_ring.specs.Segment.{IsConsumer}
use Rattle.event_ring.specs.Events.{Events, opening as opening_events}
use Rattle.marks.specs.Marks.{is_marked}
use Rattle.uas_profile.specs.declared.Pipe.{Pipe}
use Rattle.uas_profile.specs.declared.Pipe.TheVariants.{Command, Status, DataIn, DataOut}
use Rattle.uas_profile.specs.Pipes.{HasStreams}
use Rattle.uas_profile.specs.declared.TheConstants.{ENGINE_RING, PIPE_SPAN, RINGS, STREAMS, STREAM_ENTRIES, STREAM_RING_PLACES}
use Rattle.stream_array.specs.Map.{HasRing, ring_base}
use Rattle.stream_array.specs.Contexts.{Contexts, IsOpening, entry_of, opening_entry}
use Rattle.stream_array.specs.Rings.{HasPending, IsLines, IsOpeningLines, LinesState, ring_of, stream_ring}
use Rattle.stream_array.specs.Consumers.{AreMarked, AreStreams, NamesEnd, ring_in, rings_of}
use Rattle.stream_array.proofs.Named.{NamesEnd-dequeue_at, stream_ring-rings_of}

-- the entries of streams with a ring, of streams past them, and of stream 0
opening_entry-ring : (pipe : Pipe) (stream : ℕ) → HasStreams pipe → 0 < stream → stream ≤ STREAMS
    → opening_entry pipe stream ≡ Some (record { pointer = ring_base pipe stream; cycle = true })
opening_entry-ring Command stream has some last = absurd has
opening_entry-ring Status stream has some last = rw (lt-ltb 0 stream some, le-leb stream STREAMS last) refl
opening_entry-ring DataIn stream has some last = rw (lt-ltb 0 stream some, le-leb stream STREAMS last) refl
opening_entry-ring DataOut stream has some last = rw (lt-ltb 0 stream some, le-leb stream STREAMS last) refl

opening_entry-past : (pipe : Pipe) (stream : ℕ) → STREAMS < stream → opening_entry pipe stream ≡ None
opening_entry-past Command stream past = refl
opening_entry-past Status stream past = rw (lt-ltb 0 stream (omega arith), lt-leb stream STREAMS past) refl
opening_entry-past DataIn stream past = rw (lt-ltb 0 stream (omega arith), lt-leb stream STREAMS past) refl
opening_entry-past DataOut stream past = rw (lt-ltb 0 stream (omega arith), lt-leb stream STREAMS past) refl

opening_entry-zero : (pipe : Pipe) → opening_entry pipe 0 ≡ None
opening_entry-zero Command = refl
opening_entry-zero Status = refl
opening_entry-zero DataIn = refl
opening_entry-zero DataOut = refl

-- a new segment whose context names its first place
NamesEnd-opening : (base : ℕ) → IsConsumer STREAM_RING_PLACES (opening base) (record { place = 0; cycle = true })
    → NamesEnd (opening base) (Some (record { pointer = base; cycle = true }))
NamesEnd-opening base consumer =
    let same : base + 16 * 0 ≡ base = omega arith in
    let Named : ℕ → Type 0 = λ p. NamesEnd (opening base) (Some (record { pointer = p; cycle = true })) in
    subst Named same (NamesEnd-dequeue_at (opening base) (record { place = 0; cycle = true }) consumer)

ring_in-opening : (base : ℕ) → ring_in (opening base) (Some (record { pointer = base; cycle = true })) ≡ opening base
ring_in-opening base =
    let first : (base - base) / 16 ≡ 0 = omega arith in
    ap (λ (place : ℕ). record (opening base) { got = item_in (STREAM_RING_PLACES - 1) (0 % (STREAM_RING_PLACES - 1)) place }) first

-- the segments of a pipe's new rings
pub record AreOpening (pipe : Pipe) (segments : List ItemRing) : Type 0 where
  pub count : length segments ≡ STREAMS
  pub segment : (k : ℕ) → k < STREAMS → get_or segments k (opening 0) ≡ opening (ring_base pipe (k + 1))
  pub consumer : (k : ℕ) → k < STREAMS
      → IsConsumer STREAM_RING_PLACES (opening (ring_base pipe (k + 1))) (record { place = 0; cycle = true })

at_stream : (pipe : Pipe) (segments : List ItemRing) (contexts : Contexts) (stream : ℕ) → HasStreams pipe → AreOpening pipe segments
    → IsOpening pipe STREAM_ENTRIES contexts → 0 < stream → stream ≤ STREAMS
    → (stream_ring segments stream ≡ opening (ring_base pipe stream)) × (entry_of contexts stream ≡ Some (record { pointer = ring_base pipe stream; cycle = true }))
    × IsConsumer STREAM_RING_PLACES (opening (ring_base pipe stream)) (record { place = 0; cycle = true })
at_stream pipe segments contexts stream has segs array some last =
    let back : stream - 1 + 1 ≡ stream = omega arith in
    let Segment : ℕ → Type 0 = λ s. stream_ring segments stream ≡ opening (ring_base pipe s) in
    let Consumer : ℕ → Type 0 = λ s. IsConsumer STREAM_RING_PLACES (opening (ring_base pipe s)) (record { place = 0; cycle = true }) in (
      subst Segment back (segs.segment (stream - 1) (omega arith)),
      array.entry stream (omega arith) ∙ opening_entry-ring pipe stream has some last,
      subst Consumer back (segs.consumer (stream - 1) (omega arith)),
    )

pub AreStreams-opening : (pipe : Pipe) (segments : List ItemRing) (contexts : Contexts) → HasStreams pipe → AreOpening pipe segments
    → IsOpening pipe STREAM_ENTRIES contexts → AreStreams segments contexts
AreStreams-opening pipe segments contexts has segs array = record {
  count = segs.count;
  entries = array.entries;
  reserved = array.entry 0 (omega arith) ∙ opening_entry-zero pipe;
  named = λ stream some last.
      let at = at_stream pipe segments contexts stream has segs array some last in
      rw (at.0, at.1) (NamesEnd-opening (ring_base pipe stream) at.2);
  none = λ stream past. elim (cases_lt stream STREAM_ENTRIES) [
    | inl within ↦ array.entry stream within ∙ opening_entry-past pipe stream past
    | inr beyond ↦ get_or-eq_default contexts None (omega (arith, array.entries))
  ];
}

pub stream_ring-opening : (pipe : Pipe) (segments : List ItemRing) (contexts : Contexts) (stream : ℕ) → HasStreams pipe → AreOpening pipe segments
    → IsOpening pipe STREAM_ENTRIES contexts → 0 < stream → stream ≤ STREAMS
    → stream_ring (rings_of segments contexts) stream ≡ opening (ring_base pipe stream)
stream_ring-opening pipe segments contexts stream has segs array some last =
    let at = at_stream pipe segments contexts stream has segs array some last in
    stream_ring-rings_of segments contexts stream segs.count some last ∙ ap₂ ring_in at.0 at.1 ∙ ring_in-opening (ring_base pipe stream)

-- new rings have nothing pending, so no mark is wanted
pub AreMarked-opening : (pipe : Pipe) (segments : List ItemRing) (contexts : Contexts) → HasStreams pipe → AreOpening pipe segments
    → IsOpening pipe STREAM_ENTRIES contexts → (marks : List ℕ) → ((place : ℕ) → is_marked marks place ≡ false)
    → AreMarked marks (rings_of segments contexts)
AreMarked-opening pipe segments contexts has segs array marks none = record {
  pending = λ stream some last pending.
      let there = subst HasPending (stream_ring-opening pipe segments contexts stream has segs array some last) pending in
      absurd (omega (arith, there));
  streams = λ place set. absurd (false≢true (sym (none place) ∙ set));
}

-- the rings of a pipe, all new
abbrev pub AreRings : Pipe → List ItemRing → Type 0
AreRings pipe rings =
    (length rings ≡ STREAMS) × ((stream : ℕ) → 0 < stream → stream ≤ STREAMS → stream_ring rings stream ≡ opening (ring_base pipe stream))

ring-opening : (lines : LinesState) (pipe : Pipe) (stream : ℕ) → lines.command ≡ opening (RINGS + PIPE_SPAN) → AreRings Status lines.status
    → AreRings DataIn lines.data_in → AreRings DataOut lines.data_out → HasRing pipe stream
    → ring_of lines pipe stream ≡ opening (ring_base pipe stream)
ring-opening lines Command stream first by_status by_in by_out has =
    let base : RINGS + PIPE_SPAN ≡ ring_base Command stream = omega (arith, has) in
    first ∙ ap (λ (b : ℕ). opening b) base
ring-opening lines Status stream first by_status by_in by_out has = by_status.1 stream has.0 has.1
ring-opening lines DataIn stream first by_status by_in by_out has = by_in.1 stream has.0 has.1
ring-opening lines DataOut stream first by_status by_in by_out has = by_out.1 stream has.0 has.1

-- all rings new, each at its address
pub lines-opening : (command engine : ItemRing) (status data_in data_out : List ItemRing) (events : Events) → command ≡ opening (RINGS + PIPE_SPAN)
    → AreRings Status status → AreRings DataIn data_in → AreRings DataOut data_out → engine ≡ opening ENGINE_RING → events ≡ opening_events
    → let lines : LinesState = record { command = command; status = status; data_in = data_in; data_out = data_out; engine = engine; events = events } in
    IsLines lines × IsOpeningLines lines
lines-opening command engine status data_in data_out events first by_status by_in by_out engines none =
    let lines : LinesState = record { command = command; status = status; data_in = data_in; data_out = data_out; engine = engine; events = events } in
    let ring : (pipe : Pipe) (stream : ℕ) → HasRing pipe stream → ring_of lines pipe stream ≡ opening (ring_base pipe stream) =
    λ pipe stream has. ring-opening lines pipe stream first by_status by_in by_out has in (
      record {
        status = by_status.0;
        data_in = by_in.0;
        data_out = by_out.0;
        base = λ pipe stream has. ap (λ (r : ItemRing). r.base) (ring pipe stream has);
        engine = ap (λ (r : ItemRing). r.base) engines;
      },
      record { ring = ring; engine = engines; events = none },
    )

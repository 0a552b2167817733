-- What a chunk leaves of rings, buffers and events.
use Rattle.std.proofs.Common.{◌≡◌, ℕ, ◌+◌, ◌-◌, ◌*◌, ◌<◌, ◌≤◌, Bool, true, false, not, cond, List, [], ◌∷◌, ◌++◌, length, Option, Some, None, IfSome, refl}
use Rattle.std.proofs.Common.{arith, ap, sym, subst, ◌∙◌, map}
use Rattle.std.specs.Prelude.{slice_set, if◌then◌else◌, ◌==◌, ◌&&◌}
use Rattle.std.specs.Option.{option_map_or}
use Rattle.std.proofs.lemmas.Bool.{eqb-true, ne_eqb}
use Rattle.std.proofs.lemmas.List.{append-nil, get_or-set_same, get_or-set_other, length-map}
use Rattle.scsi_cmd.specs.Buffers.{with_bytes_at}
use Rattle.uas_profile.specs.declared.Direction.{Direction}
use Rattle.uas_profile.specs.declared.Direction.TheVariants.{Nothing, ToHost, ToDevice}
use Rattle.cycle_ring.specs.Ring.{pointer_of}
use Rattle.cycle_ring.specs.Items.{ItemRing, Item, known}
use Rattle.event_ring.specs.declared.Event.{Event}
use Rattle.event_ring.specs.declared.Event.TheVariants.{Transfer}
use Rattle.uas_profile.specs.declared.Pipe.{Pipe}
use Rattle.uas_profile.specs.declared.Pipe.TheVariants.{Command as CommandPipe, DataIn, DataOut}
use Rattle.uas_profile.specs.declared.TheConstants.{STREAMS, STREAM_RING_PLACES, CHUNK_BYTES, SLOT, SUCCESS}
use Rattle.stream_array.specs.Rings.{LinesState, stream_ring}
use Rattle.frame_store.specs.declared.TagBuffers.{TagBuffers}
use Rattle.frame_store.specs.Buffers.{IsWhole, held_for, no_buffers, with_lent, written}
use Rattle.uas_profile.specs.declared.Place.{Place}
use Rattle.uas_host.specs.Seen.{goes_to_device, goes_to_host}
use Rattle.uas_profile.specs.Tags.{tag_of}
use Rattle.uas_host.specs.Tds.{data_td, data_trb_count, window_of}
use Rattle.xhci_ctl.specs.Steps.{after_chunk, consumed, endpoint_of}
use Rattle.shared_machine.specs.declared.Td.{Td}
use Rattle.shared_machine.specs.Part.{is_last_trb}
use Rattle.machine_invariant.specs.Matched.{carried_places}
use Rattle.bus_core.specs.World.{World}
use Rattle.bus_core.specs.Cells.{HoldsData, HoldsTd, HoldsTrbs, data_in_td, data_out_td}
use Rattle.bus_core.specs.Fits.{data_event, event_texts, last_pointer}
use Rattle.bus_core.proofs.common.DataTrbs.{length-data_trbs}
use Rattle.bus_core.proofs.chunks.ChunkWindows.{chunk-written}
use Rattle.bus_core.proofs.chunks.ChunkEntries.{moving_td, td_after}
use Rattle.bus_core.proofs.common.CellWrites.{stream_ring-other, stream_ring-same}
use Rattle.bus_core.proofs.common.Framing.{EndsAlike}
use Rattle.machine_invariant.proofs.MatchedTasks.{data_event_if}

-- RINGS

-- the event of a TRB that was taken and ends its TD
abbrev pub chunk_events : Bool → Bool → Event → List Event
chunk_events took chain event = if took then (if chain then [] else (event ∷ [])) else []

-- the pipe of the data that go this way, and its rings; where nothing goes there are none
abbrev pub pipe_of : Direction → Pipe
pipe_of Nothing = CommandPipe
pipe_of ToHost = DataIn
pipe_of ToDevice = DataOut

abbrev pub rings_of : Direction → LinesState → List ItemRing
rings_of Nothing lines = []
rings_of ToHost lines = lines.data_in
rings_of ToDevice lines = lines.data_out

-- the front TRB of a tag's ring among these was taken, or none was
pub record IsTakenOf (rings now : List ItemRing) (tag : ℕ) (took : Bool) : Type 0 where
  pub here : stream_ring now tag ≡ record (stream_ring rings tag) { got = cond took ((stream_ring rings tag).got + 1) (stream_ring rings tag).got }
  pub others : (other : ℕ) → 0 < other → (other ≡ tag → ⊥) → stream_ring now other ≡ stream_ring rings other

none-taken : (rings : List ItemRing) (tag : ℕ) → IsTakenOf rings rings tag false
none-taken rings tag = record { here = refl; others = λ other there apart. refl }

-- a TRB that wasn't taken is one of no pipe
kept-taken : (rings : List ItemRing) (tag : ℕ) (mine : Bool) → IsTakenOf rings rings tag (mine && false)
kept-taken rings tag true = none-taken rings tag
kept-taken rings tag false = none-taken rings tag

one-taken : (rings : List ItemRing) (tag : ℕ) → 0 < tag → tag ≤ length rings
    → IsTakenOf rings (slice_set rings (tag - 1) (record (stream_ring rings tag) { got = (stream_ring rings tag).got + 1 })) tag true
one-taken rings tag some within =
    let now : ItemRing = record (stream_ring rings tag) { got = (stream_ring rings tag).got + 1 } in
    record {
      here = stream_ring-same rings tag now some within;
      others = λ other there apart. stream_ring-other rings tag other now some there apart;
    }

-- the front TRB of a tag's ring of one way was taken, or none was
pub record TakesTrb (before after : LinesState) (way : Direction) (tag : ℕ) (took : Bool) (posted : List Event) : Type 0 where
  pub command : after.command ≡ before.command
  pub engine : after.engine ≡ before.engine
  pub status : after.status ≡ before.status
  pub data_in : IsTakenOf before.data_in after.data_in tag (goes_to_host way && took)
  pub data_out : IsTakenOf before.data_out after.data_out tag (goes_to_device way && took)
  pub events : after.events.pending ≡ before.events.pending ++ posted

-- a TRB of either pipe was taken: the command pipe, the controller's commands, the statuses and the events are as they were
record IsConsumed (before after : LinesState) (way : Direction) (tag : ℕ) : Type 0 where
  data_in : IsTakenOf before.data_in after.data_in tag (goes_to_host way && true)
  data_out : IsTakenOf before.data_out after.data_out tag (goes_to_device way && true)
  rest : record after { data_in = []; data_out = [] } ≡ record before { data_in = []; data_out = [] }

consumed-on : (lines : LinesState) (way : Direction) (tag : ℕ) → 0 < tag → tag ≤ length (rings_of way lines)
    → IsConsumed lines (consumed lines (pipe_of way) tag) way tag
consumed-on lines Nothing tag some within = absurd (omega (arith, some, within))
consumed-on lines ToHost tag some within =
    record { data_in = one-taken lines.data_in tag some within; data_out = none-taken lines.data_out tag; rest = refl }
consumed-on lines ToDevice tag some within =
    record { data_in = none-taken lines.data_in tag; data_out = one-taken lines.data_out tag some within; rest = refl }

-- and this is posted
consumed-posted : (before after : LinesState) (way : Direction) (tag : ℕ) (posted pending : List Event) → IsConsumed before after way tag
    → pending ≡ after.events.pending ++ posted
    → TakesTrb before (record after { events = record after.events { pending = pending } }) way tag true posted
consumed-posted before after way tag posted pending it is = record {
  command = ap (λ (l : LinesState). l.command) it.rest;
  engine = ap (λ (l : LinesState). l.engine) it.rest;
  status = ap (λ (l : LinesState). l.status) it.rest;
  data_in = it.data_in;
  data_out = it.data_out;
  events = is ∙ ap (λ (l : LinesState). l.events.pending ++ posted) it.rest;
}

-- the rings after a chunk
pub takes-on : (lines : LinesState) (way : Direction) (tag address pointer size : ℕ) (took chain : Bool) → 0 < tag → tag ≤ length (rings_of way lines)
    → TakesTrb lines (after_chunk took lines (pipe_of way) tag (record { address = address; pointer = pointer; length = size; chain = chain })) way tag took
    (chunk_events took chain (Transfer address 0 SUCCESS (endpoint_of (pipe_of way)) SLOT))
takes-on lines way tag address pointer size false chain some within = record {
  command = refl;
  engine = refl;
  status = refl;
  data_in = kept-taken lines.data_in tag (goes_to_host way);
  data_out = kept-taken lines.data_out tag (goes_to_device way);
  events = sym (append-nil lines.events.pending);
}
takes-on lines way tag address pointer size true true some within =
    consumed-posted lines _ way tag [] _ (consumed-on lines way tag some within) (sym (append-nil (consumed lines (pipe_of way) tag).events.pending))
takes-on lines way tag address pointer size true false some within =
    consumed-posted lines _ way tag _ _ (consumed-on lines way tag some within) refl

-- its enqueue place is where it was
pub ends-after : (ring now : ItemRing) (got : ℕ) → now ≡ record ring { got = got } → EndsAlike ring now
ends-after ring now got is =
    record { base = ap (λ (r : ItemRing). r.base) is; at = ap (λ (r : ItemRing). r.at) is; put = ap (λ (r : ItemRing). r.put) is }

-- the ring holds the TD after the chunk, where it is the TD's
abbrev td_if : Bool → Td → Option Td
td_if mine td = cond mine (Some td) None

holds-on : (mine took : Bool) (tag bytes chunk : ℕ) (ring now : ItemRing) → HoldsData ring (data_td tag bytes) (td_if mine (moving_td chunk))
    → now ≡ record ring { got = cond (mine && took) (ring.got + 1) ring.got } → HoldsData now (data_td tag bytes) (td_if mine (td_after took chunk))
holds-on true true tag bytes chunk ring now holds is =
    (ap (λ (r : ItemRing). r.put) is ∙ holds.0, ap (λ (r : ItemRing). r.got) is ∙ ap (λ n. n + 1) holds.1)
holds-on true false tag bytes chunk ring now holds is = subst (λ r. HoldsTd r (data_td tag bytes) (moving_td chunk)) (sym is) holds
holds-on false took tag bytes chunk ring now holds is = subst (λ r. HoldsTrbs r [] 0) (sym is) holds

pub data_in-if : (way : Direction) (td : Td) → data_in_td way (Some td) ≡ td_if (goes_to_host way) td
data_in-if Nothing td = refl
data_in-if ToHost td = refl
data_in-if ToDevice td = refl

pub data_out-if : (way : Direction) (td : Td) → data_out_td way (Some td) ≡ td_if (goes_to_device way) td
data_out-if Nothing td = refl
data_out-if ToHost td = refl
data_out-if ToDevice td = refl

-- a data ring after the chunk, told by which TD is on it
pub holds-td : (on : Direction → Option Td → Option Td) (goes : Direction → Bool) (way : Direction) → ((td : Td) → on way (Some td) ≡ td_if (goes way) td)
    → (took : Bool) (tag bytes chunk : ℕ) (ring now : ItemRing) → HoldsData ring (data_td tag bytes) (on way (Some (moving_td chunk)))
    → now ≡ record ring { got = cond (goes way && took) (ring.got + 1) ring.got } → HoldsData now (data_td tag bytes) (on way (Some (td_after took chunk)))
holds-td on goes way is_on took tag bytes chunk ring now holds is =
    subst (HoldsData now (data_td tag bytes)) (sym (is_on (td_after took chunk)))
    (holds-on (goes way) took tag bytes chunk ring now (subst (HoldsData ring (data_td tag bytes)) (is_on (moving_td chunk)) holds) is)

-- BUFFERS

-- the lent vector of a tag was written, or nothing was
pub record WritesLent (before after : List TagBuffers) (tag : ℕ) (lent : List ℕ) : Type 0 where
  pub here : held_for after tag ≡ record (held_for before tag) { lent = Some lent }
  pub others : (other : ℕ) → 0 < other → (other ≡ tag → ⊥) → held_for after other ≡ held_for before other

pub lent-kept : (frames : List TagBuffers) (tag : ℕ) (lent : List ℕ) → (held_for frames tag).lent ≡ Some lent → WritesLent frames frames tag lent
lent-kept frames tag lent is = record {
  here = ap (λ (o : Option (List ℕ)). record (held_for frames tag) { lent = o }) is;
  others = λ other there apart. refl;
}

lent-set : (frames : List TagBuffers) (tag : ℕ) (lent : List ℕ) → IsWhole frames → 0 < tag → tag ≤ STREAMS
    → WritesLent frames (with_lent frames tag (Some lent)) tag lent
lent-set frames tag lent whole some within = record {
  here = get_or-set_same frames (tag - 1) (record (held_for frames tag) { lent = Some lent }) no_buffers (omega (arith, whole.tags));
  others = λ other there apart. get_or-set_other frames (tag - 1) (other - 1) (record (held_for frames tag) { lent = Some lent }) no_buffers
      (λ same. apart (omega arith));
}

pub lent-given : (frames : List TagBuffers) (tag chunk size : ℕ) (buffer : List ℕ) (given : Option (List ℕ)) → IsWhole frames → 0 < tag → tag ≤ STREAMS
    → (held_for frames tag).lent ≡ Some buffer → 0 < size → CHUNK_BYTES * chunk + size ≤ length buffer → IfSome given (λ bytes. length bytes ≤ size)
    → WritesLent frames (option_map_or (λ bytes. written frames (window_of tag + CHUNK_BYTES * chunk) size bytes) given frames) tag
    (option_map_or (λ bytes. with_bytes_at buffer (CHUNK_BYTES * chunk) bytes) given buffer)
lent-given frames tag chunk size buffer None whole some within lent more fits short = lent-kept frames tag buffer lent
lent-given frames tag chunk size buffer (Some bytes) whole some within lent more fits short =
    subst (λ now. WritesLent frames now tag (with_bytes_at buffer (CHUNK_BYTES * chunk) bytes))
    (sym (chunk-written frames tag chunk size buffer bytes whole some within lent more fits short))
    (lent-set frames tag (with_bytes_at buffer (CHUNK_BYTES * chunk) bytes) whole some within)

-- EVENTS

pub carried_places-data : (last : Bool) (place : Place) → carried_places (data_event_if last place) ≡ []
carried_places-data true place = refl
carried_places-data false place = refl

last-event : (ring now : ItemRing) (tag bytes chunk : ℕ) (took : Bool) → ring.put ≡ map known (data_td tag bytes)
    → now ≡ record ring { got = cond took (ring.got + 1) ring.got }
    → chunk + 1 ≡ data_trb_count bytes → last_pointer now ≡ pointer_of STREAM_RING_PLACES ring chunk
last-event ring now tag bytes chunk took put is last =
    let size : length ring.put - 1 ≡ chunk =
    omega (arith, ap length put ∙ length-map (data_td tag bytes) known ∙ length-data_trbs (data_trb_count bytes) (window_of tag) bytes, last) in
    ap last_pointer is ∙ ap (pointer_of STREAM_RING_PLACES ring) size

event-in : (data_in data_out : ItemRing) → 0 < length data_in.put
    → data_event data_in data_out ≡ Transfer (last_pointer data_in) 0 SUCCESS (endpoint_of DataIn) SLOT
event-in data_in data_out some =
    ap (λ b. cond b (Transfer (last_pointer data_out) 0 SUCCESS (endpoint_of DataOut) SLOT)
    (Transfer (last_pointer data_in) 0 SUCCESS (endpoint_of DataIn) SLOT))
    (ne_eqb (length data_in.put) 0 (λ none. omega (arith, none, some)))

event-out : (data_in data_out : ItemRing) → data_in.put ≡ [] → data_event data_in data_out ≡ Transfer (last_pointer data_out) 0 SUCCESS (endpoint_of DataOut) SLOT
event-out data_in data_out none =
    ap (λ (trbs : List Item). cond (length trbs == 0) (Transfer (last_pointer data_out) 0 SUCCESS (endpoint_of DataOut) SLOT)
    (Transfer (last_pointer data_in) 0 SUCCESS (endpoint_of DataIn) SLOT)) none

-- what is posted is the text of the place's data event
texts-of : (tags : ℕ) (after : World) (place : Place) (k bytes chunk : ℕ) (took : Bool) (event : Event)
    → (chunk + 1 ≡ data_trb_count bytes → data_event (stream_ring after.lines.data_in (tag_of tags place)) (stream_ring after.lines.data_out (tag_of tags place)) ≡ event)
    → event_texts tags after k (data_event_if (is_last_trb took (data_trb_count bytes) (Some (moving_td chunk))) place)
    ≡ chunk_events took (not (chunk + 1 == data_trb_count bytes)) event
texts-of tags after place k bytes chunk false event is = refl
texts-of tags after place k bytes chunk true event is =
    elim (chunk + 1 == data_trb_count bytes) as
    (λ b. (chunk + 1 == data_trb_count bytes) ≡ b → event_texts tags after k (data_event_if b place) ≡ chunk_events true (not b) event) [
      | true ↦ λ last. ap (λ e. e ∷ []) (is (eqb-true (chunk + 1) (data_trb_count bytes) last))
      | false ↦ λ more. refl
    ] refl

pub texts-in : (tags : ℕ) (after : World) (place : Place) (k bytes chunk : ℕ) (took : Bool) (ring : ItemRing) → ring.put ≡ map known (data_td (tag_of tags place) bytes)
    → stream_ring after.lines.data_in (tag_of tags place) ≡ record ring { got = cond took (ring.got + 1) ring.got }
    → event_texts tags after k (data_event_if (is_last_trb took (data_trb_count bytes) (Some (moving_td chunk))) place)
    ≡ chunk_events took (not (chunk + 1 == data_trb_count bytes)) (Transfer (pointer_of STREAM_RING_PLACES ring chunk) 0 SUCCESS (endpoint_of DataIn) SLOT)
texts-in tags after place k bytes chunk took ring put is =
    texts-of tags after place k bytes chunk took (Transfer (pointer_of STREAM_RING_PLACES ring chunk) 0 SUCCESS (endpoint_of DataIn) SLOT)
    (λ last.
    let now : ItemRing = stream_ring after.lines.data_in (tag_of tags place) in
    let size : length (stream_ring after.lines.data_in (tag_of tags place)).put ≡ data_trb_count bytes =
    ap (λ (r : ItemRing). length r.put) is ∙ ap length put ∙ length-map (data_td (tag_of tags place) bytes) known
    ∙ length-data_trbs (data_trb_count bytes) (window_of (tag_of tags place)) bytes in
    event-in (stream_ring after.lines.data_in (tag_of tags place)) (stream_ring after.lines.data_out (tag_of tags place)) (omega (arith, size, last))
    ∙ ap (λ p. Transfer p 0 SUCCESS (endpoint_of DataIn) SLOT)
    (last-event ring (stream_ring after.lines.data_in (tag_of tags place)) (tag_of tags place) bytes chunk took put is last))

pub texts-out : (tags : ℕ) (after : World) (place : Place) (k bytes chunk : ℕ) (took : Bool) (ring : ItemRing) → ring.put ≡ map known (data_td (tag_of tags place) bytes)
    → (stream_ring after.lines.data_in (tag_of tags place)).put ≡ []
    → stream_ring after.lines.data_out (tag_of tags place) ≡ record ring { got = cond took (ring.got + 1) ring.got }
    → event_texts tags after k (data_event_if (is_last_trb took (data_trb_count bytes) (Some (moving_td chunk))) place)
    ≡ chunk_events took (not (chunk + 1 == data_trb_count bytes)) (Transfer (pointer_of STREAM_RING_PLACES ring chunk) 0 SUCCESS (endpoint_of DataOut) SLOT)
texts-out tags after place k bytes chunk took ring put none is =
    texts-of tags after place k bytes chunk took (Transfer (pointer_of STREAM_RING_PLACES ring chunk) 0 SUCCESS (endpoint_of DataOut) SLOT)
    (λ last.
    event-out (stream_ring after.lines.data_in (tag_of tags place)) (stream_ring after.lines.data_out (tag_of tags place)) none
    ∙ ap (λ p. Transfer p 0 SUCCESS (endpoint_of DataOut) SLOT)
    (last-event ring (stream_ring after.lines.data_out (tag_of tags place)) (tag_of tags place) bytes chunk took put is last))

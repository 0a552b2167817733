-- Each TRB that stands on a stream's ring is one that the controller carries out, whatever the device does on its tag: so none is foreign.
use Rattle.std.proofs.Common.{◌≡◌, ℕ, zero, suc, ◌+◌, ◌-◌, ◌*◌, ◌<◌, ◌≤◌, Bool, true, false, ◌&&◌, cond, List, [], length, Option, Some, None}
use Rattle.std.proofs.Common.{IfSome, option_map, refl, arith, sym, subst, ◌∙◌, inr, map}
use Rattle.std.specs.Prelude.{slice_get, nat_lt, min}
use Rattle.std.proofs.lemmas.Bool.{and_parts, ltb-true, leb-true}
use Rattle.std.proofs.lemmas.Option.{none-some, same_Some, slice_get_within, slice_get-map}
use Rattle.xhci_trb.specs.declared.Trb.{Trb}
use Rattle.cycle_ring.specs.Ring.{pointer_of}
use Rattle.cycle_ring.specs.Items.{ItemRing, known_of, known, Item}
use Rattle.uas_profile.specs.declared.Pipe.{Pipe}
use Rattle.uas_profile.specs.declared.Pipe.TheVariants.{Status, DataIn, DataOut}
use Rattle.uas_profile.specs.declared.TheConstants.{STREAMS, STREAM_RING_PLACES, STATUS_BYTES, CHUNK_BYTES}
use Rattle.uas_profile.specs.declared.Place.{Place}
use Rattle.uas_profile.specs.Tags.{tag_of}
use Rattle.uas_profile.specs.declared.TdState.{TdState}
use Rattle.uas_profile.specs.declared.TdState.TheVariants.{Pending, Seen, LeftOver, Retired}
use Rattle.stream_array.specs.Contexts.{has_stream}
use Rattle.stream_array.specs.Map.{places_of}
use Rattle.stream_array.specs.Rings.{LinesState, ring_of, stream_ring}
use Rattle.frame_store.specs.declared.TagBuffers.{TagBuffers}
use Rattle.frame_store.specs.declared.Buffer.TheVariants.{Status as StatusBuffer}
use Rattle.frame_store.specs.Buffers.{IsWhole, held_for, front_of as front_byte}
use Rattle.scsi_cmd.specs.Held.{held_at}
use Rattle.scsi_cmd.specs.Op.{moved_bytes}
use Rattle.scsi_cmd.specs.declared.Request.{Request}
use Rattle.scsi_cmd.specs.declared.Request.TheVariants.{Execute, Manage}
use Rattle.solo_model.specs.Soundness.{IsSoundRequest}
use Rattle.solo_model.specs.TaggedTask.{TaggedTask}
use Rattle.uas_iu.specs.declared.Iu.{Iu}
use Rattle.uas_target.specs.Device.{answered, wanted}
use Rattle.uas_target.specs.declared.Phase.{Phase}
use Rattle.uas_target.specs.declared.Phase.TheVariants.{Absent, Gives, Takes, Ends}
use Rattle.uas_host.specs.Tds.{data_td, data_trb_count, status_td, window_of}
use Rattle.xhci_ctl.specs.Own.{IsOwn, IsOwnAnswer, IsOwnData, IsOwnDataFront, IsOwnIn, IsOwnOut, IsOwnStatusFront}
use Rattle.xhci_ctl.specs.Pipes.{ControllerState, has_pending, is_open_on}
use Rattle.xhci_ctl.specs.Steps.{armed_front, front_at, has_event_room}
use Rattle.shared_machine.specs.declared.Td.{Td}
use Rattle.shared_machine.specs.Td.{Entry}
use Rattle.shared_machine.specs.Shared.{Shared}
use Rattle.machine_invariant.specs.Matched.{request_bytes}
use Rattle.shared_machine.proofs.Standing.{get-none}
use Rattle.bus_core.specs.World.{World, cell_at}
use Rattle.bus_core.specs.Cells.{FitsHeld, HoldsData, HoldsIn, HoldsTrbs, lent_for}
use Rattle.bus_core.specs.Fits.{AreUnused, Fits}
use Rattle.bus_core.proofs.common.Framing.{IsFound, found}
use Rattle.bus_core.proofs.common.DataTrbs.{length-data_trbs, slice_get-data_trbs}
use Rattle.bus_core.proofs.chunks.ChunkWindows.{chunk_place, names-chunk}
use Rattle.bus_core.proofs.chunks.DataSteps.{own-data_trb}
use Rattle.bus_core.proofs.status.StatusReady.{HasOwnUnit, status-names}
use Rattle.uas_profile.proofs.TagLaws.{named-is_place, unnamed-is_above}
use Rattle.uas_profile.specs.Tags.{place_of}

-- TRBS

-- each of these TRBs is one that the controller carries out
abbrev pub AreOwn : List TagBuffers → List Trb → Type 0
AreOwn frames trbs = (k : ℕ) (trb : Trb) → slice_get trbs k ≡ Some trb → IsOwn frames (Some trb)

none-own : (frames : List TagBuffers) → AreOwn frames []
none-own frames = λ k trb is. absurd (none-some trb is)

status_td-own : (frames : List TagBuffers) (tag : ℕ) → IsWhole frames → 1 ≤ tag → tag ≤ STREAMS → (k : ℕ) (trb : Trb)
    → slice_get (status_td tag) k ≡ Some trb → IsOwn frames (Some trb)
status_td-own frames tag whole some most zero trb is =
    subst (λ (trb : Trb). IsOwn frames (Some trb)) (same_Some _ trb is)
    (refl, refl, inr (front_byte StatusBuffer tag, status-names frames tag STATUS_BYTES whole some most (omega arith)))
status_td-own frames tag whole some most (suc k) trb is = absurd (none-some trb is)

-- a data TD of the bytes of the vector that is lent
data_td-own : (frames : List TagBuffers) (tag bytes : ℕ) (buffer : List ℕ) → 1 ≤ tag → tag ≤ STREAMS → (held_for frames tag).lent ≡ Some buffer
    → length buffer ≡ bytes → (k : ℕ) (trb : Trb) → slice_get (data_td tag bytes) k ≡ Some trb → IsOwn frames (Some trb)
data_td-own frames tag bytes buffer some most lent whole k trb is =
    let size = length-data_trbs (data_trb_count bytes) (window_of tag) bytes in
    let below : k < data_trb_count bytes = omega (arith, size, slice_get_within (data_td tag bytes) k trb is) in
    let less : CHUNK_BYTES * k < bytes = omega (arith, below) in
    let there = slice_get-data_trbs (data_trb_count bytes) (window_of tag) bytes k below in
    subst (λ (trb : Trb). IsOwn frames (Some trb)) (same_Some _ trb (sym there ∙ is))
    ((own-data_trb frames (window_of tag + CHUNK_BYTES * k) (bytes - CHUNK_BYTES * k) (data_trb_count bytes - 1 - k)
    (inr (
      chunk_place tag k,
      names-chunk frames tag k (min CHUNK_BYTES (bytes - CHUNK_BYTES * k)) buffer (omega arith) most lent
          (omega (arith, less, whole)),
    ))).0)

request-own : (frames : List TagBuffers) (tag count : ℕ) (task : TaggedTask) (request : Request) → 1 ≤ tag → tag ≤ STREAMS
    → (held_for frames tag).lent ≡ lent_for request task.buffer → IsSoundRequest count task request → (k : ℕ) (trb : Trb)
    → slice_get (data_td tag (request_bytes request)) k ≡ Some trb → IsOwn frames (Some trb)
request-own frames tag count task (Execute op) some most lent sound = data_td-own frames tag (moved_bytes op) task.buffer some most lent sound.whole
request-own frames tag count task (Manage what noted) some most lent sound = λ k trb is.
    let size = length-data_trbs (data_trb_count 0) (window_of tag) 0 in
    absurd (omega (arith, size, slice_get_within (data_td tag 0) k trb is))

-- RINGS

-- so is each of these items
abbrev pub AreOwnItems : List TagBuffers → List Item → Type 0
AreOwnItems frames items = (k : ℕ) (item : Item) → slice_get items k ≡ Some item → IsOwn frames (known_of item)

known-own : (frames : List TagBuffers) (trb : Option Trb) (item : Item) → option_map known trb ≡ Some item
    → ((one : Trb) → trb ≡ Some one → IsOwn frames (Some one)) → IsOwn frames (known_of item)
known-own frames None item is own = absurd (none-some item is)
known-own frames (Some trb) item is own = subst (λ (i : Item). IsOwn frames (known_of i)) (same_Some (known trb) item is) (own trb refl)

items-own : (frames : List TagBuffers) (trbs : List Trb) → AreOwn frames trbs → AreOwnItems frames (map known trbs)
items-own frames trbs own = λ k item is. known-own frames (slice_get trbs k) item (sym (slice_get-map known trbs k) ∙ is) (own k)

holds-own : (frames : List TagBuffers) (ring : ItemRing) (trbs : List Trb) (taken : ℕ) → HoldsTrbs ring trbs taken → AreOwn frames trbs
    → AreOwnItems frames ring.put
holds-own frames ring trbs taken holds own = subst (AreOwnItems frames) (sym holds.0) (items-own frames trbs own)

in-own : (frames : List TagBuffers) (ring : ItemRing) (trbs : List Trb) (consumed : ℕ) (state : TdState) → HoldsIn ring trbs consumed state
    → AreOwn frames trbs → AreOwnItems frames ring.put
in-own frames ring trbs consumed Pending holds own = holds-own frames ring trbs consumed holds own
in-own frames ring trbs consumed Seen holds own = holds-own frames ring [] 0 holds.0 (none-own frames)
in-own frames ring trbs consumed LeftOver holds own = holds-own frames ring trbs consumed holds own
in-own frames ring trbs consumed Retired holds own = holds-own frames ring [] 0 holds.0 (none-own frames)

on-data-own : (frames : List TagBuffers) (ring : ItemRing) (trbs : List Trb) (td : Option Td) → HoldsData ring trbs td → AreOwn frames trbs
    → AreOwnItems frames ring.put
on-data-own frames ring trbs None holds own = holds-own frames ring [] 0 holds (none-own frames)
on-data-own frames ring trbs (Some td) holds own = in-own frames ring trbs td.consumed td.state holds own

-- the three rings of a tag
pub record HasOwnRings (world : World) (tag : ℕ) : Type 0 where
  pub status : AreOwnItems world.frames (stream_ring world.lines.status tag).put
  pub data_in : AreOwnItems world.frames (stream_ring world.lines.data_in tag).put
  pub data_out : AreOwnItems world.frames (stream_ring world.lines.data_out tag).put

cell-own : (tags : ℕ) (world : World) (place : Place) (client count : ℕ) (held : Option Entry) → IsWhole world.frames → 1 ≤ tag_of tags place → tag_of tags place ≤ STREAMS
    → FitsHeld tags client count place held (cell_at tags world place) → HasOwnRings world (tag_of tags place)
cell-own tags world place client count None whole some most cell = record {
  status = holds-own world.frames (stream_ring world.lines.status (tag_of tags place)) [] 0 cell.status (none-own world.frames);
  data_in = holds-own world.frames (stream_ring world.lines.data_in (tag_of tags place)) [] 0 cell.data_in (none-own world.frames);
  data_out = holds-own world.frames (stream_ring world.lines.data_out (tag_of tags place)) [] 0 cell.data_out (none-own world.frames);
}
cell-own tags world place client count (Some entry) whole some most cell =
    let of_data : AreOwn world.frames (data_td (tag_of tags place) (request_bytes entry.task.request)) =
    request-own world.frames (tag_of tags place) count entry.task entry.task.request some most cell.lent cell.sound in
    record {
      status = in-own world.frames (stream_ring world.lines.status (tag_of tags place)) (status_td (tag_of tags place)) entry.status_td.consumed
          entry.status_td.state cell.status (status_td-own world.frames (tag_of tags place) whole some most);
      data_in = on-data-own world.frames (stream_ring world.lines.data_in (tag_of tags place)) _ _ cell.data_in of_data;
      data_out = on-data-own world.frames (stream_ring world.lines.data_out (tag_of tags place)) _ _ cell.data_out of_data;
    }

unused-own : (world : World) (tag : ℕ) → AreUnused world.lines tag → HasOwnRings world tag
unused-own world tag unused = record {
  status = holds-own world.frames (stream_ring world.lines.status tag) [] 0 unused.status (none-own world.frames);
  data_in = holds-own world.frames (stream_ring world.lines.data_in tag) [] 0 unused.data_in (none-own world.frames);
  data_out = holds-own world.frames (stream_ring world.lines.data_out tag) [] 0 unused.data_out (none-own world.frames);
}

client-own : (state : Shared) (world : World) (place : Place) → Fits state world → place.client < length state.parts → place.slot < state.tags
    → tag_of state.tags place ≤ STREAMS → HasOwnRings world (tag_of state.tags place)
client-own state world place fits there within most =
    elim (slice_get state.parts place.client) as (λ o. slice_get state.parts place.client ≡ o → HasOwnRings world (tag_of state.tags place)) [
      | None ↦ λ is. absurd (omega (arith, get-none state.parts place.client is, there))
      | Some part ↦ λ is.
          let client : IsFound state.tags world place.client part = found state.tags world state.parts place.client part fits.clients is in
          cell-own state.tags world place place.client part.unit.count (held_at part.entries place.slot) fits.sound.frames (omega arith) most
          (client.fits.cells place.slot within)
    ] refl

pub own-rings : (state : Shared) (world : World) (tag : ℕ) → Fits state world → 1 ≤ tag → tag ≤ STREAMS → HasOwnRings world tag
own-rings state world tag fits some most =
    elim (place_of state.tags (length state.parts) tag) as (λ named. place_of state.tags (length state.parts) tag ≡ named → HasOwnRings world tag) [
      | Some place ↦ λ is.
          let named = named-is_place state.tags (length state.parts) tag place (omega (arith, fits.matched.tags.least)) is in
          subst (HasOwnRings world) (sym named.is) (client-own state world place fits named.client named.slot (omega (arith, named.is, most)))
      | None ↦ λ is. unused-own world tag (fits.unused tag (unnamed-is_above state.tags (length state.parts) tag some is))
    ] refl

-- FRONTS

front-own : (frames : List TagBuffers) (n : ℕ) (ring : ItemRing) → AreOwnItems frames ring.put → IfSome (front_at n ring) (λ front. IsOwn frames front.1)
front-own frames n ring own =
    elim (slice_get ring.put ring.got) as (λ o. slice_get ring.put ring.got ≡ o
    → IfSome {T = ℕ × Option Trb} (option_map (λ item. (pointer_of n ring ring.got, known_of item)) o) (λ front. IsOwn frames front.1)) [
      | None ↦ λ is. tt
      | Some item ↦ λ is. own ring.got item is
    ] refl

-- what holds of the TRB in front of a ring holds of the one that a step may take there
armed-if : (controller : ControllerState) (lines : LinesState) (pipe : Pipe) (stream : ℕ) (P : ℕ × Option Trb → Type 0)
    → (is_open_on controller pipe stream ≡ true → IfSome (front_at (places_of pipe) (ring_of lines pipe stream)) P)
    → IfSome (armed_front controller lines pipe stream) P
armed-if controller lines pipe stream P has =
    elim (is_open_on controller pipe stream) as (λ b. is_open_on controller pipe stream ≡ b → IfSome (cond
    (b && has_pending (ring_of lines pipe stream))
    (cond (has_event_room lines) (front_at (places_of pipe) (ring_of lines pipe stream)) None) None) P) [
      | false ↦ λ is. tt
      | true ↦ λ is. elim (has_pending (ring_of lines pipe stream)) as (λ b. IfSome (cond b
          (cond (has_event_room lines) (front_at (places_of pipe) (ring_of lines pipe stream)) None) None) P) [
            | false ↦ tt
            | true ↦ elim (has_event_room lines) as (λ b. IfSome (cond b (front_at (places_of pipe) (ring_of lines pipe stream)) None) P) [
              | false ↦ tt
              | true ↦ has is
            ]
          ]
    ] refl

-- an open stream has a tag
has_stream-bounds : (tag : ℕ) (rung : Bool) → (has_stream tag && rung) ≡ true → (1 ≤ tag) × (tag ≤ STREAMS)
has_stream-bounds tag rung is =
    let both = and_parts (has_stream tag) rung is in
    let there = and_parts (nat_lt 0 tag) _ both.0 in
    (ltb-true 0 tag there.0, leb-true tag STREAMS there.1)

-- THE DATA STREAMS

-- where the device moves a chunk on a tag, the TRB in front of the ring of its way has as many bytes
abbrev pub HasOwnChunk : LinesState → List TagBuffers → ℕ → Phase → Type 0
HasOwnChunk lines frames tag Absent = Unit {0}
HasOwnChunk lines frames tag (Gives size) =
    IfSome (front_at STREAM_RING_PLACES (ring_of lines DataIn tag)) (λ front. IsOwnData frames size front.1)
HasOwnChunk lines frames tag (Takes size) =
    IfSome (front_at STREAM_RING_PLACES (ring_of lines DataOut tag)) (λ front. IsOwnData frames size front.1)
HasOwnChunk lines frames tag Ends = Unit {0}

in-front : (world : World) (tag : ℕ) (phase : Phase) → HasOwnRings world tag → HasOwnChunk world.lines world.frames tag phase
    → IfSome (front_at STREAM_RING_PLACES (stream_ring world.lines.data_in tag)) (λ front. IsOwnIn world.frames phase front.1)
in-front world tag Absent rings chunk = front-own world.frames STREAM_RING_PLACES (stream_ring world.lines.data_in tag) rings.data_in
in-front world tag (Gives size) rings chunk = chunk
in-front world tag (Takes size) rings chunk = front-own world.frames STREAM_RING_PLACES (stream_ring world.lines.data_in tag) rings.data_in
in-front world tag Ends rings chunk = front-own world.frames STREAM_RING_PLACES (stream_ring world.lines.data_in tag) rings.data_in

out-front : (world : World) (tag : ℕ) (phase : Phase) → HasOwnRings world tag → HasOwnChunk world.lines world.frames tag phase
    → IfSome (front_at STREAM_RING_PLACES (stream_ring world.lines.data_out tag)) (λ front. IsOwnOut world.frames phase front.1)
out-front world tag Absent rings chunk = front-own world.frames STREAM_RING_PLACES (stream_ring world.lines.data_out tag) rings.data_out
out-front world tag (Gives size) rings chunk = front-own world.frames STREAM_RING_PLACES (stream_ring world.lines.data_out tag) rings.data_out
out-front world tag (Takes size) rings chunk = chunk
out-front world tag Ends rings chunk = front-own world.frames STREAM_RING_PLACES (stream_ring world.lines.data_out tag) rings.data_out

pub data-own : (state : Shared) (world : World) (tag : ℕ) → Fits state world → HasOwnChunk world.lines world.frames tag (wanted world.device tag)
    → IsOwnDataFront world.controller world.lines world.frames tag (wanted world.device tag)
data-own state world tag fits chunk = record {
  data_in = armed-if world.controller world.lines DataIn tag (λ front. IsOwnIn world.frames (wanted world.device tag) front.1) (λ opened.
      let bounds = has_stream-bounds tag _ opened in
      in-front world tag (wanted world.device tag) (own-rings state world tag fits bounds.0 bounds.1) chunk);
  data_out = armed-if world.controller world.lines DataOut tag (λ front. IsOwnOut world.frames (wanted world.device tag) front.1) (λ opened.
      let bounds = has_stream-bounds tag _ opened in
      out-front world tag (wanted world.device tag) (own-rings state world tag fits bounds.0 bounds.1) chunk);
}

-- THE STATUS STREAM

answer-front : (world : World) (tag : ℕ) (phase : Phase) (answer : Option Iu) → HasOwnRings world tag → HasOwnUnit world.lines world.frames tag answer
    → IfSome (front_at STREAM_RING_PLACES (stream_ring world.lines.status tag)) (λ front. IsOwnAnswer world.frames phase answer front.1)
answer-front world tag Absent answer rings unit = front-own world.frames STREAM_RING_PLACES (stream_ring world.lines.status tag) rings.status
answer-front world tag (Gives size) answer rings unit = front-own world.frames STREAM_RING_PLACES (stream_ring world.lines.status tag) rings.status
answer-front world tag (Takes size) answer rings unit = front-own world.frames STREAM_RING_PLACES (stream_ring world.lines.status tag) rings.status
answer-front world tag Ends None rings unit = front-own world.frames STREAM_RING_PLACES (stream_ring world.lines.status tag) rings.status
answer-front world tag Ends (Some unit) rings own = own

pub status-front-own : (state : Shared) (world : World) (tag : ℕ) → Fits state world → HasOwnUnit world.lines world.frames tag (answered world.device tag)
    → IsOwnStatusFront world.controller world.lines world.frames tag (wanted world.device tag) (answered world.device tag)
status-front-own state world tag fits unit =
    armed-if world.controller world.lines Status tag (λ front. IsOwnAnswer world.frames (wanted world.device tag) (answered world.device tag) front.1)
    (λ opened.
    let bounds = has_stream-bounds tag _ opened in
    answer-front world tag (wanted world.device tag) (answered world.device tag) (own-rings state world tag fits bounds.0 bounds.1) unit)

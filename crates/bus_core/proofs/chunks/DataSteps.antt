-- A step of a data stream on the world of rings is the shared machine's.
use Rattle.std.proofs.Common.{◌≡◌, ℕ, zero, suc, ◌+◌, ◌-◌, ◌*◌, ◌<◌, ◌≤◌, Bool, true, cond, List, length, Option, Some, None, refl, arith}
use Rattle.std.proofs.Common.{ap, sym, subst, ◌∙◌, inr}
use Rattle.std.specs.Prelude.{slice_get, min}
use Rattle.std.specs.Option.{option_map_or}
use Rattle.std.proofs.lemmas.Bool.{lt-ltb, le-leb}
use Rattle.std.proofs.lemmas.List.{length-map}
use Rattle.xhci_trb.specs.declared.Trb.{Trb}
use Rattle.cycle_ring.specs.Items.{ItemRing, known}
use Rattle.event_ring.specs.declared.Event.{Event}
use Rattle.uas_profile.specs.declared.Pipe.{Pipe}
use Rattle.stream_array.specs.Contexts.{has_stream}
use Rattle.stream_array.specs.Map.{places_of}
use Rattle.stream_array.specs.Rings.{LinesState, ring_of, stream_ring}
use Rattle.frame_store.specs.declared.TagBuffers.{TagBuffers}
use Rattle.frame_store.specs.Buffers.{IsNamed}
use Rattle.scsi_cmd.specs.declared.Op.{Op}
use Rattle.uas_profile.specs.declared.TheConstants.{STREAMS, CHUNK_BYTES}
use Rattle.scsi_cmd.specs.Held.{held_at, held_under}
use Rattle.scsi_cmd.specs.Op.{moved_bytes, direction_of}
use Rattle.solo_model.specs.declared.TaskProgress.TheVariants.{Moving}
use Rattle.device_server.specs.Laws.{unit_taken-count}
use Rattle.device_server.specs.Server.{chunk_bytes}
use Rattle.solo_model.specs.declared.Phase.TheVariants.{Begun}
use Rattle.solo_model.specs.TaggedTask.{buffer_after, chunk_brought, progress_left, unit_after}
use Rattle.scsi_cmd.specs.Work.{work_of}
use Rattle.uas_target.specs.declared.DeviceTask.TheVariants.{Moving as MovingTask}
use Rattle.uas_profile.specs.declared.Place.{Place}
use Rattle.uas_profile.specs.Tags.{place_of, tag_of}
use Rattle.uas_host.specs.Tds.{data_td, data_trb, data_trb_count, window_of}
use Rattle.xhci_ctl.specs.declared.Acted.{Acted}
use Rattle.xhci_ctl.specs.declared.Acted.TheVariants.{Idle}
use Rattle.xhci_ctl.specs.Own.{IsOwnData}
use Rattle.xhci_ctl.specs.Pipes.{ControllerState, has_pending, is_armed}
use Rattle.xhci_ctl.specs.Steps.{armed_front, Front, front_at, has_event_room, on_front, room_front, Sides}
use Rattle.shared_machine.specs.declared.Step.TheVariants.{Data}
use Rattle.shared_machine.specs.Td.{Entry}
use Rattle.shared_machine.specs.Part.{Part, is_last_trb, move_act, moved_slot, took_trb}
use Rattle.scsi_cmd.specs.declared.Request.TheVariants.{Execute}
use Rattle.bus_core.specs.Hosts.{begun_task}
use Rattle.shared_machine.specs.Shared.{Shared, acted_on, due, due_step, idle, routed_by_tag, routed_to, shared_step}
use Rattle.machine_invariant.specs.Matched.{IsMatched, carried_places, held_in}
use Rattle.bus_core.specs.World.{World, cell_at}
use Rattle.bus_core.specs.Cells.{FitsCell, FitsHeld, HoldsData, HoldsTrbs, data_in_td, data_out_td}
use Rattle.bus_core.specs.Fits.{Fits, IsSoundWorld, event_texts}
use Rattle.machine_invariant.proofs.MatchedTasks.{data_event_if}
use Rattle.machine_invariant.proofs.MatchedNext.{matched-no_data_event}
use Rattle.machine_invariant.proofs.MatchedSteps.{IsHeld, matched-held, shared_step-matched}
use Rattle.bus_core.proofs.common.Framing.{IsFound, found as found_part}
use Rattle.bus_core.proofs.common.DataTrbs.{data_front, front_in-data_trb, length-data_trbs}
use Rattle.bus_core.proofs.chunks.ChunkWindows.{chunk_place, names-chunk}
use Rattle.bus_core.proofs.chunks.ChunkEntries.{IsChunked, chunk_entry, chunked, fits-chunk, moving_entry, moving_td, td_after}
use Rattle.bus_core.proofs.chunks.ChunkLines.{carried_places-data}
use Rattle.bus_core.proofs.chunks.DataWorlds.{MovesChunk, cell-moved, fits-moved, moved_state}
use Rattle.shared_machine.proofs.Standing.{get-within}
use Rattle.machine_invariant.proofs.MatchedBounds.{held-place}
use Rattle.uas_profile.proofs.TagLaws.{tags-within}
use Rattle.machine_invariant.specs.Matched.{under}

-- THE PLACE

-- a place with an entry that moves data
pub record IsChunkAt (state : Shared) (world : World) (place : Place) (part : Part) : Type 0 where
  pub entry : Entry
  pub op : Op
  pub chunk : ℕ
  pub found : IsFound state.tags world place.client part
  pub there : slice_get state.parts place.client ≡ Some part
  pub held : held_at part.entries place.slot ≡ Some (moving_entry entry op chunk)
  pub here : FitsCell state.tags place.client part.unit.count place (moving_entry entry op chunk) (cell_at state.tags world place)
  pub below : chunk < data_trb_count (moved_bytes op)
  pub within : place.slot < state.tags
  pub last_tag : tag_of state.tags place ≤ STREAMS

-- the entry of a place fits its cell
pub cell-found : (state : Shared) (world : World) (place : Place) (part : Part) → Fits state world → slice_get state.parts place.client ≡ Some part
    → place.slot < state.tags → FitsHeld state.tags place.client part.unit.count place (held_at part.entries place.slot) (cell_at state.tags world place)
cell-found state world place part fits there within = (found_part state.tags world state.parts place.client part fits.clients there).fits.cells place.slot within

pub chunk-at : (state : Shared) (world : World) (place : Place) (part : Part) (entry : Entry) (chunk : ℕ) → Fits state world
    → slice_get state.parts place.client ≡ Some part → held_at part.entries place.slot ≡ Some entry → entry.task.phase ≡ Begun (Moving chunk)
    → IsChunkAt state world place part
chunk-at state world place part entry chunk fits there held moving =
    let found : IsFound state.tags world place.client part = found_part state.tags world state.parts place.client part fits.clients there in
    let client : place.client < length state.parts = get-within state.parts place.client part there in
    let stands : under state.parts place ≡ Some entry = ap (λ p. option_map_or (held_in place) p None) there ∙ held in
    let within : place.slot < state.tags = (held-place state place entry fits.matched stands).slot in
    let here : FitsCell state.tags place.client part.unit.count place entry (cell_at state.tags world place) =
    subst (λ o. FitsHeld state.tags place.client part.unit.count place o (cell_at state.tags world place)) held (cell-found state world place part fits there within) in
    let at : IsHeld state place entry = matched-held state place entry fits.matched stands in
    let it : IsChunked entry chunk = chunked state.tags place.slot part.unit.count entry chunk moving at.here.sound here.sound in
    record {
      entry = entry;
      op = it.op;
      chunk = chunk;
      found = found;
      there = there;
      held = held ∙ ap Some it.is;
      here = subst (λ e. FitsCell state.tags place.client part.unit.count place e (cell_at state.tags world place)) it.is here;
      below = it.below;
      within = within;
      last_tag = omega (arith, (tags-within state.tags (length state.parts) place client within).1, fits.most_tags);
    }

-- THE STATE

-- what the shared machine makes of it
data_step : (state : Shared) (place : Place) (part : Part) (entry : Entry) (op : Op) (chunk : ℕ) → due state (Data (tag_of state.tags place)) ≡ true
    → place_of state.tags (length state.parts) (tag_of state.tags place) ≡ Some place → slice_get state.parts place.client ≡ Some part
    → held_at part.entries place.slot ≡ Some (moving_entry entry op chunk)
    → (shared_step state (Data (tag_of state.tags place))).0
    ≡ moved_state state place part (unit_after part.unit entry.task.buffer chunk op) (chunk_entry part.unit entry op chunk)
    (data_event_if (is_last_trb (took_trb (Begun (progress_left part.unit chunk op))) (data_trb_count (moved_bytes op)) (Some (moving_td chunk))) place)
data_step state place part entry op chunk is_due named there held =
    ap (λ b. (cond b (due_step state (Data (tag_of state.tags place))) (state, idle)).0) is_due
    ∙ ap (λ p. (routed_by_tag state move_act p).0) named
    ∙ ap (λ p. (routed_to state place.client (move_act place) p).0) there
    ∙ ap (λ h. (acted_on state place.client (moved_slot part place.slot place h)).0) held

-- a world in which the place moved its chunk fits the state in which it did
pub fits-after : (state : Shared) (world after : World) (place : Place) (part : Part) (at : IsChunkAt state world place part) (posted : List Event)
    → Fits state world → place_of state.tags (length state.parts) (tag_of state.tags place) ≡ Some place → due state (Data (tag_of state.tags place)) ≡ true
    → MovesChunk state.tags world after place (unit_after part.unit at.entry.task.buffer at.chunk at.op)
    (begun_task (Some place.client) (Execute at.op) (progress_left part.unit at.chunk at.op))
    (buffer_after part.unit at.entry.task.buffer at.chunk at.op) posted
    → HoldsData (stream_ring after.lines.data_in (tag_of state.tags place)) (data_td (tag_of state.tags place) (moved_bytes at.op))
    (data_in_td (direction_of at.op) (Some (td_after (took_trb (Begun (progress_left part.unit at.chunk at.op))) at.chunk)))
    → HoldsData (stream_ring after.lines.data_out (tag_of state.tags place)) (data_td (tag_of state.tags place) (moved_bytes at.op))
    (data_out_td (direction_of at.op) (Some (td_after (took_trb (Begun (progress_left part.unit at.chunk at.op))) at.chunk)))
    → length (buffer_after part.unit at.entry.task.buffer at.chunk at.op) ≡ length at.entry.task.buffer
    → event_texts state.tags after (0 + length (carried_places state.events))
    (data_event_if (is_last_trb (took_trb (Begun (progress_left part.unit at.chunk at.op))) (data_trb_count (moved_bytes at.op)) (Some (moving_td at.chunk)))
    place) ≡ posted
    → IsSoundWorld after → Fits (shared_step state (Data (tag_of state.tags place))).0 after
fits-after state world after place part at posted fits named is_due moves data_in data_out long texts sound =
    let last : Bool = is_last_trb (took_trb (Begun (progress_left part.unit at.chunk at.op))) (data_trb_count (moved_bytes at.op)) (Some (moving_td at.chunk)) in
    let step = data_step state place part at.entry at.op at.chunk is_due named at.there at.held in
    let here : FitsCell state.tags place.client part.unit.count place (chunk_entry part.unit at.entry at.op at.chunk) (cell_at state.tags after place) =
    fits-chunk state.tags place.client place part.unit at.entry at.op at.chunk (cell_at state.tags world place) (cell_at state.tags after place) at.here
    (cell-moved state.tags world after place _ _ _ posted moves fits.sound at.last_tag) data_in data_out long in
    subst (λ s. Fits s after) (sym step)
    (fits-moved state world after place part (unit_after part.unit at.entry.task.buffer at.chunk at.op)
    (chunk_entry part.unit at.entry at.op at.chunk) _ _ posted _
    fits at.found at.there at.within moves
    (unit_taken-count part.unit (chunk_brought at.entry.task.buffer at.chunk at.op) at.chunk (work_of at.op part.unit.count))
    (matched-no_data_event state fits.matched (tag_of state.tags place) place named is_due) here (carried_places-data last place) texts
    (subst IsMatched step (shared_step-matched state (Data (tag_of state.tags place)) fits.matched)) sound)

-- THE FRONT OF A DATA RING

pub has_stream-tag : (tag : ℕ) → 0 < tag → tag ≤ STREAMS → has_stream tag ≡ true
has_stream-tag tag some within = rw (lt-ltb 0 tag some, le-leb tag STREAMS within) refl

pub pending-td : (ring : ItemRing) (tag bytes chunk : ℕ) → HoldsTrbs ring (data_td tag bytes) chunk → chunk < data_trb_count bytes → has_pending ring ≡ true
pending-td ring tag bytes chunk holds below =
    let size : length ring.put ≡ data_trb_count bytes =
    ap length holds.0 ∙ length-map (data_td tag bytes) known ∙ length-data_trbs (data_trb_count bytes) (window_of tag) bytes in
    lt-ltb ring.got (length ring.put) (omega (arith, holds.1, size, below))

-- the front of a ring that is armed
pub armed-front : (controller : ControllerState) (lines : LinesState) (pipe : Pipe) (stream : ℕ) (front : Option (ℕ × Option Trb))
    → is_armed controller lines pipe stream ≡ true → has_event_room lines ≡ true → front_at (places_of pipe) (ring_of lines pipe stream) ≡ front
    → armed_front controller lines pipe stream ≡ front
armed-front controller lines pipe stream front armed room is =
    ap (λ b. cond b (room_front lines pipe stream) None) armed ∙ ap (λ b. cond b (front_at (places_of pipe) (ring_of lines pipe stream)) None) room ∙ is

-- a step on TRB k
pub step-front : (sides : Sides) (step : Front → Sides × Acted) (front : Option (ℕ × Option Trb)) (address tag bytes k : ℕ) → k < data_trb_count bytes
    → front ≡ Some (address, Some (data_trb (window_of tag + CHUNK_BYTES * k) (bytes - CHUNK_BYTES * k) (data_trb_count bytes - 1 - k)))
    → on_front sides step front ≡ step (data_front address tag bytes k)
step-front sides step front address tag bytes k below is =
    ap (on_front sides step) is ∙ ap (λ f. option_map_or step f (sides, Idle)) (front_in-data_trb address tag bytes k below)

pub own-data_trb : (frames : List TagBuffers) (pointer left more : ℕ) → IsNamed frames pointer (min CHUNK_BYTES left)
    → IsOwnData frames (min CHUNK_BYTES left) (Some (data_trb pointer left more))
own-data_trb frames pointer left zero named = ((refl, refl, named), refl)
own-data_trb frames pointer left (suc more) named = ((refl, refl, named), refl)

-- as many bytes as chunk k has
abbrev pub chunk_size : Op → ℕ → ℕ
chunk_size op chunk = chunk_bytes (moved_bytes op) chunk

-- a chunk lies in the lent vector
pub record IsInLent (state : Shared) (world : World) (place : Place) (part : Part) (at : IsChunkAt state world place part) : Type 0 where
  pub some : 0 < chunk_size at.op at.chunk
  pub less : CHUNK_BYTES * at.chunk < moved_bytes at.op
  pub whole : length at.entry.task.buffer ≡ moved_bytes at.op
  pub fits : CHUNK_BYTES * at.chunk + chunk_size at.op at.chunk ≤ length at.entry.task.buffer
  pub named : IsNamed world.frames (window_of (tag_of state.tags place) + CHUNK_BYTES * at.chunk) (chunk_size at.op at.chunk)
  pub task : held_under world.device.tasks (tag_of state.tags place) ≡ Some (MovingTask (Some place.client) at.op at.chunk)

pub in-lent : {state : Shared} {world : World} {place : Place} {part : Part} (at : IsChunkAt state world place part) → IsInLent state world place part at
in-lent {state} {world} {place} {part} at =
    let less : CHUNK_BYTES * at.chunk < moved_bytes at.op = at.here.sound.chunk.0 in
    let whole : length at.entry.task.buffer ≡ moved_bytes at.op = at.here.sound.whole in
    let fits : CHUNK_BYTES * at.chunk + min CHUNK_BYTES (moved_bytes at.op - CHUNK_BYTES * at.chunk) ≤ length at.entry.task.buffer = omega (arith, less, whole) in
    record {
      some = omega (arith, less);
      less = less;
      whole = whole;
      fits = fits;
      named = inr (
        chunk_place (tag_of state.tags place) at.chunk,
        names-chunk world.frames (tag_of state.tags place) at.chunk (chunk_size at.op at.chunk) at.entry.task.buffer (omega arith) (omega (arith, at.last_tag)) at.here.lent fits,
      );
      task = at.here.task;
    }

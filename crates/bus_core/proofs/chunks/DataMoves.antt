-- A chunk that the device gives or takes, on the world of rings.
use Rattle.std.proofs.Common.{◌≡◌, ℕ, ◌+◌, ◌-◌, ◌*◌, ◌≤◌, Bool, true, not, ◌&&◌, List, length, Option, Some, None, IfSome, is_some}
use Rattle.std.proofs.Common.{refl, arith, ap, sym, subst, ◌∙◌}
use Rattle.std.specs.Prelude.{slice_set, ◌==◌}
use Rattle.std.specs.Option.{option_map_or}
use Rattle.std.proofs.lemmas.Bool.{and_from, false≢true}
use Rattle.block_unit.specs.BlockMaps.{BlockMaps}
use Rattle.xhci_trb.specs.declared.Trb.{Trb}
use Rattle.cycle_ring.specs.Ring.{pointer_of}
use Rattle.cycle_ring.specs.Items.{ItemRing}
use Rattle.event_ring.specs.declared.Event.{Event}
use Rattle.event_ring.specs.declared.Event.TheVariants.{Transfer}
use Rattle.uas_profile.specs.declared.Pipe.{Pipe}
use Rattle.uas_profile.specs.declared.Pipe.TheVariants.{DataIn, DataOut}
use Rattle.uas_profile.specs.declared.TheConstants.{STREAM_RING_PLACES, CHUNK_BYTES, SLOT, SUCCESS}
use Rattle.stream_array.specs.Contexts.{has_stream}
use Rattle.stream_array.specs.Map.{places_of}
use Rattle.stream_array.specs.Rings.{ring_of, stream_ring}
use Rattle.frame_store.specs.declared.TagBuffers.{TagBuffers}
use Rattle.frame_store.specs.Buffers.{bytes_at, written}
use Rattle.scsi_cmd.specs.Laws.{length-with_bytes_at}
use Rattle.scsi_cmd.specs.Work.{work_of}
use Rattle.device_server.specs.Server.{chunk_given}
use Rattle.scsi_cmd.specs.Buffers.{with_bytes_at}
use Rattle.uas_profile.specs.declared.Direction.{Direction}
use Rattle.uas_profile.specs.declared.Direction.TheVariants.{Nothing, ToHost, ToDevice}
use Rattle.scsi_cmd.specs.declared.Op.{Op}
use Rattle.scsi_cmd.specs.Held.{with_held_under}
use Rattle.scsi_cmd.specs.Op.{moved_bytes, direction_of}
use Rattle.solo_model.specs.TaggedTask.{buffer_after, progress_left, unit_after}
use Rattle.uas_target.specs.Device.{Device, fits as chunk_is_fit, gave, given, took, wanted}
use Rattle.uas_target.specs.Tasks.{wanted_way}
use Rattle.uas_profile.specs.declared.Place.{Place}
use Rattle.uas_host.specs.Seen.{goes_to_device, goes_to_host}
use Rattle.uas_profile.specs.Tags.{place_of, tag_of}
use Rattle.uas_host.specs.Tds.{data_td, data_trb, data_trb_count, window_of}
use Rattle.xhci_ctl.specs.Own.{IsOwnData}
use Rattle.xhci_ctl.specs.declared.Acted.{Acted}
use Rattle.xhci_ctl.specs.declared.Acted.TheVariants.{Acted as ActedOn, Idle}
use Rattle.uas_profile.specs.declared.PipeState.{PipeState}
use Rattle.uas_profile.specs.PipeStates.{is_open}
use Rattle.xhci_ctl.specs.Pipes.{has_pending, is_open_on}
use Rattle.xhci_ctl.specs.Steps.{after_chunk, armed_front, endpoint_of, Front, front_at, gave_at, moved, moved_by, on_front, Sides, took_at}
use Rattle.shared_machine.specs.declared.Step.TheVariants.{Data}
use Rattle.shared_machine.specs.Part.{Part, is_last_trb, took_trb}
use Rattle.scsi_cmd.specs.declared.Request.TheVariants.{Execute}
use Rattle.solo_model.specs.declared.Phase.TheVariants.{Begun}
use Rattle.bus_core.specs.Hosts.{begun_task}
use Rattle.shared_machine.specs.Shared.{Shared, due, is_data_open, shared_step}
use Rattle.bus_core.specs.World.{World, sides_in, with_sides}
use Rattle.bus_core.specs.Cells.{HoldsData, HoldsTrbs, data_in_td, data_out_td}
use Rattle.bus_core.specs.Fits.{Fits, IsSoundWorld, event_texts}
use Rattle.bus_core.specs.WorldSteps.{DataFits, data_world}
use Rattle.shared_machine.proofs.Standing.{slice_get-back}
use Rattle.bus_core.proofs.carry.DeviceSteps.{IsGiven, given_chunk, IsTaken, taken_chunk, wanted-moving, gave-moving, given-moving, took-moving, fits-moving}
use Rattle.bus_core.proofs.common.DataTrbs.{length-chunk_given, chunk_wanted-gives, chunk_wanted-takes, data_front, front_of-data_td}
use Rattle.bus_core.proofs.chunks.ChunkWindows.{chunk-read}
use Rattle.bus_core.proofs.chunks.ChunkEntries.{moving_td}
use Rattle.bus_core.proofs.chunks.ChunkLines.{TakesTrb, WritesLent, chunk_events, data_in-if, data_out-if, ends-after, holds-td, lent-given}
use Rattle.bus_core.proofs.chunks.ChunkLines.{lent-kept, pipe_of, rings_of, takes-on, texts-in, texts-out}
use Rattle.bus_core.proofs.chunks.DataWorlds.{MovesChunk}
use Rattle.bus_core.proofs.carry.CommandFits.{event-room}
use Rattle.machine_invariant.proofs.MatchedTasks.{data_event_if}
use Rattle.bus_core.proofs.chunks.OwnFronts.{HasOwnChunk, data-own}
use Rattle.bus_core.proofs.chunks.DataSteps.{IsChunkAt, IsInLent, armed-front, chunk_size, fits-after, has_stream-tag, in-lent, own-data_trb, pending-td, step-front}

-- A CHUNK ON EITHER PIPE

-- what the controller finds in front of the ring
abbrev front_on : ℕ → World → Pipe → Place → Op → ℕ → Front
front_on tags world pipe place op chunk =
    data_front (pointer_of STREAM_RING_PLACES (ring_of world.lines pipe (tag_of tags place)) chunk) (tag_of tags place) (moved_bytes op) chunk

-- what is posted after the chunk
abbrev events_on : ℕ → World → Pipe → Place → BlockMaps → Op → ℕ → List Event
events_on tags world pipe place unit op chunk =
    chunk_events (took_trb (Begun (progress_left unit chunk op))) (not (chunk + 1 == data_trb_count (moved_bytes op)))
    (Transfer (pointer_of STREAM_RING_PLACES (ring_of world.lines pipe (tag_of tags place)) chunk) 0 SUCCESS (endpoint_of pipe) SLOT)

front-of : {state : Shared} {world : World} {place : Place} {part : Part} (at : IsChunkAt state world place part) (ring : ItemRing)
    → HoldsTrbs ring (data_td (tag_of state.tags place) (moved_bytes at.op)) at.chunk
    → front_at STREAM_RING_PLACES ring
    ≡ Some (
      pointer_of STREAM_RING_PLACES ring at.chunk,
      Some (data_trb (window_of (tag_of state.tags place) + CHUNK_BYTES * at.chunk) (moved_bytes at.op - CHUNK_BYTES * at.chunk) (data_trb_count (moved_bytes at.op) - 1 - at.chunk)),
    )
front-of {state} {world} {place} {part} at ring holds = front_of-data_td ring (tag_of state.tags place) (moved_bytes at.op) at.chunk holds.0 holds.1 at.below

own-of : {state : Shared} {world : World} {place : Place} {part : Part} (at : IsChunkAt state world place part) (ring : ItemRing)
    → HoldsTrbs ring (data_td (tag_of state.tags place) (moved_bytes at.op)) at.chunk
    → IfSome (front_at STREAM_RING_PLACES ring) (λ front. IsOwnData world.frames (chunk_size at.op at.chunk) front.1)
own-of {state} {world} {place} {part} at ring holds =
    subst (λ (f : Option (ℕ × Option Trb)). IfSome f (λ front. IsOwnData world.frames (chunk_size at.op at.chunk) front.1)) (sym (front-of at ring holds))
    (own-data_trb world.frames (window_of (tag_of state.tags place) + CHUNK_BYTES * at.chunk) (moved_bytes at.op - CHUNK_BYTES * at.chunk)
    (data_trb_count (moved_bytes at.op) - 1 - at.chunk) (in-lent at).named)

-- the stream of the tag is open where its pipe has it open
open-of : {state : Shared} {world : World} {place : Place} {part : Part} (at : IsChunkAt state world place part) (pipe : PipeState)
    → is_open pipe (tag_of state.tags place) ≡ true → (has_stream (tag_of state.tags place) && is_open pipe (tag_of state.tags place)) ≡ true
open-of {state} {world} {place} {part} at pipe rung =
    and_from (has_stream (tag_of state.tags place)) (is_open pipe (tag_of state.tags place)) (has_stream-tag (tag_of state.tags place) (omega arith) (omega (arith, at.last_tag))) rung

-- so the step is on that TRB
moved-on : {state : Shared} {world : World} {place : Place} {part : Part} (at : IsChunkAt state world place part) → Fits state world → (pipe : Pipe)
    (step : Front → Sides × Acted) → HoldsTrbs (ring_of world.lines pipe (tag_of state.tags place)) (data_td (tag_of state.tags place) (moved_bytes at.op)) at.chunk
    → places_of pipe ≡ STREAM_RING_PLACES → is_open_on world.controller pipe (tag_of state.tags place) ≡ true
    → on_front (sides_in world) step (armed_front world.controller world.lines pipe (tag_of state.tags place)) ≡ step (front_on state.tags world pipe place at.op at.chunk)
moved-on {state} {world} {place} {part} at fits pipe step holds places rung =
    let ring : ItemRing = ring_of world.lines pipe (tag_of state.tags place) in
    let armed = and_from (is_open_on world.controller pipe (tag_of state.tags place)) (has_pending ring) rung
    (pending-td ring (tag_of state.tags place) (moved_bytes at.op) at.chunk holds at.below) in
    step-front (sides_in world) step (armed_front world.controller world.lines pipe (tag_of state.tags place))
    (pointer_of STREAM_RING_PLACES ring at.chunk) (tag_of state.tags place) (moved_bytes at.op) at.chunk at.below
    (armed-front world.controller world.lines pipe (tag_of state.tags place) _ armed (event-room state world fits)
    (ap (λ n. front_at n (ring_of world.lines pipe (tag_of state.tags place))) places ∙ front-of at ring holds))

-- THE RINGS

-- the data rings of the tag have its TD on that of its way
pub rings-on : {state : Shared} {world : World} {place : Place} {part : Part} (at : IsChunkAt state world place part) (way : Direction)
    → direction_of at.op ≡ way
    → HoldsData (stream_ring world.lines.data_in (tag_of state.tags place)) (data_td (tag_of state.tags place) (moved_bytes at.op)) (data_in_td way (Some (moving_td at.chunk)))
    × HoldsData (stream_ring world.lines.data_out (tag_of state.tags place)) (data_td (tag_of state.tags place) (moved_bytes at.op)) (data_out_td way (Some (moving_td at.chunk)))
rings-on {state} {world} {place} {part} at way is = (
  subst (λ d. HoldsData (stream_ring world.lines.data_in (tag_of state.tags place)) (data_td (tag_of state.tags place) (moved_bytes at.op))
      (data_in_td d (Some (moving_td at.chunk)))) is at.here.data_in,
  subst (λ d. HoldsData (stream_ring world.lines.data_out (tag_of state.tags place)) (data_td (tag_of state.tags place) (moved_bytes at.op))
      (data_out_td d (Some (moving_td at.chunk)))) is at.here.data_out,
)

-- what the device wants on the tag
wanted-on : {state : Shared} {world : World} {place : Place} {part : Part} (at : IsChunkAt state world place part) (way : Direction) → direction_of at.op ≡ way
    → wanted world.device (tag_of state.tags place) ≡ wanted_way way (chunk_size at.op at.chunk)
wanted-on {state} {world} {place} {part} at way is =
    wanted-moving world.device place.client (tag_of state.tags place) at.chunk at.op (in-lent at).task ∙ ap (λ d. wanted_way d (chunk_size at.op at.chunk)) is

-- the TRB in front is the host's own
pub own-on : {state : Shared} {world : World} {place : Place} {part : Part} (at : IsChunkAt state world place part) (way : Direction) → direction_of at.op ≡ way
    → HasOwnChunk world.lines world.frames (tag_of state.tags place) (wanted_way way (chunk_size at.op at.chunk))
own-on at Nothing is = tt
own-on {state} {world} {place} {part} at ToHost is = own-of at (stream_ring world.lines.data_in (tag_of state.tags place)) (rings-on at ToHost is).0
own-on {state} {world} {place} {part} at ToDevice is = own-of at (stream_ring world.lines.data_out (tag_of state.tags place)) (rings-on at ToDevice is).1

-- THE STEP

-- what the controller does on the TRB
abbrev chunk_step : ℕ → Direction → World → Place → Op → ℕ → Sides × Acted
chunk_step tags Nothing world place op chunk = (sides_in world, Idle)
chunk_step tags ToHost world place op chunk = gave_at (sides_in world) (tag_of tags place) (chunk_size op chunk) (front_on tags world DataIn place op chunk)
chunk_step tags ToDevice world place op chunk = took_at (sides_in world) (tag_of tags place) (chunk_size op chunk) (front_on tags world DataOut place op chunk)

-- where the stream of the tag is open, the controller does that
stepped-on : {state : Shared} {world : World} {place : Place} {part : Part} (at : IsChunkAt state world place part) (way : Direction)
    → Fits state world → direction_of at.op ≡ way
    → is_data_open state (tag_of state.tags place) way ≡ true
    → moved world.controller (sides_in world) (tag_of state.tags place) ≡ chunk_step state.tags way world place at.op at.chunk
stepped-on {state} {world} {place} {part} at way fits is rung =
    ap (moved_by world.controller (sides_in world) (tag_of state.tags place)) (wanted-on at way is) ∙ on-way way is rung
  where
    on-way : (d : Direction) → direction_of at.op ≡ d → is_data_open state (tag_of state.tags place) d ≡ true
        → moved_by world.controller (sides_in world) (tag_of state.tags place) (wanted_way d (chunk_size at.op at.chunk)) ≡ chunk_step state.tags d world place at.op at.chunk
    on-way Nothing so none = refl
    on-way ToHost so opened =
        moved-on at fits DataIn (gave_at (sides_in world) (tag_of state.tags place) (chunk_size at.op at.chunk)) (rings-on at ToHost so).0 refl
        (open-of at world.controller.data_in (ap (λ p. is_open p (tag_of state.tags place)) fits.data_in ∙ opened))
    on-way ToDevice so opened =
        moved-on at fits DataOut (took_at (sides_in world) (tag_of state.tags place) (chunk_size at.op at.chunk)) (rings-on at ToDevice so).1 refl
        (open-of at world.controller.data_out (ap (λ p. is_open p (tag_of state.tags place)) fits.data_out ∙ opened))

given-is : {state : Shared} {world : World} {place : Place} {part : Part} (at : IsChunkAt state world place part) → direction_of at.op ≡ ToHost
    → IsGiven part.unit at.entry.task.buffer at.chunk at.op
given-is {state} {world} {place} {part} at way =
    given_chunk part.unit at.entry.task.buffer at.chunk (chunk_size at.op at.chunk) at.op (chunk_wanted-gives at.op at.chunk way) at.here.sound.chunk.0

taken-is : {state : Shared} {world : World} {place : Place} {part : Part} (at : IsChunkAt state world place part) → direction_of at.op ≡ ToDevice
    → IsTaken part.unit at.entry.task.buffer at.chunk (chunk_size at.op at.chunk) at.op
taken-is {state} {world} {place} {part} at way =
    taken_chunk part.unit at.entry.task.buffer at.chunk (chunk_size at.op at.chunk) at.op (chunk_wanted-takes at.op at.chunk way) at.here.sound.chunk.0

-- THE WORLD AFTER IT

-- the buffers: what is given is written into the lent vector
abbrev chunk_frames : ℕ → Direction → World → Place → BlockMaps → Op → ℕ → List TagBuffers
chunk_frames tags Nothing world place unit op chunk = world.frames
chunk_frames tags ToHost world place unit op chunk =
    option_map_or (λ bytes. written world.frames (window_of (tag_of tags place) + CHUNK_BYTES * chunk) (chunk_size op chunk) bytes)
    (chunk_given unit chunk (work_of op unit.count)) world.frames
chunk_frames tags ToDevice world place unit op chunk = world.frames

abbrev chunk_device : ℕ → World → Place → BlockMaps → List ℕ → Op → ℕ → Device
chunk_device tags world place unit buffer op chunk = record {
  units = slice_set world.device.units place.client (unit_after unit buffer chunk op);
  tasks = with_held_under world.device.tasks (tag_of tags place) (begun_task (Some place.client) (Execute op) (progress_left unit chunk op));
}

abbrev chunk_world : ℕ → Direction → World → Place → BlockMaps → List ℕ → Op → ℕ → World
chunk_world tags way world place unit buffer op chunk = record world {
  lines = after_chunk (took_trb (Begun (progress_left unit chunk op))) world.lines (pipe_of way) (tag_of tags place) (front_on tags world (pipe_of way) place op chunk);
  frames = chunk_frames tags way world place unit op chunk;
  device = chunk_device tags world place unit buffer op chunk;
}

-- the device gives a chunk, and its units are as they were
gave-device : {state : Shared} {world : World} {place : Place} {part : Part} (at : IsChunkAt state world place part) → direction_of at.op ≡ ToHost
    → gave world.device (tag_of state.tags place) ≡ chunk_device state.tags world place part.unit at.entry.task.buffer at.op at.chunk
gave-device {state} {world} {place} {part} at way =
    gave-moving world.device place.client (tag_of state.tags place) at.chunk at.op part.unit (in-lent at).task at.found.unit_is
    ∙ ap (λ units. record {
      units = units;
      tasks = with_held_under world.device.tasks (tag_of state.tags place) (begun_task (Some place.client) (Execute at.op) (progress_left part.unit at.chunk at.op));
    })
    (sym (ap (slice_set world.device.units place.client) (given-is at way).unit_same
    ∙ slice_get-back world.device.units place.client part.unit at.found.unit_is))

-- it takes the bytes that the TRB names
took-device : {state : Shared} {world : World} {place : Place} {part : Part} (at : IsChunkAt state world place part) → Fits state world
    → direction_of at.op ≡ ToDevice
    → took world.device (tag_of state.tags place) (bytes_at world.frames (window_of (tag_of state.tags place) + CHUNK_BYTES * at.chunk) (chunk_size at.op at.chunk))
    ≡ chunk_device state.tags world place part.unit at.entry.task.buffer at.op at.chunk
took-device {state} {world} {place} {part} at fits way =
    let lent : IsInLent state world place part at = in-lent at in
    ap (took world.device (tag_of state.tags place))
    (chunk-read world.frames (tag_of state.tags place) at.chunk (chunk_size at.op at.chunk) at.entry.task.buffer fits.sound.frames
    (omega arith) (omega (arith, at.last_tag)) at.here.lent lent.some lent.fits)
    ∙ took-moving world.device place.client (tag_of state.tags place) at.chunk at.op part.unit _ lent.task at.found.unit_is
    ∙ ap (λ u. record {
      units = slice_set world.device.units place.client u;
      tasks = with_held_under world.device.tasks (tag_of state.tags place) (begun_task (Some place.client) (Execute at.op) (progress_left part.unit at.chunk at.op));
    }) (sym (taken-is at way).unit_is)

world-on : {state : Shared} {world : World} {place : Place} {part : Part} (at : IsChunkAt state world place part) (way : Direction) → Fits state world
    → direction_of at.op ≡ way
    → is_data_open state (tag_of state.tags place) way ≡ true
    → with_sides world (chunk_step state.tags way world place at.op at.chunk).0 ≡ chunk_world state.tags way world place part.unit at.entry.task.buffer at.op at.chunk
world-on at Nothing fits is rung = absurd (false≢true rung)
world-on {state} {world} {place} {part} at ToHost fits is rung =
    let bytes_is : given world.device (tag_of state.tags place) ≡ chunk_given part.unit at.chunk (work_of at.op part.unit.count) =
    given-moving world.device place.client (tag_of state.tags place) at.chunk at.op part.unit (in-lent at).task at.found.unit_is in
    let took_is : is_some (given world.device (tag_of state.tags place)) ≡ took_trb (Begun (progress_left part.unit at.chunk at.op)) =
    ap is_some bytes_is ∙ sym (given-is at is).taken in
    let device_is = gave-device at is in
    λ i. record world {
      lines = after_chunk (took_is i) world.lines DataIn (tag_of state.tags place) (front_on state.tags world DataIn place at.op at.chunk);
      frames = option_map_or (λ bytes. written world.frames (window_of (tag_of state.tags place) + CHUNK_BYTES * at.chunk) (chunk_size at.op at.chunk) bytes)
          (bytes_is i) world.frames;
      device = device_is i;
    }
world-on {state} {world} {place} {part} at ToDevice fits is rung =
    let took_is : chunk_is_fit world.device (tag_of state.tags place) ≡ took_trb (Begun (progress_left part.unit at.chunk at.op)) =
    fits-moving world.device place.client (tag_of state.tags place) at.chunk at.op part.unit (in-lent at).task at.found.unit_is ∙ sym (taken-is at is).taken in
    let device_is = took-device at fits is in
    λ i. record world {
      lines = after_chunk (took_is i) world.lines DataOut (tag_of state.tags place) (front_on state.tags world DataOut place at.op at.chunk);
      device = device_is i;
    }

-- its rings, of which one TRB was taken where a chunk moved
lines-on : {state : Shared} {world : World} {place : Place} {part : Part} (at : IsChunkAt state world place part) (way : Direction) → Fits state world
    → is_data_open state (tag_of state.tags place) way ≡ true
    → TakesTrb world.lines (chunk_world state.tags way world place part.unit at.entry.task.buffer at.op at.chunk).lines way (tag_of state.tags place)
    (took_trb (Begun (progress_left part.unit at.chunk at.op))) (events_on state.tags world (pipe_of way) place part.unit at.op at.chunk)
lines-on {state} {world} {place} {part} at way fits rung =
    takes-on world.lines way (tag_of state.tags place) (pointer_of STREAM_RING_PLACES (ring_of world.lines (pipe_of way) (tag_of state.tags place)) at.chunk)
    (window_of (tag_of state.tags place) + CHUNK_BYTES * at.chunk) (chunk_size at.op at.chunk) (took_trb (Begun (progress_left part.unit at.chunk at.op)))
    (not (at.chunk + 1 == data_trb_count (moved_bytes at.op))) (omega arith) (within way rung)
  where
    within : (d : Direction) → is_data_open state (tag_of state.tags place) d ≡ true → tag_of state.tags place ≤ length (rings_of d world.lines)
    within Nothing none = absurd (false≢true none)
    within ToHost opened = omega (arith, at.last_tag, fits.sound.lines.data_in)
    within ToDevice opened = omega (arith, at.last_tag, fits.sound.lines.data_out)

-- the lent vector after it, which is as long as it was
given-length : (buffer : List ℕ) (from size : ℕ) (given : Option (List ℕ)) → from + size ≤ length buffer → IfSome given (λ bytes. length bytes ≤ size)
    → length (option_map_or (λ bytes. with_bytes_at buffer from bytes) given buffer) ≡ length buffer
given-length buffer from size None fits short = refl
given-length buffer from size (Some bytes) fits short = length-with_bytes_at buffer from bytes (omega (arith, fits, short))

lent-on : {state : Shared} {world : World} {place : Place} {part : Part} (at : IsChunkAt state world place part) (way : Direction) → Fits state world
    → direction_of at.op ≡ way
    → is_data_open state (tag_of state.tags place) way ≡ true
    → WritesLent world.frames (chunk_frames state.tags way world place part.unit at.op at.chunk) (tag_of state.tags place)
    (buffer_after part.unit at.entry.task.buffer at.chunk at.op)
    × (length (buffer_after part.unit at.entry.task.buffer at.chunk at.op) ≡ length at.entry.task.buffer)
lent-on at Nothing fits is rung = absurd (false≢true rung)
lent-on {state} {world} {place} {part} at ToHost fits is rung =
    let lent : IsInLent state world place part at = in-lent at in
    let short = length-chunk_given part.unit at.chunk at.op lent.less in (
      lent-given world.frames (tag_of state.tags place) at.chunk (chunk_size at.op at.chunk) at.entry.task.buffer
          (chunk_given part.unit at.chunk (work_of at.op part.unit.count)) fits.sound.frames
          (omega arith) (omega (arith, at.last_tag)) at.here.lent lent.some lent.fits short,
      given-length at.entry.task.buffer (CHUNK_BYTES * at.chunk) (chunk_size at.op at.chunk) (chunk_given part.unit at.chunk (work_of at.op part.unit.count))
          lent.fits short,
    )
lent-on {state} {world} {place} {part} at ToDevice fits is rung =
    let same = (taken-is at is).bytes in (
      subst (WritesLent world.frames world.frames (tag_of state.tags place)) (sym same) (lent-kept world.frames (tag_of state.tags place) at.entry.task.buffer at.here.lent),
      ap length same,
    )

-- all that changed is the place's
moves-on : {state : Shared} {world : World} {place : Place} {part : Part} (at : IsChunkAt state world place part) (way : Direction) → Fits state world
    → direction_of at.op ≡ way
    → is_data_open state (tag_of state.tags place) way ≡ true
    → MovesChunk state.tags world (chunk_world state.tags way world place part.unit at.entry.task.buffer at.op at.chunk) place
    (unit_after part.unit at.entry.task.buffer at.chunk at.op) (begun_task (Some place.client) (Execute at.op) (progress_left part.unit at.chunk at.op))
    (buffer_after part.unit at.entry.task.buffer at.chunk at.op) (events_on state.tags world (pipe_of way) place part.unit at.op at.chunk)
moves-on {state} {world} {place} {part} at way fits is rung =
    let lines = lines-on at way fits rung in
    let lent = (lent-on at way fits is rung).0 in
    record {
      command = lines.command;
      engine = lines.engine;
      status = lines.status;
      data_in_ends = ends-after (stream_ring world.lines.data_in (tag_of state.tags place)) _ _ lines.data_in.here;
      data_out_ends = ends-after (stream_ring world.lines.data_out (tag_of state.tags place)) _ _ lines.data_out.here;
      data_in = lines.data_in.others;
      data_out = lines.data_out.others;
      buffers = lent.here;
      frames = lent.others;
      events = lines.events;
      host = refl;
      controller = refl;
      units = refl;
      tasks = refl;
    }

-- what is posted is the text of the place's data event
texts-on : {state : Shared} {world : World} {place : Place} {part : Part} (at : IsChunkAt state world place part) (way : Direction) (k : ℕ)
    → Fits state world → direction_of at.op ≡ way
    → is_data_open state (tag_of state.tags place) way ≡ true
    → let after : World = chunk_world state.tags way world place part.unit at.entry.task.buffer at.op at.chunk in
    let took : Bool = took_trb (Begun (progress_left part.unit at.chunk at.op)) in
    event_texts state.tags after k (data_event_if (is_last_trb took (data_trb_count (moved_bytes at.op)) (Some (moving_td at.chunk))) place)
    ≡ events_on state.tags world (pipe_of way) place part.unit at.op at.chunk
texts-on at Nothing k fits is rung = absurd (false≢true rung)
texts-on {state} {world} {place} {part} at ToHost k fits is rung =
    texts-in state.tags (chunk_world state.tags ToHost world place part.unit at.entry.task.buffer at.op at.chunk) place k (moved_bytes at.op) at.chunk
    (took_trb (Begun (progress_left part.unit at.chunk at.op))) (stream_ring world.lines.data_in (tag_of state.tags place)) (rings-on at ToHost is).0.0
    (lines-on at ToHost fits rung).data_in.here
texts-on {state} {world} {place} {part} at ToDevice k fits is rung =
    let rings = rings-on at ToDevice is in
    let lines = lines-on at ToDevice fits rung in
    texts-out state.tags (chunk_world state.tags ToDevice world place part.unit at.entry.task.buffer at.op at.chunk) place k (moved_bytes at.op) at.chunk
    (took_trb (Begun (progress_left part.unit at.chunk at.op))) (stream_ring world.lines.data_out (tag_of state.tags place)) rings.1.0
    (ap (λ (r : ItemRing). r.put) lines.data_in.here ∙ rings.0.0) lines.data_out.here

acted-on : (way : Direction) (state : Shared) (world : World) (place : Place) (op : Op) (chunk : ℕ) → is_data_open state (tag_of state.tags place) way ≡ true
    → (chunk_step state.tags way world place op chunk).1 ≡ ActedOn (tag_of state.tags place)
acted-on Nothing state world place op chunk rung = absurd (false≢true rung)
acted-on ToHost state world place op chunk rung = refl
acted-on ToDevice state world place op chunk rung = refl

-- the device gives or takes a chunk
pub chunk-fits : {state : Shared} {world : World} {place : Place} {part : Part} (at : IsChunkAt state world place part) → Fits state world
    → is_data_open state (tag_of state.tags place) (direction_of at.op) ≡ true → place_of state.tags (length state.parts) (tag_of state.tags place) ≡ Some place
    → due state (Data (tag_of state.tags place)) ≡ true → DataFits state world (tag_of state.tags place)
chunk-fits {state} {world} {place} {part} at fits rung named is_due =
    let way : Direction = direction_of at.op in
    let took : Bool = took_trb (Begun (progress_left part.unit at.chunk at.op)) in
    let after : World = chunk_world state.tags way world place part.unit at.entry.task.buffer at.op at.chunk in
    let lines = lines-on at way fits rung in
    let rings = rings-on at way refl in
    let stepped = stepped-on at way fits refl rung in
    let is : data_world world (tag_of state.tags place) ≡ after = ap (λ m. with_sides world m.0) stepped ∙ world-on at way fits refl rung in
    record {
      own = data-own state world (tag_of state.tags place) fits
          (subst (λ w. HasOwnChunk world.lines world.frames (tag_of state.tags place) w) (sym (wanted-on at way refl)) (own-on at way refl));
      acted = ap (λ m. m.1) stepped ∙ acted-on way state world place at.op at.chunk rung;
      fits = λ sound. subst (λ w. Fits (shared_step state (Data (tag_of state.tags place))).0 w) (sym is)
          (fits-after state world after place part at _ fits named is_due (moves-on at way fits refl rung)
          (holds-td data_in_td goes_to_host way (data_in-if way) took (tag_of state.tags place) (moved_bytes at.op) at.chunk
          (stream_ring world.lines.data_in (tag_of state.tags place)) _ rings.0 lines.data_in.here)
          (holds-td data_out_td goes_to_device way (data_out-if way) took (tag_of state.tags place) (moved_bytes at.op) at.chunk
          (stream_ring world.lines.data_out (tag_of state.tags place)) _ rings.1 lines.data_out.here)
          (lent-on at way fits refl rung).1 (texts-on at way _ fits refl rung)
          (subst (λ w. IsSoundWorld w) is sound));
    }

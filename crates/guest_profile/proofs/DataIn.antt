-- A data-in stream's steps of both controllers.
use Rattle.std.proofs.Common.{◌≡◌, ℕ, ◌+◌, ◌*◌, ◌%◌, ◌^◌, ◌<◌, nat_lt, if◌then◌else◌, Bool, true, false, List, [], length as list_length, set, get_or, Option, Some, None, refl, sym, ap, subst, ◌∙◌, arith}
use Rattle.std.proofs.lemmas.Bool.{lt-ltb}
use Rattle.std.proofs.lemmas.List.{get_or-set_same, length-set, set-get_or}
use Rattle.std.proofs.lemmas.Option.{slice_get_within}
use Rattle.uas_profile.specs.declared.Pipe.TheVariants.{DataIn}
use Rattle.uas_profile.specs.declared.TheConstants.{DATA_IN_ENDPOINT, MOST_EVENTS, STREAM_RING_PLACES, SUCCESS}
use Rattle.xhci_trb.specs.declared.TrbFlags.{TrbFlags}
use Rattle.cycle_ring.specs.Ring.{pointer_of}
use Rattle.stream_array.specs.Map.{HasRing}
use Rattle.stream_array.specs.Rings.{stream_ring}
use Rattle.frame_store.specs.Buffers.{written as frames_written}
use Rattle.uas_target.specs.declared.Phase.{Phase as TargetPhase}
use Rattle.uas_target.specs.Device.{Device, answered, gave, given, wanted}
use Rattle.xhci_ctl.specs.declared.Acted.{Acted as ProfileActed}
use Rattle.guest_transfers.specs.declared.slot.Slot.{Slot}
use Rattle.xhci_ctl.specs.declared.Acted.TheVariants.{Acted as ActedOn}
use Rattle.xhci_ctl.specs.Pipes.{ControllerState}
use Rattle.xhci_ctl.specs.Steps.{Sides, completed, consumed, moved}
use Rattle.guest_memory.specs.Bytes.{written}
use Rattle.guest_memory.specs.declared.rings.context.Home.TheVariants.{Stream}
use Rattle.guest_memory.specs.declared.rings.cursor.Cursor.{Cursor}
use Rattle.guest_pipes.specs.declared.acted.Acted.{Acted}
use Rattle.guest_pipes.specs.declared.acted.Acted.TheVariants.{Worked}
use Rattle.guest_pipes.specs.declared.consumer.Consumer.{Consumer}
use Rattle.guest_pipes.specs.declared.progress.Ending.{Ending}
use Rattle.guest_pipes.specs.declared.progress.Ending.TheVariants.{Runs}
use Rattle.guest_pipes.specs.declared.progress.Progress.{Progress}
use Rattle.guest_pipes.specs.Gate.{after}
use Rattle.guest_pipes.specs.Pipe.{PipeState, home_of, loaded, progress_on, stored}
use Rattle.guest_pipes.specs.Progress.{fresh}
use Rattle.guest_tags.specs.declared.tag.Tag.{Tag}
use Rattle.guest_tags.specs.DataIn.{stepped_in}
use Rattle.guest_tags.specs.Tags.{TagWorld}
use Rattle.guest_profile.specs.target.Targets.{phase_of, target_kind}
use Rattle.guest_transfers.specs.State.{TransfersState, TransfersWorld, empty_slot, slot_of, with_slot}
use Rattle.guest_transfers.specs.Steps.{in_kept, in_stepped, in_world}
use Rattle.guest_transfers.specs.Orders.{data_by, data_stepped, drops_now, or_out}
use Rattle.guest_profile.specs.Rings.{cursor_at, flags_of}
use Rattle.guest_profile.specs.Layout.{IsLayout, Layout}
use Rattle.guest_profile.specs.Steps.{Mirrors}
use Rattle.guest_profile.specs.Data.{ChunksAreGiven, HasChunkIn, IsBetween, IsInReady}
use Rattle.guest_profile.proofs.Fronts.{gate_data, looked_data}
use Rattle.guest_profile.proofs.InStep.{between, data_consumer, in-none, in-some, in_tag, went_world}
use Rattle.guest_profile.proofs.LaidChunks.{laid_went}
use Rattle.guest_profile.proofs.LaidFrames.{laid_written}
use Rattle.guest_profile.proofs.Statuses.{named_part, named_there}

-- a consumer between two TRBs
abbrev pub kept_between : PipeState → ℕ → Progress
kept_between p tag = between (progress_on p tag).edtla (progress_on p tag).begun (progress_on p tag).fed

same_parts : (g : Progress) (moved : ℕ) (ending : Ending) → g.moved ≡ moved → g.ending ≡ ending
    → g ≡ record { moved = moved; ending = ending; edtla = g.edtla; begun = g.begun; fed = g.fed }
same_parts g moved ending a b = rw (← a, ← b) refl

pub loaded_between : (p : PipeState) (array endpoint tag : ℕ) → IsBetween p array endpoint tag → loaded p tag ≡ data_consumer endpoint (kept_between p tag)
loaded_between p array endpoint tag is =
    rw (is.endpoint_is, is.state, is.rung) (ap (data_consumer endpoint) (same_parts (progress_on p tag) 0 Runs is.moved is.ending))

-- and once it went on
pub between_stored : (p : PipeState) (array endpoint tag edtla : ℕ) (begun fed : Bool) → IsBetween p array endpoint tag
    → IsBetween (stored p tag (data_consumer endpoint (between edtla begun fed))) array endpoint tag
between_stored p array endpoint tag edtla begun fed is =
    let progress : get_or (set p.progress tag (between edtla begun fed)) tag fresh ≡ between edtla begun fed = get_or-set_same p.progress tag (between edtla begun fed) fresh is.kept in
    let rung : set p.rung tag true ≡ p.rung = ap (set p.rung tag) (sym is.rung) ∙ set-get_or p.rung tag false in
    record {
      array_is = is.array_is;
      endpoint_is = is.endpoint_is;
      state = refl;
      rung = rw rung is.rung;
      moved = ap (λ (g : Progress). g.moved) progress;
      ending = ap (λ (g : Progress). g.ending) progress;
      kept = omega (arith, is.kept, length-set p.progress tag (between edtla begun fed));
    }

same_chunk : (tag : Tag) (chunk : List ℕ) → tag.chunk ≡ chunk → tag ≡ record tag { chunk = chunk }
same_chunk tag chunk is = rw (← is) refl

-- the world before, with its parts named
abbrev named_world : (layout : Layout) (w : TransfersWorld Device) (device : Device) → ℕ → TagWorld Device
named_world layout w device tag = in_tag target_kind w.memory w.events DATA_IN_ENDPOINT (kept_between w.transfers.data_in tag) (slot_of w.transfers tag).tag device

world_named : (layout : Layout) (controller : ControllerState) (sides : Sides) (w : TransfersWorld Device) (tag size pointer td_size : ℕ) (flags : TrbFlags)
    → HasChunkIn layout controller sides w tag size pointer td_size flags
    → in_world target_kind w tag ≡ named_world layout w sides.device tag
world_named layout controller sides w tag size pointer td_size flags has =
    let consumer = loaded_between w.transfers.data_in layout.data_in DATA_IN_ENDPOINT tag has.ready.pipe in
    let chunk = same_chunk (slot_of w.transfers tag).tag [] has.ready.chunk in
    let device = has.mirrors.device in
    ap (λ (c : Consumer). record {
      ring = record { memory = w.memory; events = w.events; consumer = c };
      tag = (slot_of w.transfers tag).tag;
      device = w.device;
    }) consumer
    ∙ ap (λ (t : Tag). record {
      ring = record { memory = w.memory; events = w.events; consumer = data_consumer DATA_IN_ENDPOINT (kept_between w.transfers.data_in tag) };
      tag = t;
      device = w.device;
    }) chunk
    ∙ ap (λ (d : Device). named_world layout w d tag) device

-- what the step leaves of the pipe's world, by what the device gives
abbrev pub cursor_in_front : Sides → ℕ → Cursor
cursor_in_front sides tag = cursor_at STREAM_RING_PLACES (stream_ring sides.lines.data_in tag) (stream_ring sides.lines.data_in tag).got

abbrev given_world : (layout : Layout) (sides : Sides) (w : TransfersWorld Device) → ℕ → ℕ → ℕ → TrbFlags → Option (List ℕ) → TagWorld Device
given_world layout sides w tag size pointer flags None = named_world layout w (gave sides.device tag) tag
given_world layout sides w tag size pointer flags (Some bytes) = record {
  ring = went_world (flags_of flags).chain (written w.memory pointer bytes) w.events DATA_IN_ENDPOINT (Stream (layout.data_in + 16 * tag)) (cursor_in_front sides tag)
      (((progress_on w.transfers.data_in tag).edtla + size) % 2 ^ 24) (flags_of flags).bei;
  tag = record (slot_of w.transfers tag).tag { chunk = []; gave = true };
  device = gave sides.device tag;
}

chunk_there : (layout : Layout) (controller : ControllerState) (sides : Sides) (w : TransfersWorld Device) (tag size pointer td_size : ℕ) (flags : TrbFlags)
    → HasChunkIn layout controller sides w tag size pointer td_size flags → (gives : Option (List ℕ)) → given sides.device tag ≡ gives
    → stepped_in target_kind (named_world layout w sides.device tag) tag (Stream (layout.data_in + 16 * tag))
    ≡ Some (given_world layout sides w tag size pointer flags gives, Worked)
chunk_there layout controller sides w tag size pointer td_size flags has None is =
    let laid = has.mirrors.laid in
    let streams : HasRing DataIn tag = (has.first_tag, has.last_tag) in
    let p = w.transfers.data_in in
    in-none target_kind w.memory w.events DATA_IN_ENDPOINT (progress_on p tag).edtla (progress_on p tag).begun (progress_on p tag).fed (slot_of w.transfers tag).tag sides.device tag
    (Stream (layout.data_in + 16 * tag)) (cursor_in_front sides tag) pointer size (flags_of flags)
    (gate_data layout sides.lines sides.frames w.memory w.events DATA_IN_ENDPOINT (kept_between p tag) laid has.room)
    (looked_data STREAM_RING_PLACES (stream_ring sides.lines.data_in tag) w.memory (Stream (layout.data_in + 16 * tag)) pointer size td_size flags (laid.rings DataIn tag streams) has.item has.td)
    has.some (ap (λ (phase : TargetPhase). phase_of phase (answered sides.device tag)) has.gives) is
chunk_there layout controller sides w tag size pointer td_size flags has (Some bytes) is =
    let laid = has.mirrors.laid in
    let streams : HasRing DataIn tag = (has.first_tag, has.last_tag) in
    let p = w.transfers.data_in in
    in-some target_kind w.memory w.events DATA_IN_ENDPOINT (progress_on p tag).edtla (progress_on p tag).begun (progress_on p tag).fed (slot_of w.transfers tag).tag sides.device tag
    (Stream (layout.data_in + 16 * tag)) (cursor_in_front sides tag) pointer size (flags_of flags) bytes
    (gate_data layout sides.lines sides.frames w.memory w.events DATA_IN_ENDPOINT (kept_between p tag) laid has.room)
    (looked_data STREAM_RING_PLACES (stream_ring sides.lines.data_in tag) w.memory (Stream (layout.data_in + 16 * tag)) pointer size td_size flags (laid.rings DataIn tag streams) has.item has.td)
    has.td.told has.some (ap (λ (phase : TargetPhase). phase_of phase (answered sides.device tag)) has.gives) is (has.whole bytes is)
    (named_there sides.frames w.memory pointer size size laid.whole laid.buffers has.own.0.2 (omega arith))

-- the whole step
data_in_whole : (layout : Layout) (controller : ControllerState) (sides : Sides) (w : TransfersWorld Device) (tag size pointer td_size : ℕ) (flags : TrbFlags)
    → HasChunkIn layout controller sides w tag size pointer td_size flags → (gives : Option (List ℕ)) → given sides.device tag ≡ gives
    → data_stepped target_kind w tag ≡ in_kept target_kind w tag (given_world layout sides w tag size pointer flags gives, Some Worked)
data_in_whole layout controller sides w tag size pointer td_size flags has gives is =
    let array = has.ready.pipe.array_is in
    let named = world_named layout controller sides w tag size pointer td_size flags has in
    let step = chunk_there layout controller sides w tag size pointer td_size flags has gives is in
    let drops : drops_now (slot_of w.transfers tag).tag.drops (phase_of (wanted w.device tag) (answered w.device tag)) ≡ false =
    ap (λ (d : Device). drops_now (slot_of w.transfers tag).tag.drops (phase_of (wanted d tag) (answered d tag))) has.mirrors.device
    ∙ ap (λ (phase : TargetPhase). drops_now (slot_of w.transfers tag).tag.drops (phase_of phase (answered sides.device tag))) has.gives ∙ has.ready.drops in
    let here : stepped_in target_kind (in_world target_kind w tag) tag (home_of w.transfers.data_in tag)
    ≡ Some (given_world layout sides w tag size pointer flags gives, Worked) =
    ap (λ (array : ℕ). stepped_in target_kind (in_world target_kind w tag) tag (Stream (array + 16 * tag))) array
    ∙ ap (λ (it : TagWorld Device). stepped_in target_kind it tag (Stream (layout.data_in + 16 * tag))) named ∙ step in
    let stepped : in_stepped target_kind w tag ≡ in_kept target_kind w tag (given_world layout sides w tag size pointer flags gives, Some Worked) =
    ap (λ (done : Option (TagWorld Device × Acted)). in_kept target_kind w tag (after (in_world target_kind w tag) done)) here in
    ap (λ (dropping : Bool). data_by target_kind dropping w tag) drops
    ∙ ap (λ (done : TransfersWorld Device × Option Acted). or_out target_kind done tag) stepped

-- THE PROFILE'S STEP

abbrev given_sides : Sides → ℕ → ℕ → ℕ → TrbFlags → Option (List ℕ) → Sides
given_sides sides tag size pointer flags None = record { lines = sides.lines; frames = sides.frames; device = gave sides.device tag }
given_sides sides tag size pointer flags (Some bytes) = record {
  lines = if (flags_of flags).chain then consumed sides.lines DataIn tag
      else completed sides.lines DataIn tag (pointer_of STREAM_RING_PLACES (stream_ring sides.lines.data_in tag) (stream_ring sides.lines.data_in tag).got) 0 SUCCESS;
  frames = frames_written sides.frames pointer size bytes;
  device = gave sides.device tag;
}

chunk_here : (layout : Layout) (controller : ControllerState) (sides : Sides) (w : TransfersWorld Device) (tag size pointer td_size : ℕ) (flags : TrbFlags)
    → HasChunkIn layout controller sides w tag size pointer td_size flags → (gives : Option (List ℕ)) → given sides.device tag ≡ gives
    → moved controller sides tag ≡ (given_sides sides tag size pointer flags gives, ActedOn tag)
chunk_here layout controller sides w tag size pointer td_size flags has None is =
    let room : nat_lt (list_length sides.lines.events.pending) MOST_EVENTS ≡ true = lt-ltb _ _ (omega (arith, has.room)) in
    let front = has.td.front in
    let armed = has.armed in
    rw (has.gives, armed, room, front, is) refl
chunk_here layout controller sides w tag size pointer td_size flags has (Some bytes) is =
    let room : nat_lt (list_length sides.lines.events.pending) MOST_EVENTS ≡ true = lt-ltb _ _ (omega (arith, has.room)) in
    let front = has.td.front in
    let armed = has.armed in
    rw (has.gives, armed, room, front, is) refl

-- BOTH

still_ready : (layout : Layout) (t : TransfersState) (tag edtla : ℕ) (begun fed gave : Bool) → IsInReady layout t tag
    → IsInReady layout
    (record (with_slot t tag (record (slot_of t tag) { tag = record (slot_of t tag).tag { chunk = []; gave = gave } })) {
      data_in = stored t.data_in tag (data_consumer DATA_IN_ENDPOINT (between edtla begun fed));
    })
    tag
still_ready layout t tag edtla begun fed gave ready =
    let slot = record (slot_of t tag) { tag = record (slot_of t tag).tag { chunk = []; gave = gave } } in
    let here : get_or (set t.tags tag slot) tag empty_slot ≡ slot = get_or-set_same t.tags tag slot empty_slot ready.kept in
    record {
      pipe = between_stored t.data_in layout.data_in DATA_IN_ENDPOINT tag edtla begun fed ready.pipe;
      chunk = ap (λ (s : Slot). s.tag.chunk) here;
      drops = ap (λ (s : Slot). s.tag.drops) here ∙ ready.drops;
      kept = omega (arith, ready.kept, length-set t.tags tag slot);
    }

ready_by : (layout : Layout) (sides : Sides) (w : TransfersWorld Device) (tag size pointer : ℕ) (flags : TrbFlags) (gives : Option (List ℕ)) → IsInReady layout w.transfers tag
    → IsInReady layout (in_kept target_kind w tag (given_world layout sides w tag size pointer flags gives, Some Worked)).0.transfers tag
ready_by layout sides w tag size pointer flags None ready =
    let p = w.transfers.data_in in
    still_ready layout w.transfers tag (progress_on p tag).edtla (progress_on p tag).begun (progress_on p tag).fed (slot_of w.transfers tag).tag.gave ready
ready_by layout sides w tag size pointer flags (Some bytes) ready = by_chain (flags_of flags).chain
  where
    by_chain : (chain : Bool)
        → IsInReady layout (record (with_slot w.transfers tag (record (slot_of w.transfers tag) { tag = record (slot_of w.transfers tag).tag { chunk = []; gave = true } })) {
          data_in = stored w.transfers.data_in tag (went_world chain (written w.memory pointer bytes) w.events DATA_IN_ENDPOINT (Stream (layout.data_in + 16 * tag))
              (cursor_in_front sides tag) (((progress_on w.transfers.data_in tag).edtla + size) % 2 ^ 24) (flags_of flags).bei).consumer;
        }) tag
    by_chain true = still_ready layout w.transfers tag (((progress_on w.transfers.data_in tag).edtla + size) % 2 ^ 24) true true true ready
    by_chain false = still_ready layout w.transfers tag 0 false false true ready

laid_by : (layout : Layout) (controller : ControllerState) (sides : Sides) (w : TransfersWorld Device) (tag size pointer td_size : ℕ) (flags : TrbFlags) → IsLayout layout
    → HasChunkIn layout controller sides w tag size pointer td_size flags → (gives : Option (List ℕ)) → given sides.device tag ≡ gives
    → Mirrors layout (given_sides sides tag size pointer flags gives) (in_kept target_kind w tag (given_world layout sides w tag size pointer flags gives, Some Worked)).0
laid_by layout controller sides w tag size pointer td_size flags is has None gives = record { laid = has.mirrors.laid; device = refl }
laid_by layout controller sides w tag size pointer td_size flags is has (Some bytes) gives =
    let laid = has.mirrors.laid in
    let streams : HasRing DataIn tag = (has.first_tag, has.last_tag) in
    let place = named_part sides.frames pointer size size has.own.0.2 has.some (omega arith) in
    let some : (stream_ring sides.lines.data_in tag).got < list_length (stream_ring sides.lines.data_in tag).put =
    slice_get_within (stream_ring sides.lines.data_in tag).put (stream_ring sides.lines.data_in tag).got _ has.td.front in
    let laid_1 = laid_written layout sides.lines sides.frames w.memory w.events pointer size bytes place.0 is laid place.1 (has.whole bytes gives) in
    record {
      laid = laid_went layout sides.lines (frames_written sides.frames pointer size bytes) (written w.memory pointer bytes) w.events DataIn tag
          (((progress_on w.transfers.data_in tag).edtla + size) % 2 ^ 24) (flags_of flags).chain (flags_of flags).bei is laid_1 streams some has.room (omega arith);
      device = refl;
    }

pub chunks_are_given : ChunksAreGiven
chunks_are_given layout controller sides w tag size pointer td_size flags is has =
    let gives = given sides.device tag in
    let here = chunk_here layout controller sides w tag size pointer td_size flags has gives refl in
    let there = data_in_whole layout controller sides w tag size pointer td_size flags has gives refl in
    let mirrors = laid_by layout controller sides w tag size pointer td_size flags is has gives refl in
    record {
      mirrors = subst (λ (done : TransfersWorld Device × Option Acted). Mirrors layout (moved controller sides tag).0 done.0) (sym there)
          (subst (λ (done : Sides × ProfileActed). Mirrors layout done.0 (in_kept target_kind w tag (given_world layout sides w tag size pointer flags gives, Some Worked)).0) (sym here) mirrors);
      acted = ap (λ (done : TransfersWorld Device × Option Acted). done.1) there;
      ready = subst (λ (done : TransfersWorld Device × Option Acted). IsInReady layout done.0.transfers tag) (sym there)
          (ready_by layout sides w tag size pointer flags gives has.ready);
    }

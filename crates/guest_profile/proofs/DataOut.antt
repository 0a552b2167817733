-- A data-out stream's steps of both controllers.
use Rattle.std.proofs.Common.{◌≡◌, ℕ, ◌+◌, ◌*◌, ◌/◌, ◌%◌, ◌^◌, ◌<◌, ◌==◌, nat_lt, if◌then◌else◌, Bool, true, false, not, List, [], length as list_length, set, get_or, Option, Some, refl, sym, ap, subst, ◌∙◌, arith}
use Rattle.std.proofs.lemmas.Bool.{lt-ltb}
use Rattle.std.proofs.lemmas.List.{get_or-set_same, length-set, set-get_or}
use Rattle.std.proofs.lemmas.Option.{slice_get_within}
use Rattle.uas_profile.specs.declared.Pipe.TheVariants.{DataOut}
use Rattle.uas_profile.specs.declared.TheConstants.{DATA_OUT_ENDPOINT, MOST_EVENTS, STREAM_RING_PLACES, SUCCESS}
use Rattle.xhci_trb.specs.declared.TrbFlags.{TrbFlags}
use Rattle.cycle_ring.specs.Ring.{pointer_of}
use Rattle.stream_array.specs.Map.{HasRing}
use Rattle.stream_array.specs.Rings.{stream_ring}
use Rattle.frame_store.specs.Buffers.{bytes_at}
use Rattle.uas_target.specs.declared.Phase.{Phase as TargetPhase}
use Rattle.uas_target.specs.Device.{Device, answered, fits, took, wanted}
use Rattle.xhci_ctl.specs.declared.Acted.{Acted as ProfileActed}
use Rattle.xhci_ctl.specs.declared.Acted.TheVariants.{Acted as ActedOn}
use Rattle.xhci_ctl.specs.Pipes.{ControllerState}
use Rattle.xhci_ctl.specs.Steps.{Sides, completed, consumed, moved}
use Rattle.guest_memory.specs.Bytes.{Memory}
use Rattle.guest_memory.specs.Ranges.{size_of}
use Rattle.guest_memory.specs.declared.rings.context.Home.TheVariants.{Stream}
use Rattle.guest_memory.specs.declared.rings.cursor.Cursor.{Cursor}
use Rattle.guest_pipes.specs.declared.acted.Acted.{Acted}
use Rattle.guest_pipes.specs.declared.acted.Acted.TheVariants.{Idle, Off, Worked}
use Rattle.guest_pipes.specs.declared.consumer.Consumer.{Consumer}
use Rattle.guest_pipes.specs.Gate.{after, gate, is_running, through}
use Rattle.guest_pipes.specs.Pipe.{home_of, loaded, progress_on, rung_on, stored}
use Rattle.guest_memory.specs.rings.Ends.{looked}
use Rattle.guest_memory.specs.rings.Events.{EventEnd}
use Rattle.std.specs.Prelude.{option_map}
use Rattle.guest_tags.specs.DataIn.{acted_at}
use Rattle.guest_out.specs.DataOut.{stepped_out}
use Rattle.guest_out.specs.Worlds.{OutWorld}
use Rattle.guest_profile.specs.target.Targets.{phase_of, target_kind}
use Rattle.guest_transfers.specs.declared.slot.Slot.{Slot}
use Rattle.guest_transfers.specs.State.{TransfersState, TransfersWorld, empty_slot, slot_of, with_slot}
use Rattle.guest_transfers.specs.Steps.{in_kept, in_stepped, in_world, out_kept, out_stepped, out_world}
use Rattle.guest_transfers.specs.Orders.{data_by, data_stepped, drops_now, or_out}
use Rattle.guest_profile.specs.Rings.{cursor_at, flags_of}
use Rattle.guest_profile.specs.Layout.{IsLayout, Layout}
use Rattle.guest_profile.specs.Steps.{Mirrors}
use Rattle.guest_profile.specs.Data.{ChunksAreTaken, HasChunkOut, IsOutReady}
use Rattle.guest_profile.proofs.DataIn.{between_stored, kept_between, loaded_between}
use Rattle.guest_profile.proofs.Fronts.{gate_data, looked_data}
use Rattle.guest_profile.proofs.InStep.{between, data_consumer, went_world}
use Rattle.guest_profile.proofs.OutStep.{out-whole, took_world}
use Rattle.guest_profile.proofs.LaidChunks.{laid_went}
use Rattle.guest_profile.proofs.LaidFrames.{named_from}
use Rattle.guest_profile.proofs.Statuses.{stored_same}

-- DATA-IN DOES NOTHING

abbrev idle_as : Bool → Acted
idle_as true = Idle
idle_as false = Off

gate-idle : (memory : Memory) (events : EventEnd) (consumer : Consumer) → consumer.rung ≡ false → gate memory events consumer ≡ Some (Some (idle_as (is_running consumer.state)))
unfolding gate
gate-idle memory events consumer quiet = rw quiet (by_running (is_running consumer.state))
  where
    by_running : (runs : Bool) → (if not runs then Some (Some Off) else Some (Some Idle)) ≡ Some (Some (idle_as runs))
    by_running true = refl
    by_running false = refl

pub in_same : (t : TransfersState) (tag : ℕ)
    → record (with_slot t tag (record (slot_of t tag) { tag = (slot_of t tag).tag })) { data_in = stored t.data_in tag (loaded t.data_in tag) } ≡ t
in_same t tag = rw (set-get_or t.tags tag empty_slot, stored_same t.data_in tag) refl

-- a step for a tag's data is that of data-out where data-in isn't rung
pub out_alone : (w : TransfersWorld Device) (tag : ℕ) → rung_on w.transfers.data_in tag ≡ false
    → or_out target_kind (in_stepped target_kind w tag) tag ≡ out_stepped target_kind w tag
out_alone w tag quiet =
    let shut = gate-idle w.memory w.events (loaded w.transfers.data_in tag) quiet in
    let stepped : in_stepped target_kind w tag ≡ (w, Some (idle_as (is_running w.transfers.data_in.state))) =
    ap (λ (opens : Option (Option Acted)). in_kept target_kind w tag (after (in_world target_kind w tag) (through (in_world target_kind w tag) opens
    (option_map (acted_at target_kind (in_world target_kind w tag) tag) (looked w.memory (home_of w.transfers.data_in tag)))))) shut
    ∙ ap (λ (t : TransfersState). (record w { transfers = t }, Some (idle_as (is_running w.transfers.data_in.state)))) (in_same w.transfers tag) in
    ap (λ (done : TransfersWorld Device × Option Acted). or_out target_kind done tag) stepped ∙ by_running (is_running w.transfers.data_in.state)
  where
    by_running : (runs : Bool) → or_out target_kind (w, Some (idle_as runs)) tag ≡ out_stepped target_kind w tag
    by_running true = refl
    by_running false = refl

-- DATA-OUT

same_out : (memory : Memory) (events : EventEnd) (c d : Consumer) (taken rest : List ℕ) (device other : Device) → c ≡ d → taken ≡ rest → device ≡ other
    → ◌≡◌ {A = OutWorld Device} (record { ring = record { memory = memory; events = events; consumer = c }; taken = taken; device = device })
    (record { ring = record { memory = memory; events = events; consumer = d }; taken = rest; device = other })
same_out memory events c d taken rest device other a b e = rw (a, b, e) refl

abbrev pub cursor_in_front : Sides → ℕ → Cursor
cursor_in_front sides tag = cursor_at STREAM_RING_PLACES (stream_ring sides.lines.data_out tag) (stream_ring sides.lines.data_out tag).got

-- what the step leaves of the pipe's world, by whether the device takes the chunk
abbrev taken_world : (layout : Layout) (sides : Sides) (w : TransfersWorld Device) → ℕ → ℕ → ℕ → TrbFlags → Bool → OutWorld Device
taken_world layout sides w tag size pointer flags takes = record {
  ring = took_world target_kind takes (flags_of flags).chain w.memory w.events DATA_OUT_ENDPOINT (Stream (layout.data_out + 16 * tag)) (cursor_in_front sides tag)
      (progress_on w.transfers.data_out tag).edtla size (flags_of flags).bei;
  taken = [];
  device = took sides.device tag (bytes_at sides.frames pointer size);
}

chunk_there : (layout : Layout) (controller : ControllerState) (sides : Sides) (w : TransfersWorld Device) (tag size pointer td_size : ℕ) (flags : TrbFlags)
    → HasChunkOut layout controller sides w tag size pointer td_size flags
    → stepped_out target_kind (out_world target_kind w tag) tag (home_of w.transfers.data_out tag)
    ≡ Some (taken_world layout sides w tag size pointer flags (fits sides.device tag), Worked)
chunk_there layout controller sides w tag size pointer td_size flags has =
    let laid = has.mirrors.laid in
    let streams : HasRing DataOut tag = (has.first_tag, has.last_tag) in
    let p = w.transfers.data_out in
    let bytes = bytes_at sides.frames pointer size in
    let there = named_from sides.frames w.memory pointer size laid.whole laid.buffers has.own.0.2 in
    let plain : (flags_of flags).idt ≡ false = flag_clear (flags.0 / 32 % 2) has.own.0.1 in
    let step = out-whole target_kind w.memory w.events DATA_OUT_ENDPOINT (progress_on p tag).edtla (progress_on p tag).begun (progress_on p tag).fed sides.device tag
    (Stream (layout.data_out + 16 * tag)) (cursor_in_front sides tag) pointer size (flags_of flags) bytes (fits sides.device tag)
    (gate_data layout sides.lines sides.frames w.memory w.events DATA_OUT_ENDPOINT (kept_between p tag) laid has.room)
    (looked_data STREAM_RING_PLACES (stream_ring sides.lines.data_out tag) w.memory (Stream (layout.data_out + 16 * tag)) pointer size td_size flags (laid.rings DataOut tag streams) has.item has.td)
    has.td.told plain has.some (ap (λ (phase : TargetPhase). phase_of phase (answered sides.device tag)) has.takes) there (size_of w.memory pointer size bytes there) refl in
    ap (λ (array : ℕ). stepped_out target_kind (out_world target_kind w tag) tag (Stream (array + 16 * tag))) has.ready.pipe.array_is
    ∙ ap (λ (it : OutWorld Device). stepped_out target_kind it tag (Stream (layout.data_out + 16 * tag)))
    (same_out w.memory w.events (loaded p tag) (data_consumer DATA_OUT_ENDPOINT (kept_between p tag)) (slot_of w.transfers tag).taken [] w.device sides.device
    (loaded_between p layout.data_out DATA_OUT_ENDPOINT tag has.ready.pipe) has.ready.taken has.mirrors.device)
    ∙ step
  where
    flag_clear : (bit : ℕ) → bit ≡ 0 → (bit == 1) ≡ false
    flag_clear bit clear = rw clear refl

data_out_whole : (layout : Layout) (controller : ControllerState) (sides : Sides) (w : TransfersWorld Device) (tag size pointer td_size : ℕ) (flags : TrbFlags)
    → HasChunkOut layout controller sides w tag size pointer td_size flags
    → data_stepped target_kind w tag ≡ out_kept target_kind w tag (taken_world layout sides w tag size pointer flags (fits sides.device tag), Some Worked)
data_out_whole layout controller sides w tag size pointer td_size flags has =
    let drops : drops_now (slot_of w.transfers tag).tag.drops (phase_of (wanted w.device tag) (answered w.device tag)) ≡ false =
    ap (λ (d : Device). drops_now (slot_of w.transfers tag).tag.drops (phase_of (wanted d tag) (answered d tag))) has.mirrors.device
    ∙ ap (λ (phase : TargetPhase). drops_now (slot_of w.transfers tag).tag.drops (phase_of phase (answered sides.device tag))) has.takes in
    ap (λ (dropping : Bool). data_by target_kind dropping w tag) drops ∙ out_alone w tag has.ready.other
    ∙ ap (λ (done : Option (OutWorld Device × Acted)). out_kept target_kind w tag (after (out_world target_kind w tag) done))
    (chunk_there layout controller sides w tag size pointer td_size flags has)

-- THE PROFILE'S STEP

abbrev taken_sides : Sides → ℕ → ℕ → ℕ → TrbFlags → Bool → Sides
taken_sides sides tag size pointer flags false =
    record { lines = sides.lines; frames = sides.frames; device = took sides.device tag (bytes_at sides.frames pointer size) }
taken_sides sides tag size pointer flags true = record {
  lines = if (flags_of flags).chain then consumed sides.lines DataOut tag
      else completed sides.lines DataOut tag (pointer_of STREAM_RING_PLACES (stream_ring sides.lines.data_out tag) (stream_ring sides.lines.data_out tag).got) 0 SUCCESS;
  frames = sides.frames;
  device = took sides.device tag (bytes_at sides.frames pointer size);
}

chunk_here : (layout : Layout) (controller : ControllerState) (sides : Sides) (w : TransfersWorld Device) (tag size pointer td_size : ℕ) (flags : TrbFlags)
    → HasChunkOut layout controller sides w tag size pointer td_size flags → (takes : Bool) → fits sides.device tag ≡ takes
    → moved controller sides tag ≡ (taken_sides sides tag size pointer flags takes, ActedOn tag)
chunk_here layout controller sides w tag size pointer td_size flags has true is =
    let room : nat_lt (list_length sides.lines.events.pending) MOST_EVENTS ≡ true = lt-ltb _ _ (omega (arith, has.room)) in
    let front = has.td.front in
    let armed = has.armed in
    rw (has.takes, armed, room, front, is) refl
chunk_here layout controller sides w tag size pointer td_size flags has false is =
    let room : nat_lt (list_length sides.lines.events.pending) MOST_EVENTS ≡ true = lt-ltb _ _ (omega (arith, has.room)) in
    let front = has.td.front in
    let armed = has.armed in
    rw (has.takes, armed, room, front, is) refl

-- BOTH

still_ready : (layout : Layout) (t : TransfersState) (tag edtla : ℕ) (begun fed : Bool) → IsOutReady layout t tag
    → IsOutReady layout
    (record (with_slot t tag (record (slot_of t tag) { taken = [] })) { data_out = stored t.data_out tag (data_consumer DATA_OUT_ENDPOINT (between edtla begun fed)) })
    tag
still_ready layout t tag edtla begun fed ready =
    let slot = record (slot_of t tag) { taken = [] } in
    let here : get_or (set t.tags tag slot) tag empty_slot ≡ slot = get_or-set_same t.tags tag slot empty_slot ready.kept in
    record {
      pipe = between_stored t.data_out layout.data_out DATA_OUT_ENDPOINT tag edtla begun fed ready.pipe;
      taken = ap (λ (s : Slot). s.taken) here;
      kept = omega (arith, ready.kept, length-set t.tags tag slot);
      other = ready.other;
    }

ready_by : (layout : Layout) (sides : Sides) (w : TransfersWorld Device) (tag size pointer : ℕ) (flags : TrbFlags) → IsOutReady layout w.transfers tag
    → IsOutReady layout (out_kept target_kind w tag (taken_world layout sides w tag size pointer flags true, Some Worked)).0.transfers tag
ready_by layout sides w tag size pointer flags ready = by_chain (flags_of flags).chain
  where
    by_chain : (chain : Bool)
        → IsOutReady layout (record (with_slot w.transfers tag (record (slot_of w.transfers tag) { taken = [] })) {
          data_out = stored w.transfers.data_out tag (went_world chain w.memory w.events DATA_OUT_ENDPOINT (Stream (layout.data_out + 16 * tag))
              (cursor_in_front sides tag) (((progress_on w.transfers.data_out tag).edtla + size) % 2 ^ 24) (flags_of flags).bei).consumer;
        }) tag
    by_chain true = still_ready layout w.transfers tag (((progress_on w.transfers.data_out tag).edtla + size) % 2 ^ 24) true true ready
    by_chain false = still_ready layout w.transfers tag 0 false false ready

laid_by : (layout : Layout) (controller : ControllerState) (sides : Sides) (w : TransfersWorld Device) (tag size pointer td_size : ℕ) (flags : TrbFlags) → IsLayout layout
    → HasChunkOut layout controller sides w tag size pointer td_size flags → (takes : Bool)
    → Mirrors layout (taken_sides sides tag size pointer flags takes) (out_kept target_kind w tag (taken_world layout sides w tag size pointer flags takes, Some Worked)).0
laid_by layout controller sides w tag size pointer td_size flags is has false = record { laid = has.mirrors.laid; device = refl }
laid_by layout controller sides w tag size pointer td_size flags is has true =
    let some : (stream_ring sides.lines.data_out tag).got < list_length (stream_ring sides.lines.data_out tag).put =
    slice_get_within (stream_ring sides.lines.data_out tag).put (stream_ring sides.lines.data_out tag).got _ has.td.front in
    record {
      laid = laid_went layout sides.lines sides.frames w.memory w.events DataOut tag (((progress_on w.transfers.data_out tag).edtla + size) % 2 ^ 24) (flags_of flags).chain
          (flags_of flags).bei is has.mirrors.laid (has.first_tag, has.last_tag) some has.room (omega arith);
      device = refl;
    }

pub chunks_are_taken : ChunksAreTaken
chunks_are_taken layout controller sides w tag size pointer td_size flags is has =
    let takes = fits sides.device tag in
    let here = chunk_here layout controller sides w tag size pointer td_size flags has takes refl in
    let there = data_out_whole layout controller sides w tag size pointer td_size flags has in
    let mirrors = laid_by layout controller sides w tag size pointer td_size flags is has takes in
    record {
      mirrors = subst (λ (done : TransfersWorld Device × Option Acted). Mirrors layout (moved controller sides tag).0 done.0) (sym there)
          (subst (λ (done : Sides × ProfileActed). Mirrors layout done.0 (out_kept target_kind w tag (taken_world layout sides w tag size pointer flags takes, Some Worked)).0) (sym here) mirrors);
      acted = ap (λ (done : TransfersWorld Device × Option Acted). done.1) there;
      ready = λ fitting. subst (λ (done : TransfersWorld Device × Option Acted). IsOutReady layout done.0.transfers tag) (sym there)
          (subst (λ (b : Bool). IsOutReady layout (out_kept target_kind w tag (taken_world layout sides w tag size pointer flags b, Some Worked)).0.transfers tag) (sym fitting)
          (ready_by layout sides w tag size pointer flags has.ready));
    }

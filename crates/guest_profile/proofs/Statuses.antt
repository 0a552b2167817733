-- A status stream's steps of both controllers.
use Rattle.std.proofs.Common.{◌≡◌, ℕ, ◌+◌, ◌-◌, ◌*◌, ◌^◌, ◌<◌, ◌≤◌, ◌==◌, nat_lt, if◌then◌else◌, Bool, true, false, List, [], length as list_length, set, Option, Some, None, refl, sym, ap, ◌∙◌, arith, inl, inr}
use Rattle.std.specs.Prelude.{is_some, option_and_then}
use Rattle.std.proofs.lemmas.Bool.{false≢true, lt-ltb, ne_eqb}
use Rattle.std.proofs.lemmas.List.{set-get_or}
use Rattle.std.proofs.lemmas.Option.{none-some, same_Some, slice_get_within}
use Rattle.uas_profile.specs.declared.Pipe.TheVariants.{Status}
use Rattle.uas_profile.specs.declared.TheConstants.{SUCCESS, MOST_EVENTS, SHORT_PACKET, STATUS_BYTES, STATUS_ENDPOINT, STREAM_RING_PLACES}
use Rattle.xhci_trb.specs.declared.TrbFlags.{TrbFlags}
use Rattle.xhci_trb.specs.declared.Trb.TheVariants.{Normal}
use Rattle.xhci_trb.specs.Text.{HasText}
use Rattle.cycle_ring.specs.Ring.{pointer_of}
use Rattle.cycle_ring.specs.Items.{known}
use Rattle.cycle_ring.proofs.Held.{bytes_of_item}
use Rattle.stream_array.specs.Rings.{stream_ring}
use Rattle.frame_store.specs.declared.TagBuffers.{TagBuffers}
use Rattle.frame_store.specs.declared.Place.{Place}
use Rattle.frame_store.specs.Buffers.{IsNamed, Names}
use Rattle.frame_store.specs.Buffers.{written as frames_written}
use Rattle.uas_iu.specs.declared.Iu.{Iu}
use Rattle.uas_iu.specs.Units.{unit_text}
use Rattle.uas_target.specs.declared.DeviceTask.{DeviceTask}
use Rattle.uas_target.specs.declared.DeviceTask.TheVariants.{Ended as EndedTask, Moving}
use Rattle.uas_target.specs.declared.DeviceAnswer.{DeviceAnswer}
use Rattle.uas_target.specs.declared.DeviceAnswer.TheVariants.{Response, Status as StatusAnswer}
use Rattle.device_server.specs.declared.Answer.TheVariants.{Good, Check}
use Rattle.uas_target.specs.declared.Phase.{Phase}
use Rattle.uas_target.specs.declared.Phase.TheVariants.{Absent, Ends, Gives, Takes}
use Rattle.uas_target.specs.Tasks.{answer_unit, task_answer}
use Rattle.uas_target.specs.Device.{Device, answered, task_of, wanted, without_task}
use Rattle.stream_array.specs.Map.{HasRing}
use Rattle.frame_store.specs.Buffers.{IsWhole}
use Rattle.xhci_ctl.specs.declared.Acted.TheVariants.{Acted as ActedOn}
use Rattle.xhci_ctl.specs.Pipes.{ControllerState, is_armed}
use Rattle.xhci_ctl.specs.Steps.{Sides, completed, sent_by}
use Rattle.guest_memory.specs.Bytes.{Memory, is_there, written}
use Rattle.guest_memory.specs.Ranges.{there_by_each, there_each}
use Rattle.guest_memory.specs.declared.rings.context.Home.TheVariants.{Stream}
use Rattle.guest_pipes.specs.declared.acted.Acted.{Acted}
use Rattle.guest_pipes.specs.declared.acted.Acted.TheVariants.{Worked}
use Rattle.guest_pipes.specs.declared.consumer.Consumer.{Consumer}
use Rattle.guest_pipes.specs.Progress.{fresh}
use Rattle.guest_pipes.specs.Gate.{after}
use Rattle.guest_tags.specs.Tags.{TagWorld}
use Rattle.guest_memory.specs.rings.Ends.{behind}
use Rattle.guest_memory.specs.rings.Events.{enqueued}
use Rattle.guest_pipes.specs.Pipe.{PipeState, home_of, loaded, stored}
use Rattle.guest_pipes.specs.Step.{World as GuestWorld}
use Rattle.guest_tags.specs.declared.tag.Tag.{Tag}
use Rattle.guest_tags.specs.Units.{whole}
use Rattle.guest_tags.specs.Status.{stepped_status}
use Rattle.guest_profile.specs.target.Targets.{phase_of, target_kind, text_of}
use Rattle.guest_transfers.specs.State.{TransfersState, TransfersWorld, empty_slot, slot_of, with_slot}
use Rattle.guest_transfers.specs.Steps.{due_by, status_kept, status_stepped, status_world}
use Rattle.guest_profile.specs.Rings.{cursor_at, flags_of}
use Rattle.guest_profile.specs.Layout.{HoldsFrames, Layout, kept_at}
use Rattle.guest_profile.specs.Ready.{rung_consumer, told_memory}
use Rattle.guest_profile.specs.Steps.{AnswersAreSent, AnswersAreSentAlike, HasAnswer, Mirrors, status_code, status_event}
use Rattle.guest_profile.proofs.Fronts.{gate_laid, looked_td}
use Rattle.guest_profile.proofs.LaidFrames.{laid_written, named_from}
use Rattle.guest_profile.proofs.LaidSteps.{laid_completed}
use Rattle.guest_profile.proofs.Commands.{told_same, writable_event}
use Rattle.guest_profile.proofs.TdStep.{told_world}
use Rattle.guest_profile.proofs.StatusStep.{quiet_tag, status-whole}

-- the units that answer tasks have 8 to 34 bytes
pub record IsShort (unit : Iu) : Type 0 where
  pub least : 8 ≤ list_length (unit_text unit)
  pub most : list_length (unit_text unit) ≤ 34

answer_is_short : (tag : ℕ) (answer : DeviceAnswer) → IsShort (answer_unit tag answer)
unfolding unit_text
answer_is_short tag (StatusAnswer Good) = record { least = omega arith; most = omega arith }
answer_is_short tag (StatusAnswer (Check sense)) = record { least = omega arith; most = omega arith }
answer_is_short tag (Response code) = record { least = omega arith; most = omega arith }

short_by : (tag : ℕ) (task : Option DeviceTask) (unit : Iu) → option_and_then (task_answer tag) task ≡ Some unit → IsShort unit
short_by tag None unit is = absurd (none-some unit is)
short_by tag (Some (Moving number op chunk)) unit is = absurd (none-some unit is)
short_by tag (Some (EndedTask number answer)) unit is =
    let same : answer_unit tag answer ≡ unit = same_Some _ _ is in
    rw (← same) (answer_is_short tag answer)

pub answers_are_short : (device : Device) (tag : ℕ) (unit : Iu) → answered device tag ≡ Some unit → IsShort unit
answers_are_short device tag unit is = short_by tag (task_of device tag) unit is

-- an answer is due of a task that has ended alone
due_ends : (t : TransfersState) (tag : ℕ) (phase : Phase) (answer : Option Iu) → due_by t tag (phase_of phase answer) ≡ true → phase ≡ Ends
due_ends t tag Absent answer due = absurd (false≢true due)
due_ends t tag (Gives count) answer due = absurd (false≢true due)
due_ends t tag (Takes count) answer due = absurd (false≢true due)
due_ends t tag Ends answer due = refl

-- THE OTHER'S STEP

same_tag : (tag : Tag) → tag.unit ≡ whole [] → tag.overlaps ≡ 0 → tag ≡ quiet_tag tag
same_tag tag unit overlaps = rw (unit, overlaps) refl

-- bytes that an address names are there, and the first of them too
pub named_there : (frames : List TagBuffers) (memory : Memory) (address len count : ℕ) → IsWhole frames → HoldsFrames frames memory → IsNamed frames address len
    → count ≤ len → is_there memory address count ≡ true
named_there frames memory address len count whole holds named less =
    let there : is_there memory address len ≡ true = ap is_some (named_from frames memory address len whole holds named) in
    there_by_each memory address count (λ k below. there_each memory address len there k (omega (arith, below, less)))

-- ring, event and device once the answer went out
abbrev sent_ring : (layout : Layout) (sides : Sides) (w : TransfersWorld Device) → ℕ → ℕ → ℕ → Bool → List ℕ → GuestWorld
sent_ring layout sides w tag pointer length quiet answer =
    told_world (written w.memory pointer answer) w.events STATUS_ENDPOINT (Stream (layout.status + 16 * tag))
    (cursor_at STREAM_RING_PLACES (stream_ring sides.lines.status tag) (stream_ring sides.lines.status tag).got) (length - list_length answer)
    (status_code (list_length answer) length) quiet

answer_there : (layout : Layout) (sides : Sides) (w : TransfersWorld Device) (tag : ℕ) (unit : Iu) (pointer length td_size : ℕ) (flags : TrbFlags)
    → HasAnswer layout sides w tag unit pointer length td_size flags
    → stepped_status target_kind (status_world target_kind w tag) tag (due_by w.transfers tag (target_kind.phase w.device tag)) (home_of w.transfers.status tag)
    ≡ Some (
      record {
        ring = sent_ring layout sides w tag pointer length (flags_of flags).bei (unit_text unit);
        tag = quiet_tag (slot_of w.transfers tag).tag;
        device = without_task sides.device tag;
      },
      Worked,
    )
answer_there layout sides w tag unit pointer length td_size flags has =
    let laid = has.mirrors.laid in
    let streams : HasRing Status tag = (has.first_tag, has.last_tag) in
    let ring = laid.rings Status tag streams in
    let ready = has.ready in
    let text : target_kind.status sides.device tag ≡ unit_text unit = ap text_of has.answer in
    let short = answers_are_short sides.device tag unit has.answer in
    let step = status-whole target_kind w.memory w.events STATUS_ENDPOINT (slot_of w.transfers tag).tag sides.device tag (Stream (layout.status + 16 * tag))
    (cursor_at STREAM_RING_PLACES (stream_ring sides.lines.status tag) (stream_ring sides.lines.status tag).got) pointer length (flags_of flags)
    (gate_laid layout sides.lines sides.frames w.memory w.events STATUS_ENDPOINT laid has.room)
    (looked_td STREAM_RING_PLACES (stream_ring sides.lines.status tag) w.memory (Stream (layout.status + 16 * tag)) pointer length td_size flags ring has.item has.td)
    has.td.last has.td.told (rw text (omega (arith, short.least))) (rw text has.own.1)
    (rw text (named_there sides.frames w.memory pointer length (list_length (unit_text unit)) laid.whole laid.buffers has.own.0.2 has.own.1)) in
    rw (has.due, ready.array, ready.consumer, has.mirrors.device)
    (ap (λ (t : Tag). stepped_status target_kind (record {
      ring = record { memory = w.memory; events = w.events; consumer = rung_consumer STATUS_ENDPOINT };
      tag = t;
      device = sides.device;
    }) tag true (Stream (layout.status + 16 * tag))) (same_tag (slot_of w.transfers tag).tag ready.unit ready.overlaps)
    ∙ step
    ∙ ap (λ (answer : List ℕ). Some (
      record {
        ring = sent_ring layout sides w tag pointer length (flags_of flags).bei answer;
        tag = quiet_tag (slot_of w.transfers tag).tag;
        device = without_task sides.device tag;
      },
      Worked,
    )) text)

-- nothing of a tag is on its way
record IsQuiet (tag : Tag) : Type 0 where
  unit : tag.unit ≡ whole []
  overlaps : tag.overlaps ≡ 0

-- what is kept of the tags and pipes stays
pub stored_same : (p : PipeState) (tag : ℕ) → stored p tag (loaded p tag) ≡ p
stored_same p tag = rw (set-get_or p.rung tag false, set-get_or p.progress tag fresh) refl

slots_same : (t : TransfersState) (tag : ℕ) → IsQuiet (slot_of t tag).tag
    → record (with_slot t tag (record (slot_of t tag) { tag = quiet_tag (slot_of t tag).tag })) { status = stored t.status tag (loaded t.status tag) } ≡ t
slots_same t tag quiet =
    let tags : set t.tags tag (record (slot_of t tag) { tag = quiet_tag (slot_of t tag).tag }) ≡ t.tags =
    ap (λ (it : Tag). set t.tags tag (record (slot_of t tag) { tag = it })) (sym (same_tag (slot_of t tag).tag quiet.unit quiet.overlaps))
    ∙ set-get_or t.tags tag empty_slot in
    rw (tags, stored_same t.status tag) refl

-- the world that it leaves
done_with : (layout : Layout) (sides : Sides) (w : TransfersWorld Device) → ℕ → ℕ → ℕ → Bool → List ℕ → TransfersWorld Device
done_with layout sides w tag pointer length quiet answer = record {
  memory = told_memory (written w.memory pointer answer) w.events (status_event sides.lines tag (list_length answer) length) (kept_at layout Status tag)
      (behind (cursor_at STREAM_RING_PLACES (stream_ring sides.lines.status tag) (stream_ring sides.lines.status tag).got));
  events = enqueued w.events quiet;
  transfers = w.transfers;
  device = without_task sides.device tag;
}

code_small : (count length : ℕ) → status_code count length < 2 ^ 8
code_small count length = by_test (count == length)
  where
    by_test : (test : Bool) → (if test then SUCCESS else SHORT_PACKET) < 2 ^ 8
    by_test true = omega arith
    by_test false = omega arith

status_whole : (layout : Layout) (sides : Sides) (w : TransfersWorld Device) (tag : ℕ) (unit : Iu) (pointer length td_size : ℕ) (flags : TrbFlags)
    → HasAnswer layout sides w tag unit pointer length td_size flags
    → status_stepped target_kind w tag ≡ (done_with layout sides w tag pointer length (flags_of flags).bei (unit_text unit), Some Worked)
unfolding done_with
status_whole layout sides w tag unit pointer length td_size flags has =
    let laid = has.mirrors.laid in
    let streams : HasRing Status tag = (has.first_tag, has.last_tag) in
    let ring = laid.rings Status tag streams in
    let answer = unit_text unit in
    let trb : HasText (Normal pointer length td_size flags) =
    bytes_of_item (stream_ring sides.lines.status tag).put (stream_ring sides.lines.status tag).got (known (Normal pointer length td_size flags)) ring.ring.texts has.td.front in
    let left : length - list_length answer < 2 ^ 24 = omega (arith, trb.1) in
    let writable = writable_event STREAM_RING_PLACES (stream_ring sides.lines.status tag) (stream_ring sides.lines.status tag).got
    (length - list_length answer) (status_code (list_length answer) length) STATUS_ENDPOINT ring.ring left (code_small (list_length answer) length) (omega arith) in
    let told = told_same (written w.memory pointer answer) w.events STATUS_ENDPOINT (Stream (layout.status + 16 * tag))
    (cursor_at STREAM_RING_PLACES (stream_ring sides.lines.status tag) (stream_ring sides.lines.status tag).got)
    (length - list_length answer) (status_code (list_length answer) length) (flags_of flags).bei writable in
    let quiet : IsQuiet (slot_of w.transfers tag).tag = record { unit = has.ready.unit; overlaps = has.ready.overlaps } in
    let consumer : rung_consumer STATUS_ENDPOINT ≡ loaded w.transfers.status tag = sym has.ready.consumer in
    ap (λ (done : Option (TagWorld Device × Acted)). status_kept target_kind w tag (after (status_world target_kind w tag) done))
    (answer_there layout sides w tag unit pointer length td_size flags has)
    ∙ ap (λ (memory : Memory). (
      record {
        memory = memory;
        events = enqueued w.events (flags_of flags).bei;
        transfers = record (with_slot w.transfers tag (record (slot_of w.transfers tag) { tag = quiet_tag (slot_of w.transfers tag).tag })) {
          status = stored w.transfers.status tag (rung_consumer STATUS_ENDPOINT);
        };
        device = without_task sides.device tag;
      },
      Some Worked,
    )) told
    ∙ ap (λ (t : TransfersState). (
      record {
        memory = told_memory (written w.memory pointer answer) w.events (status_event sides.lines tag (list_length answer) length) (kept_at layout Status tag)
            (behind (cursor_at STREAM_RING_PLACES (stream_ring sides.lines.status tag) (stream_ring sides.lines.status tag).got));
        events = enqueued w.events (flags_of flags).bei;
        transfers = t;
        device = without_task sides.device tag;
      },
      Some Worked,
    )) (ap (λ (c : Consumer). record (with_slot w.transfers tag (record (slot_of w.transfers tag) { tag = quiet_tag (slot_of w.transfers tag).tag })) {
      status = stored w.transfers.status tag c;
    }) consumer ∙ slots_same w.transfers tag quiet)

pub answers_are_sent : AnswersAreSent
unfolding done_with
answers_are_sent layout sides w tag unit pointer length td_size flags is has =
    let there = status_whole layout sides w tag unit pointer length td_size flags has in
    record {
      acted = ap (λ (done : TransfersWorld Device × Option Acted). done.1) there;
      device = ap (λ (done : TransfersWorld Device × Option Acted). done.0.device) there;
      memory = ap (λ (done : TransfersWorld Device × Option Acted). done.0.memory) there;
      pipes = ap (λ (done : TransfersWorld Device × Option Acted). done.0.transfers) there;
    }

-- THE PROFILE'S STEP

-- the buffer of at least one byte
pub named_part : (frames : List TagBuffers) (address len count : ℕ) → IsNamed frames address len → 0 < len → count ≤ len → (place : Place) × Names frames address count place
named_part frames address len count (inl none) some less = absurd (omega (arith, none, some))
named_part frames address len count (inr (place, named)) some less = (
  place,
  record {
    first_tag = named.first_tag;
    last_tag = named.last_tag;
    begins = named.begins;
    within = omega (arith, named.within, less);
  },
)

answer_here : (layout : Layout) (controller : ControllerState) (sides : Sides) (w : TransfersWorld Device) (tag : ℕ) (unit : Iu) (pointer length td_size : ℕ) (flags : TrbFlags)
    → HasAnswer layout sides w tag unit pointer length td_size flags → is_armed controller sides.lines Status tag ≡ true
    → sent_by controller sides tag
    ≡ (
      record {
        lines = completed sides.lines Status tag (pointer_of STREAM_RING_PLACES (stream_ring sides.lines.status tag) (stream_ring sides.lines.status tag).got)
            (STATUS_BYTES - list_length (unit_text unit)) SHORT_PACKET;
        frames = frames_written sides.frames pointer (list_length (unit_text unit)) (unit_text unit);
        device = without_task sides.device tag;
      },
      ActedOn tag,
    )
answer_here layout controller sides w tag unit pointer length td_size flags has armed =
    let room : nat_lt (list_length sides.lines.events.pending) MOST_EVENTS ≡ true = lt-ltb _ _ (omega (arith, has.room)) in
    let same : due_by w.transfers tag (target_kind.phase sides.device tag) ≡ true = rw has.mirrors.device at has.due in
    let ends : wanted sides.device tag ≡ Ends = due_ends w.transfers tag (wanted sides.device tag) (answered sides.device tag) same in
    let front = has.td.front in
    rw (ends, has.answer, armed, room, front) refl

pub mirrors_by : (layout : Layout) (sides : Sides) (a b : TransfersWorld Device × Option Acted) → a ≡ b → Mirrors layout sides b.0 → Mirrors layout sides a.0
mirrors_by layout sides a b e mirrors = rw e mirrors

pub answers_are_sent_alike : AnswersAreSentAlike
unfolding done_with
answers_are_sent_alike layout controller sides w tag unit pointer td_size flags is has armed =
    let laid = has.mirrors.laid in
    let streams : HasRing Status tag = (has.first_tag, has.last_tag) in
    let ring = laid.rings Status tag streams in
    let answer = unit_text unit in
    let short = answers_are_short sides.device tag unit has.answer in
    let here = answer_here layout controller sides w tag unit pointer STATUS_BYTES td_size flags has armed in
    let there = status_whole layout sides w tag unit pointer STATUS_BYTES td_size flags has in
    let place = named_part sides.frames pointer STATUS_BYTES (list_length answer) has.own.0.2 (omega arith) has.own.1 in
    let some : (stream_ring sides.lines.status tag).got < list_length (stream_ring sides.lines.status tag).put =
    slice_get_within (stream_ring sides.lines.status tag).put (stream_ring sides.lines.status tag).got _ has.td.front in
    let writable = writable_event STREAM_RING_PLACES (stream_ring sides.lines.status tag) (stream_ring sides.lines.status tag).got
    (STATUS_BYTES - list_length answer) SHORT_PACKET STATUS_ENDPOINT ring.ring (omega arith) (omega arith) (omega arith) in
    let laid_1 = laid_written layout sides.lines sides.frames w.memory w.events pointer (list_length answer) answer place.0 is laid place.1 refl in
    let laid_2 = laid_completed layout sides.lines (frames_written sides.frames pointer (list_length answer) answer) (written w.memory pointer answer) w.events Status tag
    (STATUS_BYTES - list_length answer) SHORT_PACKET (flags_of flags).bei is laid_1 streams some has.room writable in
    let code : (list_length answer == STATUS_BYTES) ≡ false = ne_eqb _ _ (λ e. omega (arith, short.most, e)) in
    let after : Mirrors layout _ (done_with layout sides w tag pointer STATUS_BYTES (flags_of flags).bei answer) = rw code (record { laid = laid_2; device = refl }) in
    rw here (mirrors_by layout _ (status_stepped target_kind w tag) _ there after)

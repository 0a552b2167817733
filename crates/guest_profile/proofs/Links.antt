-- Steps of both controllers where a ring's end is at a Link, and where no TRB is in front.
use Rattle.std.proofs.Common.{◌≡◌, ℕ, ◌+◌, ◌*◌, nat_lt, ◌&&◌, Bool, true, false, List, [], length as list_length, set, Option, Some, None, refl, sym, ap, subst, ◌∙◌, arith}
use Rattle.std.proofs.lemmas.Bool.{le-ltb, lt-ltb}
use Rattle.std.proofs.lemmas.List.{set-get_or}
use Rattle.std.proofs.lemmas.Option.{slice_get_past}
use Rattle.std.specs.Prelude.{slice_get}
use Rattle.uas_profile.specs.declared.Pipe.TheVariants.{Command, Status}
use Rattle.uas_profile.specs.declared.TheConstants.{COMMAND_ENDPOINT, COMMAND_RING_PLACES, MOST_EVENTS, STATUS_ENDPOINT, STREAM_RING_PLACES}
use Rattle.uas_iu.specs.declared.Iu.{Iu}
use Rattle.uas_target.specs.declared.Phase.{Phase}
use Rattle.uas_target.specs.declared.Phase.TheVariants.{Absent, Ends, Gives, Takes}
use Rattle.uas_target.specs.Device.{Device, answered, wanted}
use Rattle.stream_array.specs.Map.{HasRing}
use Rattle.stream_array.specs.Rings.{stream_ring}
use Rattle.xhci_ctl.specs.declared.Acted.TheVariants.{Idle}
use Rattle.xhci_ctl.specs.Pipes.{ControllerState, is_armed, is_open_on}
use Rattle.xhci_ctl.specs.Steps.{Sides, sent_as}
use Rattle.guest_memory.specs.Bytes.{Memory, written}
use Rattle.guest_memory.specs.declared.rings.cursor.Cursor.{Cursor}
use Rattle.guest_memory.specs.declared.rings.context.Home.TheVariants.{Endpoint, Stream}
use Rattle.guest_memory.specs.rings.Ends.{home_bytes}
use Rattle.guest_pipes.specs.declared.acted.Acted.{Acted}
use Rattle.guest_pipes.specs.declared.acted.Acted.TheVariants.{Emptied, Worked}
use Rattle.guest_pipes.specs.declared.consumer.Consumer.{Consumer}
use Rattle.guest_pipes.specs.Gate.{after}
use Rattle.guest_pipes.specs.Pipe.{home_of, loaded, stored}
use Rattle.guest_pipes.specs.Progress.{fresh}
use Rattle.guest_tags.specs.declared.device.Received.{Received}
use Rattle.guest_tags.specs.declared.device.Received.TheVariants.{Dropped}
use Rattle.guest_tags.specs.Tags.{TagWorld}
use Rattle.guest_tags.specs.Status.{stepped_status}
use Rattle.guest_out.specs.Command.{command_after, stepped_command}
use Rattle.guest_out.specs.Worlds.{OutWorld}
use Rattle.guest_profile.specs.target.Targets.{target_kind}
use Rattle.guest_transfers.specs.State.{TransfersState, TransfersWorld, empty_slot, slot_of, with_slot}
use Rattle.guest_transfers.specs.Steps.{command_done, command_stepped, command_world, due_by, status_kept, status_stepped, status_world}
use Rattle.guest_profile.specs.Rings.{cursor_at}
use Rattle.guest_profile.specs.Layout.{IsAtItem, IsAtLink, Layout, kept_at}
use Rattle.guest_profile.specs.Ready.{HasRoom, rung_consumer}
use Rattle.guest_profile.specs.Steps.{CommandLinksAreFollowed, IsCommandReady, IsStatusReady, Mirrors, NoAnswerEmpties, NoCommandEmpties, StatusLinksAreFollowed}
use Rattle.guest_profile.proofs.Rings.{link_is_followed}
use Rattle.guest_profile.proofs.Fronts.{gate_laid, looked_link, looked_none}
use Rattle.guest_profile.proofs.LaidSteps.{HasEnd-written, laid_followed}
use Rattle.guest_profile.proofs.Commands.{same_pipes}
use Rattle.guest_profile.proofs.Statuses.{mirrors_by, stored_same}
use Rattle.guest_profile.proofs.TdStep.{linked_world}
use Rattle.guest_profile.proofs.CommandStep.{command-link, command-none}
use Rattle.guest_profile.proofs.StatusStep.{status-link, status-none}

-- THE COMMAND PIPE

-- the world with this memory
abbrev moved_to : TransfersWorld Device → Memory → TransfersWorld Device
moved_to w memory = record w { memory = memory }

command_link_whole : (layout : Layout) (sides : Sides) (w : TransfersWorld Device) → Mirrors layout sides w → IsCommandReady layout w.transfers
    → IsAtLink COMMAND_RING_PLACES sides.lines.command (kept_at layout Command 0) w.memory → HasRoom sides.lines
    → command_stepped target_kind w
    ≡ (moved_to w (written w.memory layout.command (home_bytes (Endpoint layout.command) 1 (cursor_at COMMAND_RING_PLACES sides.lines.command sides.lines.command.got))), Some Worked)
command_link_whole layout sides w mirrors ready at room =
    let laid = mirrors.laid in
    let ring = laid.rings Command 0 refl in
    let found = looked_link COMMAND_RING_PLACES sides.lines.command w.memory (Endpoint layout.command) ring at in
    let leads = (link_is_followed COMMAND_RING_PLACES sides.lines.command sides.lines.command.got w.memory ring at.before).leads in
    let step = command-link target_kind w.memory w.events COMMAND_ENDPOINT w.device (Endpoint layout.command) _ _ _ found.0
    (gate_laid layout sides.lines sides.frames w.memory w.events COMMAND_ENDPOINT laid room) found.1 in
    let there : stepped_command target_kind (command_world target_kind w) (Endpoint w.transfers.home)
    ≡ Some (
      record {
        ring = linked_world w.memory w.events COMMAND_ENDPOINT (Endpoint layout.command) (cursor_at COMMAND_RING_PLACES sides.lines.command sides.lines.command.got);
        taken = [];
        device = w.device;
      },
      (Worked, Dropped),
    ) =
    rw (ready.consumer, ready.gathered, ready.home)
    (step ∙ ap (λ (cursor : Cursor). Some (
      record {
        ring = linked_world w.memory w.events COMMAND_ENDPOINT (Endpoint layout.command) cursor;
        taken = [];
        device = w.device;
      },
      (Worked, Dropped),
    )) leads) in
    ap (λ (done : Option (OutWorld Device × (Acted × Received))). command_done target_kind w (command_after target_kind (command_world target_kind w) done)) there
    ∙ ap (λ (t : TransfersState). (
      record w {
        memory = written w.memory layout.command (home_bytes (Endpoint layout.command) 1 (cursor_at COMMAND_RING_PLACES sides.lines.command sides.lines.command.got));
        transfers = t;
      },
      Some Worked,
    )) (same_pipes w.transfers (rung_consumer COMMAND_ENDPOINT) [] ready.consumer ready.gathered)

pub command_links_are_followed : CommandLinksAreFollowed
command_links_are_followed layout sides w is mirrors ready at room =
    let whole = command_link_whole layout sides w mirrors ready at room in
    record {
      mirrors = rw whole (record { laid = laid_followed layout sides.lines sides.frames w.memory w.events Command 0 is mirrors.laid refl; device = mirrors.device });
      acted = ap (λ (done : TransfersWorld Device × Option Acted). done.1) whole;
      item = rw whole (HasEnd-written w.memory (Endpoint layout.command) (cursor_at COMMAND_RING_PLACES sides.lines.command sides.lines.command.got));
      pipes = ap (λ (done : TransfersWorld Device × Option Acted). done.0.transfers) whole;
    }

pub no_command_empties : NoCommandEmpties
no_command_empties layout sides w mirrors ready at room none =
    let laid = mirrors.laid in
    let ring = laid.rings Command 0 refl in
    let found = looked_none COMMAND_RING_PLACES sides.lines.command w.memory (Endpoint layout.command) ring at none in
    let past : slice_get sides.lines.command.put sides.lines.command.got ≡ None = slice_get_past sides.lines.command.put sides.lines.command.got (omega (arith, none)) in
    let test : nat_lt (list_length sides.lines.events.pending) MOST_EVENTS ≡ true = lt-ltb _ _ (omega (arith, room)) in
    let step = command-none target_kind w.memory w.events COMMAND_ENDPOINT w.device (Endpoint layout.command) _
    (gate_laid layout sides.lines sides.frames w.memory w.events COMMAND_ENDPOINT laid room) found in
    let there : stepped_command target_kind (command_world target_kind w) (Endpoint w.transfers.home)
    ≡ Some (
      record {
        ring = record { memory = w.memory; events = w.events; consumer = record (rung_consumer COMMAND_ENDPOINT) { rung = false } };
        taken = [];
        device = w.device;
      },
      (Emptied, Dropped),
    ) = rw (ready.consumer, ready.gathered, ready.home) step in
    record {
      idle = rw (test, past) refl;
      emptied = ap (λ (done : Option (OutWorld Device × (Acted × Received))). command_done target_kind w (command_after target_kind (command_world target_kind w) done)) there
          ∙ ap (λ (c : Consumer). (record w { transfers = record w.transfers { command = record c { rung = false }; gathered = [] } }, Some Emptied)) (sym ready.consumer)
          ∙ ap (λ (g : List ℕ). (record w { transfers = record w.transfers { command = record w.transfers.command { rung = false }; gathered = g } }, Some Emptied)) (sym ready.gathered);
    }

-- A STATUS STREAM

-- what is kept of a tag and of the pipe stays
tag_same : (t : TransfersState) (tag : ℕ) (consumer : Consumer) → loaded t.status tag ≡ consumer
    → record (with_slot t tag (record (slot_of t tag) { tag = (slot_of t tag).tag })) { status = stored t.status tag consumer } ≡ t
tag_same t tag consumer is = rw (← is, set-get_or t.tags tag empty_slot, stored_same t.status tag) refl

status_link_whole : (layout : Layout) (sides : Sides) (w : TransfersWorld Device) (tag : ℕ) → Mirrors layout sides w → IsStatusReady layout w.transfers tag
    → HasRing Status tag → IsAtLink STREAM_RING_PLACES (stream_ring sides.lines.status tag) (kept_at layout Status tag) w.memory → HasRoom sides.lines
    → status_stepped target_kind w tag
    ≡ (
      moved_to w (written w.memory (layout.status + 16 * tag) (home_bytes (kept_at layout Status tag) 1
          (cursor_at STREAM_RING_PLACES (stream_ring sides.lines.status tag) (stream_ring sides.lines.status tag).got))),
      Some Worked,
    )
status_link_whole layout sides w tag mirrors ready streams at room =
    let laid = mirrors.laid in
    let ring = laid.rings Status tag streams in
    let home = kept_at layout Status tag in
    let due = due_by w.transfers tag (target_kind.phase w.device tag) in
    let found = looked_link STREAM_RING_PLACES (stream_ring sides.lines.status tag) w.memory home ring at in
    let leads = (link_is_followed STREAM_RING_PLACES (stream_ring sides.lines.status tag) (stream_ring sides.lines.status tag).got w.memory ring at.before).leads in
    let step = status-link target_kind w.memory w.events STATUS_ENDPOINT (slot_of w.transfers tag).tag w.device tag due home _ _ _ found.0
    (gate_laid layout sides.lines sides.frames w.memory w.events STATUS_ENDPOINT laid room) found.1 in
    let there : stepped_status target_kind (status_world target_kind w tag) tag due (home_of w.transfers.status tag)
    ≡ Some (
      record {
        ring = linked_world w.memory w.events STATUS_ENDPOINT (Stream (layout.status + 16 * tag))
            (cursor_at STREAM_RING_PLACES (stream_ring sides.lines.status tag) (stream_ring sides.lines.status tag).got);
        tag = (slot_of w.transfers tag).tag;
        device = w.device;
      },
      Worked,
    ) =
    rw (ready.array, ready.consumer)
    (step ∙ ap (λ (cursor : Cursor). Some (
      record {
        ring = linked_world w.memory w.events STATUS_ENDPOINT (Stream (layout.status + 16 * tag)) cursor;
        tag = (slot_of w.transfers tag).tag;
        device = w.device;
      },
      Worked,
    )) leads) in
    ap (λ (done : Option (TagWorld Device × Acted)). status_kept target_kind w tag (after (status_world target_kind w tag) done)) there
    ∙ ap (λ (t : TransfersState). (
      record w {
        memory = written w.memory (layout.status + 16 * tag) (home_bytes (kept_at layout Status tag) 1
            (cursor_at STREAM_RING_PLACES (stream_ring sides.lines.status tag) (stream_ring sides.lines.status tag).got));
        transfers = t;
      },
      Some Worked,
    )) (tag_same w.transfers tag (rung_consumer STATUS_ENDPOINT) ready.consumer)

pub status_links_are_followed : StatusLinksAreFollowed
status_links_are_followed layout sides w tag is mirrors ready first last at room =
    let whole = status_link_whole layout sides w tag mirrors ready (first, last) at room in
    let laid = laid_followed layout sides.lines sides.frames w.memory w.events Status tag is mirrors.laid (first, last) in
    let kept = HasEnd-written w.memory (kept_at layout Status tag)
    (cursor_at STREAM_RING_PLACES (stream_ring sides.lines.status tag) (stream_ring sides.lines.status tag).got) in
    record {
      mirrors = mirrors_by layout sides (status_stepped target_kind w tag) _ whole (record { laid = laid; device = mirrors.device });
      acted = ap (λ (done : TransfersWorld Device × Option Acted). done.1) whole;
      item = subst (λ (done : TransfersWorld Device × Option Acted). IsAtItem STREAM_RING_PLACES (stream_ring sides.lines.status tag) (kept_at layout Status tag) done.0.memory)
          (sym whole) kept;
      pipes = ap (λ (done : TransfersWorld Device × Option Acted). done.0.transfers) whole;
    }

-- a stream with nothing in front isn't armed, so no answer goes out
and_false : (b : Bool) → (b && false) ≡ false
and_false true = refl
and_false false = refl

idle_by : (controller : ControllerState) (sides : Sides) (tag : ℕ) (phase : Phase) (answer : Option Iu) → is_armed controller sides.lines Status tag ≡ false
    → sent_as controller sides tag phase answer ≡ (sides, Idle)
idle_by controller sides tag Absent answer armed = refl
idle_by controller sides tag (Gives count) answer armed = refl
idle_by controller sides tag (Takes count) answer armed = refl
idle_by controller sides tag Ends None armed = refl
idle_by controller sides tag Ends (Some unit) armed = rw armed refl

-- the doorbell of a stream is used up
emptied_same : (t : TransfersState) (tag : ℕ)
    → record (with_slot t tag (record (slot_of t tag) { tag = (slot_of t tag).tag })) {
      status = stored t.status tag (record (loaded t.status tag) { rung = false });
    }
    ≡ record t { status = record t.status { rung = set t.status.rung tag false } }
emptied_same t tag = rw (set-get_or t.tags tag empty_slot, set-get_or t.status.progress tag fresh) refl

pub no_answer_empties : NoAnswerEmpties
no_answer_empties layout controller sides w tag mirrors ready first last at room none =
    let laid = mirrors.laid in
    let ring = laid.rings Status tag (first, last) in
    let home = kept_at layout Status tag in
    let due = due_by w.transfers tag (target_kind.phase w.device tag) in
    let found = looked_none STREAM_RING_PLACES (stream_ring sides.lines.status tag) w.memory home ring at none in
    let step = status-none target_kind w.memory w.events STATUS_ENDPOINT (slot_of w.transfers tag).tag w.device tag due home _
    (gate_laid layout sides.lines sides.frames w.memory w.events STATUS_ENDPOINT laid room) found in
    let there : stepped_status target_kind (status_world target_kind w tag) tag due (home_of w.transfers.status tag)
    ≡ Some (
      record {
        ring = record { memory = w.memory; events = w.events; consumer = record (rung_consumer STATUS_ENDPOINT) { rung = false } };
        tag = (slot_of w.transfers tag).tag;
        device = w.device;
      },
      Emptied,
    ) = rw (ready.array, ready.consumer) step in
    let armed : is_armed controller sides.lines Status tag ≡ false =
    ap (λ (b : Bool). is_open_on controller Status tag && b) (le-ltb (stream_ring sides.lines.status tag).got (list_length (stream_ring sides.lines.status tag).put) (omega (arith, none)))
    ∙ and_false (is_open_on controller Status tag) in
    record {
      idle = idle_by controller sides tag (wanted sides.device tag) (answered sides.device tag) armed;
      emptied = ap (λ (done : Option (TagWorld Device × Acted)). status_kept target_kind w tag (after (status_world target_kind w tag) done)) there
          ∙ ap (λ (c : Consumer). (
            record w {
              transfers = record (with_slot w.transfers tag (record (slot_of w.transfers tag) { tag = (slot_of w.transfers tag).tag })) {
                status = stored w.transfers.status tag (record c { rung = false });
              };
            },
            Some Emptied,
          )) (sym ready.consumer)
          ∙ ap (λ (t : TransfersState). (record w { transfers = t }, Some Emptied)) (emptied_same w.transfers tag);
    }

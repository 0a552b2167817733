-- Steps of the data pipes at a Link.
use Rattle.std.proofs.Common.{◌≡◌, ℕ, ◌+◌, ◌*◌, Bool, false, List, Option, Some, None, refl, sym, ap, subst, ◌∙◌}
use Rattle.std.proofs.lemmas.List.{set-get_or}
use Rattle.uas_profile.specs.declared.Pipe.TheVariants.{DataIn, DataOut}
use Rattle.uas_profile.specs.declared.TheConstants.{DATA_IN_ENDPOINT, DATA_OUT_ENDPOINT, STREAM_RING_PLACES}
use Rattle.stream_array.specs.Map.{HasRing}
use Rattle.stream_array.specs.Rings.{stream_ring}
use Rattle.uas_target.specs.Device.{Device, answered, wanted}
use Rattle.xhci_ctl.specs.Steps.{Sides}
use Rattle.guest_memory.specs.Bytes.{Memory, written}
use Rattle.guest_memory.specs.declared.rings.cursor.Cursor.{Cursor}
use Rattle.guest_memory.specs.declared.rings.context.Home.{Home}
use Rattle.guest_memory.specs.declared.rings.context.Home.TheVariants.{Stream}
use Rattle.guest_memory.specs.declared.rings.context.Front.{Front}
use Rattle.guest_memory.specs.declared.rings.context.Found.TheVariants.{Item}
use Rattle.guest_memory.specs.declared.rings.trb.PipeTrb.TheVariants.{Link}
use Rattle.guest_memory.specs.rings.Ends.{followed, home_at, home_bytes, looked}
use Rattle.guest_memory.specs.rings.Events.{EventEnd}
use Rattle.guest_pipes.specs.declared.acted.Acted.{Acted}
use Rattle.guest_pipes.specs.declared.acted.Acted.TheVariants.{Worked}
use Rattle.guest_pipes.specs.declared.consumer.Consumer.{Consumer}
use Rattle.guest_pipes.specs.declared.progress.Progress.{Progress}
use Rattle.guest_pipes.specs.Gate.{after, gate}
use Rattle.guest_pipes.specs.Pipe.{home_of, loaded, stored}
use Rattle.guest_pipes.specs.Step.{World, linked, stood}
use Rattle.guest_tags.specs.declared.tag.Tag.{Tag}
use Rattle.guest_tags.specs.DataIn.{stepped_in}
use Rattle.guest_tags.specs.declared.device.Phase.{Phase}
use Rattle.guest_tags.specs.declared.device.Phase.TheVariants.{Absent, Ended, Gives, Takes}
use Rattle.guest_tags.specs.Devices.{Kind}
use Rattle.guest_tags.specs.Tags.{TagWorld}
use Rattle.guest_out.specs.DataOut.{stepped_out}
use Rattle.guest_out.specs.Worlds.{OutWorld}
use Rattle.guest_profile.specs.target.Targets.{phase_of, target_kind}
use Rattle.guest_transfers.specs.State.{TransfersState, TransfersWorld, empty_slot, slot_of, with_slot}
use Rattle.guest_transfers.specs.Steps.{in_kept, in_stepped, in_world, out_kept, out_world}
use Rattle.guest_transfers.specs.Orders.{data_by, data_stepped, drops_now, or_out}
use Rattle.guest_profile.specs.Rings.{cursor_at, link_flags}
use Rattle.guest_profile.specs.Layout.{IsAtItem, IsAtLink, Layout, kept_at}
use Rattle.guest_profile.specs.Ready.{HasRoom}
use Rattle.guest_profile.specs.Steps.{Mirrors}
use Rattle.guest_profile.specs.Data.{InLinksAreFollowed, IsInReady, IsOutReady, OutLinksAreFollowed}
use Rattle.guest_profile.proofs.Rings.{link_is_followed}
use Rattle.guest_profile.proofs.Fronts.{gate_data, looked_link}
use Rattle.guest_profile.proofs.LaidSteps.{HasEnd-written, laid_followed}
use Rattle.guest_profile.proofs.Statuses.{mirrors_by, stored_same}
use Rattle.guest_profile.proofs.InStep.{data_consumer}
use Rattle.guest_profile.proofs.DataIn.{kept_between, loaded_between}
use Rattle.guest_profile.proofs.DataOut.{in_same, out_alone}

-- memory once a Link was followed, without an event
abbrev linked_data : Memory → EventEnd → ℕ → Progress → Home → Cursor → World
linked_data memory events endpoint progress home cursor = record {
  memory = written memory (home_at home) (home_bytes home 1 cursor);
  events = events;
  consumer = data_consumer endpoint progress;
}

data-quiet : (memory : Memory) (events : EventEnd) (endpoint : ℕ) (progress : Progress) (front : Front) (pointer : ℕ) (toggle chain : Bool)
    → linked (record { memory = memory; events = events; consumer = data_consumer endpoint progress }) front pointer toggle (link_flags chain false)
    ≡ linked_data memory events endpoint progress front.home (followed front.cursor pointer toggle)
unfolding linked stood
data-quiet memory events endpoint progress front pointer toggle chain = refl

module _ {D : Type 0} (kind : Kind D) where
  abbrev in_plain : Memory → EventEnd → ℕ → Progress → Tag → D → TagWorld D
  in_plain memory events endpoint progress tag device = record {
    ring = record { memory = memory; events = events; consumer = data_consumer endpoint progress };
    tag = tag;
    device = device;
  }

  in-link : (memory : Memory) (events : EventEnd) (endpoint : ℕ) (progress : Progress) (tag : Tag) (device : D) (number : ℕ) (home : Home) (cursor : Cursor) (pointer : ℕ)
      (toggle chain : Bool) → gate memory events (data_consumer endpoint progress) ≡ Some None
      → looked memory home ≡ Some (record { home = home; cursor = cursor; found = Item (Link pointer toggle (link_flags chain false)) })
      → stepped_in kind (in_plain memory events endpoint progress tag device) number home
      ≡ Some (record (in_plain memory events endpoint progress tag device) { ring = linked_data memory events endpoint progress home (followed cursor pointer toggle) }, Worked)
  in-link memory events endpoint progress tag device number home cursor pointer toggle chain opens looks =
      rw (opens, looks)
      (ap (λ (ring : World). Some (record (in_plain memory events endpoint progress tag device) { ring = ring }, Worked))
      (data-quiet memory events endpoint progress (record { home = home; cursor = cursor; found = Item (Link pointer toggle (link_flags chain false)) }) pointer toggle chain))

  abbrev out_plain : Memory → EventEnd → ℕ → Progress → List ℕ → D → OutWorld D
  out_plain memory events endpoint progress taken device = record {
    ring = record { memory = memory; events = events; consumer = data_consumer endpoint progress };
    taken = taken;
    device = device;
  }

  out-link : (memory : Memory) (events : EventEnd) (endpoint : ℕ) (progress : Progress) (taken : List ℕ) (device : D) (number : ℕ) (home : Home) (cursor : Cursor) (pointer : ℕ)
      (toggle chain : Bool) → gate memory events (data_consumer endpoint progress) ≡ Some None
      → looked memory home ≡ Some (record { home = home; cursor = cursor; found = Item (Link pointer toggle (link_flags chain false)) })
      → stepped_out kind (out_plain memory events endpoint progress taken device) number home
      ≡ Some (record (out_plain memory events endpoint progress taken device) { ring = linked_data memory events endpoint progress home (followed cursor pointer toggle) }, Worked)
  out-link memory events endpoint progress taken device number home cursor pointer toggle chain opens looks =
      rw (opens, looks)
      (ap (λ (ring : World). Some (record (out_plain memory events endpoint progress taken device) { ring = ring }, Worked))
      (data-quiet memory events endpoint progress (record { home = home; cursor = cursor; found = Item (Link pointer toggle (link_flags chain false)) }) pointer toggle chain))

-- none is dropped
no_drops : (w : TransfersWorld Device) (tag : ℕ) → (slot_of w.transfers tag).tag.drops ≡ false
    → drops_now (slot_of w.transfers tag).tag.drops (phase_of (wanted w.device tag) (answered w.device tag)) ≡ false
no_drops w tag is = by_phase (phase_of (wanted w.device tag) (answered w.device tag))
  where
    by_phase : (phase : Phase) → drops_now (slot_of w.transfers tag).tag.drops phase ≡ false
    by_phase Absent = refl
    by_phase (Gives count) = is
    by_phase (Takes count) = refl
    by_phase (Ended end) = refl

-- DATA-IN

in_link_whole : (layout : Layout) (sides : Sides) (w : TransfersWorld Device) (tag : ℕ) → Mirrors layout sides w → IsInReady layout w.transfers tag → HasRing DataIn tag
    → IsAtLink STREAM_RING_PLACES (stream_ring sides.lines.data_in tag) (kept_at layout DataIn tag) w.memory → HasRoom sides.lines
    → data_stepped target_kind w tag
    ≡ (
      record w {
        memory = written w.memory (layout.data_in + 16 * tag) (home_bytes (Stream (layout.data_in + 16 * tag)) 1
            (cursor_at STREAM_RING_PLACES (stream_ring sides.lines.data_in tag) (stream_ring sides.lines.data_in tag).got));
      },
      Some Worked,
    )
in_link_whole layout sides w tag mirrors ready streams at room =
    let laid = mirrors.laid in
    let p = w.transfers.data_in in
    let home = Stream (layout.data_in + 16 * tag) in
    let ring = laid.rings DataIn tag streams in
    let consumer = loaded_between p layout.data_in DATA_IN_ENDPOINT tag ready.pipe in
    let found = looked_link STREAM_RING_PLACES (stream_ring sides.lines.data_in tag) w.memory home ring at in
    let leads = (link_is_followed STREAM_RING_PLACES (stream_ring sides.lines.data_in tag) (stream_ring sides.lines.data_in tag).got w.memory ring at.before).leads in
    let step = in-link target_kind w.memory w.events DATA_IN_ENDPOINT (kept_between p tag) (slot_of w.transfers tag).tag w.device tag home _ _ _ found.0
    (gate_data layout sides.lines sides.frames w.memory w.events DATA_IN_ENDPOINT (kept_between p tag) laid room) found.1 in
    let there : stepped_in target_kind (in_world target_kind w tag) tag (home_of w.transfers.data_in tag)
    ≡ Some (
      record (in_world target_kind w tag) {
        ring = linked_data w.memory w.events DATA_IN_ENDPOINT (kept_between p tag) (Stream (layout.data_in + 16 * tag))
            (cursor_at STREAM_RING_PLACES (stream_ring sides.lines.data_in tag) (stream_ring sides.lines.data_in tag).got);
      },
      Worked,
    ) =
    ap (λ (array : ℕ). stepped_in target_kind (in_world target_kind w tag) tag (Stream (array + 16 * tag))) ready.pipe.array_is
    ∙ ap (λ (c : Consumer). stepped_in target_kind (record {
      ring = record { memory = w.memory; events = w.events; consumer = c };
      tag = (slot_of w.transfers tag).tag;
      device = w.device;
    }) tag (Stream (layout.data_in + 16 * tag))) consumer
    ∙ step
    ∙ ap (λ (cursor : Cursor). Some (
      record (in_world target_kind w tag) {
        ring = linked_data w.memory w.events DATA_IN_ENDPOINT (kept_between p tag) (Stream (layout.data_in + 16 * tag)) cursor;
      },
      Worked,
    )) leads in
    let stepped : in_stepped target_kind w tag
    ≡ (
      record w {
        memory = written w.memory (layout.data_in + 16 * tag) (home_bytes (Stream (layout.data_in + 16 * tag)) 1
            (cursor_at STREAM_RING_PLACES (stream_ring sides.lines.data_in tag) (stream_ring sides.lines.data_in tag).got));
      },
      Some Worked,
    ) =
    ap (λ (done : Option (TagWorld Device × Acted)). in_kept target_kind w tag (after (in_world target_kind w tag) done)) there
    ∙ ap (λ (c : Consumer). (
      record w {
        memory = written w.memory (layout.data_in + 16 * tag) (home_bytes (Stream (layout.data_in + 16 * tag)) 1
            (cursor_at STREAM_RING_PLACES (stream_ring sides.lines.data_in tag) (stream_ring sides.lines.data_in tag).got));
        transfers = record (with_slot w.transfers tag (record (slot_of w.transfers tag) { tag = (slot_of w.transfers tag).tag })) { data_in = stored w.transfers.data_in tag c };
      },
      Some Worked,
    )) (sym consumer)
    ∙ ap (λ (t : TransfersState). (
      record w {
        memory = written w.memory (layout.data_in + 16 * tag) (home_bytes (Stream (layout.data_in + 16 * tag)) 1
            (cursor_at STREAM_RING_PLACES (stream_ring sides.lines.data_in tag) (stream_ring sides.lines.data_in tag).got));
        transfers = t;
      },
      Some Worked,
    )) (in_same w.transfers tag) in
    ap (λ (dropping : Bool). data_by target_kind dropping w tag) (no_drops w tag ready.drops)
    ∙ ap (λ (done : TransfersWorld Device × Option Acted). or_out target_kind done tag) stepped

pub in_links_are_followed : InLinksAreFollowed
in_links_are_followed layout sides w tag is mirrors ready first last at room =
    let whole = in_link_whole layout sides w tag mirrors ready (first, last) at room in
    let laid = laid_followed layout sides.lines sides.frames w.memory w.events DataIn tag is mirrors.laid (first, last) in
    let kept = HasEnd-written w.memory (kept_at layout DataIn tag)
    (cursor_at STREAM_RING_PLACES (stream_ring sides.lines.data_in tag) (stream_ring sides.lines.data_in tag).got) in
    record {
      mirrors = mirrors_by layout sides (data_stepped target_kind w tag) _ whole (record { laid = laid; device = mirrors.device });
      acted = ap (λ (done : TransfersWorld Device × Option Acted). done.1) whole;
      item = subst (λ (done : TransfersWorld Device × Option Acted). IsAtItem STREAM_RING_PLACES (stream_ring sides.lines.data_in tag) (kept_at layout DataIn tag) done.0.memory)
          (sym whole) kept;
      pipes = ap (λ (done : TransfersWorld Device × Option Acted). done.0.transfers) whole;
    }

-- DATA-OUT

out_same : (t : TransfersState) (tag : ℕ)
    → record (with_slot t tag (record (slot_of t tag) { taken = (slot_of t tag).taken })) { data_out = stored t.data_out tag (loaded t.data_out tag) } ≡ t
out_same t tag = rw (set-get_or t.tags tag empty_slot, stored_same t.data_out tag) refl

out_link_whole : (layout : Layout) (sides : Sides) (w : TransfersWorld Device) (tag : ℕ) → Mirrors layout sides w → IsOutReady layout w.transfers tag
    → (slot_of w.transfers tag).tag.drops ≡ false → HasRing DataOut tag
    → IsAtLink STREAM_RING_PLACES (stream_ring sides.lines.data_out tag) (kept_at layout DataOut tag) w.memory → HasRoom sides.lines
    → data_stepped target_kind w tag
    ≡ (
      record w {
        memory = written w.memory (layout.data_out + 16 * tag) (home_bytes (Stream (layout.data_out + 16 * tag)) 1
            (cursor_at STREAM_RING_PLACES (stream_ring sides.lines.data_out tag) (stream_ring sides.lines.data_out tag).got));
      },
      Some Worked,
    )
out_link_whole layout sides w tag mirrors ready drops streams at room =
    let laid = mirrors.laid in
    let p = w.transfers.data_out in
    let home = Stream (layout.data_out + 16 * tag) in
    let ring = laid.rings DataOut tag streams in
    let consumer = loaded_between p layout.data_out DATA_OUT_ENDPOINT tag ready.pipe in
    let found = looked_link STREAM_RING_PLACES (stream_ring sides.lines.data_out tag) w.memory home ring at in
    let leads = (link_is_followed STREAM_RING_PLACES (stream_ring sides.lines.data_out tag) (stream_ring sides.lines.data_out tag).got w.memory ring at.before).leads in
    let step = out-link target_kind w.memory w.events DATA_OUT_ENDPOINT (kept_between p tag) (slot_of w.transfers tag).taken w.device tag home _ _ _ found.0
    (gate_data layout sides.lines sides.frames w.memory w.events DATA_OUT_ENDPOINT (kept_between p tag) laid room) found.1 in
    let there : stepped_out target_kind (out_world target_kind w tag) tag (home_of w.transfers.data_out tag)
    ≡ Some (
      record (out_world target_kind w tag) {
        ring = linked_data w.memory w.events DATA_OUT_ENDPOINT (kept_between p tag) (Stream (layout.data_out + 16 * tag))
            (cursor_at STREAM_RING_PLACES (stream_ring sides.lines.data_out tag) (stream_ring sides.lines.data_out tag).got);
      },
      Worked,
    ) =
    ap (λ (array : ℕ). stepped_out target_kind (out_world target_kind w tag) tag (Stream (array + 16 * tag))) ready.pipe.array_is
    ∙ ap (λ (c : Consumer). stepped_out target_kind (record {
      ring = record { memory = w.memory; events = w.events; consumer = c };
      taken = (slot_of w.transfers tag).taken;
      device = w.device;
    }) tag (Stream (layout.data_out + 16 * tag))) consumer
    ∙ step
    ∙ ap (λ (cursor : Cursor). Some (
      record (out_world target_kind w tag) {
        ring = linked_data w.memory w.events DATA_OUT_ENDPOINT (kept_between p tag) (Stream (layout.data_out + 16 * tag)) cursor;
      },
      Worked,
    )) leads in
    ap (λ (dropping : Bool). data_by target_kind dropping w tag) (no_drops w tag drops) ∙ out_alone w tag ready.other
    ∙ ap (λ (done : Option (OutWorld Device × Acted)). out_kept target_kind w tag (after (out_world target_kind w tag) done)) there
    ∙ ap (λ (c : Consumer). (
      record w {
        memory = written w.memory (layout.data_out + 16 * tag) (home_bytes (Stream (layout.data_out + 16 * tag)) 1
            (cursor_at STREAM_RING_PLACES (stream_ring sides.lines.data_out tag) (stream_ring sides.lines.data_out tag).got));
        transfers = record (with_slot w.transfers tag (record (slot_of w.transfers tag) { taken = (slot_of w.transfers tag).taken })) { data_out = stored w.transfers.data_out tag c };
      },
      Some Worked,
    )) (sym consumer)
    ∙ ap (λ (t : TransfersState). (
      record w {
        memory = written w.memory (layout.data_out + 16 * tag) (home_bytes (Stream (layout.data_out + 16 * tag)) 1
            (cursor_at STREAM_RING_PLACES (stream_ring sides.lines.data_out tag) (stream_ring sides.lines.data_out tag).got));
        transfers = t;
      },
      Some Worked,
    )) (out_same w.transfers tag)

pub out_links_are_followed : OutLinksAreFollowed
out_links_are_followed layout sides w tag is mirrors ready drops first last at room =
    let whole = out_link_whole layout sides w tag mirrors ready drops (first, last) at room in
    let laid = laid_followed layout sides.lines sides.frames w.memory w.events DataOut tag is mirrors.laid (first, last) in
    let kept = HasEnd-written w.memory (kept_at layout DataOut tag)
    (cursor_at STREAM_RING_PLACES (stream_ring sides.lines.data_out tag) (stream_ring sides.lines.data_out tag).got) in
    record {
      mirrors = mirrors_by layout sides (data_stepped target_kind w tag) _ whole (record { laid = laid; device = mirrors.device });
      acted = ap (λ (done : TransfersWorld Device × Option Acted). done.1) whole;
      item = subst (λ (done : TransfersWorld Device × Option Acted). IsAtItem STREAM_RING_PLACES (stream_ring sides.lines.data_out tag) (kept_at layout DataOut tag) done.0.memory)
          (sym whole) kept;
      pipes = ap (λ (done : TransfersWorld Device × Option Acted). done.0.transfers) whole;
    }

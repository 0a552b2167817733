-- A world in which one place moved a chunk fits the state in which it did.
use Rattle.std.proofs.Common.{◌≡◌, ℕ, ◌+◌, ◌*◌, ◌<◌, ◌≤◌, List, [], ◌++◌, length, length-set, map, Option, Some, refl, arith, ap, sym, ◌∙◌}
use Rattle.std.specs.Prelude.{slice_get, slice_set}
use Rattle.std.proofs.lemmas.List.{append-nil}
use Rattle.block_unit.specs.BlockMaps.{BlockMaps}
use Rattle.cycle_ring.specs.Items.{ItemRing}
use Rattle.event_ring.specs.declared.Event.{Event}
use Rattle.uas_profile.specs.declared.Pipe.TheVariants.{Command, Status, DataIn, DataOut}
use Rattle.stream_array.specs.Rings.{stream_ring}
use Rattle.frame_store.specs.declared.TagBuffers.{TagBuffers}
use Rattle.frame_store.specs.Buffers.{held_for}
use Rattle.uas_profile.specs.declared.TheConstants.{STREAMS}
use Rattle.scsi_cmd.specs.Held.{held_at, held_under, with_held_under}
use Rattle.uas_target.specs.declared.DeviceTask.{DeviceTask}
use Rattle.uas_target.specs.Device.{task_of}
use Rattle.uas_host.specs.declared.HostClient.{HostClient}
use Rattle.uas_profile.specs.declared.Place.{Place}
use Rattle.uas_host.specs.State.{HostState, client_of}
use Rattle.uas_profile.specs.Tags.{tag_of}
use Rattle.xhci_ctl.specs.Pipes.{ControllerState}
use Rattle.shared_machine.specs.declared.Completion.{Completion}
use Rattle.shared_machine.specs.Td.{Entry}
use Rattle.shared_machine.specs.Part.{Part, with_entry}
use Rattle.shared_machine.specs.Shared.{Shared}
use Rattle.machine_invariant.specs.Matched.{IsMatched, carried_places, data_events}
use Rattle.bus_core.specs.World.{World, cell_at}
use Rattle.bus_core.specs.Cells.{FitsCell}
use Rattle.bus_core.specs.Fits.{command_item, event_texts, Fits, FitsQueues, IsSoundWorld, place_in}
use Rattle.shared_machine.proofs.Standing.{held_under-with_same, held_under-with_other, slice_get-back, get-within}
use Rattle.bus_core.proofs.common.Framing.{AllFit-set, EndsAlike, EndsStay, FitsPart-set, ChangesCell, IsFound, ends-same, engine-changed, unused-kept}
use Rattle.bus_core.proofs.common.EventTexts.{carried_places-append, event_texts-append, event_texts-one, KeepsOthers}
use Rattle.bus_core.proofs.common.Framing.{beyond-apart}
use Rattle.shared_machine.specs.Bus.{IsPlace}
use Rattle.shared_machine.specs.Shared.{greatest_tag}

-- ONE CHUNK

-- Host, controller, command pipe and status rings are as they were, and so is everything of other tags. The unit of the place
-- and its task were written, its lent vector perhaps, and these events were posted.
pub record MovesChunk (tags : ℕ) (before after : World) (place : Place) (unit : BlockMaps) (task : Option DeviceTask) (lent : List ℕ) (posted : List Event) : Type 0 where
  pub host : after.host ≡ before.host
  pub controller : after.controller ≡ before.controller
  pub units : after.device.units ≡ slice_set before.device.units place.client unit
  pub tasks : after.device.tasks ≡ with_held_under before.device.tasks (tag_of tags place) task
  pub command : after.lines.command ≡ before.lines.command
  pub engine : after.lines.engine ≡ before.lines.engine
  pub status : after.lines.status ≡ before.lines.status
  pub data_in_ends : EndsAlike (stream_ring before.lines.data_in (tag_of tags place)) (stream_ring after.lines.data_in (tag_of tags place))
  pub data_out_ends : EndsAlike (stream_ring before.lines.data_out (tag_of tags place)) (stream_ring after.lines.data_out (tag_of tags place))
  pub data_in : (other : ℕ) → 0 < other → (other ≡ tag_of tags place → ⊥) → stream_ring after.lines.data_in other ≡ stream_ring before.lines.data_in other
  pub data_out : (other : ℕ) → 0 < other → (other ≡ tag_of tags place → ⊥) → stream_ring after.lines.data_out other ≡ stream_ring before.lines.data_out other
  pub buffers : held_for after.frames (tag_of tags place) ≡ record (held_for before.frames (tag_of tags place)) { lent = Some lent }
  pub frames : (other : ℕ) → 0 < other → (other ≡ tag_of tags place → ⊥) → held_for after.frames other ≡ held_for before.frames other
  pub events : after.lines.events.pending ≡ before.lines.events.pending ++ posted

-- the tag of a place isn't 0
tag_of-some : (tags : ℕ) (place : Place) → 0 < tag_of tags place
tag_of-some tags place = omega arith

keeps-others : (tags : ℕ) (before after : World) (place : Place) (unit : BlockMaps) (task : Option DeviceTask) (lent : List ℕ) (posted : List Event)
    → MovesChunk tags before after place unit task lent posted → KeepsOthers tags before after place
keeps-others tags before after place unit task lent posted moves other at within apart =
    let one : Place = place_in other at in
    let tag : ℕ = tag_of tags (place_in other at) in
    let some : 0 < tag_of tags (place_in other at) = tag_of-some tags (place_in other at) in
    let tasks : task_of after.device (tag_of tags (place_in other at)) ≡ task_of before.device (tag_of tags (place_in other at)) =
    ap (λ ts. held_under ts (tag_of tags (place_in other at))) moves.tasks
    ∙ held_under-with_other before.device.tasks (tag_of tags place) (tag_of tags (place_in other at)) task apart in
    λ i. record {
      held = (ap (λ h. held_at (client_of h other).entries at) moves.host) i;
      task = tasks i;
      status = stream_ring (moves.status i) (tag_of tags (place_in other at));
      data_in = (moves.data_in (tag_of tags (place_in other at)) some apart) i;
      data_out = (moves.data_out (tag_of tags (place_in other at)) some apart) i;
      buffers = (moves.frames (tag_of tags (place_in other at)) some apart) i;
    }

-- the cell of the place itself
pub cell-moved : (tags : ℕ) (before after : World) (place : Place) (unit : BlockMaps) (task : Option DeviceTask) (lent : List ℕ) (posted : List Event)
    → MovesChunk tags before after place unit task lent posted → IsSoundWorld before → tag_of tags place ≤ STREAMS
    → cell_at tags after place ≡ record {
      held = (cell_at tags before place).held;
      task = task;
      status = (cell_at tags before place).status;
      data_in = (cell_at tags after place).data_in;
      data_out = (cell_at tags after place).data_out;
      buffers = record (cell_at tags before place).buffers { lent = Some lent };
    }
cell-moved tags before after place unit task lent posted moves sound within =
    let inside : tag_of tags place ≤ length before.device.tasks = omega (arith, within, sound.tags) in
    let tasks : task_of after.device (tag_of tags place) ≡ task =
    ap (λ ts. held_under ts (tag_of tags place)) moves.tasks ∙ held_under-with_same before.device.tasks (tag_of tags place) task (tag_of-some tags place) inside in
    λ i. record {
      held = held_at (client_of (moves.host i) place.client).entries place.slot;
      task = tasks i;
      status = stream_ring (moves.status i) (tag_of tags place);
      data_in = stream_ring after.lines.data_in (tag_of tags place);
      data_out = stream_ring after.lines.data_out (tag_of tags place);
      buffers = moves.buffers i;
    }

-- THE WHOLE

changes-cell : (tags : ℕ) (before after : World) (place : Place) (unit : BlockMaps) (task : Option DeviceTask) (lent : List ℕ) (posted : List Event) (held : HostClient)
    → MovesChunk tags before after place unit task lent posted → slice_get before.host.clients place.client ≡ Some held
    → ChangesCell tags before after place.client place.slot held unit
changes-cell tags before after place unit task lent posted held moves is = record {
  hosts = ap (λ (h : HostState). h.clients) moves.host ∙ sym (slice_get-back before.host.clients place.client held is);
  units = moves.units;
  others = keeps-others tags before after place unit task lent posted moves;
}

-- the state after a chunk
abbrev pub moved_state : Shared → Place → Part → BlockMaps → Entry → List Completion → Shared
moved_state state place part unit entry posted = record state {
  parts = slice_set state.parts place.client (with_entry (record part { unit = unit }) place.slot entry);
  events = state.events ++ posted;
}

queues-moved : (state : Shared) (before after : World) (place : Place) (part : Part) (unit : BlockMaps) (entry : Entry) (task : Option DeviceTask)
    (lent : List ℕ) (posted : List Event) (done : List Completion)
    → MovesChunk state.tags before after place unit task lent posted → IsMatched state → FitsQueues state before → place.slot < state.tags → data_events place state.events ≡ 0
    → carried_places done ≡ [] → event_texts state.tags after (0 + length (carried_places state.events)) done ≡ posted
    → FitsQueues (moved_state state place part unit entry done) after
queues-moved state before after place part unit entry task lent posted done moves all queues within none quiet texts =
    let carried : carried_places (state.events ++ done) ≡ carried_places state.events =
    carried_places-append state.events done ∙ ap (λ ps. carried_places state.events ++ ps) quiet ∙ append-nil (carried_places state.events) in
    let kept : event_texts state.tags after 0 state.events ≡ event_texts state.tags before 0 state.events =
    event_texts-one state before after place 0 all within (ap (λ (r : ItemRing). r.base) moves.command, ap (λ (r : ItemRing). r.at) moves.command) moves.engine
    (keeps-others state.tags before after place unit task lent posted moves) (λ some. absurd (omega (arith, some, none)))
    (λ some. (ap (λ rs. stream_ring rs (tag_of state.tags place)) moves.status, ap (λ (b : TagBuffers). b.status) moves.buffers)) in
    record {
      put = ap (λ (r : ItemRing). r.put) moves.command ∙ queues.put ∙ ap (λ ps. map (command_item state.tags) (ps ++ state.messages)) (sym carried);
      got = ap (λ (r : ItemRing). r.got) moves.command ∙ queues.got ∙ ap length (sym carried);
      texts = moves.events ∙ ap (λ es. es ++ posted) (queues.texts ∙ sym kept) ∙ ap (λ es. event_texts state.tags after 0 state.events ++ es) (sym texts)
          ∙ sym (event_texts-append state.tags after 0 state.events done);
    }

-- the enqueue places of its streams are where they were
moved-ends : (state : Shared) (before after : World) (place : Place) (unit : BlockMaps) (task : Option DeviceTask) (lent : List ℕ) (posted : List Event)
    → MovesChunk state.tags before after place unit task lent posted → EndsStay state before after place
moved-ends state before after place unit task lent posted moves Command streams left = absurd streams
moved-ends state before after place unit task lent posted moves Status streams left =
    ends-same (stream_ring before.lines.status (tag_of state.tags place)) (stream_ring after.lines.status (tag_of state.tags place))
    (ap (λ rs. stream_ring rs (tag_of state.tags place)) moves.status)
moved-ends state before after place unit task lent posted moves DataIn streams left = moves.data_in_ends
moved-ends state before after place unit task lent posted moves DataOut streams left = moves.data_out_ends

-- what the place has now fits its cell, and so does everything else
pub fits-moved : (state : Shared) (before after : World) (place : Place) (part : Part) (unit : BlockMaps) (entry : Entry) (task : Option DeviceTask)
    (lent : List ℕ) (posted : List Event) (done : List Completion)
    → Fits state before → IsFound state.tags before place.client part → slice_get state.parts place.client ≡ Some part → place.slot < state.tags
    → MovesChunk state.tags before after place unit task lent posted → unit.count ≡ part.unit.count → data_events place state.events ≡ 0
    → FitsCell state.tags place.client part.unit.count place entry (cell_at state.tags after place)
    → carried_places done ≡ [] → event_texts state.tags after (0 + length (carried_places state.events)) done ≡ posted
    → IsMatched (moved_state state place part unit entry done) → IsSoundWorld after → Fits (moved_state state place part unit entry done) after
fits-moved state before after place part unit entry task lent posted done fits found there within moves count none here quiet texts matched sound =
    let changes : ChangesCell state.tags before after place.client place.slot found.held unit =
    changes-cell state.tags before after place unit task lent posted found.held moves found.held_is in
    let parts : length (slice_set state.parts place.client (with_entry (record part { unit = unit }) place.slot entry)) ≡ length state.parts =
    length-set state.parts place.client _ in
    let greatest : greatest_tag (moved_state state place part unit entry done) ≡ greatest_tag state = ap (λ n. n * state.tags) parts in
    let is_place : IsPlace state.tags (length state.parts) place = record { client = get-within state.parts place.client part there; slot = within } in
    record {
      tags = ap (λ (h : HostState). h.tags) moves.host ∙ fits.tags;
      some_client = omega (arith, fits.some_client, parts);
      most_clients = omega (arith, fits.most_clients, parts);
      most_tags = omega (arith, fits.most_tags, greatest);
      status = ap (λ (c : ControllerState). c.status) moves.controller ∙ fits.status;
      data_in = ap (λ (c : ControllerState). c.data_in) moves.controller ∙ fits.data_in;
      data_out = ap (λ (c : ControllerState). c.data_out) moves.controller ∙ fits.data_out;
      sound = sound;
      queues = queues-moved state before after place part unit entry task lent posted done moves fits.matched fits.queues within none quiet texts;
      engine = engine-changed state (moved_state state place part unit entry done) before after place fits.matched fits.engine refl refl
          (ap (λ (h : HostState). h.retirement) moves.host) moves.engine within (keeps-others state.tags before after place unit task lent posted moves)
          (moved-ends state before after place unit task lent posted moves);
      matched = matched;
      clients = AllFit-set state.tags before after state.parts place.client place.slot unit found.held part
          (with_entry (record part { unit = unit }) place.slot entry) fits.clients there within changes
          (FitsPart-set state.tags fits.matched.tags before after place.client place.slot part.unit unit found.held found.held part
          (Some entry) part.least_ticket part.ready found.fits within changes count found.fits.least_ticket found.fits.ready here);
      others = λ other past.
          let past_all : greatest_tag state < other = omega (arith, past, greatest) in
          let apart : other ≡ tag_of state.tags place → ⊥ = beyond-apart state.tags (length state.parts) place other is_place past_all in
          ap (λ ts. held_under ts other) moves.tasks ∙ held_under-with_other before.device.tasks (tag_of state.tags place) other task apart ∙ fits.others other past_all;
      unused = λ other past.
          let past_all : greatest_tag state < other = omega (arith, past, greatest) in
          unused-kept state.tags before after place other fits.matched.tags (keeps-others state.tags before after place unit task lent posted moves)
          (omega (arith, past_all)) (beyond-apart state.tags (length state.parts) place other is_place past_all) (fits.unused other past_all);
    }

-- What the steps of a retirement leave of the world: the cells and the event texts, and what stands on a place's rings. Cited by
-- the proofs of Engine, Retire and the event of the controller's command.
use Rattle.std.proofs.Common.{◌≡◌, ℕ, suc, ◌<◌, ◌≤◌, Bool, false, List, [], ◌∷◌, ◌++◌, length, length-set, Some, None}
use Rattle.std.proofs.Common.{refl, arith, ap, sym, subst, ◌∙◌}
use Rattle.std.specs.Prelude.{slice_get, slice_set, slice_index_or}
use Rattle.std.specs.Option.{option_map_or}
use Rattle.std.proofs.lemmas.List.{append-nil}
use Rattle.block_unit.specs.BlockMaps.{BlockMaps}
use Rattle.cycle_ring.specs.Ring.{pointer_of}
use Rattle.cycle_ring.specs.Items.{ItemRing}
use Rattle.event_ring.specs.declared.Event.TheVariants.{Transfer}
use Rattle.uas_profile.specs.declared.Pipe.{Pipe}
use Rattle.uas_profile.specs.declared.Pipe.TheVariants.{Command, Status, DataIn, DataOut}
use Rattle.uas_profile.specs.declared.TheConstants.{COMMAND_RING_PLACES, SLOT, SUCCESS}
use Rattle.stream_array.specs.Rings.{LinesState, stream_ring, with_ring}
use Rattle.frame_store.specs.Buffers.{held_for}
use Rattle.scsi_cmd.specs.Held.{held_at}
use Rattle.uas_profile.specs.declared.Place.{Place}
use Rattle.uas_host.specs.declared.HostClient.{HostClient}
use Rattle.uas_host.specs.State.{new_client}
use Rattle.uas_profile.specs.Tags.{place_of, tag_of}
use Rattle.uas_target.specs.Device.{Device, task_of}
use Rattle.xhci_ctl.specs.Steps.{endpoint_of}
use Rattle.shared_machine.specs.declared.Completion.{Completion}
use Rattle.shared_machine.specs.declared.Completion.TheVariants.{CommandDone, DataDone, StatusDone, EngineDone}
use Rattle.shared_machine.specs.Bus.{IsPlace}
use Rattle.shared_machine.specs.Td.{Entry}
use Rattle.shared_machine.specs.Part.{Part}
use Rattle.shared_machine.specs.Shared.{Shared, entry_fact}
use Rattle.machine_invariant.specs.Matched.{IsMatched, carried_places, data_events, retired_places, status_events}
use Rattle.bus_core.specs.World.{World, Cell, cell_at}
use Rattle.bus_core.specs.Cells.{FitsCell, FitsHeld, HoldsTrbs, IsEmptyCell}
use Rattle.bus_core.specs.Fits.{AreUnused, Fits, FitsClient, FitsEngine, FitsPart, FitsQueues, IsSoundWorld, data_event, engine_event, event_texts, place_in}
use Rattle.bus_core.specs.Fits.{status_event}
use Rattle.bus_core.proofs.common.CellWrites.{stream_ring-other}
use Rattle.bus_core.proofs.common.EventTexts.{carried_places-append, event_texts-append}
use Rattle.bus_core.proofs.common.Framing.{AllFit, AllFit-set, ChangesCell, FitsClient-kept, SamePipes, fits-anew, found}
use Rattle.machine_invariant.proofs.MatchedPlaces.{one_self}
use Rattle.shared_machine.proofs.Standing.{get-none}
use Rattle.shared_machine.specs.Shared.{greatest_tag}
use Rattle.uas_profile.proofs.TagLaws.{named-is_place}
use Rattle.uas_profile.specs.Tags.{AreTags}
use Rattle.bus_core.proofs.common.Framing.{beyond-apart}

-- A PLACE AND ITS CELL

-- a tag that names a place names one that is there
pub is-place : (tags clients tag : ℕ) (place : Place) → 0 < tags → place_of tags clients tag ≡ Some place → IsPlace tags clients place
is-place tags clients tag place some is =
    let named = named-is_place tags clients tag place some is in
    record { client = named.client; slot = named.slot }

-- what is so of a cell and a fact of its place: where nothing stands there and where an entry does
pub at-place : (tags : ℕ) (parts : List Part) (world : World) (place : Place) (fact : Entry → Bool) (P : Cell → Bool → Type 0) → AllFit tags world parts
    → IsPlace tags (length parts) place → (IsEmptyCell (cell_at tags world place) → P (cell_at tags world place) false)
    → ((entry : Entry) (count : ℕ) → FitsCell tags place.client count place entry (cell_at tags world place) → P (cell_at tags world place) (fact entry))
    → P (cell_at tags world place) (option_map_or (entry_fact fact place.slot) (slice_get parts place.client) false)
at-place tags parts world place fact P all there empty full =
    elim (slice_get parts place.client) as (λ o. slice_get parts place.client ≡ o
    → P (cell_at tags world place) (option_map_or (entry_fact fact place.slot) o false)) [
      | None ↦ λ is. absurd (omega (arith, there.client, get-none parts place.client is))
      | Some part ↦ λ is.
          let cell : FitsHeld tags place.client part.unit.count place (held_at part.entries place.slot) (cell_at tags world place) =
          (found tags world parts place.client part all is).fits.cells place.slot there.slot in
          elim (held_at part.entries place.slot) as (λ h. FitsHeld tags place.client part.unit.count place h (cell_at tags world place)
          → P (cell_at tags world place) (option_map_or fact h false)) [
            | None ↦ λ fits. empty fits
            | Some entry ↦ λ fits. full entry part.unit.count fits
          ] cell
    ] refl

-- NO CELL CHANGES

-- The clients, the device, the buffers and the streams of two worlds are the same.
pub record KeepsCells (before after : World) : Type 0 where
  pub number : after.host.tags ≡ before.host.tags
  pub hosts : after.host.clients ≡ before.host.clients
  pub device : after.device ≡ before.device
  pub frames : after.frames ≡ before.frames
  pub status : after.lines.status ≡ before.lines.status
  pub data_in : after.lines.data_in ≡ before.lines.data_in
  pub data_out : after.lines.data_out ≡ before.lines.data_out

cell-kept : (tags : ℕ) (before after : World) (place : Place) → KeepsCells before after → cell_at tags after place ≡ cell_at tags before place
cell-kept tags before after place kept =
    let hosts = kept.hosts in
    let device = kept.device in
    let frames = kept.frames in
    let status = kept.status in
    let data_in = kept.data_in in
    let data_out = kept.data_out in
    λ i. record {
      held = held_at (slice_index_or (hosts i) place.client new_client).entries place.slot;
      task = task_of (device i) (tag_of tags place);
      status = stream_ring (status i) (tag_of tags place);
      data_in = stream_ring (data_in i) (tag_of tags place);
      data_out = stream_ring (data_out i) (tag_of tags place);
      buffers = held_for (frames i) (tag_of tags place);
    }

pub all-kept : (tags : ℕ) (before after : World) (parts : List Part) → AllFit tags before parts → KeepsCells before after → AllFit tags after parts
all-kept tags before after parts all kept client =
    subst (λ us. FitsClient tags after client (slice_get us client) (slice_get after.host.clients client) (slice_get parts client))
    (sym (ap (λ (d : Device). d.units) kept.device))
    (subst (λ hs. FitsClient tags after client (slice_get before.device.units client) (slice_get hs client) (slice_get parts client)) (sym kept.hosts)
    (FitsClient-kept tags before after client (slice_get before.device.units client) (slice_get before.host.clients client) (slice_get parts client) (all client)
    (λ there is slot within. cell-kept tags before after (place_in client slot) kept)))

-- a step that writes no cell: the world fits where its queues, its pipes and the controller's command ring do
pub kept-fits : (state now : Shared) (before after : World) → Fits state before → KeepsCells before after → now.tags ≡ state.tags → now.parts ≡ state.parts
    → SamePipes after.controller now → FitsQueues now after → FitsEngine now after → IsMatched now → IsSoundWorld after → Fits now after
kept-fits state now before after fits kept number parts pipes queues engine matched sound =
    fits-anew state now before after fits number kept.number (ap length parts) pipes sound queues engine matched
    (subst (AllFit state.tags after) (sym parts) (all-kept state.tags before after state.parts fits.clients kept))
    (λ tag above. ap (λ (d : Device). task_of d tag) kept.device ∙ fits.others tag above)
    (λ tag above. unused-kept before after tag kept (fits.unused tag above))
  where
    unused-kept : (before after : World) (tag : ℕ) → KeepsCells before after → AreUnused before.lines tag → AreUnused after.lines tag
    unused-kept before after tag kept none = record {
      status = subst (λ rings. HoldsTrbs (stream_ring rings tag) [] 0) (sym kept.status) none.status;
      data_in = subst (λ rings. HoldsTrbs (stream_ring rings tag) [] 0) (sym kept.data_in) none.data_in;
      data_out = subst (λ rings. HoldsTrbs (stream_ring rings tag) [] 0) (sym kept.data_out) none.data_out;
    }

-- ONE CELL CHANGES

-- the rings of all other tags are as they were
pub record KeepsRings (tags : ℕ) (before after : LinesState) (place : Place) : Type 0 where
  pub status : (tag : ℕ) → 0 < tag → (tag ≡ tag_of tags place → ⊥) → stream_ring after.status tag ≡ stream_ring before.status tag
  pub data_in : (tag : ℕ) → 0 < tag → (tag ≡ tag_of tags place → ⊥) → stream_ring after.data_in tag ≡ stream_ring before.data_in tag
  pub data_out : (tag : ℕ) → 0 < tag → (tag ≡ tag_of tags place → ⊥) → stream_ring after.data_out tag ≡ stream_ring before.data_out tag

-- one ring of a place was written
pub with_ring-keeps : (tags : ℕ) (lines : LinesState) (pipe : Pipe) (place : Place) (ring : ItemRing) → KeepsRings tags lines (with_ring lines pipe (tag_of tags place) ring) place
with_ring-keeps tags lines Command place ring = record { status = λ tag some apart. refl; data_in = λ tag some apart. refl; data_out = λ tag some apart. refl }
with_ring-keeps tags lines Status place ring = record {
  status = λ tag some apart. stream_ring-other lines.status (tag_of tags place) tag ring (omega arith) some apart;
  data_in = λ tag some apart. refl;
  data_out = λ tag some apart. refl;
}
with_ring-keeps tags lines DataIn place ring = record {
  status = λ tag some apart. refl;
  data_in = λ tag some apart. stream_ring-other lines.data_in (tag_of tags place) tag ring (omega arith) some apart;
  data_out = λ tag some apart. refl;
}
with_ring-keeps tags lines DataOut place ring = record {
  status = λ tag some apart. refl;
  data_in = λ tag some apart. refl;
  data_out = λ tag some apart. stream_ring-other lines.data_out (tag_of tags place) tag ring (omega arith) some apart;
}

-- one client's part was written, under one of its slots
pub record WritesOne (state now : Shared) (before after : World) (place : Place) (unit : BlockMaps) (held : HostClient) (part : Part) : Type 0 where
  pub tags : now.tags ≡ state.tags
  pub number : after.host.tags ≡ before.host.tags
  pub parts : now.parts ≡ slice_set state.parts place.client part
  pub changes : ChangesCell state.tags before after place.client place.slot held unit
  pub device : after.device ≡ before.device
  pub rings : KeepsRings state.tags before.lines after.lines place
  pub client : FitsPart state.tags after place.client unit held part

pub written-all : (state now : Shared) (before after : World) (place : Place) (was : Part) (unit : BlockMaps) (held : HostClient) (part : Part)
    → AllFit state.tags before state.parts → slice_get state.parts place.client ≡ Some was → place.slot < state.tags → WritesOne state now before after place unit held part
    → AllFit state.tags after now.parts
written-all state now before after place was unit held part all there within writes =
    subst (AllFit state.tags after) (sym writes.parts)
    (AllFit-set state.tags before after state.parts place.client place.slot unit held was part all there within writes.changes writes.client)

-- the rings of tags that are no client's are other rings
pub written-unused : (state now : Shared) (before after : World) (place : Place) (unit : BlockMaps) (held : HostClient) (part : Part)
    → AreTags state.tags → ((tag : ℕ) → greatest_tag state < tag → AreUnused before.lines tag) → IsPlace state.tags (length state.parts) place
    → WritesOne state now before after place unit held part → (tag : ℕ) → greatest_tag state < tag → AreUnused after.lines tag
written-unused state now before after place unit held part are unused there writes tag above =
    let none : AreUnused before.lines tag = unused tag above in
    let apart : tag ≡ tag_of state.tags place → ⊥ = beyond-apart state.tags (length state.parts) place tag there above in
    let some : 0 < tag = omega (arith, above) in
    record {
      status = subst (λ ring. HoldsTrbs ring [] 0) (sym (writes.rings.status tag some apart)) none.status;
      data_in = subst (λ ring. HoldsTrbs ring [] 0) (sym (writes.rings.data_in tag some apart)) none.data_in;
      data_out = subst (λ ring. HoldsTrbs ring [] 0) (sym (writes.rings.data_out tag some apart)) none.data_out;
    }

pub written-fits : (state now : Shared) (before after : World) (place : Place) (was : Part) (unit : BlockMaps) (held : HostClient) (part : Part)
    → Fits state before → slice_get state.parts place.client ≡ Some was → IsPlace state.tags (length state.parts) place
    → WritesOne state now before after place unit held part
    → SamePipes after.controller now → FitsQueues now after → FitsEngine now after → IsMatched now → IsSoundWorld after → Fits now after
written-fits state now before after place was unit held part fits there is_place writes pipes queues engine matched sound =
    let long : length now.parts ≡ length state.parts = ap length writes.parts ∙ length-set state.parts place.client part in
    fits-anew state now before after fits writes.tags writes.number long pipes sound queues engine matched
    (written-all state now before after place was unit held part fits.clients there is_place.slot writes)
    (λ tag above. ap (λ (d : Device). task_of d tag) writes.device ∙ fits.others tag above)
    (λ tag above. written-unused state now before after place unit held part fits.matched.tags fits.unused is_place writes tag above)

-- THE EVENTS

-- no event of the controller's own commands waits, and what each other event reads is the same
pub record ReadsAlike (tags : ℕ) (before after : World) (events : List Completion) : Type 0 where
  pub none : retired_places events ≡ []
  pub command_base : after.lines.command ≡ before.lines.command
  pub moved : (place : Place) → 1 ≤ data_events place events
      → data_event (stream_ring after.lines.data_in (tag_of tags place)) (stream_ring after.lines.data_out (tag_of tags place))
      ≡ data_event (stream_ring before.lines.data_in (tag_of tags place)) (stream_ring before.lines.data_out (tag_of tags place))
  pub sent : (place : Place) → 1 ≤ status_events place events
      → status_event tags place.slot (stream_ring after.lines.status (tag_of tags place)) (held_for after.frames (tag_of tags place)).status
      ≡ status_event tags place.slot (stream_ring before.lines.status (tag_of tags place)) (held_for before.frames (tag_of tags place)).status

no-cons : {T : Type 0} (first : T) (rest : List T) → first ∷ rest ≡ [] → ⊥
no-cons first rest is = let no : suc (length rest) ≡ 0 = ap length is in omega (arith, no)

pub texts-alike : (tags : ℕ) (before after : World) (k : ℕ) (events : List Completion) → ReadsAlike tags before after events
    → event_texts tags after k events ≡ event_texts tags before k events
texts-alike tags before after k [] alike = refl
texts-alike tags before after k (CommandDone place ∷ rest) alike =
    ap (λ (ring : ItemRing). Transfer (pointer_of COMMAND_RING_PLACES ring k) 0 SUCCESS (endpoint_of Command) SLOT ∷ event_texts tags after (suc k) rest)
    alike.command_base
    ∙ ap (λ es. Transfer (pointer_of COMMAND_RING_PLACES before.lines.command k) 0 SUCCESS (endpoint_of Command) SLOT ∷ es)
    (texts-alike tags before after (suc k) rest
    (record { none = alike.none; command_base = alike.command_base; moved = alike.moved; sent = alike.sent }))
texts-alike tags before after k (DataDone place ∷ rest) alike =
    ap (λ e. e ∷ event_texts tags after k rest) (alike.moved place (omega (arith, one_self place)))
    ∙ ap (λ es. data_event (stream_ring before.lines.data_in (tag_of tags place)) (stream_ring before.lines.data_out (tag_of tags place)) ∷ es)
    (texts-alike tags before after k rest (record {
      none = alike.none;
      command_base = alike.command_base;
      moved = λ other some. alike.moved other (omega (arith, some));
      sent = alike.sent;
    }))
texts-alike tags before after k (StatusDone place ∷ rest) alike =
    ap (λ e. e ∷ event_texts tags after k rest) (alike.sent place (omega (arith, one_self place)))
    ∙ ap (λ es. status_event tags place.slot (stream_ring before.lines.status (tag_of tags place)) (held_for before.frames (tag_of tags place)).status ∷ es)
    (texts-alike tags before after k rest (record {
      none = alike.none;
      command_base = alike.command_base;
      moved = alike.moved;
      sent = λ other some. alike.sent other (omega (arith, some));
    }))
texts-alike tags before after k (EngineDone place ∷ rest) alike = absurd (no-cons place (retired_places rest) alike.none)

-- the event of the controller's own command comes behind all others, and names no TRB of the command pipe
pub texts-last : (tags : ℕ) (world : World) (k : ℕ) (events : List Completion) (place : Place)
    → event_texts tags world k (events ++ EngineDone place ∷ []) ≡ event_texts tags world k events ++ engine_event world.lines.engine ∷ []
texts-last tags world k events place = event_texts-append tags world k events (EngineDone place ∷ [])

pub carried-last : (events : List Completion) (place : Place) → carried_places (events ++ EngineDone place ∷ []) ≡ carried_places events
carried-last events place = carried_places-append events (EngineDone place ∷ []) ∙ append-nil (carried_places events)

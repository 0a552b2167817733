-- An event of a TD that waits, the world once the host has seen it, and why that fits where its rings do.
use Rattle.std.proofs.Common.{◌≡◌, ℕ, ◌<◌, ◌≤◌, true, cond, List, [], ◌∷◌, ◌++◌, length, length-set, Option, Some, None, refl, arith, ap, sym, subst, ◌∙◌}
use Rattle.std.proofs.Common.{false}
use Rattle.std.specs.Prelude.{slice_get, slice_set, option_and_then}
use Rattle.std.specs.Option.{option_map_or}
use Rattle.std.proofs.lemmas.Bool.{false≢true}
use Rattle.uas_profile.specs.declared.TheConstants.{STREAMS}
use Rattle.cycle_ring.specs.Items.{known_consumed_at}
use Rattle.uas_profile.specs.declared.Pipe.{Pipe}
use Rattle.uas_profile.specs.declared.Pipe.TheVariants.{Command, Status, DataIn, DataOut}
use Rattle.stream_array.specs.Map.{places_of, spot_at}
use Rattle.stream_array.specs.Rings.{LinesState, ring_of, stream_ring}
use Rattle.scsi_cmd.specs.declared.Request.{Request}
use Rattle.scsi_cmd.specs.Held.{held_at}
use Rattle.uas_host.specs.declared.EndedTd.{EndedTd}
use Rattle.uas_host.specs.declared.Handled.TheVariants.{Matched}
use Rattle.uas_host.specs.Notices.{Notice}
use Rattle.uas_profile.specs.declared.Place.{Place}
use Rattle.uas_host.specs.declared.HostClient.{HostClient}
use Rattle.uas_host.specs.State.{HostState, client_of}
use Rattle.uas_profile.specs.Tags.{tag_of}
use Rattle.uas_host.specs.Tds.{data_td, status_td}
use Rattle.uas_host.specs.Events.{host_seen, ended_at, ended_on, ended_td, freed_on, handled_td, handled_notice, handled_seen, notice_of, seen}
use Rattle.uas_host.specs.Seen.{completes}
use Rattle.shared_machine.specs.declared.Td.{Td}
use Rattle.shared_machine.specs.declared.Completion.{Completion}
use Rattle.shared_machine.specs.declared.Completion.TheVariants.{CommandDone, DataDone, StatusDone, EngineDone}
use Rattle.shared_machine.specs.declared.Outcome.{Outcome}
use Rattle.shared_machine.specs.declared.Step.TheVariants.{Event as EventStep}
use Rattle.shared_machine.specs.Bus.{IsPlace}
use Rattle.shared_machine.specs.Td.{Entry, is_left_over_on, is_ready}
use Rattle.shared_machine.specs.Part.{Act, Part, after_event, event_act, event_place, ready_after, seen_by, seen_entry}
use Rattle.shared_machine.specs.Shared.{Shared, acted_on, event_step, idle, is_some_of, request_direction, routed, routed_to, shared_step}
use Rattle.machine_invariant.specs.Matched.{IsMatched, IsMatchedEntry, IsOwnEvent, IsOwnTdEvent, awaits_event, held_in, is_left_over_at, is_td_event, request_bytes}
use Rattle.bus_core.specs.World.{Cell, World, cell_at}
use Rattle.bus_core.specs.Cells.{FitsCell, FitsHeld, HoldsData, HoldsTd, data_in_td, data_out_td, host_side}
use Rattle.bus_core.specs.Fits.{Fits, FitsQueues, IsSoundWorld, place_in}
use Rattle.bus_core.specs.WorldSteps.{event_sides, without_event}
use Rattle.bus_core.proofs.common.CellEntries.{cell-tds, with_tds}
use Rattle.bus_core.proofs.common.CellWrites.{client_of-found, entry_at-same, entry_at-other}
use Rattle.bus_core.proofs.common.EventTexts.{KeepsOthers}
use Rattle.bus_core.proofs.common.Framing.{AllFit-set, EndsStay, FitsPart-set, ChangesCell, IsFound, engine-changed, found, unused-kept}
use Rattle.bus_core.proofs.event.HostSees.{client_with, host_with, host_seen-is, is_ready-side}
use Rattle.machine_invariant.proofs.MatchedNext.{matched-no_stray}
use Rattle.machine_invariant.proofs.MatchedSteps.{IsHeld, matched-held, seen_part, seen_state, shared_step-matched}
use Rattle.shared_machine.proofs.Standing.{slice_get-back, get-within}
use Rattle.bus_core.proofs.take.Taking.{fits-besides, ready-found}
use Rattle.bus_core.proofs.common.Framing.{beyond-apart}
use Rattle.uas_profile.proofs.TagLaws.{tags-within}

-- AN EVENT THAT WAITS

-- the first event, and what stands at its place
pub record IsSeenAt (state : Shared) (world : World) (done : Completion) (rest : List Completion) : Type 0 where
  pub is : state.events ≡ done ∷ rest
  pub part : Part
  pub entry : Entry
  pub there : slice_get state.parts (event_place done).client ≡ Some part
  pub held : held_at part.entries (event_place done).slot ≡ Some entry
  pub it : IsFound state.tags world (event_place done).client part
  pub is_place : IsPlace state.tags (length state.parts) (event_place done)
  pub most : tag_of state.tags (event_place done) ≤ STREAMS
  pub cell : FitsCell state.tags (event_place done).client part.unit.count (event_place done) entry (cell_at state.tags world (event_place done))
  pub matched : IsMatchedEntry state.tags (event_place done).slot entry
  pub awaits : awaits_event done entry ≡ true

own-td : (state : Shared) (done : Completion) → is_td_event done ≡ true → IsOwnEvent state done → IsOwnTdEvent state.tags state.parts done
own-td state (CommandDone place) of_td own = own
own-td state (DataDone place) of_td own = own
own-td state (StatusDone place) of_td own = own
own-td state (EngineDone place) of_td own = absurd (false≢true of_td)

pub seen-at : (state : Shared) (world : World) (done : Completion) (rest : List Completion) → Fits state world → state.events ≡ done ∷ rest
    → is_td_event done ≡ true → IsSeenAt state world done rest
seen-at state world done rest fits is of_td =
    let own : IsOwnTdEvent state.tags state.parts done =
    own-td state done of_td ((matched-no_stray state fits.matched).events 0 done (ap (λ es. slice_get es 0) is)) in
    let at : IsHeld state (event_place done) own.entry = matched-held state (event_place done) own.entry fits.matched own.held in
    let it : IsFound state.tags world (event_place done).client at.found.part = found state.tags world state.parts
    (event_place done).client at.found.part fits.clients at.found.there in
    record {
      is = is;
      part = at.found.part;
      entry = own.entry;
      there = at.found.there;
      held = at.found.held;
      it = it;
      is_place = own.there;
      most = omega (arith, (tags-within state.tags (length state.parts) (event_place done) own.there.client own.there.slot).1, fits.most_tags);
      cell = subst (λ o. FitsHeld state.tags (event_place done).client at.found.part.unit.count (event_place done) o (cell_at state.tags world (event_place done))) at.found.held
          (it.fits.cells (event_place done).slot own.there.slot);
      matched = at.here.sound;
      awaits = own.awaits;
    }

-- THE STEP

-- an event of a TD is an act of its client
td_step-is : (state : Shared) (done : Completion) (rest : List Completion) → is_td_event done ≡ true
    → event_step state (done ∷ rest) ≡ routed (record state { events = rest }) (event_place done).client (event_act done)
td_step-is state (CommandDone place) rest of_td = refl
td_step-is state (DataDone place) rest of_td = refl
td_step-is state (StatusDone place) rest of_td = refl
td_step-is state (EngineDone place) rest of_td = absurd (false≢true of_td)

seen-is : (state : Shared) (done : Completion) (rest : List Completion) → state.events ≡ done ∷ rest → is_td_event done ≡ true
    → shared_step state EventStep ≡ routed (record state { events = rest }) (event_place done).client (event_act done)
seen-is state done rest is of_td = ap (λ es. cond (is_some_of es) (event_step state es) (state, idle)) is ∙ td_step-is state done rest of_td

-- the client's part with what stands at the place now, and what the event makes of all that the client has
abbrev pub answered_part : Completion → Part → Entry → Part
answered_part done part new = record part {
  entries = after_event done new.task.request (slice_set part.entries (event_place done).slot (Some new));
  ready = ready_after part.ready (event_place done).slot new;
}

abbrev pub answered_state : Shared → Completion → Part → Entry → List Completion → Shared
answered_state state done part new rest = record state {
  parts = slice_set state.parts (event_place done).client (answered_part done part new);
  events = rest ++ [];
}

pub seen-answered : (state : Shared) (done : Completion) (rest : List Completion) (part : Part) (old new : Entry) → state.events ≡ done ∷ rest
    → is_td_event done ≡ true → slice_get state.parts (event_place done).client ≡ Some part
    → held_at part.entries (event_place done).slot ≡ Some old → seen_by done old ≡ Some new
    → (shared_step state EventStep).0 ≡ answered_state state done part new rest
seen-answered state done rest part old new is of_td there held sees =
    let popped : Shared = record state { events = rest } in
    let place : Place = event_place done in
    ap (λ after. after.0) (seen-is state done rest is of_td)
    ∙ ap (λ found. (routed_to popped place.client (event_act done) found).0) there
    ∙ ap (λ found. (acted_on popped place.client (seen_entry done part place.slot (option_and_then (seen_by done) found))).0) held
    ∙ ap (λ after. (acted_on popped place.client (seen_entry done part place.slot after)).0) sees

-- any event but a response, which may leave over what commands wait for, changes nothing of the client's other entries
abbrev pub ChangesOne : Completion → Request → Type 0
ChangesOne done request = (entries : List (Option Entry)) → after_event done request entries ≡ entries

pub seen-stepped : (state : Shared) (done : Completion) (rest : List Completion) (part : Part) (old new : Entry) → state.events ≡ done ∷ rest
    → is_td_event done ≡ true → ChangesOne done new.task.request → slice_get state.parts (event_place done).client ≡ Some part
    → held_at part.entries (event_place done).slot ≡ Some old → seen_by done old ≡ Some new
    → (shared_step state EventStep).0 ≡ seen_state state (event_place done) part new rest
seen-stepped state done rest part old new is of_td one there held sees =
    let place : Place = event_place done in
    seen-answered state done rest part old new is of_td there held sees
    ∙ ap (λ entries. record state {
      parts = slice_set state.parts place.client (record part { entries = entries; ready = ready_after part.ready place.slot new });
      events = rest ++ [];
    }) (one (slice_set part.entries place.slot (Some new)))

routed-quiet : (state : Shared) (client : ℕ) (act : Part → Act) (found : Option Part) → (routed_to state client act found).1.doors ≡ []
routed-quiet state client act None = refl
routed-quiet state client act (Some part) = refl

-- it rings no doorbell
pub seen-quiet : (state : Shared) (done : Completion) (rest : List Completion) → state.events ≡ done ∷ rest → is_td_event done ≡ true
    → (shared_step state EventStep).1.doors ≡ []
seen-quiet state done rest is of_td =
    ap (λ (after : Shared × Outcome). after.1.doors) (seen-is state done rest is of_td)
    ∙ routed-quiet (record state { events = rest }) (event_place done).client (event_act done) (slice_get state.parts (event_place done).client)

-- what is left over at its place is a TD of its entry
pub left-on : (state : Shared) (world : World) (done : Completion) (rest : List Completion) (at : IsSeenAt state world done rest) (pipe : Pipe)
    → is_left_over_at state pipe (event_place done) ≡ true → is_left_over_on pipe at.entry ≡ true
left-on state world done rest at pipe left =
    let stands = ap (λ found. option_map_or (held_in (event_place done)) found None) at.there ∙ at.held in
    ap (λ held. option_map_or (is_left_over_on pipe) held false) (sym stands) ∙ left

-- THE WORLD AFTER IT

-- the host saw it, and the rings are these
abbrev pub seen_world : World → LinesState → Place → Entry → World
seen_world world lines place now = record world { host = host_with world.host place now; lines = lines }

-- the rings of all other tags are as they were, and those of the place hold its TDs
pub record FreesOne (tags : ℕ) (world : World) (lines : LinesState) (place : Place) (now : Entry) : Type 0 where
  pub engine : lines.engine ≡ world.lines.engine
  pub status_others : (tag : ℕ) → 0 < tag → (tag ≡ tag_of tags place → ⊥) → stream_ring lines.status tag ≡ stream_ring world.lines.status tag
  pub data_in_others : (tag : ℕ) → 0 < tag → (tag ≡ tag_of tags place → ⊥) → stream_ring lines.data_in tag ≡ stream_ring world.lines.data_in tag
  pub data_out_others : (tag : ℕ) → 0 < tag → (tag ≡ tag_of tags place → ⊥) → stream_ring lines.data_out tag ≡ stream_ring world.lines.data_out tag
  pub status : HoldsTd (stream_ring lines.status (tag_of tags place)) (status_td (tag_of tags place)) now.status_td
  pub data_in : HoldsData (stream_ring lines.data_in (tag_of tags place)) (data_td (tag_of tags place) (request_bytes now.task.request))
      (data_in_td (request_direction now.task.request) now.data_td)
  pub data_out : HoldsData (stream_ring lines.data_out (tag_of tags place)) (data_td (tag_of tags place) (request_bytes now.task.request))
      (data_out_td (request_direction now.task.request) now.data_td)

pub seen-others : (state : Shared) (world : World) (done : Completion) (rest : List Completion) (lines : LinesState) (now : Entry)
    → IsSeenAt state world done rest
    → FreesOne state.tags world lines (event_place done) now → KeepsOthers state.tags world (seen_world world lines (event_place done) now) (event_place done)
seen-others state world done rest lines now at frees other slot inside apart =
    let place : Place = event_place done in
    let held_is = entry_at-other state.tags world.host (event_place done).client (event_place done).slot other slot
    (client_with (client_of world.host (event_place done).client) (event_place done).slot (host_side now)) (Some (host_side now))
    (get-within world.host.clients (event_place done).client at.it.held at.it.held_is) refl apart in
    let status_is = frees.status_others (tag_of state.tags (place_in other slot)) (omega arith) apart in
    let in_is = frees.data_in_others (tag_of state.tags (place_in other slot)) (omega arith) apart in
    let out_is = frees.data_out_others (tag_of state.tags (place_in other slot)) (omega arith) apart in
    λ i. record (cell_at state.tags world (place_in other slot)) { held = held_is i; status = status_is i; data_in = in_is i; data_out = out_is i }

pub seen-cell : (state : Shared) (world : World) (done : Completion) (rest : List Completion) (lines : LinesState) (at : IsSeenAt state world done rest)
    (command status : Td) (moved : Option Td)
    → Fits state world → FreesOne state.tags world lines (event_place done) (with_tds at.entry command status moved)
    → FitsCell state.tags (event_place done).client at.part.unit.count (event_place done) (with_tds at.entry command status moved)
    (cell_at state.tags (seen_world world lines (event_place done) (with_tds at.entry command status moved)) (event_place done))
seen-cell state world done rest lines at command status moved fits frees =
    let there = get-within world.host.clients (event_place done).client at.it.held at.it.held_is in
    let now : Entry = with_tds at.entry command status moved in
    let after : Cell = cell_at state.tags (seen_world world lines (event_place done) (with_tds at.entry command status moved)) (event_place done) in
    cell-tds state.tags (event_place done).client at.part.unit.count (event_place done) at.entry (cell_at state.tags world (event_place done)) command status moved
    after.held after.status after.data_in after.data_out at.cell
    (entry_at-same world.host (event_place done).client (event_place done).slot
    (client_with (client_of world.host (event_place done).client) (event_place done).slot (host_side now))
    (client_of world.host (event_place done).client).entries
    (Some (host_side now)) there (omega (arith, at.is_place.slot, (fits.sound.host.clients (event_place done).client there).slots, fits.matched.tags.most)) refl)
    frees.status frees.data_in frees.data_out

-- what became ready is the last of its client's ready ones
pub queue-same : (tags : ℕ) (world : World) (client slot : ℕ) (part : Part) (now : Entry) → IsFound tags world client part
    → ready_after part.ready slot now ≡ (client_with (client_of world.host client) slot (host_side now)).ready.items
queue-same tags world client slot part now it =
    ap (λ q. cond (is_ready now) (q ++ slot ∷ []) q) (sym (ready-found tags world client part it))
    ∙ ap (λ b. cond b ((client_of world.host client).ready.items ++ slot ∷ []) (client_of world.host client).ready.items) (sym (is_ready-side now))

pub event-fits : (state : Shared) (world : World) (done : Completion) (rest : List Completion) (lines : LinesState)
    (at : IsSeenAt state world done rest) (command status : Td) (moved : Option Td)
    → Fits state world → is_td_event done ≡ true → ChangesOne done at.entry.task.request
    → seen_by done at.entry ≡ Some (with_tds at.entry command status moved)
    → FreesOne state.tags world lines (event_place done) (with_tds at.entry command status moved)
    → EndsStay state world (seen_world world lines (event_place done) (with_tds at.entry command status moved)) (event_place done)
    → FitsQueues (seen_state state (event_place done) at.part (with_tds at.entry command status moved) rest)
    (seen_world world lines (event_place done) (with_tds at.entry command status moved))
    → IsSoundWorld (seen_world world lines (event_place done) (with_tds at.entry command status moved))
    → Fits (shared_step state EventStep).0 (seen_world world lines (event_place done) (with_tds at.entry command status moved))
event-fits state world done rest lines at command status moved fits of_td one sees frees ends queues sound =
    let client : ℕ = (event_place done).client in
    let slot : ℕ = (event_place done).slot in
    let now : Entry = with_tds at.entry command status moved in
    let after : World = seen_world world lines (event_place done) now in
    let stepped : (shared_step state EventStep).0 ≡ seen_state state (event_place done) at.part now rest =
    seen-stepped state done rest at.part at.entry now at.is of_td one at.there at.held sees in
    let others = seen-others state world done rest lines now at frees in
    let held_now : HostClient = client_with (client_of world.host client) slot (host_side now) in
    let changes : ChangesCell state.tags world after client slot held_now at.part.unit = record {
      hosts = refl;
      units = sym (slice_get-back world.device.units client at.part.unit at.it.unit_is);
      others = others;
    } in
    let least_is : at.part.least_ticket ≡ held_now.least_ticket =
    at.it.fits.least_ticket ∙ ap (λ (c : HostClient). c.least_ticket) (sym (client_of-found world.host client at.it.held at.it.held_is)) in
    subst (λ s. Fits s after) (sym stepped)
    (fits-besides state (seen_state state (event_place done) at.part now rest) world after fits refl refl refl refl refl refl (record {
      long = length-set state.parts client (seen_part at.part slot now);
      sound = sound;
      queues = queues;
      engine = engine-changed state (seen_state state (event_place done) at.part now rest) world after (event_place done) fits.matched fits.engine
          refl refl refl frees.engine at.is_place.slot others ends;
      matched = subst IsMatched stepped (shared_step-matched state EventStep fits.matched);
      clients = AllFit-set state.tags world after state.parts client slot at.part.unit held_now at.part (seen_part at.part slot now)
          fits.clients at.there at.is_place.slot changes
          (FitsPart-set state.tags fits.matched.tags world after client slot at.part.unit at.part.unit at.it.held held_now at.part (Some now) at.part.least_ticket
          (ready_after at.part.ready slot now)
          at.it.fits at.is_place.slot changes refl least_is (queue-same state.tags world client slot at.part now at.it)
          (seen-cell state world done rest lines at command status moved fits frees));
      others = fits.others;
      unused = λ other over.
          unused-kept state.tags world after (event_place done) other fits.matched.tags others (omega (arith, over))
          (beyond-apart state.tags (length state.parts) (event_place done) other at.is_place over) (fits.unused other over);
    }))

-- WHAT THE HOST MAKES OF IT

ring_of-events : (lines : LinesState) (pipe : Pipe) (stream : ℕ) → ring_of (without_event lines) pipe stream ≡ ring_of lines pipe stream
ring_of-events lines Command stream = refl
ring_of-events lines Status stream = refl
ring_of-events lines DataIn stream = refl
ring_of-events lines DataOut stream = refl

-- the event ring is no other ring
ended_at-events : (lines : LinesState) (pointer : ℕ) → ended_at (without_event lines) pointer ≡ ended_at lines pointer
ended_at-events lines pointer =
    elim (spot_at pointer) as (λ o. option_and_then (ended_on (without_event lines) pointer) o ≡ option_and_then (ended_on lines pointer) o) [
      | None ↦ refl
      | Some at ↦ ap (λ r. option_and_then (ended_td at.0 at.1) (known_consumed_at (places_of at.0) r pointer)) (ring_of-events lines at.0 at.1)
    ]

-- an event of a TD of which the host sees the notice: the rings that it frees
pub handled-as : (tags : ℕ) (world : World) (place : Place) (pipe : Pipe) (pointer residual code : ℕ) (notice : Notice) (host : HostState)
    → ended_at world.lines pointer ≡ Some (record { pipe = pipe; tag = tag_of tags place })
    → notice_of world.frames residual code (record { pipe = pipe; tag = tag_of tags place }) ≡ Some notice
    → host_seen notice world.host (tag_of tags place) ≡ Some host
    → handled_td (event_sides world) world.frames pointer residual code (ended_at (without_event world.lines) pointer)
    ≡ (record { host = host; lines = freed_on pipe host (without_event world.lines) (tag_of tags place) pointer }, Matched (tag_of tags place))
handled-as tags world place pipe pointer residual code notice host ended tells sees =
    let td : EndedTd = record { pipe = pipe; tag = tag_of tags place } in
    ap (handled_td (event_sides world) world.frames pointer residual code) (ended_at-events world.lines pointer ∙ ended)
    ∙ ap (handled_notice (event_sides world) pointer (record { pipe = pipe; tag = tag_of tags place })) tells
    ∙ ap (handled_seen (event_sides world) pointer (record { pipe = pipe; tag = tag_of tags place })) sees

-- an event of a TD that the host awaits
pub handled-is : (tags : ℕ) (world : World) (place : Place) (entry now : Entry) (pipe : Pipe) (pointer residual code : ℕ) (notice : Notice)
    → completes notice ≡ false → world.host.tags ≡ tags → IsPlace tags (length world.host.clients) place → (cell_at tags world place).held ≡ Some (host_side entry)
    → ended_at world.lines pointer ≡ Some (record { pipe = pipe; tag = tag_of tags place })
    → notice_of world.frames residual code (record { pipe = pipe; tag = tag_of tags place }) ≡ Some notice
    → seen notice (host_side entry) ≡ Some (host_side now)
    → handled_td (event_sides world) world.frames pointer residual code (ended_at (without_event world.lines) pointer)
    ≡ (
      record {
        host = host_with world.host place now;
        lines = freed_on pipe (host_with world.host place now) (without_event world.lines)
            (tag_of tags place) pointer;
      },
      Matched (tag_of tags place),
    )
handled-is tags world place entry now pipe pointer residual code notice quiet number there held ended tells sees =
    handled-as tags world place pipe pointer residual code notice (host_with world.host place now) ended tells
    (host_seen-is tags world.host place entry now notice quiet number there held sees)

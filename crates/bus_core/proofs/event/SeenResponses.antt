-- The host sees the response to a task management: the status stream of its tag is free again, the commands that it ended are doomed, and the
-- world after it fits. Several cells of one client change at once. Cited by the event of a status stream.
use Rattle.std.proofs.Common.{◌≡◌, ℕ, suc, ◌<◌, false, cond, List, [], ◌∷◌, ◌++◌, length, length-set, Option, Some, None, option_map, refl, arith, ap, sym, subst, ◌∙◌}
use Rattle.std.specs.Prelude.{slice_set, option_and_then, ◌&&◌, if◌then◌else◌}
use Rattle.std.proofs.lemmas.Bool.{and_right}
use Rattle.std.proofs.Math.ListN.{get_or-map}
use Rattle.std.proofs.lemmas.List.{get_or-set_same, get_or-set_other}
use Rattle.arrayvec.specs.ArrayVec.{ArrayVec}
use Rattle.uas_profile.specs.declared.Pipe.TheVariants.{Status}
use Rattle.stream_array.specs.Rings.{LinesState, stream_ring}
use Rattle.scsi_cmd.specs.Request.{ended_by, is_command}
use Rattle.scsi_cmd.specs.declared.Request.TheVariants.{Manage}
use Rattle.scsi_cmd.specs.declared.Task.{Task}
use Rattle.scsi_cmd.specs.Held.{held_at}
use Rattle.solo_model.specs.declared.ResponseCode.{ResponseCode}
use Rattle.solo_model.specs.declared.ResponseCode.TheVariants.{Complete, Succeeded}
use Rattle.solo_model.specs.TaggedTask.{response_number}
use Rattle.solo_model.specs.declared.TaskAnswer.{TaskAnswer}
use Rattle.solo_model.specs.declared.TaskAnswer.TheVariants.{WithStatus, WithResponse}
use Rattle.solo_model.specs.declared.Phase.{Phase}
use Rattle.solo_model.specs.declared.Phase.TheVariants.{Sent}
use Rattle.uas_host.specs.declared.Handled.TheVariants.{Matched}
use Rattle.uas_host.specs.declared.HostClient.{HostClient}
use Rattle.uas_host.specs.declared.HostEntry.{HostEntry}
use Rattle.uas_profile.specs.declared.TdState.TheVariants.{LeftOver}
use Rattle.uas_profile.specs.TdStates.{is_pending}
use Rattle.uas_host.specs.Notices.{Responded}
use Rattle.uas_profile.specs.declared.Place.{Place}
use Rattle.uas_host.specs.Seen.{after_response, doomed as host_doomed, ended_in, left_over_data}
use Rattle.uas_host.specs.State.{HostState, client_of, new_client, with_client}
use Rattle.uas_profile.specs.Tags.{tag_of}
use Rattle.uas_host.specs.Events.{ended_at, event_doors, freed_on, handled, handled_td, host_seen, notice_of, place_seen, seen, with_freed, with_seen}
use Rattle.shared_machine.specs.declared.Completion.{Completion}
use Rattle.shared_machine.specs.declared.Completion.TheVariants.{CommandDone, DataDone, StatusDone, EngineDone}
use Rattle.shared_machine.specs.declared.Step.TheVariants.{Event as EventStep}
use Rattle.shared_machine.specs.Bus.{IsPlace}
use Rattle.shared_machine.specs.Td.{Entry, data_after_status, with_event_seen}
use Rattle.shared_machine.specs.Part.{Part, after_answer, ready_after}
use Rattle.shared_machine.specs.Shared.{Shared, shared_step}
use Rattle.machine_invariant.specs.Matched.{IsManagedPhase, IsMatched, IsPhaseOf, IsRequestIn, IsResponseTo}
use Rattle.bus_core.specs.World.{World, cell_at}
use Rattle.bus_core.specs.Cells.{HasAnswerIn, host_side}
use Rattle.bus_core.specs.Fits.{Fits, FitsEngine, FitsPart, FitsQueues, IsSoundWorld, engine_event, event_texts, place_in}
use Rattle.bus_core.specs.WorldSteps.{EventFits, event_sides, without_event}
use Rattle.bus_core.proofs.common.CellWrites.{client_of-found, clients-length}
use Rattle.bus_core.proofs.event.DoomedCells.{FitsPart-doomed, doomed_cell, doomed_client, doomed_part}
use Rattle.bus_core.proofs.common.EventTds.{HasCell, IsSpent, cell-status_spent, data_text, status_text, status_text-is}
use Rattle.bus_core.proofs.common.EventTexts.{command_event}
use Rattle.bus_core.proofs.common.Framing.{AllFit-client, ChangesCell, ChangesClient, FitsPart-set, engine-changed, tags-apart, unused-kept}
use Rattle.bus_core.proofs.event.HostSees.{client_with, response_notice-is, response_seen-side, status_seen}
use Rattle.machine_invariant.proofs.MatchedBounds.{matched-once}
use Rattle.machine_invariant.proofs.MatchedEntries.{awaited-pends}
use Rattle.machine_invariant.proofs.MatchedEnds.{IsSentBy}
use Rattle.machine_invariant.proofs.MatchedEngine.{place_of-tag_of}
use Rattle.machine_invariant.proofs.MatchedSteps.{seen_part, seen_state, shared_step-matched}
use Rattle.bus_core.proofs.event.SeenRings.{awaited-sent, event-handled, status-alone, status-ends, status-frees, status_lines, stream-queues}
use Rattle.bus_core.proofs.event.SeenWorlds.{FreesOne, IsSeenAt, answered_state, handled-as, queue-same, seen-answered, seen-cell, seen-others, seen_world}
use Rattle.shared_machine.proofs.Standing.{slice_get-back, get-within}
use Rattle.bus_core.proofs.take.Taking.{fits-besides}
use Rattle.uas_profile.specs.Tags.{task_slot}
use Rattle.bus_core.proofs.common.Framing.{beyond-apart}
use Rattle.uas_profile.specs.Tags.{place_of}

-- THE WORLD AFTER IT

-- the client once its task management was told the response
abbrev client_answered : HostState → Place → Entry → List ℕ → HostClient
client_answered host place now noted = doomed_client noted (client_with (client_of host place.client) place.slot (host_side now))

abbrev host_answered : HostState → Place → Entry → List ℕ → HostState
host_answered host place now noted = with_client host place.client (client_answered host place now noted)

abbrev answered_world : World → LinesState → Place → Entry → List ℕ → World
answered_world world lines place now noted = record world { host = host_answered world.host place now noted; lines = lines }

-- WHAT THE HOST MAKES OF IT

-- no ticket dooms nothing
undoomed : (held : HostEntry) → host_doomed [] held ≡ held
undoomed held =
    ap (λ b. if b then record held { status_td = LeftOver; data_td = left_over_data held.data_td } else held)
    (and_right (is_command held.request) (is_pending held.status_td && false) (and_right (is_pending held.status_td) false refl))

none-doomed : (entries : List (Option HostEntry)) → after_response [] entries ≡ entries
none-doomed [] = refl
none-doomed (None ∷ entries) = ap (λ rest. None ∷ rest) (none-doomed entries)
none-doomed (Some held ∷ entries) =
    ap (λ h. Some h ∷ after_response [] entries) (undoomed held) ∙ ap (λ rest. Some held ∷ rest) (none-doomed entries)

-- COMPLETE dooms what the task management ends, and SUCCEEDED is of one that ends nothing
with_seen-response : (client : HostClient) (slot : ℕ) (now : Entry) (what : Task) (noted : ArrayVec ℕ) (code : ResponseCode) → IsResponseTo what code
    → now.task.request ≡ Manage what noted
    → with_seen (Responded (response_number code)) client slot (host_side now)
    ≡ doomed_client (ended_by what noted).items (client_with client slot (host_side now))
with_seen-response client slot now what noted Complete fits asks =
    ap (λ r. doomed_client (ended_in r) (client_with client slot (host_side now))) asks
with_seen-response client slot now what noted Succeeded fits asks =
    let entries : List (Option HostEntry) = (client_with client slot (host_side now)).entries in
    let ended : after_response (ended_by what noted).items entries ≡ entries =
    ap (λ b. after_response (if b then noted else record { items = [] }).items entries) fits ∙ none-doomed entries in
    ap (λ es. record (client_with client slot (host_side now)) { entries = es }) (sym ended)

host_seen-response : (tags : ℕ) (host : HostState) (place : Place) (entry now : Entry) (what : Task) (noted : ArrayVec ℕ) (code : ResponseCode) → IsResponseTo what code
    → now.task.request ≡ Manage what noted
    → host.tags ≡ tags → IsPlace tags (length host.clients) place → held_at (client_of host place.client).entries place.slot ≡ Some (host_side entry)
    → seen (Responded (response_number code)) (host_side entry) ≡ Some (host_side now)
    → host_seen (Responded (response_number code)) host (tag_of tags place) ≡ Some (host_answered host place now (ended_by what noted).items)
host_seen-response tags host place entry now what noted code fits asks number there held sees =
    ap (λ t. option_and_then (place_seen (Responded (response_number code)) host) (place_of t (length host.clients) (tag_of tags place))) number
    ∙ ap (option_and_then (place_seen (Responded (response_number code)) host)) (place_of-tag_of tags (length host.clients) place there)
    ∙ ap (λ h. option_map (with_client host place.client)
    (option_map (with_seen (Responded (response_number code)) (client_of host place.client) place.slot) (option_and_then (seen (Responded (response_number code))) h))) held
    ∙ ap (λ h. option_map (with_client host place.client) (option_map (with_seen (Responded (response_number code)) (client_of host place.client) place.slot) h)) sees
    ∙ ap (λ c. Some (with_client host place.client c)) (with_seen-response (client_of host place.client) place.slot now what noted code fits asks)

-- an event of a status stream that tells the response
handled-response : (tags : ℕ) (world : World) (place : Place) (entry now : Entry) (what : Task) (noted : ArrayVec ℕ) (pointer residual done : ℕ) (code : ResponseCode)
    → IsResponseTo what code → now.task.request ≡ Manage what noted → world.host.tags ≡ tags
    → IsPlace tags (length world.host.clients) place → (cell_at tags world place).held ≡ Some (host_side entry)
    → ended_at world.lines pointer ≡ Some (record { pipe = Status; tag = tag_of tags place })
    → notice_of world.frames residual done (record { pipe = Status; tag = tag_of tags place }) ≡ Some (Responded (response_number code))
    → seen (Responded (response_number code)) (host_side entry) ≡ Some (host_side now)
    → handled_td (event_sides world) world.frames pointer residual done (ended_at (without_event world.lines) pointer)
    ≡ (
      record {
        host = host_answered world.host place now (ended_by what noted).items;
        lines = freed_on Status (host_answered world.host place now (ended_by what noted).items) (without_event world.lines) (tag_of tags place) pointer;
      },
      Matched (tag_of tags place),
    )
handled-response tags world place entry now what noted pointer residual done code fits asks number there held ended tells sees =
    handled-as tags world place Status pointer residual done (Responded (response_number code)) (host_answered world.host place now (ended_by what noted).items) ended tells
    (host_seen-response tags world.host place entry now what noted code fits asks number there held sees)

-- THE CELLS

-- each cell of the client has the host's doomed entry
cells-answered : (tags : ℕ) (world : World) (lines : LinesState) (place : Place) (now : Entry) (noted : List ℕ) (slot : ℕ) → place.client < length world.host.clients
    → cell_at tags (answered_world world lines place now noted) (place_in place.client slot)
    ≡ doomed_cell noted (cell_at tags (seen_world world lines place now) (place_in place.client slot))
cells-answered tags world lines place now noted slot there =
    let client : ℕ = place.client in
    let one : HostClient = client_with (client_of world.host client) place.slot (host_side now) in
    let after = ap (λ (c : HostClient). held_at c.entries slot)
    (get_or-set_same world.host.clients place.client (client_answered world.host place now noted) new_client there) in
    let before = ap (λ (c : HostClient). held_at c.entries slot)
    (get_or-set_same world.host.clients place.client (client_with (client_of world.host place.client) place.slot (host_side now)) new_client there) in
    let mapped = get_or-map (option_map (host_doomed noted)) one.entries slot None in
    let held_is = after ∙ mapped ∙ ap (option_map (host_doomed noted)) (sym before) in
    λ i. record (cell_at tags (seen_world world lines place now) (place_in place.client slot)) { held = held_is i }

-- and no cell of another client has anything else
others-answered : (tags : ℕ) (world : World) (lines : LinesState) (place : Place) (now : Entry) (noted : List ℕ) (other at : ℕ) → (other ≡ place.client → ⊥)
    → cell_at tags (answered_world world lines place now noted) (place_in other at) ≡ cell_at tags (seen_world world lines place now) (place_in other at)
others-answered tags world lines place now noted other at apart =
    let after = ap (λ (c : HostClient). held_at c.entries at)
    (get_or-set_other world.host.clients place.client other (client_answered world.host place now noted) new_client apart) in
    let before = ap (λ (c : HostClient). held_at c.entries at)
    (get_or-set_other world.host.clients place.client other (client_with (client_of world.host place.client) place.slot (host_side now)) new_client apart) in
    let held_is = after ∙ sym before in
    λ i. record (cell_at tags (seen_world world lines place now) (place_in other at)) { held = held_is i }

-- THE QUEUES: no text reads what the host knows

texts-host : (tags : ℕ) (world : World) (host : HostState) (k : ℕ) (events : List Completion)
    → event_texts tags (record world { host = host }) k events ≡ event_texts tags world k events
texts-host tags world host k [] = refl
texts-host tags world host k (CommandDone place ∷ rest) = ap (λ es. command_event world k ∷ es) (texts-host tags world host (suc k) rest)
texts-host tags world host k (DataDone place ∷ rest) = ap (λ es. data_text tags world place ∷ es) (texts-host tags world host k rest)
texts-host tags world host k (StatusDone place ∷ rest) = ap (λ es. status_text tags world place ∷ es) (texts-host tags world host k rest)
texts-host tags world host k (EngineDone place ∷ rest) = ap (λ es. engine_event world.lines.engine ∷ es) (texts-host tags world host k rest)

-- ALL TOGETHER

-- the client fits: first its management's cell, then all of them
part-answered : (state : Shared) (world : World) (place : Place) (rest : List Completion) (at : IsSeenAt state world (StatusDone place) rest)
    (noted : List ℕ) → Fits state world → FreesOne state.tags world (status_lines world (tag_of state.tags place)) place (status_seen at.entry)
    → FitsPart state.tags (answered_world world (status_lines world (tag_of state.tags place)) place (status_seen at.entry) noted) place.client at.part.unit
    (client_answered world.host place (status_seen at.entry) noted) (doomed_part noted (seen_part at.part place.slot (status_seen at.entry)))
part-answered state world place rest at noted fits frees =
    let lines : LinesState = status_lines world (tag_of state.tags place) in
    let now : Entry = status_seen at.entry in
    let one : World = seen_world world (status_lines world (tag_of state.tags place)) place (status_seen at.entry) in
    let held_now : HostClient = client_with (client_of world.host place.client) place.slot (host_side (status_seen at.entry)) in
    let there = get-within world.host.clients place.client at.it.held at.it.held_is in
    let changes : ChangesCell state.tags world (seen_world world (status_lines world (tag_of state.tags place)) place (status_seen at.entry)) place.client place.slot
    (client_with (client_of world.host place.client) place.slot (host_side (status_seen at.entry))) at.part.unit = record {
      hosts = refl;
      units = sym (slice_get-back world.device.units place.client at.part.unit at.it.unit_is);
      others = seen-others state world (StatusDone place) rest lines now at frees;
    } in
    let least_is : at.part.least_ticket ≡ held_now.least_ticket =
    at.it.fits.least_ticket ∙ ap (λ (c : HostClient). c.least_ticket) (sym (client_of-found world.host place.client at.it.held at.it.held_is)) in
    FitsPart-doomed state.tags one (answered_world world lines place now noted) place.client at.part.unit held_now (seen_part at.part place.slot now) noted
    (FitsPart-set state.tags fits.matched.tags world one place.client place.slot at.part.unit at.part.unit at.it.held held_now at.part (Some now) at.part.least_ticket
    (ready_after at.part.ready place.slot now) at.it.fits at.is_place.slot changes refl least_is
    (queue-same state.tags world place.client place.slot at.part now at.it)
    (seen-cell state world (StatusDone place) rest lines at at.entry.command_td (with_event_seen at.entry.status_td)
    (data_after_status at.entry.task.phase at.entry.data_td) fits frees))
    (λ slot within. cells-answered state.tags world lines place now noted slot there)

-- the shared machine after it
answered-is : (state : Shared) (place : Place) (part : Part) (now : Entry) (rest : List Completion) (what : Task) (noted : ArrayVec ℕ)
    → now.task.request ≡ Manage what noted
    → answered_state state (StatusDone place) part now rest
    ≡ record state { parts = slice_set state.parts place.client (doomed_part (ended_by what noted).items (seen_part part place.slot now)); events = rest ++ [] }
answered-is state place part now rest what noted asks =
    ap (λ r. record state {
      parts = slice_set state.parts place.client (record (seen_part part place.slot now) { entries = after_answer r (seen_part part place.slot now).entries });
      events = rest ++ [];
    }) asks

-- the world fits it
abbrev doomed_state : Shared → Place → Part → Entry → List ℕ → List Completion → Shared
doomed_state state place part now noted rest =
    record state { parts = slice_set state.parts place.client (doomed_part noted (seen_part part place.slot now)); events = rest ++ [] }

fits-answered : (state : Shared) (world : World) (place : Place) (rest : List Completion) (at : IsSeenAt state world (StatusDone place) rest)
    (noted : List ℕ) → Fits state world → FreesOne state.tags world (status_lines world (tag_of state.tags place)) place (status_seen at.entry)
    → IsMatched (doomed_state state place at.part (status_seen at.entry) noted rest)
    → IsSoundWorld (answered_world world (status_lines world (tag_of state.tags place)) place (status_seen at.entry) noted)
    → Fits (doomed_state state place at.part (status_seen at.entry) noted rest)
    (answered_world world (status_lines world (tag_of state.tags place)) place (status_seen at.entry) noted)
fits-answered state world place rest at noted fits frees matched sound =
    let lines : LinesState = status_lines world (tag_of state.tags place) in
    let now : Entry = status_seen at.entry in
    let one : World = seen_world world (status_lines world (tag_of state.tags place)) place (status_seen at.entry) in
    let after : World = answered_world world (status_lines world (tag_of state.tags place)) place (status_seen at.entry) noted in
    let part : Part = doomed_part noted (seen_part at.part place.slot (status_seen at.entry)) in
    let others = seen-others state world (StatusDone place) rest lines now at frees in
    let queues : FitsQueues (seen_state state place at.part now rest) one =
    stream-queues state world (StatusDone place) rest lines now at fits refl refl refl refl frees
    (λ some. (refl, refl)) (λ some. absurd (status-alone state place rest at.is (matched-once state fits.matched place).status_events some)) in
    let engine : FitsEngine (seen_state state place at.part now rest) one =
    engine-changed state (seen_state state place at.part now rest) world one place fits.matched fits.engine
    refl refl refl frees.engine at.is_place.slot others (status-ends state world place rest at) in
    let changes : ChangesClient state.tags world (answered_world world (status_lines world (tag_of state.tags place)) place (status_seen at.entry) noted) state.parts
    place.client (client_answered world.host place (status_seen at.entry) noted) at.part.unit = record {
      hosts = refl;
      units = sym (slice_get-back world.device.units place.client at.part.unit at.it.unit_is);
      others = λ other there apart found_is slot within.
          others-answered state.tags world lines place now noted other slot apart
          ∙ others other slot within (tags-apart state.tags other place.client slot place.slot within at.is_place.slot apart);
    } in
    fits-besides state (doomed_state state place at.part now noted rest) world after fits refl refl refl refl refl refl (record {
      long = length-set state.parts place.client part;
      sound = sound;
      queues = record { put = queues.put; got = queues.got; texts = queues.texts ∙ sym (texts-host state.tags one after.host 0 (rest ++ [])) };
      engine = record { retirement = engine.retirement; commands = engine.commands };
      matched = matched;
      clients = AllFit-client state.tags world after state.parts place.client at.part.unit (client_answered world.host place now noted) at.part part
          fits.clients at.there changes (part-answered state world place rest at noted fits frees);
      others = fits.others;
      unused = λ other over.
          unused-kept state.tags world one place other fits.matched.tags others (omega (arith, over))
          (beyond-apart state.tags (length state.parts) place other at.is_place over) (fits.unused other over);
    })

-- a task management is answered by a response of its own
managed-response : (what : Task) (phase : Phase) (answer : TaskAnswer) → phase ≡ Sent answer → IsManagedPhase what phase
    → (code : ResponseCode) × (phase ≡ Sent (WithResponse code)) × IsResponseTo what code
managed-response what phase (WithStatus answer) sent managed = absurd (subst (IsManagedPhase what) sent managed)
managed-response what phase (WithResponse code) sent managed = (code, sent, subst (IsManagedPhase what) sent managed)

pub response-fits : (state : Shared) (world : World) (place : Place) (rest : List Completion) (at : IsSeenAt state world (StatusDone place) rest)
    (what : Task) (noted : ArrayVec ℕ) → at.entry.task.request ≡ Manage what noted → Fits state world
    → EventFits state world (status_text state.tags world place) (StatusDone place)
response-fits state world place rest at what noted asks fits =
    let tag : ℕ = tag_of state.tags place in
    let now : Entry = status_seen at.entry in
    let cell : HasCell state.tags world place at.entry = record { count = at.part.unit.count; tag = at.most; fits = at.cell } in
    let spent : IsSpent (stream_ring world.lines.status tag) = cell-status_spent state.tags world place at.entry cell at.awaits in
    let text = status_text-is state.tags world place at.entry fits.sound.lines cell at.awaits in
    let answered : IsSentBy at.entry.task.phase = awaited-sent at.entry.task.phase at.entry.status_td at.matched.status at.awaits in
    let it = managed-response what at.entry.task.phase answered.answer answered.is (subst (λ r. IsPhaseOf r at.entry.task.phase) asks at.matched.answers) in
    let code : ResponseCode = it.0 in
    let sent : at.entry.task.phase ≡ Sent (WithResponse it.0) = it.1 in
    let last : place.slot ≡ (task_slot state.tags) = subst (IsRequestIn state.tags place.slot) asks at.matched.asks in
    let holds_answer = subst (λ p. HasAnswerIn p tag (cell_at state.tags world place).buffers.status) sent at.cell.answer in
    let frees : FreesOne state.tags world (status_lines world tag) place (status_seen at.entry) = status-frees state world place rest at (WithResponse it.0) fits sent spent in
    let there : IsPlace state.tags (length world.host.clients) place =
    subst (λ n. IsPlace state.tags n place) (sym (clients-length state.tags world state.parts fits.clients)) at.is_place in
    let does = ap (handled (event_sides world) world.frames) text.is
    ∙ handled-response state.tags world place at.entry (status_seen at.entry) what noted text.pointer _ _ it.0 it.2 asks fits.tags there at.cell.held text.ended
    (response_notice-is state.tags world.frames place.slot tag it.0 last at.most holds_answer)
    (response_seen-side at.entry what noted it.0 asks sent (awaited-pends at.entry.status_td 1 at.awaits))
    ∙ ap (λ item. (
      record {
        host = host_answered world.host place (status_seen at.entry) (ended_by what noted).items;
        lines = with_freed (without_event world.lines) Status tag item;
      },
      Matched tag,
    )) text.item in
    let stepped : (shared_step state EventStep).0 ≡ doomed_state state place at.part now (ended_by what noted).items rest =
    seen-answered state (StatusDone place) rest at.part at.entry now at.is refl at.there at.held
    (ap (λ b. cond b (Some (status_seen at.entry)) None) at.awaits)
    ∙ answered-is state place at.part now rest what noted asks in
    event-handled state world (status_text state.tags world place) (StatusDone place) rest (host_answered world.host place now (ended_by what noted).items) (status_lines world tag)
    at.is refl (ap (event_doors (event_sides world)) text.is) does
    (λ sound. subst (λ s. Fits s (answered_world world (status_lines world tag) place now (ended_by what noted).items)) (sym stepped)
    (fits-answered state world place rest at (ended_by what noted).items fits frees (subst IsMatched stepped (shared_step-matched state EventStep fits.matched)) sound))

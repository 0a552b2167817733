-- The event of Set TR Dequeue Pointer: the TD is retired, its ring is free again, and the streams of its pipe that have pending TRBs are
-- rung. Cited by the law of events.
use Rattle.std.proofs.Common.{◌≡◌, ℕ, suc, ◌-◌, ◌<◌, ◌≤◌, true, false, ◌&&◌, cond, List, [], ◌∷◌, drop, length, map, Option, Some, None}
use Rattle.std.proofs.Common.{option_map, refl, arith, ap, sym, subst, ◌∙◌}
use Rattle.std.specs.Prelude.{◌==◌, slice_get, slice_set, slice_index_or, option_and_then}
use Rattle.std.proofs.lemmas.Bool.{false≢true}
use Rattle.std.proofs.lemmas.List.{append-nil}
use Rattle.xhci_trb.specs.declared.Trb.{Trb}
use Rattle.cycle_ring.specs.Items.{Item, ItemRing}
use Rattle.event_ring.specs.declared.Event.{Event}
use Rattle.event_ring.specs.Events.{Events}
use Rattle.uas_profile.specs.declared.Pipe.{Pipe}
use Rattle.uas_profile.specs.declared.Pipe.TheVariants.{Command, Status, DataIn, DataOut}
use Rattle.uas_profile.specs.Pipes.{HasStreams}
use Rattle.stream_array.specs.Rings.{LinesState, ring_of, stream_ring, with_ring}
use Rattle.frame_store.specs.Buffers.{held_for}
use Rattle.scsi_cmd.specs.Held.{held_at}
use Rattle.uas_host.specs.declared.Handled.TheVariants.{Engine}
use Rattle.uas_host.specs.declared.HostClient.{HostClient}
use Rattle.uas_profile.specs.declared.Place.{Place}
use Rattle.uas_profile.specs.Doors.{door}
use Rattle.uas_profile.specs.Pipes.{target_of}
use Rattle.uas_host.specs.Retirement.{emptied, move_trb, moved_lines, resumed_doors, retired_host, with_first_freed}
use Rattle.uas_profile.specs.TdStates.{is_pending}
use Rattle.uas_host.specs.State.{client_of}
use Rattle.uas_profile.specs.Tags.{tag_of}
use Rattle.shared_machine.specs.declared.Completion.{Completion}
use Rattle.shared_machine.specs.declared.Completion.TheVariants.{EngineDone}
use Rattle.shared_machine.specs.declared.Retirement.{Retirement}
use Rattle.shared_machine.specs.declared.RetirementStage.{RetirementStage}
use Rattle.shared_machine.specs.declared.RetirementStage.TheVariants.{StopAsked, StopAnswered, MoveAsked, MoveAnswered}
use Rattle.shared_machine.specs.declared.Td.{Td}
use Rattle.shared_machine.specs.Pipes.{all_rung}
use Rattle.shared_machine.specs.Td.{Entry, is_left_over_on, is_td_left_over, request_direction, retired_on}
use Rattle.shared_machine.specs.Td.{data_trbs, retired_td}
use Rattle.shared_machine.specs.Part.{Part, ready_after, retire_act, seen_entry}
use Rattle.shared_machine.specs.Shared.{Shared, acted_on, engine_seen, pipe_of, resumed, ringing, routed_to, streams_pending, with_pipe}
use Rattle.shared_machine.specs.Soundness.{awaited_data, one_if}
use Rattle.machine_invariant.specs.Matched.{IsMatched, answered_place, answered_places, awaited_data_of, awaited_status, data_events}
use Rattle.machine_invariant.specs.Matched.{retired_places, same_place, status_events, under}
use Rattle.bus_core.specs.World.{World, cell_at}
use Rattle.bus_core.specs.Cells.{FitsCell, host_side}
use Rattle.uas_profile.specs.declared.PipeState.{PipeState}
use Rattle.bus_core.specs.Fits.{Fits, HoldsCommandOf, IsSoundWorld, data_event, engine_event, event_texts, host_retirement, place_in, status_event}
use Rattle.bus_core.specs.WorldSteps.{EventFits, rung_all, without_event}
use Rattle.bus_core.proofs.common.CellWrites.{client_of-found, entry_at-other, entry_at-same}
use Rattle.bus_core.proofs.retire.EngineCells.{KeepsRings, ReadsAlike, WritesOne, with_ring-keeps, written-all, written-fits, written-unused}
use Rattle.bus_core.proofs.retire.EngineCellWrites.{cell-changed}
use Rattle.bus_core.proofs.retire.EngineFits.{IsUnderWay, PipeApart, pipe-apart, tag-streams, under-way, under_way}
use Rattle.bus_core.proofs.common.EventTexts.{other-tags}
use Rattle.bus_core.proofs.common.Framing.{ChangesCell, FitsPart-set, SamePipes}
use Rattle.bus_core.proofs.event.HostSees.{client_with}
use Rattle.machine_invariant.proofs.MatchedBounds.{some-place}
use Rattle.machine_invariant.proofs.MatchedPlaces.{same_place-true}
use Rattle.bus_core.proofs.event.Resumed.{StreamsFit, resumed-pipes, resumed-same}
use Rattle.bus_core.proofs.event.SeenStreams.{HasEventFit}
use Rattle.shared_machine.proofs.Standing.{slice_get-back, get-within}
use Rattle.bus_core.proofs.retire.EngineSeen.{IsEngineFirst, doors-are, engine-freed, engine-queues, engine_pointer, event-done, event-stepped, freed_lines}
use Rattle.bus_core.proofs.retire.EngineSeen.{handled-is, stop-seen}
use Rattle.machine_invariant.proofs.MatchedLeftOver.{left-in, left-out, left-state}
use Rattle.bus_core.proofs.event.SeenWorlds.{queue-same}
use Rattle.bus_core.proofs.event.RetiredRing.{retired_entry, moving, host_after, retired_host-is}
use Rattle.bus_core.proofs.event.RetiredRing.{first_freed-some, emptied_ring, retired_lines}
use Rattle.bus_core.proofs.event.RetiredRing.{IsEmptied, emptied-is, retired_doors, retired_world, retired_part, unrung_state, rung_state, ring-here}
use Rattle.std.proofs.Common.{length-set}
use Rattle.std.proofs.Common.{◌*◌}

retired-cell : (state : Shared) (world : World) (pipe : Pipe) (place : Place) → Fits state world → (at : IsUnderWay state world pipe place MoveAnswered)
    → IsEmptied state.tags world pipe place at.entry
    → FitsCell state.tags place.client at.at.part.unit.count place (retired_entry pipe at.entry) (cell_at state.tags (retired_world state.tags world pipe place at.entry) place)
retired-cell state world pipe place fits at emptied =
    let there = get-within world.host.clients place.client at.at.client.held at.at.client.held_is in
    let tag = tag-streams state world pipe place MoveAnswered at fits in
    let held : (cell_at state.tags (retired_world state.tags world pipe place at.entry) place).held ≡ Some (host_side (retired_entry pipe at.entry)) =
    entry_at-same world.host place.client place.slot (client_with (client_of world.host place.client) place.slot (host_side (retired_entry pipe at.entry)))
    (client_of world.host place.client).entries (Some (host_side (retired_entry pipe at.entry))) there
    (omega (arith, at.at.is_place.slot, (fits.sound.host.clients place.client there).slots, fits.matched.tags.most)) refl in
    subst (λ c. FitsCell state.tags place.client at.at.part.unit.count place (retired_entry pipe at.entry) c)
    (sym (ring-here state.tags world pipe place at.entry fits.sound.lines tag.1 at.retiring.streams))
    (cell-changed state.tags place.client at.at.part.unit.count pipe place at.entry (cell_at state.tags world place) retired_td (emptied_ring state.tags world pipe place)
    (cell_at state.tags (retired_world state.tags world pipe place at.entry) place).held at.at.cell at.left
    (λ td on left. (emptied.empty, emptied.whole td on)) held)

-- the client's record of the host
abbrev client_after : World → Pipe → Place → Entry → HostClient
client_after world pipe place entry = client_with (client_of world.host place.client) place.slot (host_side (retired_entry pipe entry))

retired-writes : (state now : Shared) (world : World) (pipe : Pipe) (place : Place) → Fits state world → (at : IsUnderWay state world pipe place MoveAnswered)
    → IsEmptied state.tags world pipe place at.entry → now.tags ≡ state.tags → now.parts ≡ slice_set state.parts place.client (retired_part pipe place at.at.part at.entry)
    → WritesOne state now world (retired_world state.tags world pipe place at.entry) place at.at.part.unit (client_after world pipe place at.entry)
    (retired_part pipe place at.at.part at.entry)
retired-writes state now world pipe place fits at emptied number parts =
    let after : World = retired_world state.tags world pipe place at.entry in
    let entry : Entry = retired_entry pipe at.entry in
    let keeps : KeepsRings state.tags (freed_lines world) (retired_lines state.tags world pipe place) place =
    with_ring-keeps state.tags (freed_lines world) pipe place (emptied_ring state.tags world pipe place) in
    let there = get-within world.host.clients place.client at.at.client.held at.at.client.held_is in
    let changes : ChangesCell state.tags world after place.client place.slot (client_after world pipe place at.entry) at.at.part.unit = record {
      hosts = refl;
      units = sym (slice_get-back world.device.units place.client at.at.part.unit at.at.client.unit_is);
      others = λ other slot inside apart.
          let held = entry_at-other state.tags world.host place.client place.slot other slot (client_after world pipe place at.entry)
          (Some (host_side (retired_entry pipe at.entry))) there refl apart in
          let status = keeps.status (tag_of state.tags (place_in other slot)) (omega arith) apart in
          let data_in = keeps.data_in (tag_of state.tags (place_in other slot)) (omega arith) apart in
          let data_out = keeps.data_out (tag_of state.tags (place_in other slot)) (omega arith) apart in
          λ i. record (cell_at state.tags world (place_in other slot)) { held = held i; status = status i; data_in = data_in i; data_out = data_out i };
    } in
    let least : at.at.part.least_ticket ≡ (client_after world pipe place at.entry).least_ticket =
    at.at.client.fits.least_ticket
    ∙ ap (λ (c : HostClient). c.least_ticket) (sym (client_of-found world.host place.client at.at.client.held at.at.client.held_is)) in
    record {
      tags = number;
      number = refl;
      parts = parts;
      changes = changes;
      device = refl;
      rings = record { status = keeps.status; data_in = keeps.data_in; data_out = keeps.data_out };
      client = FitsPart-set state.tags fits.matched.tags world after place.client place.slot at.at.part.unit at.at.part.unit at.at.client.held (client_after world pipe place at.entry)
          at.at.part (Some (retired_entry pipe at.entry)) at.at.part.least_ticket (ready_after at.at.part.ready place.slot (retired_entry pipe at.entry))
          at.at.client.fits at.at.is_place.slot changes refl least
          (queue-same state.tags world place.client place.slot at.at.part (retired_entry pipe at.entry) at.at.client)
          (retired-cell state world pipe place fits at emptied);
    }

-- WHAT OTHER EVENTS READ

-- no event of a TD that is left over waits
data-unawaited : (td : Option Td) (trbs : ℕ) → is_td_left_over td ≡ true → awaited_data trbs td ≡ 0
data-unawaited None trbs so = absurd (false≢true so)
data-unawaited (Some td) trbs so = ap (λ s. one_if (is_pending s && (td.consumed == trbs))) (left-state td.state so)

-- another place that an event is of has other rings
apart-or : (tags : ℕ) {T : Type 0} (one other : Place) (x y : T) → one.slot < tags → other.slot < tags → (one ≡ other → ⊥)
    → ((tag_of tags one ≡ tag_of tags other → ⊥) → x ≡ y) → x ≡ y
apart-or tags one other x y inside within apart kept =
    elim (same_place one other) as (λ b. same_place one other ≡ b → x ≡ y) [
      | true ↦ λ same. absurd (apart (same_place-true one other same))
      | false ↦ λ differs. kept (other-tags tags one other inside within differs)
    ] refl

-- where something waits at another place, and nothing at this one
waits-apart : {T : Type 0} (state : Shared) (place other : Place) (count : Option Entry → ℕ) (x y : T) → IsMatched state → count None ≡ 0
    → count (under state.parts place) ≡ 0 → place.slot < state.tags → 1 ≤ count (under state.parts other) → ((tag_of state.tags other ≡ tag_of state.tags place → ⊥) → x ≡ y) → x ≡ y
waits-apart state place other count x y matched empty none within waits kept =
    apart-or state.tags other place x y (some-place state other count empty matched waits).slot within
    (λ same. omega (arith, waits, none, ap (λ p. count (under state.parts p)) same)) kept

data-kept : (state : Shared) (world : World) (pipe : Pipe) (place : Place) (rest : List Completion) (entry : Entry)
    → IsEngineFirst state world pipe place MoveAnswered rest (move_trb world.lines pipe (tag_of state.tags place)) → Fits state world
    → awaited_data_of (under state.parts place) ≡ 0 → place.slot < state.tags → (other : Place) → 1 ≤ data_events other rest
    → data_event (stream_ring (retired_lines state.tags world pipe place).data_in (tag_of state.tags other)) (stream_ring (retired_lines state.tags world pipe place).data_out (tag_of state.tags other))
    ≡ data_event (stream_ring world.lines.data_in (tag_of state.tags other)) (stream_ring world.lines.data_out (tag_of state.tags other))
data-kept state world pipe place rest entry first fits none within other some =
    let keeps : KeepsRings state.tags (freed_lines world) (retired_lines state.tags world pipe place) place =
    with_ring-keeps state.tags (freed_lines world) pipe place (emptied_ring state.tags world pipe place) in
    waits-apart state place other awaited_data_of _ _ fits.matched refl none within
    (omega (arith, some, ap (data_events other) first.is, (fits.matched.places other).moved))
    (λ apart.
    ap (λ ring. data_event ring (stream_ring (retired_lines state.tags world pipe place).data_out (tag_of state.tags other))) (keeps.data_in (tag_of state.tags other) (omega arith) apart)
    ∙ ap (λ ring. data_event (stream_ring world.lines.data_in (tag_of state.tags other)) ring) (keeps.data_out (tag_of state.tags other) (omega arith) apart))

status-kept : (state : Shared) (world : World) (pipe : Pipe) (place : Place) (rest : List Completion) (entry : Entry)
    → IsEngineFirst state world pipe place MoveAnswered rest (move_trb world.lines pipe (tag_of state.tags place)) → Fits state world
    → awaited_status (under state.parts place) ≡ 0 → place.slot < state.tags → (other : Place) → 1 ≤ status_events other rest
    → status_event state.tags other.slot (stream_ring (retired_lines state.tags world pipe place).status (tag_of state.tags other)) (held_for world.frames (tag_of state.tags other)).status
    ≡ status_event state.tags other.slot (stream_ring world.lines.status (tag_of state.tags other)) (held_for world.frames (tag_of state.tags other)).status
status-kept state world pipe place rest entry first fits none within other some =
    let keeps : KeepsRings state.tags (freed_lines world) (retired_lines state.tags world pipe place) place =
    with_ring-keeps state.tags (freed_lines world) pipe place (emptied_ring state.tags world pipe place) in
    waits-apart state place other awaited_status _ _ fits.matched refl none within
    (omega (arith, some, ap (status_events other) first.is, (fits.matched.places other).sent))
    (λ apart. ap (λ ring. status_event state.tags other.slot ring (held_for world.frames (tag_of state.tags other)).status) (keeps.status (tag_of state.tags other) (omega arith) apart))

-- where the TD is the data TD, the status streams are the same
data-reads : (state : Shared) (world : World) (pipe : Pipe) (place : Place) (rest : List Completion)
    → (first : IsEngineFirst state world pipe place MoveAnswered rest (move_trb world.lines pipe (tag_of state.tags place))) → Fits state world
    → is_td_left_over first.at.entry.data_td ≡ true
    → ((other : Place) → 1 ≤ status_events other rest
    → status_event state.tags other.slot (stream_ring (retired_lines state.tags world pipe place).status (tag_of state.tags other)) (held_for world.frames (tag_of state.tags other)).status
    ≡ status_event state.tags other.slot (stream_ring world.lines.status (tag_of state.tags other)) (held_for world.frames (tag_of state.tags other)).status)
    → (retired_lines state.tags world pipe place).command ≡ world.lines.command
    → ReadsAlike state.tags world (retired_world state.tags world pipe place first.at.entry) rest
data-reads state world pipe place rest first fits left sent command_base = record {
  none = first.alone;
  command_base = command_base;
  moved = data-kept state world pipe place rest first.at.entry first fits
      (ap awaited_data_of first.at.held ∙ data-unawaited first.at.entry.data_td (data_trbs first.at.entry.task.request) left)
      first.at.at.is_place.slot;
  sent = sent;
}

retired-reads : (state : Shared) (world : World) (pipe : Pipe) (place : Place) (rest : List Completion)
    → (first : IsEngineFirst state world pipe place MoveAnswered rest (move_trb world.lines pipe (tag_of state.tags place))) → Fits state world
    → ReadsAlike state.tags world (retired_world state.tags world pipe place first.at.entry) rest
retired-reads state world Command place rest first fits = absurd first.at.retiring.streams
retired-reads state world Status place rest first fits = record {
  none = first.alone;
  command_base = refl;
  moved = λ other some. refl;
  sent = status-kept state world Status place rest first.at.entry first fits
      (ap awaited_status first.at.held ∙ ap (λ s. one_if (is_pending s && (first.at.entry.status_td.consumed == 1)))
      (left-state first.at.entry.status_td.state first.at.left))
      first.at.at.is_place.slot;
}
retired-reads state world DataIn place rest first fits =
    data-reads state world DataIn place rest first fits
    (left-in (request_direction first.at.entry.task.request) first.at.entry.data_td first.at.left).1 (λ other some. refl) refl
retired-reads state world DataOut place rest first fits =
    data-reads state world DataOut place rest first fits
    (left-out (request_direction first.at.entry.task.request) first.at.entry.data_td first.at.left).1 (λ other some. refl) refl

-- ALL TOGETHER

-- the streams of the world after it fit the state before they are rung
retired-streams : (state : Shared) (world : World) (pipe : Pipe) (place : Place) (rest : List Completion) → Fits state world
    → (at : IsUnderWay state world pipe place MoveAnswered) → IsEmptied state.tags world pipe place at.entry
    → StreamsFit (unrung_state state pipe place at.at.part at.entry rest) (retired_world state.tags world pipe place at.entry)
retired-streams state world pipe place rest fits at emptied =
    let now : Shared = unrung_state state pipe place at.at.part at.entry rest in
    let writes = retired-writes state (unrung_state state pipe place at.at.part at.entry rest) world pipe place fits at emptied refl refl in
    record {
      number = fits.matched.tags;
      all = written-all state (unrung_state state pipe place at.at.part at.entry rest) world (retired_world state.tags world pipe place at.entry) place at.at.part at.at.part.unit (client_after world pipe place at.entry)
          (retired_part pipe place at.at.part at.entry) fits.clients at.at.there at.at.is_place.slot writes;
      unused = λ tag over. written-unused state (unrung_state state pipe place at.at.part at.entry rest) world (retired_world state.tags world pipe place at.entry) place at.at.part.unit (client_after world pipe place at.entry)
          (retired_part pipe place at.at.part at.entry) fits.matched.tags fits.unused at.at.is_place writes tag
          (subst (λ n. n * state.tags < tag) (length-set state.parts place.client (retired_part pipe place at.at.part at.entry)) over);
    }

record OthersKept (lines : LinesState) (pipe : Pipe) (tag : ℕ) (ring : ItemRing) : Type 0 where
  engine : (with_ring lines pipe tag ring).engine ≡ lines.engine
  command : (with_ring lines pipe tag ring).command ≡ lines.command
  events : (with_ring lines pipe tag ring).events ≡ lines.events

others-kept : (lines : LinesState) (pipe : Pipe) (tag : ℕ) (ring : ItemRing) → HasStreams pipe → OthersKept lines pipe tag ring
others-kept lines Command tag ring streams = absurd streams
others-kept lines Status tag ring streams = record { engine = refl; command = refl; events = refl }
others-kept lines DataIn tag ring streams = record { engine = refl; command = refl; events = refl }
others-kept lines DataOut tag ring streams = record { engine = refl; command = refl; events = refl }

-- no retirement is under way
no-retirement : (state : Shared) (pipe : Pipe) (now : PipeState) → (with_pipe state pipe now).retirement ≡ state.retirement
no-retirement state Command now = refl
no-retirement state Status now = refl
no-retirement state DataIn now = refl
no-retirement state DataOut now = refl

retired-fits : (state : Shared) (world : World) (pipe : Pipe) (place : Place) (rest : List Completion) → Fits state world
    → (first : IsEngineFirst state world pipe place MoveAnswered rest (move_trb world.lines pipe (tag_of state.tags place)))
    → IsEmptied state.tags world pipe place first.at.entry
    → IsMatched (rung_state state pipe place first.at.at.part first.at.entry rest) → IsSoundWorld (retired_world state.tags world pipe place first.at.entry)
    → Fits (rung_state state pipe place first.at.at.part first.at.entry rest) (retired_world state.tags world pipe place first.at.entry)
retired-fits state world pipe place rest fits first emptied matched sound =
    let at : IsUnderWay state world pipe place MoveAnswered = first.at in
    let before : Shared = unrung_state state pipe place first.at.at.part first.at.entry rest in
    let now : Shared = rung_state state pipe place first.at.at.part first.at.entry rest in
    let after : World = retired_world state.tags world pipe place first.at.entry in
    let streams : List ℕ = streams_pending (unrung_state state pipe place first.at.at.part first.at.entry rest) pipe in
    let rung : PipeState = all_rung (pipe_of (unrung_state state pipe place first.at.at.part first.at.entry rest) pipe)
    (streams_pending (unrung_state state pipe place first.at.at.part first.at.entry rest) pipe) in
    let apart : PipeApart before pipe rung = pipe-apart before pipe rung in
    let kept = others-kept (freed_lines world) pipe (tag_of state.tags place) (emptied_ring state.tags world pipe place) first.at.retiring.streams in
    let pipes : SamePipes (rung_all world.controller (retired_doors state.tags world pipe place)) now =
    resumed-pipes world.controller before after pipe first.at.retiring.streams (retired-streams state world pipe place rest fits first.at emptied)
    (record { status = fits.status; data_in = fits.data_in; data_out = fits.data_out }) in
    let writes = retired-writes state now world pipe place fits first.at emptied apart.tags apart.parts in
    let gone : now.retirement ≡ None = no-retirement before pipe rung in
    written-fits state now world after place first.at.at.part first.at.at.part.unit (client_after world pipe place first.at.entry)
    (retired_part pipe place first.at.at.part first.at.entry) fits first.at.at.there first.at.at.is_place writes pipes
    (engine-queues state now world after place rest fits apart.tags first.is apart.messages (apart.events ∙ append-nil rest) kept.command
    (ap (λ (es : Events). es.pending) kept.events)
    (retired-reads state world pipe place rest first fits))
    (record {
      retirement = ap (option_map host_retirement) (sym gone);
      commands = subst (HoldsCommandOf now.tags (retired_lines state.tags world pipe place)) (sym gone) (
        ap (λ (r : ItemRing). r.put) kept.engine ∙ ap (λ (ts : List Item). drop 1 ts) first.holds.0,
        ap (λ (r : ItemRing). r.got) kept.engine ∙ ap (λ taken. taken - 1) first.holds.1,
      );
    }) matched sound

-- the shared machine's step
retired-stepped : (state : Shared) (pipe : Pipe) (place : Place) (part : Part) (entry : Entry) (rest : List Completion)
    → slice_get state.parts place.client ≡ Some part → held_at part.entries place.slot ≡ Some entry → is_left_over_on pipe entry ≡ true
    → engine_seen (record state { events = rest }) place (Some (under_way pipe place MoveAnswered))
    ≡ (
      rung_state state pipe place part entry rest,
      ringing place.client (map (door (target_of pipe)) (streams_pending (unrung_state state pipe place part entry rest) pipe)),
    )
retired-stepped state pipe place part entry rest there held so =
    let popped : Shared = record state { events = rest; retirement = None } in
    ap (λ found. resumed pipe (routed_to (record state { events = rest; retirement = None }) place.client (retire_act pipe place) found)) there
    ∙ ap (λ found. resumed pipe (acted_on (record state { events = rest; retirement = None }) place.client
    (seen_entry (EngineDone place) part place.slot (option_and_then (retired_on pipe) found)))) held
    ∙ ap (λ b. resumed pipe (acted_on (record state { events = rest; retirement = None }) place.client
    (seen_entry (EngineDone place) part place.slot (cond b (Some (retired_entry pipe entry)) None)))) so

move-seen : (state : Shared) (world : World) (pipe : Pipe) (place : Place) (rest : List Completion) → Fits state world
    → IsEngineFirst state world pipe place MoveAnswered rest (move_trb world.lines pipe (tag_of state.tags place))
    → EventFits state world (engine_event world.lines.engine) (EngineDone place)
move-seen state world pipe place rest fits first =
    let trb : Trb = move_trb world.lines pipe (tag_of state.tags place) in
    let part : Part = first.at.at.part in
    let entry : Entry = first.at.entry in
    let free : IsEmptied state.tags world pipe place first.at.entry = emptied-is state world pipe place fits first.at in
    let lines : moved_lines state.tags (without_event world.lines) (engine_pointer world) (moving pipe place) ≡ retired_lines state.tags world pipe place =
    ap (λ l. emptied l pipe (tag_of state.tags place)) (engine-freed world)
    ∙ ap (with_first_freed (freed_lines world) pipe (tag_of state.tags place)) free.freed
    ∙ first_freed-some (freed_lines world) pipe (tag_of state.tags place) (ring_of (freed_lines world) pipe (tag_of state.tags place)).got free.some in
    let host : retired_host world.host (moving pipe place) ≡ host_after world.host place (retired_entry pipe first.at.entry) =
    retired_host-is world.host pipe place first.at.entry first.at.left first.at.at.cell.held in
    event-done state (rung_state state pipe place first.at.at.part first.at.entry rest) world place
    (host_after world.host place (retired_entry pipe first.at.entry))
    (retired_lines state.tags world pipe place) (retired_doors state.tags world pipe place)
    (ringing place.client (map (door (target_of pipe)) (streams_pending (unrung_state state pipe place first.at.at.part first.at.entry rest) pipe))) fits
    (event-stepped state world pipe place MoveAnswered rest trb first
    ∙ retired-stepped state pipe place first.at.at.part first.at.entry rest first.at.at.there first.at.at.held first.at.left)
    (handled-is state world pipe place MoveAnswered rest trb first
    ∙ ap (λ t. (
      record { host = retired_host world.host (moving pipe place); lines = moved_lines t (without_event world.lines) (engine_pointer world) (moving pipe place) },
      Engine,
    )) fits.tags
    ∙ ap (λ h. (record { host = h; lines = moved_lines state.tags (without_event world.lines) (engine_pointer world) (moving pipe place) }, Engine)) host
    ∙ ap (λ l. (record { host = host_after world.host place (retired_entry pipe first.at.entry); lines = l }, Engine)) lines)
    (doors-are state world pipe place MoveAnswered rest trb fits.tags first ∙ ap (λ l. resumed_doors l pipe) lines)
    (resumed-same (unrung_state state pipe place first.at.at.part first.at.entry rest) (retired_world state.tags world pipe place first.at.entry) pipe
    first.at.retiring.streams (retired-streams state world pipe place rest fits first.at free))
    (λ matched sound. retired-fits state world pipe place rest fits first free matched sound)

-- EVERY EVENT OF THE CONTROLLER'S OWN COMMAND

not-none : (first : Place) (rest : List Place) → first ∷ rest ≡ [] → ⊥
not-none first rest is = let no : suc (length rest) ≡ 0 = ap length is in omega (arith, no)

by-stage : (state : Shared) (world : World) (pipe : Pipe) (place : Place) (stage : RetirementStage) (rest : List Completion)
    → Fits state world → state.events ≡ EngineDone place ∷ rest → state.retirement ≡ Some (under_way pipe place stage)
    → retired_places (EngineDone place ∷ rest) ≡ answered_place stage place
    → EventFits state world (engine_event world.lines.engine) (EngineDone place)
by-stage state world pipe place StopAsked rest fits is way waits = absurd (not-none place (retired_places rest) waits)
by-stage state world pipe place StopAnswered rest fits is way waits =
    let at : IsUnderWay state world pipe place StopAnswered = under-way state world pipe place StopAnswered fits way in
    stop-seen state world pipe place rest fits
    (record { is = is; alone = ap (λ (places : List Place). drop 1 places) waits; at = at; holds = at.commands })
by-stage state world pipe place MoveAsked rest fits is way waits = absurd (not-none place (retired_places rest) waits)
by-stage state world pipe place MoveAnswered rest fits is way waits =
    let at : IsUnderWay state world pipe place MoveAnswered = under-way state world pipe place MoveAnswered fits way in
    move-seen state world pipe place rest fits
    (record { is = is; alone = ap (λ (places : List Place). drop 1 places) waits; at = at; holds = at.commands })

-- the place of the event is the retirement's
same-first : (place : Place) (retirement : Retirement) (rest : List Place) → place ∷ rest ≡ answered_place retirement.stage retirement.place → place
    ≡ retirement.place
same-first place retirement rest waits = by-answered place retirement.place rest retirement.stage waits
  where
    by-answered : (place other : Place) (rest : List Place) (stage : RetirementStage) → place ∷ rest ≡ answered_place stage other → place ≡ other
    by-answered place other rest StopAsked waits = absurd (not-none place rest waits)
    by-answered place other rest StopAnswered waits = ap (λ (places : List Place). slice_index_or places 0 place) waits
    by-answered place other rest MoveAsked waits = absurd (not-none place rest waits)
    by-answered place other rest MoveAnswered waits = ap (λ (places : List Place). slice_index_or places 0 place) waits

by-retirement : (state : Shared) (world : World) (place : Place) (rest : List Completion) (retirement : Option Retirement)
    → Fits state world → state.events ≡ EngineDone place ∷ rest → state.retirement ≡ retirement
    → retired_places (EngineDone place ∷ rest) ≡ answered_places retirement
    → EventFits state world (engine_event world.lines.engine) (EngineDone place)
by-retirement state world place rest None fits is way waits = absurd (not-none place (retired_places rest) waits)
by-retirement state world place rest (Some retirement) fits is way waits =
    let same : place ≡ retirement.place = same-first place retirement (retired_places rest) waits in
    subst (λ p. EventFits state world (engine_event world.lines.engine) (EngineDone p)) (sym same)
    (by-stage state world retirement.pipe retirement.place retirement.stage rest fits
    (subst (λ p. state.events ≡ EngineDone p ∷ rest) same is) way
    (subst (λ p. retired_places (EngineDone p ∷ rest) ≡ answered_place retirement.stage retirement.place) same waits))

pub engine-event-fits : (state : Shared) (world : World) (place : Place) (rest : List Completion) → Fits state world
    → state.events ≡ EngineDone place ∷ rest → HasEventFit state world (EngineDone place)
engine-event-fits state world place rest fits is = (
  engine_event world.lines.engine,
  ap (λ (es : List Event). slice_get es 0) (fits.queues.texts ∙ ap (event_texts state.tags world 0) is),
  by-retirement state world place rest state.retirement fits is refl (ap retired_places (sym is) ∙ fits.matched.retired),
)

-- An event of a stream is seen: its TD's ring is free again, the queues fit, and what the host made of it is what was claimed. Cited by the
-- proofs of status, data and command events.
use Rattle.std.proofs.Common.{◌≡◌, ℕ, ◌+◌, ◌-◌, ◌<◌, ◌≤◌, true, List, [], ◌∷◌, ◌++◌, drop, length, map, Option, Some, None, refl, arith, ap, sym, subst, ◌∙◌}
use Rattle.std.specs.Prelude.{slice_get, slice_set}
use Rattle.std.proofs.Math.Seq.{drop-length}
use Rattle.std.proofs.lemmas.Bool.{false≢true}
use Rattle.std.proofs.lemmas.List.{append-nil}
use Rattle.xhci_trb.specs.declared.Trb.{Trb}
use Rattle.cycle_ring.specs.Ring.{reclaimed}
use Rattle.cycle_ring.specs.Items.{ItemRing}
use Rattle.event_ring.specs.declared.Event.{Event}
use Rattle.uas_profile.specs.declared.Pipe.TheVariants.{Command, Status, DataIn, DataOut}
use Rattle.uas_profile.specs.declared.TheConstants.{STREAM_RING_PLACES}
use Rattle.stream_array.specs.Rings.{LinesState, stream_ring, with_ring}
use Rattle.uas_profile.specs.declared.Direction.{Direction}
use Rattle.uas_profile.specs.declared.Direction.TheVariants.{Nothing, ToHost, ToDevice}
use Rattle.solo_model.specs.declared.TaskAnswer.{TaskAnswer}
use Rattle.solo_model.specs.declared.TaskAnswer.TheVariants.{WithStatus, WithResponse}
use Rattle.device_server.specs.declared.Answer.TheVariants.{Good, Check}
use Rattle.solo_model.specs.declared.Phase.{Phase}
use Rattle.solo_model.specs.declared.Phase.TheVariants.{Queued, Begun, Sent, Gone}
use Rattle.uas_host.specs.declared.Handled.TheVariants.{Matched}
use Rattle.uas_profile.specs.declared.Place.{Place}
use Rattle.uas_profile.specs.declared.TdState.{TdState}
use Rattle.uas_profile.specs.declared.TdState.TheVariants.{Pending, Seen, LeftOver, Retired}
use Rattle.uas_profile.specs.Tags.{tag_of}
use Rattle.uas_host.specs.Tds.{data_td}
use Rattle.uas_host.specs.Events.{Sides, event_doors, handled}
use Rattle.shared_machine.specs.declared.Td.{Td}
use Rattle.shared_machine.specs.declared.Completion.{Completion}
use Rattle.shared_machine.specs.declared.Completion.TheVariants.{CommandDone, DataDone, StatusDone, EngineDone}
use Rattle.shared_machine.specs.declared.Step.TheVariants.{Event as EventStep}
use Rattle.shared_machine.specs.Td.{Entry, data_after_answer, data_after_status, is_awaited, left_over_data, left_over_td}
use Rattle.shared_machine.specs.Part.{event_place}
use Rattle.shared_machine.specs.Shared.{Shared, request_direction, shared_step}
use Rattle.machine_invariant.specs.Matched.{IsStatusTd, carried_places, data_events, is_td_event, request_bytes, status_events, IsGivenUp}
use Rattle.bus_core.specs.World.{World, cell_at}
use Rattle.bus_core.specs.Cells.{HoldsData, HoldsIn, HoldsTd, HoldsTrbs, data_in_td, data_out_td}
use Rattle.bus_core.specs.Fits.{command_item, event_texts, Fits, FitsQueues, IsSoundWorld}
use Rattle.bus_core.specs.WorldSteps.{EventFits, event_sides, handled_for, rung_all, without_event}
use Rattle.bus_core.proofs.common.CellWrites.{stream_ring-same, stream_ring-other}
use Rattle.bus_core.proofs.common.EventTexts.{AreWithin, KeepsData, KeepsStatus, event_texts-kept, events-within, one-reads}
use Rattle.bus_core.proofs.common.Framing.{EndsStay}
use Rattle.machine_invariant.proofs.MatchedEntries.{awaited-pends, awaited-spent}
use Rattle.machine_invariant.proofs.MatchedEnds.{IsSentBy}
use Rattle.machine_invariant.proofs.MatchedPlaces.{one_self}
use Rattle.machine_invariant.proofs.MatchedSteps.{seen_state}
use Rattle.bus_core.proofs.event.SeenWorlds.{FreesOne, IsSeenAt, left-on, seen-others, seen-quiet, seen_world}
use Rattle.bus_core.proofs.common.EventTds.{IsSpent}
use Rattle.bus_core.proofs.event.HostSees.{host_with, status_seen}
use Rattle.uas_profile.specs.TdStates.{is_left_over}
use Rattle.uas_host.specs.State.{HostState}

-- A RING IS FREE AGAIN

-- all its TRBs were taken, and all are freed
pub reclaimed-whole : (ring : ItemRing) → IsSpent ring → HoldsTrbs (reclaimed STREAM_RING_PLACES (length ring.put - 1 + 1) ring) [] 0
reclaimed-whole ring spent =
    let some = spent.some in
    let all : length ring.put - 1 + 1 ≡ length ring.put = omega arith in
    (ap (λ n. drop n ring.put) all ∙ drop-length ring.put, omega (arith, spent.taken))

-- a stream's ring without the TD that stood on it
abbrev pub freed_ring : List ItemRing → ℕ → ItemRing
freed_ring rings tag = reclaimed STREAM_RING_PLACES (length (stream_ring rings tag).put - 1 + 1) (stream_ring rings tag)

pub freed-holds : (rings : List ItemRing) (tag : ℕ) → 0 < tag → tag ≤ length rings → IsSpent (stream_ring rings tag)
    → HoldsTrbs (stream_ring (slice_set rings (tag - 1) (freed_ring rings tag)) tag) [] 0
freed-holds rings tag some within spent =
    let is = stream_ring-same rings tag (freed_ring rings tag) some within in
    let free = reclaimed-whole (stream_ring rings tag) spent in
    (ap (λ (r : ItemRing). r.put) is ∙ free.0, ap (λ (r : ItemRing). r.got) is ∙ free.1)

-- THE QUEUES

-- the first event left, it was none of the command pipe, and no other event reads what changed
pub stream-queues : (state : Shared) (world : World) (done : Completion) (rest : List Completion) (lines : LinesState) (now : Entry)
    (at : IsSeenAt state world done rest) → Fits state world
    → lines.command ≡ world.lines.command → lines.events.pending ≡ drop 1 world.lines.events.pending
    → carried_places (done ∷ rest) ≡ carried_places rest → drop 1 (event_texts state.tags world 0 (done ∷ rest)) ≡ event_texts state.tags world 0 rest
    → FreesOne state.tags world lines (event_place done) now
    → KeepsData state.tags world (seen_world world lines (event_place done) now) (event_place done) rest
    → KeepsStatus state.tags world (seen_world world lines (event_place done) now) (event_place done) rest
    → FitsQueues (seen_state state (event_place done) at.part now rest) (seen_world world lines (event_place done) now)
stream-queues state world done rest lines now at fits command popped carried texts frees data_kept status_kept =
    let after : World = seen_world world lines (event_place done) now in
    let left : carried_places state.events ≡ carried_places (rest ++ []) = ap carried_places at.is ∙ carried ∙ ap carried_places (sym (append-nil rest)) in
    let within : AreWithin state.tags (done ∷ rest) = subst (AreWithin state.tags) at.is (events-within state fits.matched) in
    let reads = one-reads state.tags world after (event_place done) rest at.is_place.slot within.1
    frees.engine (seen-others state world done rest lines now at frees) data_kept status_kept in
    record {
      put = ap (λ (r : ItemRing). r.put) command ∙ fits.queues.put ∙ ap (λ places. map (command_item state.tags) (places ++ state.messages)) left;
      got = ap (λ (r : ItemRing). r.got) command ∙ fits.queues.got ∙ ap (λ (places : List Place). length places) left;
      texts = popped ∙ ap (λ (es : List Event). drop 1 es) (fits.queues.texts ∙ ap (event_texts state.tags world 0) at.is) ∙ texts
          ∙ sym (event_texts-kept state.tags world after 0 rest (ap (λ (r : ItemRing). r.base) command, ap (λ (r : ItemRing). r.at) command) reads)
          ∙ ap (event_texts state.tags after 0) (sym (append-nil rest));
    }

-- the first event of a place and a kind is the only one
pub status-alone : (state : Shared) (place : Place) (rest : List Completion) → state.events ≡ StatusDone place ∷ rest → status_events place state.events ≤ 1
    → 1 ≤ status_events place rest → ⊥
status-alone state place rest is once some = omega (arith, once, some, ap (status_events place) is, one_self place)

pub data-alone : (state : Shared) (place : Place) (rest : List Completion) → state.events ≡ DataDone place ∷ rest → data_events place state.events ≤ 1
    → 1 ≤ data_events place rest → ⊥
data-alone state place rest is once some = omega (arith, once, some, ap (data_events place) is, one_self place)

-- ALL TOGETHER

-- the world after an event, by what the host made of it and the doorbells that it rang
abbrev pub with_handled : World → Sides → List ℕ → World
with_handled world after doors =
    record world { host = after.host; controller = rung_all world.controller doors; lines = after.lines }

matched-td : (tags : ℕ) (done : Completion) → is_td_event done ≡ true → Matched (tag_of tags (event_place done)) ≡ handled_for tags done
matched-td tags (CommandDone place) of_td = refl
matched-td tags (DataDone place) of_td = refl
matched-td tags (StatusDone place) of_td = refl
matched-td tags (EngineDone place) of_td = absurd (false≢true of_td)

-- the host matched the event, and that host with these rings fits
pub event-handled : (state : Shared) (world : World) (event : Event) (done : Completion) (rest : List Completion) (host : HostState) (lines : LinesState)
    → state.events ≡ done ∷ rest → is_td_event done ≡ true → event_doors (event_sides world) event ≡ []
    → handled (event_sides world) world.frames event ≡ (record { host = host; lines = lines }, Matched (tag_of state.tags (event_place done)))
    → (IsSoundWorld (record world { host = host; lines = lines }) → Fits (shared_step state EventStep).0 (record world { host = host; lines = lines }))
    → EventFits state world event done
event-handled state world event done rest host lines first of_td quiet is fits = record {
  matched = ap (λ after. after.1) is ∙ matched-td state.tags done of_td;
  doors = quiet ∙ sym (seen-quiet state done rest first of_td);
  fits = subst (λ (doors : List ℕ). IsSoundWorld (with_handled world (handled (event_sides world) world.frames event).0 doors)
      → Fits (shared_step state EventStep).0 (with_handled world (handled (event_sides world) world.frames event).0 doors)) (sym quiet)
      (subst (λ (after : Sides). IsSoundWorld (with_handled world after []) → Fits (shared_step state EventStep).0 (with_handled world after []))
      (sym (ap (λ after. after.0) is)) fits);
}

pub event-done : (state : Shared) (world : World) (event : Event) (done : Completion) (rest : List Completion) (lines : LinesState) (now : Entry)
    → state.events ≡ done ∷ rest → is_td_event done ≡ true → event_doors (event_sides world) event ≡ []
    → handled (event_sides world) world.frames event
    ≡ (record { host = host_with world.host (event_place done) now; lines = lines }, Matched (tag_of state.tags (event_place done)))
    → (IsSoundWorld (seen_world world lines (event_place done) now) → Fits (shared_step state EventStep).0 (seen_world world lines (event_place done) now))
    → EventFits state world event done
event-done state world event done rest lines now first of_td quiet is fits =
    event-handled state world event done rest (host_with world.host (event_place done) now) lines first of_td quiet is fits

-- STATUS

pub awaited-sent : (phase : Phase) (td : Td) → IsStatusTd phase td → is_awaited td 1 ≡ true → IsSentBy phase
awaited-sent Queued td is awaited = absurd (false≢true (sym (ap (λ t. is_awaited t 1) is) ∙ awaited))
awaited-sent (Begun progress) td is awaited = absurd (false≢true (sym (ap (λ t. is_awaited t 1) is) ∙ awaited))
awaited-sent (Sent answer) td is awaited = record { answer = answer; is = refl }
awaited-sent Gone td is awaited =
    let none : td.consumed ≡ 0 = subst (IsGivenUp td.consumed) (awaited-pends td 1 awaited) is in
    absurd (omega (arith, none, awaited-spent td 1 awaited))

-- a TD that is left over stays where it is
pub holds-left : (ring : ItemRing) (trbs : List Trb) (state : TdState) (consumed : ℕ) → HoldsIn ring trbs consumed state
    → HoldsTd ring trbs (left_over_td (record { state = state; consumed = consumed }))
holds-left ring trbs Pending consumed holds = holds
holds-left ring trbs Seen consumed holds = holds
holds-left ring trbs LeftOver consumed holds = holds
holds-left ring trbs Retired consumed holds = holds

pub holds-left_data : (ring : ItemRing) (trbs : List Trb) (td : Option Td) → HoldsData ring trbs td → HoldsData ring trbs (left_over_data td)
holds-left_data ring trbs None holds = holds
holds-left_data ring trbs (Some td) holds = holds-left ring trbs td.state td.consumed holds

pub in-answered : (ring : ItemRing) (trbs : List Trb) (way : Direction) (answer : TaskAnswer) (td : Option Td) → HoldsData ring trbs (data_in_td way td)
    → HoldsData ring trbs (data_in_td way (data_after_answer answer td))
in-answered ring trbs way (WithStatus Good) td holds = holds
in-answered ring trbs Nothing (WithStatus (Check sense)) td holds = holds
in-answered ring trbs ToHost (WithStatus (Check sense)) td holds = holds-left_data ring trbs td holds
in-answered ring trbs ToDevice (WithStatus (Check sense)) td holds = holds
in-answered ring trbs way (WithResponse code) td holds = holds

pub out-answered : (ring : ItemRing) (trbs : List Trb) (way : Direction) (answer : TaskAnswer) (td : Option Td) → HoldsData ring trbs (data_out_td way td)
    → HoldsData ring trbs (data_out_td way (data_after_answer answer td))
out-answered ring trbs way (WithStatus Good) td holds = holds
out-answered ring trbs Nothing (WithStatus (Check sense)) td holds = holds
out-answered ring trbs ToHost (WithStatus (Check sense)) td holds = holds
out-answered ring trbs ToDevice (WithStatus (Check sense)) td holds = holds-left_data ring trbs td holds
out-answered ring trbs way (WithResponse code) td holds = holds

-- the rings once the status TD is freed
abbrev pub status_lines : World → ℕ → LinesState
status_lines world tag = with_ring (without_event world.lines) Status tag (freed_ring world.lines.status tag)

pub status-frees : (state : Shared) (world : World) (place : Place) (rest : List Completion) (at : IsSeenAt state world (StatusDone place) rest)
    (answer : TaskAnswer) → Fits state world
    → at.entry.task.phase ≡ Sent answer → IsSpent (stream_ring world.lines.status (tag_of state.tags place))
    → FreesOne state.tags world (status_lines world (tag_of state.tags place)) place (status_seen at.entry)
status-frees state world place rest at answer fits sent spent = record {
  engine = refl;
  status_others = λ tag some apart. stream_ring-other world.lines.status (tag_of state.tags place) tag (freed_ring world.lines.status (tag_of state.tags place))
      (omega arith) some apart;
  data_in_others = λ tag some apart. refl;
  data_out_others = λ tag some apart. refl;
  status = (
    freed-holds world.lines.status (tag_of state.tags place) (omega arith) (omega (arith, at.most, fits.sound.lines.status)) spent,
    awaited-spent at.entry.status_td 1 at.awaits,
  );
  data_in = subst (λ p. HoldsData (cell_at state.tags world place).data_in (data_td (tag_of state.tags place) (request_bytes at.entry.task.request))
      (data_in_td (request_direction at.entry.task.request) (data_after_status p at.entry.data_td))) (sym sent)
      (in-answered (cell_at state.tags world place).data_in (data_td (tag_of state.tags place) (request_bytes at.entry.task.request))
      (request_direction at.entry.task.request) answer at.entry.data_td at.cell.data_in);
  data_out = subst (λ p. HoldsData (cell_at state.tags world place).data_out (data_td (tag_of state.tags place) (request_bytes at.entry.task.request))
      (data_out_td (request_direction at.entry.task.request) (data_after_status p at.entry.data_td))) (sym sent)
      (out-answered (cell_at state.tags world place).data_out (data_td (tag_of state.tags place) (request_bytes at.entry.task.request))
      (request_direction at.entry.task.request) answer at.entry.data_td at.cell.data_out);
}

-- a TD that is awaited isn't left over
pub pending-stays : (state : TdState) → state ≡ Pending → is_left_over state ≡ true → ⊥
pending-stays state pends left = false≢true (sym (ap is_left_over pends) ∙ left)

pub status-ends : (state : Shared) (world : World) (place : Place) (rest : List Completion) (at : IsSeenAt state world (StatusDone place) rest)
    → EndsStay state world (seen_world world (status_lines world (tag_of state.tags place)) place (status_seen at.entry)) place
status-ends state world place rest at Command streams left = absurd streams
status-ends state world place rest at Status streams left =
    absurd (pending-stays at.entry.status_td.state (awaited-pends at.entry.status_td 1 at.awaits) (left-on state world (StatusDone place) rest at Status left))
status-ends state world place rest at DataIn streams left = record { base = refl; at = refl; put = refl }
status-ends state world place rest at DataOut streams left = record { base = refl; at = refl; put = refl }

abbrev pub HasEventFit : Shared → World → Completion → Type 0
HasEventFit state world done = (event : Event) × (slice_get world.lines.events.pending 0 ≡ Some event) × EventFits state world event done
